-- The definitions at 01's edges.
use mathlib.Core.Path.{◌≡◌, refl}
use mathlib.Core.Bool.{true, false}
use Rattle.units.specs.Units.{fen}
use Rattle.senmyo_node.specs.Eclipse.{none, total, partial, grade_of}

-- 2147 is total, 2148 is 14 parts strong
total_at_2147 : grade_of (fen 2147) ≡ record { kind = total; parts = 15; remainder = 0; strong = false }
unfolding grade_of
total_at_2147 = refl

partial_at_2148 : grade_of (fen 2148) ≡ record { kind = partial; parts = 14; remainder = 505; strong = true }
unfolding grade_of
partial_at_2148 = refl

-- 9736 is 0 parts weak, 9737 none
partial_at_9736 : grade_of (fen 9736) ≡ record { kind = partial; parts = 0; remainder = 1; strong = false }
unfolding grade_of
partial_at_9736 = refl

none_at_9737 : grade_of (fen 9737) ≡ record { kind = none; parts = 0; remainder = 0; strong = false }
unfolding grade_of
none_at_9737 = refl

-- a remainder of 252 is weak, of 253 strong
weak_at_252 : grade_of (fen 8979) ≡ record { kind = partial; parts = 1; remainder = 252; strong = false }
unfolding grade_of
weak_at_252 = refl

strong_at_253 : grade_of (fen 8978) ≡ record { kind = partial; parts = 1; remainder = 253; strong = true }
unfolding grade_of
strong_at_253 = refl
