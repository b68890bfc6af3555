-- Two things that are equal to a third are one.
use mathlib.Core.Path.{◌≡◌, sym, ◌∙◌}

pub one : {A : Type 0} {x y z : A} → x ≡ z → y ≡ z → x ≡ y
one p q = p ∙ sym q
