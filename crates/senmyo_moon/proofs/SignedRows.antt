-- Laws of the code's rows: each stands for the stretch that the definition has there.
use mathlib.Core.Path.{◌≡◌, refl}
use mathlib.Core.Bool.{Bool, true, false, ◌||◌}
use Prim.Native.Nat.{ℕ, ◌+◌, ◌-◌, ◌%◌, ◌<◌, ◌≤◌}
use native.Mathlib.Nat.{mod-eq_of_lt}
use native.Mathlib.Omega.{arith}
use borrow.Author.Tests.{lt-ltb, le-ltb, ne_eqb}
use lib.Dec.{T, ltb, eqb}
use Rattle.numbers.proofs.Tests.{every, at_each}
use Rattle.senmyo_moon.specs.declared.HalfSecond.{HalfSecond}
use Rattle.senmyo_moon.specs.declared.Stretch.TheVariants.{WholeDay, GainingIn7, LosingIn7, DayOf14}
use Rattle.senmyo_moon.specs.Moon.{Change, Gain, Loss, GainThenLoss, FirstLoss, upper_rows, lower_rows, half_seconds, gaining_in7}
use Rattle.senmyo_moon.specs.Room.{row_in, stand_in, stand_on, first_row, first_row_at}

-- the rows of the lower half stand behind those of the upper
pub upper_at : (day : ℕ) → day < 14 → first_row_at day ≡ first_row true day
upper_at day h = rw (lt-ltb _ _ h, mod-eq_of_lt h)

pub lower_at : (day : ℕ) → day < 14 → first_row_at (14 + day) ≡ first_row false day
lower_at day h =
    let behind : ltb (14 + day) 14 ≡ false = le-ltb (14 + day) 14 (omega arith) in
    let at_day : (14 + day) % 14 ≡ day = omega arith in
    rw (behind, at_day)

-- every row but 7 and 14 has one change in a whole day
abbrev one_change : Change → Bool
one_change (Gain gain) = true
one_change (Loss loss) = true
one_change (GainThenLoss gain loss) = false
one_change (FirstLoss loss) = false

all_but_7 : (upper : Bool) → T (every (λ i. eqb i 6 || one_change (row_in upper i).change) 0 13)
unfolding every upper_rows lower_rows
all_but_7 true = tt
all_but_7 false = tt

one_change_lem : (upper : Bool) (day : ℕ) → (day ≡ 6 → ⊥) → day < 13 → T (one_change (row_in upper day).change)
one_change_lem upper day not_7 h = rw (ne_eqb day 6 not_7) at (at_each _ 0 13 (all_but_7 upper) day (omega arith) h)

whole : (upper : Bool) (change : Change) (sum : ℕ) (t : HalfSecond) → T (one_change change) →
    stand_in upper change sum t ≡ record { row = (stand_in upper change sum (half_seconds 0)).row; over = t; stretch = WholeDay }
unfolding stand_in
whole upper (Gain gain) sum t h = refl
whole upper (Loss loss) sum t h = refl
whole upper (GainThenLoss gain loss) sum t h = absurd h
whole upper (FirstLoss loss) sum t h = absurd h

pub in_whole_day : (upper : Bool) (day : ℕ) (t : HalfSecond) → (day ≡ 6 → ⊥) → day < 13 →
    stand_on upper day t ≡ record { row = first_row upper day; over = t; stretch = WholeDay }
in_whole_day upper day t not_7 h = whole upper _ _ t (one_change_lem upper day not_7 h)

-- in row 14, 6529 stands for 8400
pub in_last : (upper : Bool) (day : ℕ) (t : HalfSecond) → day ≡ 13 →
    stand_on upper day t ≡ record { row = first_row upper day; over = t; stretch = DayOf14 }
unfolding upper_rows lower_rows stand_in
in_last true day t e = rw e
in_last false day t e = rw e

-- row 7 gains before 7465 fen, and loses from there on
pub in_gain : (upper : Bool) (day : ℕ) (t : HalfSecond) → day ≡ 6 → t.0 < gaining_in7.0 →
    stand_on upper day t ≡ record { row = first_row upper 6; over = t; stretch = GainingIn7 }
unfolding upper_rows lower_rows stand_in
in_gain true day t e h = rw (e, lt-ltb t.0 gaining_in7.0 h, stand_in)
in_gain false day t e h = rw (e, lt-ltb t.0 gaining_in7.0 h, stand_in)

pub in_loss : (upper : Bool) (day : ℕ) (t : HalfSecond) → day ≡ 6 → gaining_in7.0 ≤ t.0 →
    stand_on upper day t ≡ record { row = (stand_on upper 6 gaining_in7).row; over = half_seconds (t.0 - gaining_in7.0); stretch = LosingIn7 }
unfolding upper_rows lower_rows stand_in
in_loss true day t e h = rw (e, le-ltb t.0 gaining_in7.0 h, stand_in)
in_loss false day t e h = rw (e, le-ltb t.0 gaining_in7.0 h, stand_in)

-- .. and that is every place in the table
pub ruleset stretches = (in_whole_day, in_last, in_gain, in_loss)
