-- Laws of the Moon's rows: where a moment stands gives the correction, its numbers are small, and what they give lies from −3195 to 3225.
use mathlib.Core.Path.{◌≡◌, refl, sym, ◌∙◌}
use mathlib.Core.Bool.{Bool, true, false, ◌&&◌}
use Prim.Native.Nat.{ℕ, ◌+◌, ◌-◌, ◌*◌, ◌%◌, ◌<◌, ◌≤◌}
use native.Mathlib.Nat.{mod-eq_of_lt, div-eq_of_lt, add-mul}
use native.Mathlib.Omega.{arith}
use borrow.Author.Rules.{rules}
use borrow.Author.Tests.{leb-true, leb-false, lt-ltb, ltb-true, ltb-false}
use lib.Dec.{T, leb, ltb, leb→le}
use lib.IntN.{ℤ, pos, neg_ℤ, nat_abs, ◌*ℤ◌, neg_ℤ-+ℤ, +ℤ_idr, *ℤ-zero}
use lib.Signed.{◌≤ℤ◌}
use mir.Facts.{and_yes}
use Rattle.std.proofs.lemmas.Int.{ints}
use Rattle.numbers.specs.Sign.{plus, minus}
use Rattle.numbers.specs.Rounding.{nearest}
use Rattle.numbers.specs.Between.{Between}
use Rattle.numbers.proofs.Size.{Small}
use Rattle.numbers.proofs.Rounding.{ends, between_ends, nearest_pos, nearest_whole}
use Rattle.numbers.proofs.Tests.{every, every_row, at_each_row}
use Rattle.units.specs.declared.AnomalySecond.{AnomalySecond}
use Rattle.senmyo_moon.specs.declared.HalfSecond.{HalfSecond}
use Rattle.senmyo_moon.specs.declared.Stand.{Stand}
use Rattle.senmyo_moon.specs.declared.Stretch.{Stretch}
use Rattle.senmyo_moon.specs.declared.Stretch.TheVariants.{WholeDay, GainingIn7, LosingIn7, DayOf14}
use Rattle.senmyo_moon.specs.Moon.{Change, Gain, Loss, GainThenLoss, FirstLoss, MoonRow, row, upper_rows, lower_rows, no_row, half_seconds, day_half_seconds, period, half_period, sum_after, gaining_in7, losing_in7, share_of, signed, in_row, half_of, in_period, in_table, moon_of}
use Rattle.senmyo_moon.specs.Daily.{daily_change, change_in_row, change_of}
use Rattle.senmyo_moon.specs.Room.{row_in, stand, stand_in, length_of, rounded_part, rounded_at, RoundableRow, place_of, stand_at}

-- half the period is 115,729.095 fen
half_period_lem : half_period.0 * 5 ≡ 115729_095
half_period_lem = refl

-- ---- the place of a moment

pub day_small : (at : AnomalySecond) → (place_of at).day < 14
day_small at = omega arith

-- what is told at a moment is told of the row at its place
pub at_place : (told : Bool → MoonRow → HalfSecond → ℤ) (at : AnomalySecond) → in_table told at ≡ told (place_of at).upper (row_in (place_of at).upper (place_of at).day) (place_of at).over
unfolding in_table half_of
at_place told at = by_half (ltb h half_period.0) refl
  where
    h : ℕ
    h = (in_period at).0

    by_half : (b : Bool) → ltb h half_period.0 ≡ b → elim b as (λ _. ℤ) [ true ↦ half_of told true (in_period at) | false ↦ half_of told false (half_seconds (h - half_period.0)) ] ≡ half_of told b (half_seconds (h % half_period.0))
    by_half true e = rw (mod-eq_of_lt (ltb-true h half_period.0 e))
    by_half false e =
        let into : h % half_period.0 ≡ h - half_period.0 = omega (arith, ltb-false h half_period.0 e) in
        rw into

-- ---- a sign before a line is a sign before each of its numbers

-- (−z) n is −(z n)
neg_times : (z : ℤ) (n : ℕ) → neg_ℤ z *ℤ pos n ≡ neg_ℤ (z *ℤ pos n)
neg_times z n = grind (arith, ints)

rounded_share : (upper : Bool) (change : ℤ) (sum : ℕ) (t length : HalfSecond) →
    nearest (signed upper (sum_after sum change t length).numerator) length.0 ≡ rounded_part (signed upper change, signed upper (plus sum)) t length
rounded_share true change sum t length = refl
rounded_share false change sum t length =
    rw (neg_ℤ-+ℤ (pos (sum * length.0)) (change *ℤ pos t.0), neg_times change t.0, neg_times (plus sum) length.0)

-- ---- at 7465 fen of row 7, where the definition still has the gain and a moment stands on the loss already, both give sum + gain

-- the gain ends there ..
gain_ends : (upper : Bool) (gain sum : ℕ) →
    nearest (signed upper (sum_after sum (plus gain) gaining_in7 gaining_in7).numerator) gaining_in7.0 ≡ signed upper (plus (sum + gain))
gain_ends true gain sum = rw (← add-mul sum gain gaining_in7.0) (nearest_whole (plus (sum + gain)) gaining_in7.0 (omega arith))
gain_ends false gain sum =
    rw (← add-mul sum gain gaining_in7.0, ← neg_times (plus (sum + gain)) gaining_in7.0)
    (nearest_whole (minus (sum + gain)) gaining_in7.0 (omega arith))

-- .. and the loss starts
loss_starts : (upper : Bool) (loss sum : ℕ) → rounded_at (stand upper (minus loss) sum (half_seconds 0) LosingIn7) ≡ signed upper (plus sum)
loss_starts upper loss sum = rw (*ℤ-zero, +ℤ_idr) (nearest_whole (signed upper (plus sum)) losing_in7.0 (omega arith))

-- ---- where a moment stands gives the correction

in_stand : (upper : Bool) (change : Change) (sum : ℕ) (t : HalfSecond) →
    nearest (signed upper (share_of change sum t).numerator) (share_of change sum t).divisor ≡ rounded_at (stand_in upper change sum t)
unfolding share_of stand_in
in_stand upper (Gain gain) sum t = rounded_share upper (plus gain) sum t _
in_stand upper (Loss loss) sum t = rounded_share upper (minus loss) sum t _
in_stand upper (GainThenLoss gain loss) sum t = by_side (leb t.0 gaining_in7.0) refl (ltb t.0 gaining_in7.0) refl
  where
    by_side : (a : Bool) → leb t.0 gaining_in7.0 ≡ a → (b : Bool) → ltb t.0 gaining_in7.0 ≡ b →
        nearest (signed upper (share_of (GainThenLoss gain loss) sum t).numerator) (share_of (GainThenLoss gain loss) sum t).divisor ≡ rounded_at (stand_in upper (GainThenLoss gain loss) sum t)
    by_side true e true f = rw (e, f, share_of, stand_in) (rounded_share upper (plus gain) sum t gaining_in7)
    by_side true e false f =
        let there : t.0 ≡ gaining_in7.0 = omega (arith, leb-true t.0 gaining_in7.0 e, ltb-false t.0 gaining_in7.0 f) in
        rw (e, f, share_of, stand_in, there) (gain_ends upper gain sum ∙ sym (loss_starts upper loss (sum + gain)))
    by_side false e true f = absurd (omega (arith, leb-false t.0 gaining_in7.0 e, ltb-true t.0 gaining_in7.0 f))
    by_side false e false f =
        rw (e, f, share_of, stand_in) (rounded_share upper (minus loss) (sum + gain) (half_seconds (t.0 - gaining_in7.0)) losing_in7)
in_stand upper (FirstLoss loss) sum t = rounded_share upper (minus loss) sum t _

pub moon_at_lem : (at : AnomalySecond) → moon_of at ≡ rounded_at (stand_at at)
unfolding moon_of in_row
moon_at_lem at = let p = place_of at in let w = row_in p.upper p.day in at_place in_row at ∙ in_stand p.upper w.change w.sum p.over

-- ---- .. and the change in a day: where a moment stands on the loss of row 7, from 7465 fen on, that loss

change_in_stand : (upper : Bool) (change : Change) (sum : ℕ) (t : HalfSecond) → signed upper (daily_change change t) ≡ (stand_in upper change sum t).row.0
unfolding daily_change stand_in
change_in_stand upper (Gain gain) sum t = refl
change_in_stand upper (Loss loss) sum t = refl
change_in_stand upper (GainThenLoss gain loss) sum t = by_side (ltb t.0 gaining_in7.0) refl
  where
    by_side : (b : Bool) → ltb t.0 gaining_in7.0 ≡ b → signed upper (daily_change (GainThenLoss gain loss) t) ≡ (stand_in upper (GainThenLoss gain loss) sum t).row.0
    by_side true e = rw (e, daily_change, stand_in)
    by_side false e = rw (e, daily_change, stand_in)
change_in_stand upper (FirstLoss loss) sum t = refl

pub change_at_lem : (at : AnomalySecond) → change_of at ≡ (stand_at at).row.0
unfolding change_of change_in_row
change_at_lem at = let p = place_of at in let w = row_in p.upper p.day in at_place change_in_row at ∙ change_in_stand p.upper w.change w.sum p.over

-- ---- the numbers of a stretch are small, and what they give lies from −3195 to 3225: it runs along a line whose ends are tested

-- how far along a stretch a moment gets
abbrev last_of : Stretch → HalfSecond
last_of WholeDay = day_half_seconds
last_of GainingIn7 = gaining_in7
last_of LosingIn7 = losing_in7
last_of DayOf14 = day_half_seconds

abbrev small : Stand → Bool
small s = leb (nat_abs s.row.0 + nat_abs s.row.1) 5000

abbrev ends_of : Stand → Bool
ends_of s =
    let length : ℕ = (length_of s.stretch).0 in
    ends (minus 3195) (plus 3225) (s.row.1 *ℤ pos length) s.row.0 (last_of s.stretch).0 length

record Tested (s : Stand) : Type 0 where
  numbers : T (small s && ends_of s)
  some : 0 < (length_of s.stretch).0
  length_small : (length_of s.stretch).0 ≤ day_half_seconds.0
  over_last : s.over.0 ≤ (last_of s.stretch).0
  over_small : s.over.0 ≤ day_half_seconds.0

-- the stretch of a row at t
abbrev test : HalfSecond → Bool → MoonRow → Bool
test t upper w = let s : Stand = stand_in upper w.change w.sum t in small s && ends_of s

-- a row has no stretch but that at its start and that at 7465 fen
tested : (upper : Bool) (change : Change) (sum : ℕ) (t : HalfSecond) →
    T (test (half_seconds 0) upper (row change sum)) → T (test gaining_in7 upper (row change sum)) → t.0 < day_half_seconds.0 → Tested (stand_in upper change sum t)
unfolding stand_in
tested upper (Gain gain) sum t first later h = search rules
tested upper (Loss loss) sum t first later h = search rules
tested upper (GainThenLoss gain loss) sum t first later h = by_side (ltb t.0 gaining_in7.0) refl
  where
    by_side : (b : Bool) → ltb t.0 gaining_in7.0 ≡ b → Tested (stand_in upper (GainThenLoss gain loss) sum t)
    by_side true e = let before = ltb-true t.0 gaining_in7.0 e in rw (e, stand_in) (search rules)
    by_side false e = rw (e, stand_in) (search rules)
tested upper (FirstLoss loss) sum t first later h = search rules

-- .. and both are tested at every row
tested_at : (test : Bool → MoonRow → Bool) → T (every_row (test true) no_row upper_rows) → T (every_row (test false) no_row lower_rows) → (upper : Bool) (i : ℕ) → i < 14 → T (test upper (row_in upper i))
unfolding upper_rows lower_rows
tested_at test up low true i h = at_each_row (test true) no_row upper_rows up i h
tested_at test up low false i h = at_each_row (test false) no_row lower_rows low i h

row_tested : (at : AnomalySecond) → Tested (stand_at at)
unfolding every nearest stand_in upper_rows lower_rows
row_tested at =
    let p = place_of at in
    let w = row_in p.upper p.day in
    tested p.upper w.change w.sum p.over
    (tested_at (test (half_seconds 0)) tt tt p.upper p.day (day_small at))
    (tested_at (test gaining_in7) tt tt p.upper p.day (day_small at))
    (omega arith)

both : (at : AnomalySecond) → T (small (stand_at at)) × T (ends_of (stand_at at))
both at = and_yes (small (stand_at at)) (ends_of (stand_at at)) (row_tested at).numbers

pub roundable : (at : AnomalySecond) → RoundableRow (stand_at at).row (stand_at at).over (length_of (stand_at at).stretch)
roundable at =
    let s = stand_at at in
    let there = row_tested at in
    let row_small = leb→le (nat_abs s.row.0 + nat_abs s.row.1) 5000 (both at).0 in
    search rules

pub change_small : (at : AnomalySecond) → Small (change_of at) 5000
change_small at = rw (change_at_lem at) (record { size = omega (arith, (roundable at).row_small) })

pub moon_bounds : (at : AnomalySecond) → Between (minus 3195) (moon_of at) (plus 3225)
moon_bounds at =
    let s = stand_at at in
    let there = row_tested at in
    rw (moon_at_lem at) (between_ends _ _ _ s.row.0 (last_of s.stretch).0 _ there.some (both at).1 s.over.0 there.over_last)

-- on the first day of the count it is not below zero
pub moon_first_day : (at : AnomalySecond) → at.0 * 2 < day_half_seconds.0 → pos 0 ≤ℤ moon_of at
unfolding moon_of in_row share_of upper_rows
moon_first_day at h =
    let same : at.0 % period.0 ≡ at.0 = mod-eq_of_lt (omega arith) in
    let upper = lt-ltb (at.0 * 2) half_period.0 (omega arith) in
    let into : at.0 * 2 % half_period.0 ≡ at.0 * 2 = mod-eq_of_lt (omega arith) in
    rw (at_place in_row at, same, upper, into, div-eq_of_lt h, mod-eq_of_lt h) (nearest_pos _ _)
