-- Laws of an eclipse's times: nothing is cut off where they are told by naturals, and they follow each other within a day.
use mathlib.Core.Path.{◌≡◌, refl, sym, ap, ◌∙◌}
use mathlib.Core.Bool.{Bool, true, false}
use Prim.Native.Nat.{ℕ, ◌+◌, ◌-◌, ◌*◌, ◌/◌, ◌%◌, ◌<◌, ◌≤◌, ◌^◌}
use native.Mathlib.Omega.{arith}
use borrow.Author.Tests.{leb-false}
use lib.Dec.{ltb, leb}
use lib.IntN.{ℤ, pos, ◌+ℤ◌, ◌*ℤ◌}
use lib.Signed.{◌≤ℤ◌}
use Rattle.std.specs.Prelude.{Option, Some, None}
use Rattle.std.proofs.lemmas.Int.{ints}
use Rattle.numbers.specs.Sign.{minus}
use Rattle.numbers.specs.Rounding.{nearest}
use Rattle.numbers.specs.Between.{Between}
use Rattle.numbers.proofs.Order.{≤ℤ-mul, whole_exact}
use Rattle.numbers.proofs.Size.{word, told_word, Small, small_low, small_high}
use Rattle.numbers.proofs.Rounding.{nearest_mono, nearest_whole}
use Rattle.units.specs.declared.Fen.{Fen}
use Rattle.units.specs.Units.{fen, byo_to_anomaly_seconds, day_fen}
use Rattle.senmyo_means.specs.Means.{mean_full_moon}
use Rattle.senmyo_moon.proofs.Rows.{change_small}
use Rattle.senmyo_node.specs.Eclipse.{Graded, total_eclipse, partial_eclipse, no_eclipse, grade_of}
use Rattle.senmyo.specs.FullMoons.{full_moon_fen, full_moon_node}
use Rattle.senmyo.proofs.PhaseLaws.{node_within}
use Rattle.senmyo.proofs.NearMean.{full_moon_day, near_mean}
use Rattle.senmyo_hours.specs.declared.Times.{Times}
use Rattle.senmyo_hours.specs.Hours.{is_eclipse, whole_parts, mean_length, length_of, times_from, grade_at, change_at, times_at, eclipse_at, InOrder}
use Rattle.senmyo_hours.specs.Room.{parts_of, Timed}

-- ---- what is there only if something holds

some_if : {A : Type 0} (b : Bool) (a x : A) → elim b as (λ _. Option A) [ true ↦ Some a | false ↦ None ] ≡ Some x → (b ≡ true) × (a ≡ x)
some_if true a x e = (refl, cc)
some_if false a x e = (cc, cc)

none_if : {A : Type 0} (b : Bool) (a : A) → elim b as (λ _. Option A) [ true ↦ Some a | false ↦ None ] ≡ None → b ≡ false
none_if true a e = cc
none_if false a e = refl

-- ---- the parts

within : (d : Fen) (b : Bool) → leb d.0 2147 ≡ b → whole_parts (elim b as (λ _. Graded) [ true ↦ total_eclipse | false ↦ partial_eclipse (9737 - d.0) ]) ≤ 15
within d true e = omega arith
within d false e = by_remainder (leb 253 ((9737 - d.0) % 506))
  where
    by_remainder : (strong : Bool) → elim strong as (λ _. ℕ) [ true ↦ (9737 - d.0) / 506 + 1 | false ↦ (9737 - d.0) / 506 ] ≤ 15
    by_remainder true = omega (arith, leb-false d.0 2147 e)
    by_remainder false = omega (arith, leb-false d.0 2147 e)

-- no eclipse has more than 15
pub parts_small : (d : Fen) → whole_parts (grade_of d) ≤ 15
unfolding grade_of
parts_small d = by_limit (ltb d.0 9737)
  where
    by_limit : (b : Bool) → whole_parts (elim b as (λ _. Graded) [ true ↦ elim (leb d.0 2147) as (λ _. Graded) [ true ↦ total_eclipse | false ↦ partial_eclipse (9737 - d.0) ] | false ↦ no_eclipse ]) ≤ 15
    by_limit true = within d (leb d.0 2147) refl
    by_limit false = omega arith

-- .. and parts are found exactly where there is an eclipse
none_told : (g : Graded) → parts_of g ≡ None → is_eclipse g ≡ false
unfolding parts_of
none_told g e = none_if _ _ e

parts_told : (g : Graded) (n : ℕ) → parts_of g ≡ Some n → (is_eclipse g ≡ true) × (whole_parts g ≡ n)
unfolding parts_of
parts_told g n e = some_if _ _ _ e

-- ---- the length

-- a product of 112 fen a part never ends in a half of 8,400, so that it does not matter for any length where halves go
never_half : (n : ℕ) → 112 * n % day_fen ≡ day_fen / 2 → ⊥
never_half n e = omega (arith, e)

-- a change of less than a day's fen makes a length longer or shorter by no more than itself
pub share_between : (mean : ℕ) {change : ℤ} → Small change day_fen → Between (minus mean) (nearest (change *ℤ pos mean) day_fen) (pos mean)
share_between mean s =
    let low : minus day_fen *ℤ pos mean ≡ minus mean *ℤ pos day_fen = grind (arith, ints) in
    let high : pos day_fen *ℤ pos mean ≡ pos mean *ℤ pos day_fen = grind (arith, ints) in
    record {
      from = rw (low, nearest_whole (minus mean) day_fen (omega arith)) at (nearest_mono day_fen (omega arith) (≤ℤ-mul mean (small_low s)));
      to = rw (high, nearest_whole (pos mean) day_fen (omega arith)) at (nearest_mono day_fen (omega arith) (≤ℤ-mul mean (small_high s)));
    }

module _ (parts : ℕ) (change : ℤ) (s : Small change day_fen) where
  -- .. so that it is not below zero
  pub length_above : pos 0 ≤ℤ (pos (mean_length parts) +ℤ nearest (change *ℤ pos (mean_length parts)) day_fen)
  length_above = omega (arith, ints, (share_between (mean_length parts) s).from)

  -- nothing is cut off
  pub length_exact : pos (length_of parts change).0 ≡ pos (mean_length parts) +ℤ nearest (change *ℤ pos (mean_length parts)) day_fen
  unfolding length_of
  length_exact = whole_exact _ length_above

  pub length_small : (length_of parts change).0 ≤ 2 * mean_length parts
  length_small = omega (arith, ints, length_exact, (share_between (mean_length parts) s).to)

-- ---- the times

-- those of month k: its change in a day is small, and its full moon stands at least 13 days from the start of the count
module _ (k : ℕ) where
  pub change_in_day : Small (change_at k) day_fen
  change_in_day = record { size = omega (arith, (change_small (byo_to_anomaly_seconds (mean_full_moon k))).size) }

  length_of_parts : (parts : ℕ) → parts ≤ 15 → (length_of parts (change_at k)).0 ≤ 3360
  length_of_parts parts h = omega (arith, length_small parts (change_at k) change_in_day)

  pub length_at : (length_of (whole_parts (grade_at k)) (change_at k)).0 ≤ 3360
  length_at = length_of_parts (whole_parts (grade_at k)) (parts_small (full_moon_node k).distance)

  middle_far : 13 * day_fen ≤ (full_moon_fen k).0
  middle_far = omega (arith, (full_moon_day k).from)

  pub timed : (parts : ℕ) → parts ≤ 15 → k < 2 ^ 32 → Timed (full_moon_fen k) (length_of parts (change_at k))
  timed parts few h =
      record {
        from = omega (arith, length_of_parts parts few, middle_far);
        length_small = omega (arith, length_of_parts parts few);
        middle_small = omega (arith, h, (full_moon_day k).to, (near_mean k).not_late);
      }

  -- half the length is taken from the middle, and no more than there is
  pub half_back : (times_at k).start.0 + (times_at k).length.0 / 2 ≡ (full_moon_fen k).0
  unfolding times_from times_at
  half_back = omega (arith, length_at, middle_far)

  pub in_order : InOrder (times_at k)
  unfolding times_from times_at
  in_order =
      record {
        start_first = omega arith;
        end_last = omega (arith, length_at, middle_far);
        within_day = omega (arith, length_at);
      }

  -- an eclipse of no parts, weak, lasts no time: its three times are one
  no_time : whole_parts (grade_at k) ≡ 0 → ((times_at k).length.0 ≡ 0) × (((times_at k).start ≡ (times_at k).middle) × ((times_at k).end ≡ (times_at k).middle))
  unfolding times_from times_at
  no_time e =
      let none : (length_of (whole_parts (grade_at k)) (change_at k)).0 ≡ 0 = omega (arith, length_small (whole_parts (grade_at k)) (change_at k) change_in_day, e) in
      (none, (ap fen (omega (arith, none)), ap fen (omega (arith, none))))

-- ---- the eclipse, as its parts tell it

abbrev told : Bool → Times → Option Times
told b times = elim b [ true ↦ Some times | false ↦ None ]

pub eclipse_none : (k : ℕ) → parts_of (grade_at k) ≡ None → None ≡ eclipse_at k
unfolding eclipse_at
eclipse_none k e = ap (λ b. told b (times_at k)) (sym (none_told (grade_at k) e))

pub parts_few : (k n : ℕ) → parts_of (grade_at k) ≡ Some n → n ≤ 15
parts_few k n e = rw (parts_told (grade_at k) n e).1 at (parts_small (full_moon_node k).distance)

pub eclipse_parts : (k n : ℕ) → parts_of (grade_at k) ≡ Some n → Some (times_from (full_moon_fen k) (length_of n (change_at k))) ≡ eclipse_at k
unfolding times_at eclipse_at
eclipse_parts k n e =
    let parts = parts_told (grade_at k) n e in
    ap (λ m. Some (times_from (full_moon_fen k) (length_of m (change_at k)))) (sym parts.1) ∙ ap (λ b. told b (times_at k)) (sym parts.0)

-- .. and what it tells of them
pub not_eclipsed : (k : ℕ) → eclipse_at k ≡ None → is_eclipse (grade_at k) ≡ false
unfolding eclipse_at
not_eclipsed k e = none_if (is_eclipse (grade_at k)) (times_at k) e

pub eclipsed_at : (k : ℕ) (found : Times) → eclipse_at k ≡ Some found → (is_eclipse (grade_at k) ≡ true) × (times_at k ≡ found)
unfolding eclipse_at
eclipsed_at k found e = some_if (is_eclipse (grade_at k)) (times_at k) found e

-- the change in a day is read back from its word as it is
pub change_back : (k : ℕ) {change : ℤ} → change ≡ change_at k → word change ≡ change_at k
change_back k e = (told_word e (change_in_day k) (omega arith)).same

-- what the code needs of each step from a full moon to its eclipse's times
pub ruleset eclipse_steps = (node_within, change_small, change_back, parts_few, eclipse_none, eclipse_parts)
