-- Laws of true moments: no correction reaches back before the start of the count, so that nothing is lost where a moment is told by a natural; and of the advance.
use mathlib.Core.Path.{◌≡◌, refl, ◌∙◌}
use mathlib.Core.Bool.{Bool, true, false}
use Prim.Native.Nat.{ℕ, ◌+◌, ◌*◌, ◌/◌, ◌<◌, ◌≤◌}
use native.Mathlib.Omega.{arith}
use borrow.Author.Tests.{ltb-true, ltb-false, leb-true, leb-false, le-leb, lt-leb}
use lib.Dec.{ltb, leb}
use lib.IntN.{pos, ◌+ℤ◌}
use lib.Signed.{◌≤ℤ◌}
use Rattle.std.proofs.lemmas.Int.{ints}
use Rattle.numbers.specs.Sign.{minus}
use Rattle.numbers.specs.Between.{Between}
use Rattle.numbers.proofs.Order.{whole_exact}
use Rattle.numbers.proofs.Size.{Small, small_between, small_mul, word, Worked, told_word}
use Rattle.units.specs.declared.Byo.{Byo}
use Rattle.units.specs.declared.Fen.{Fen}
use Rattle.units.specs.declared.AnomalySecond.{AnomalySecond}
use Rattle.units.specs.Units.{fen, fen_to_byo, byo_to_anomaly_seconds, whole_days, fen_of_day, day_byo}
use Rattle.senmyo_means.specs.Means.{mean_new_moon, mean_full_moon}
use Rattle.senmyo_sun.specs.Sun.{sun_of}
use Rattle.senmyo_sun.proofs.Bounds.{sun_bounds, sun_first_day}
use Rattle.senmyo_moon.specs.Moon.{moon_of}
use Rattle.senmyo_moon.proofs.Rows.{moon_bounds, moon_first_day}
use Rattle.senmyo_node.specs.Eclipse.{node_period}
use Rattle.senmyo_node.proofs.NodeLaws.{place_within}
use Rattle.senmyo.specs.Phases.{corrections, new_moon, advanced_day}
use Rattle.senmyo.specs.FullMoons.{correction_to_byo, full_moon_sky}

pub sun_small : (m : Byo) → Small (sun_of m) (1526 + 1526)
sun_small m = small_between 1526 1526 (sun_bounds m)

pub moon_small : (a : AnomalySecond) → Small (moon_of a) (3195 + 3225)
moon_small a = small_between 3195 3225 (moon_bounds a)

-- each is read back from its word as it is
pub sun_word : (m : Byo) → word (sun_of m) ≡ sun_of m
sun_word m = (told_word refl (sun_small m) (omega arith)).same

pub moon_word : (a : AnomalySecond) → word (moon_of a) ≡ moon_of a
moon_word a = (told_word refl (moon_small a) (omega arith)).same

-- both together lie between the sums of their bounds
pub corrections_between : (m : Byo) → Between (minus 4721) (corrections m) (pos 4751)
unfolding corrections
corrections_between m =
    let sun = sun_bounds m in
    let moon = moon_bounds (byo_to_anomaly_seconds m) in
    record { from = omega (arith, ints, sun, moon); to = omega (arith, ints, sun, moon) }

corrections_small : (m : Byo) → Small (corrections m) (4721 + 4751)
corrections_small m = small_between 4721 4751 (corrections_between m)

-- .. as the code adds them, and in byo
pub together : (m : Byo) → Worked (word (sun_of m) +ℤ word (moon_of (byo_to_anomaly_seconds m))) (corrections m) (4721 + 4751)
unfolding corrections
together m = record { same = rw (sun_word m, moon_word (byo_to_anomaly_seconds m)); small = corrections_small m }

pub in_byo : (m : Byo) → Small (correction_to_byo (corrections m)) ((4721 + 4751) * 8)
in_byo m = small_mul 8 8 (omega arith) (corrections_small m)

-- on the first day of the count they are not below zero, and later they take no more than there is
pub after_start : (m : Byo) → pos 0 ≤ℤ (pos m.0 +ℤ correction_to_byo (corrections m))
unfolding corrections
after_start m = by_day (ltb m.0 day_byo) refl
  where
    by_day : (b : Bool) → ltb m.0 day_byo ≡ b → pos 0 ≤ℤ (pos m.0 +ℤ correction_to_byo (corrections m))
    by_day true e =
        let early = ltb-true m.0 day_byo e in
        omega (arith, ints, sun_first_day m early, moon_first_day (byo_to_anomaly_seconds m) (omega arith))
    by_day false e =
        omega (arith, ints, ltb-false m.0 day_byo e, (corrections_between m).from)

-- .. and in fen, from a mean new moon, which is of whole fen
pub new_moon_after_start : (k : ℕ) → pos 0 ≤ℤ (pos (mean_new_moon k).0 +ℤ corrections (fen_to_byo (mean_new_moon k)))
new_moon_after_start k = omega (arith, ints, after_start (fen_to_byo (mean_new_moon k)))

-- ---- moments told by naturals

-- nothing is cut off where the definitions go from a signed number to a natural
pub full_moon_exact : (k : ℕ) → pos (full_moon_sky k).moment.0 ≡ pos (mean_full_moon k).0 +ℤ correction_to_byo (corrections (mean_full_moon k))
unfolding corrections full_moon_sky
full_moon_exact k = whole_exact _ (after_start (mean_full_moon k))

pub new_moon_exact : (k : ℕ) → pos (new_moon k).0 ≡ pos (mean_new_moon k).0 +ℤ corrections (fen_to_byo (mean_new_moon k))
unfolding new_moon
new_moon_exact k = whole_exact _ (new_moon_after_start k)

-- the node's place is within its period
pub node_within : (k : ℕ) → (full_moon_sky k).node.0 < node_period.0
unfolding full_moon_sky
node_within k = place_within _ _ _

-- ---- the advance

pub advanced_moves : (moment : Fen) → 6300 ≤ (fen_of_day moment).0 → advanced_day moment ≡ whole_days moment + 1
unfolding advanced_day
advanced_moves moment h = rw (le-leb _ _ h, advanced_day)

pub advanced_stays : (moment : Fen) → (fen_of_day moment).0 < 6300 → advanced_day moment ≡ whole_days moment
unfolding advanced_day
advanced_stays moment h = rw (lt-leb _ _ h, advanced_day)

-- 6,299 fen into a day stays, 6,300 moves
stays_at_6299 : (day : ℕ) → advanced_day (fen (8400 * day + 6299)) ≡ day
stays_at_6299 day = advanced_stays (fen (8400 * day + 6299)) (omega arith) ∙ (omega arith)

moves_at_6300 : (day : ℕ) → advanced_day (fen (8400 * day + 6300)) ≡ day + 1
moves_at_6300 day = advanced_moves (fen (8400 * day + 6300)) (omega arith) ∙ (omega arith)

-- the advance is the floor of (moment + 2,100) / 8,400
pub advance_is_floor : (moment : Fen) → advanced_day moment ≡ (moment.0 + 2100) / 8400
advance_is_floor moment = by_fen (leb 6300 (fen_of_day moment).0) refl
  where
    by_fen : (b : Bool) → leb 6300 (fen_of_day moment).0 ≡ b → advanced_day moment ≡ (moment.0 + 2100) / 8400
    by_fen true e = let late = leb-true _ _ e in advanced_moves moment late ∙ (omega arith)
    by_fen false e = let early = leb-false _ _ e in advanced_stays moment early ∙ (omega arith)
