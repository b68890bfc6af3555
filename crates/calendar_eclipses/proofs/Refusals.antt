-- When each call gives its answer and when it refuses, exactly (01, "Refusal numbers"): the first condition that fails names the refusal.
use mathlib.Core.Path.{◌≡◌, sym}
use mathlib.Core.Bool.{Bool, true, false}
use Prim.Native.Nat.{ℕ, ◌<◌}
use native.Mathlib.Nat.{mod-lt}
use native.Mathlib.Omega.{arith}
use Rattle.answers.specs.Answer.{given, refused}
use Rattle.answers.specs.Conditions.{AllHold, FirstFails, Exactly}
use Rattle.answers.proofs.Conditions.{given_exactly, refused_exactly}
use Rattle.units.specs.Units.{day_fen}
use Rattle.senmyo_node.specs.Eclipse.{Graded}
use Rattle.senmyo_node.proofs.NodeLaws.{distance_small}
use Rattle.senmyo.specs.FullMoons.{full_moon_sky}
use Rattle.calendar_range.specs.Range.{is_calendar, rules_for, is_covered}
use Rattle.calendar_month.specs.Asked.{month_named, has_month}
use Rattle.calendar_eclipses.specs.declared.FullMoon.{FullMoon}
use Rattle.calendar_eclipses.specs.Eclipses.{full_moon_at, eclipse_in, is_senmyo, eclipse_conditions, eclipse_asked, eclipse_of}

module _ (c y m : ℕ) (leap : Bool) where
  abbrev covered : Bool
  covered = is_covered (rules_for c) y

  abbrev has : Bool
  has = has_month (rules_for c) y m leap

  pub asked_given : (k : ℕ) → Exactly (eclipse_asked c y m leap ≡ given k) (AllHold (eclipse_conditions c y m leap) × (month_named (rules_for c) y m leap ≡ k))
  unfolding eclipse_asked
  asked_given k = given_exactly _ _ k

  pub eclipse_given : (e : FullMoon × Graded) → Exactly (eclipse_of c y m leap ≡ given e) (AllHold (eclipse_conditions c y m leap) × (eclipse_in (month_named (rules_for c) y m leap) ≡ e))
  unfolding eclipse_of
  eclipse_given e = given_exactly _ _ e

  pub eclipse_refused : (n : ℕ) → Exactly (eclipse_of c y m leap ≡ refused n) (FirstFails (eclipse_conditions c y m leap) n)
  unfolding eclipse_of
  eclipse_refused n = refused_exactly _ _ n

  pub eclipse_refused_1 : Exactly (eclipse_of c y m leap ≡ refused 1) (is_calendar c ≡ false)
  eclipse_refused_1 = eclipse_refused 1

  pub eclipse_refused_13 : Exactly (eclipse_of c y m leap ≡ refused 13) ((is_calendar c ≡ true) × (is_senmyo c ≡ false))
  eclipse_refused_13 = eclipse_refused 13

  pub eclipse_refused_2 : Exactly (eclipse_of c y m leap ≡ refused 2) ((is_calendar c ≡ true) × ((is_senmyo c ≡ true) × (covered ≡ false)))
  eclipse_refused_2 = eclipse_refused 2

  pub eclipse_refused_3 : Exactly (eclipse_of c y m leap ≡ refused 3) ((is_calendar c ≡ true) × ((is_senmyo c ≡ true) × ((covered ≡ true) × (has ≡ false))))
  eclipse_refused_3 = eclipse_refused 3

-- ---- how large a full moon's numbers are

pub record Bounded (m : FullMoon) : Type 0 where
  pub fen_below : m.fen.0 < day_fen
  pub distance_below : m.distance.0 < 120000

at_full_moon : (k : ℕ) → Bounded (full_moon_at k)
unfolding full_moon_at
at_full_moon k = record { fen_below = mod-lt _ (omega arith); distance_below = distance_small (full_moon_sky k).node }

pub moon_bounded : (c y m : ℕ) (leap : Bool) (e : FullMoon × Graded) → eclipse_of c y m leap ≡ given e → Bounded e.0
moon_bounded c y m leap e h = rw (sym ((eclipse_given c y m leap e).only_if h).1) (at_full_moon _)
