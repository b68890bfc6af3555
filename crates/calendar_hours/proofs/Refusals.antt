-- When the call gives hours and when it refuses, exactly: the first condition that fails names the refusal.
use mathlib.Core.Path.{◌≡◌, refl}
use mathlib.Core.Bool.{Bool, true, false}
use Prim.Native.Nat.{ℕ}
use Rattle.answers.specs.Answer.{given, refused}
use Rattle.answers.specs.Conditions.{AllHold, FirstFails, Exactly}
use Rattle.answers.proofs.Conditions.{given_exactly, refused_exactly}
use Rattle.senmyo_hours.specs.Hours.{is_eclipse}
use Rattle.calendar_range.specs.Range.{is_calendar, rules_for, is_covered}
use Rattle.calendar_month.specs.Asked.{month_named, has_month}
use Rattle.calendar_eclipses.specs.Eclipses.{full_moon_at, eclipse_in, is_senmyo, eclipse_of}
use Rattle.calendar_eclipses.proofs.Refusals.{eclipse_given}
use Rattle.calendar_hours.specs.declared.Hours.{Hours}
use Rattle.calendar_hours.specs.Hours.{hours_in, has_eclipse, hours_conditions, hours_of}

module _ (c y m : ℕ) (leap : Bool) where
  abbrev covered : Bool
  covered = is_covered (rules_for c) y

  abbrev has : Bool
  has = has_month (rules_for c) y m leap

  abbrev month : ℕ
  month = month_named (rules_for c) y m leap

  pub hours_given : (h : Hours) → Exactly (hours_of c y m leap ≡ given h) (AllHold (hours_conditions c y m leap) × (hours_in month ≡ h))
  unfolding hours_of
  hours_given h = given_exactly _ _ h

  pub hours_refused : (n : ℕ) → Exactly (hours_of c y m leap ≡ refused n) (FirstFails (hours_conditions c y m leap) n)
  unfolding hours_of
  hours_refused n = refused_exactly _ _ n

  pub hours_refused_1 : Exactly (hours_of c y m leap ≡ refused 1) (is_calendar c ≡ false)
  hours_refused_1 = hours_refused 1

  pub hours_refused_13 : Exactly (hours_of c y m leap ≡ refused 13) ((is_calendar c ≡ true) × (is_senmyo c ≡ false))
  hours_refused_13 = hours_refused 13

  pub hours_refused_2 : Exactly (hours_of c y m leap ≡ refused 2) ((is_calendar c ≡ true) × ((is_senmyo c ≡ true) × (covered ≡ false)))
  hours_refused_2 = hours_refused 2

  pub hours_refused_3 : Exactly (hours_of c y m leap ≡ refused 3) ((is_calendar c ≡ true) × ((is_senmyo c ≡ true) × ((covered ≡ true) × (has ≡ false))))
  hours_refused_3 = hours_refused 3

  pub hours_refused_14 : Exactly (hours_of c y m leap ≡ refused 14) ((is_calendar c ≡ true) × ((is_senmyo c ≡ true) × ((covered ≡ true) × ((has ≡ true) × (has_eclipse month ≡ false)))))
  hours_refused_14 = hours_refused 14

  -- ---- beside the eclipse: hours are given exactly for the months whose eclipse is answered and is not none, and 14 exactly where it is none

  -- the eclipse that is answered is one, or none
  abbrev Answered : Bool → Type 0
  Answered b = (eclipse_of c y m leap ≡ given (eclipse_in month)) × (is_eclipse (eclipse_in month).1 ≡ b)

  pub hours_with_eclipse : Exactly (hours_of c y m leap ≡ given (hours_in month)) (Answered true)
  unfolding has_eclipse full_moon_at
  hours_with_eclipse =
      record {
        if = λ e.
            let all = ((eclipse_given c y m leap (eclipse_in month)).only_if e.0).0 in
            (hours_given (hours_in month)).if ((all.0, (all.1.0, (all.1.1.0, (all.1.1.1.0, (e.1, tt))))), refl);
        only_if = λ e.
            let all = ((hours_given (hours_in month)).only_if e).0 in
            ((eclipse_given c y m leap (eclipse_in month)).if ((all.0, (all.1.0, (all.1.1.0, (all.1.1.1.0, tt)))), refl), all.1.1.1.1.0);
      }

  pub fourteen_without : Exactly (hours_of c y m leap ≡ refused 14) (Answered false)
  unfolding has_eclipse full_moon_at
  fourteen_without =
      record {
        if = λ e.
            let all = ((eclipse_given c y m leap (eclipse_in month)).only_if e.0).0 in
            hours_refused_14.if (all.0, (all.1.0, (all.1.1.0, (all.1.1.1.0, e.1))));
        only_if = λ e.
            let all = hours_refused_14.only_if e in
            ((eclipse_given c y m leap (eclipse_in month)).if ((all.0, (all.1.0, (all.1.1.0, (all.1.1.1.0, tt)))), refl), all.1.1.1.1);
      }
