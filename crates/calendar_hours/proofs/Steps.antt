-- The call's definition, step by step as the code takes it.
use mathlib.Core.Path.{◌≡◌, ap, ◌∙◌}
use mathlib.Core.Bool.{Bool}
use mathlib.Core.List.{[], ◌∷◌}
use Prim.Native.Nat.{ℕ}
use native.Mathlib.Omega.{arith}
use Rattle.std.specs.Prelude.{Some, None}
use Rattle.answers.specs.Answer.{given, refused, then}
use Rattle.answers.specs.Conditions.{asking}
use Rattle.answers.proofs.Conditions.{then_asking}
use Rattle.senmyo_hours.specs.declared.Times.{Times}
use Rattle.senmyo_hours.specs.Hours.{times_from, times_at, eclipse_at}
use Rattle.senmyo_hours.proofs.HourLaws.{in_order, not_eclipsed, eclipsed_at}
use Rattle.months_rules.specs.Rules.{senmyo}
use Rattle.months.specs.Room.{Covering}
use Rattle.calendar_eclipses.specs.Eclipses.{eclipse_asked}
use Rattle.calendar_eclipses.proofs.Numbered.{full_numbered}
use Rattle.calendar_hours.specs.Hours.{hours_from, hours_in, has_eclipse, hours_of}
use Rattle.calendar_hours.specs.Room.{AllNumbered}

-- the hours are told of the month that was found, if it has an eclipse
pub hours_asked : (c y m : ℕ) (leap : Bool) → hours_of c y m leap ≡ then (eclipse_asked c y m leap) (λ k. asking ((has_eclipse k, 14) ∷ []) (hours_in k))
unfolding eclipse_asked hours_of
hours_asked c y m leap = then_asking _ _ (λ k. (has_eclipse k, 14) ∷ []) hours_in

-- where there is none it is refused, and where there is one its times are told
module _ (k : ℕ) where
  pub without_eclipse : eclipse_at k ≡ None → asking ((has_eclipse k, 14) ∷ []) (hours_in k) ≡ refused 14
  unfolding asking has_eclipse
  without_eclipse e = ap (λ b. asking ((b, 14) ∷ []) (hours_in k)) (not_eclipsed k e)

  pub with_eclipse : (times : Times) → eclipse_at k ≡ Some times → (asking ((has_eclipse k, 14) ∷ []) (hours_in k) ≡ given (hours_from times)) × (times_at k ≡ times)
  unfolding asking has_eclipse hours_in
  with_eclipse times e =
      let at = eclipsed_at k times e in
      (ap (λ b. asking ((b, 14) ∷ []) (hours_in k)) at.0 ∙ ap (λ t. given (hours_from t)) at.1, at.1)

-- the times of a covered month's eclipse have day numbers: they stand within a day of the full moon
pub all_numbered : (k : ℕ) → Covering senmyo k → AllNumbered (times_at k)
unfolding times_from times_at
all_numbered k h =
    let full = full_numbered k h in
    let order = in_order k in
    record {
      start = record { from = omega (arith, full, order); to = omega (arith, full, order) };
      middle = record { from = omega (arith, full); to = omega (arith, full) };
      end = record { from = omega (arith, full, order); to = omega (arith, full, order) };
    }
