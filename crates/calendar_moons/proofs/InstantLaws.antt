-- Both moons together are the two single answers, and an instant that is given lies within 1/2^32 day of its moment.
use mathlib.Core.Path.{◌≡◌, refl, subst}
use mathlib.Core.Bool.{Bool, true, false}
use mathlib.Core.List.{List, [], ◌∷◌}
use Prim.Native.Nat.{ℕ}
use lib.Ieee.{Float}
use Rattle.answers.specs.Answer.{given, then}
use Rattle.answers.specs.Conditions.{asking}
use Rattle.julian.proofs.Nearness.{near_number}
use Rattle.julian.proofs.Moment.{instant_near}
use Rattle.months_rules.specs.declared.Moment.{Moment}
use Rattle.months_rules.specs.Rules.{Rules}
use Rattle.months.specs.Room.{Covering}
use Rattle.calendar_range.specs.Range.{numbered, rules_for}
use Rattle.calendar_range.proofs.Covered.{covered_year_told}
use Rattle.calendar_month.specs.Asked.{month_named}
use Rattle.calendar_month.proofs.Covered.{name_found, month_covering}
use Rattle.calendar_moons.specs.declared.Moons.{Moons}
use Rattle.calendar_moons.specs.Instants.{instant_in, NearMoment, of_month, new_moon_of, full_moon_of, moons_in, moons_of, BothNumbers}
use Rattle.calendar_moons.specs.Room.{Phase, New, Full, moment_in, phase_of, Dated}
use Rattle.calendar_moons.proofs.Moments.{moon_dated}
use Rattle.calendar_moons.proofs.Refusals.{of_given}

-- ---- both together

abbrev pair : Float → Float → Moons
pair new full = record { new = new; full = full }

both_given : (conditions : List (Bool × ℕ)) (x y : Float) → asking conditions (pair x y) ≡ then (asking conditions x) (λ new. then (asking conditions y) (λ full. given (pair new full)))
unfolding asking
both_given [] x y = refl
both_given ((true, n) ∷ rest) x y = both_given rest x y
both_given ((false, n) ∷ rest) x y = refl

-- both moons are the new moon and then the full moon, each as its own call gives it
pub both_are_single : (c y m : ℕ) (leap : Bool) → moons_of c y m leap ≡ then (new_moon_of c y m leap) (λ new. then (full_moon_of c y m leap) (λ full. given (pair new full)))
unfolding of_month new_moon_of full_moon_of moons_of
both_are_single c y m leap = both_given _ _ _

-- ---- how near

moment_near : (r : Rules) (t : Moment) → Dated r t → NearMoment r t (instant_in r t)
unfolding instant_in
moment_near r t h = instant_near _ _ _ h.datable

module _ (c y m : ℕ) (leap : Bool) where
  abbrev month : ℕ
  month = month_named (rules_for c) y m leap

  -- a month of which an answer is given is covered
  given_covering : {A : Type 0} (what : Rules → ℕ → A) (a : A) → of_month what c y m leap ≡ given a → Covering (rules_for c) month
  given_covering what a e =
      let g = (of_given c y m leap what a).only_if e in
      let covered = covered_year_told (rules_for c) y g.0.1.0 in
      month_covering (numbered c) y covered month (name_found (numbered c) y covered m leap g.0.1.1.0).of_year

  -- .. and the answer is that of the month
  given_is : {A : Type 0} (what : Rules → ℕ → A) (a : A) → of_month what c y m leap ≡ given a → what (rules_for c) month ≡ a
  given_is what a e = ((of_given c y m leap what a).only_if e).1

  moon_near : (phase : Phase) (x : Float) → phase_of phase c y m leap ≡ given x → NearMoment (rules_for c) (moment_in phase (rules_for c) month) x
  moon_near phase x e =
      let what : Rules → ℕ → Float = λ r k. instant_in r (moment_in phase r k) in
      subst (NearMoment (rules_for c) (moment_in phase (rules_for c) month)) (given_is what x e) (moment_near _ _ (moon_dated (numbered c) month (given_covering what x e) phase))

  pub new_near : (x : Float) → new_moon_of c y m leap ≡ given x → NearMoment (rules_for c) ((rules_for c).new_moon month) x
  unfolding new_moon_of
  new_near x e = moon_near New x e

  pub full_near : (x : Float) → full_moon_of c y m leap ≡ given x → NearMoment (rules_for c) ((rules_for c).full_moon month) x
  unfolding full_moon_of
  full_near x e = moon_near Full x e

  -- so both are numbers
  pub both_numbers : (p : Moons) → moons_of c y m leap ≡ given p → BothNumbers p
  unfolding moons_of
  both_numbers p e =
      let h = given_covering moons_in p e in
      subst BothNumbers (given_is moons_in p e)
      (record {
        new = near_number _ _ _ (moment_near _ _ (moon_dated (numbered c) month h New));
        full = near_number _ _ _ (moment_near _ _ (moon_dated (numbered c) month h Full));
      })
