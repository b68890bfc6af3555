-- Both moons of a month as Julian dates (01, "Instants for the chart" and "Refusal numbers").
use Rattle.std.specs.Prelude.{◌≡◌, Bool, not, ℕ, ◌+◌, ◌*◌, ◌%◌, T, Float}
use Rattle.std.specs.Float.Ieee.{is_nan}
use Rattle.answers.specs.Answer.{Answer}
use Rattle.answers.specs.Conditions.{asking}
use Rattle.julian.specs.Julian.{numerator, instant, Near}
use Rattle.months_rules.specs.declared.Moment.{Moment}
use Rattle.months_rules.specs.Rules.{Rules, days_at, day_number}
use Rattle.calendar_range.specs.Range.{rules_for}
use Rattle.calendar_month.specs.Asked.{month_named, month_conditions}
use Rattle.calendar_moons.specs.declared.Moons.{Moons}

-- the day number of a moment, and the units of the day gone
abbrev pub day_number_at : Rules → Moment → ℕ
day_number_at r t = day_number r (days_at t)

abbrev pub part_at : Moment → ℕ
part_at t = t.units % t.of_day

-- its instant: day − 1/2 + part of the day
unfoldable pub instant_in : Rules → Moment → Float
instant_in r t = instant (day_number_at r t) (part_at t) t.of_day

-- x lies within 1/2^32 day of the exact fraction
abbrev pub NearMoment : Rules → Moment → Float → Type 0
NearMoment r t x = Near (numerator (day_number_at r t) (part_at t) t.of_day) t.of_day x

-- its numerator is the moment less the days up to day number 0 and half a day: nothing is cut off on the way
pub record ExactNumerator (r : Rules) (t : Moment) : Type 0 where
  pub doubled : 2 * numerator (day_number_at r t) (part_at t) t.of_day + (2 * r.day_zero + 1) * t.of_day ≡ 2 * t.units

-- what is asked of a month that is named
unfoldable pub of_month : {A : Type 0} → (Rules → ℕ → A) → ℕ → ℕ → ℕ → Bool → Answer A
of_month what c y m leap = asking (month_conditions c y m leap) (what (rules_for c) (month_named (rules_for c) y m leap))

-- its new moon, before any advance
abbrev pub new_moon_in : Rules → ℕ → Float
new_moon_in r k = instant_in r (r.new_moon k)

unfoldable pub new_moon_of : ℕ → ℕ → ℕ → Bool → Answer Float
new_moon_of c y m leap = of_month new_moon_in c y m leap

-- its full moon
abbrev pub full_moon_in : Rules → ℕ → Float
full_moon_in r k = instant_in r (r.full_moon k)

unfoldable pub full_moon_of : ℕ → ℕ → ℕ → Bool → Answer Float
full_moon_of c y m leap = of_month full_moon_in c y m leap

-- both together
abbrev pub moons_in : Rules → ℕ → Moons
moons_in r k = record { new = new_moon_in r k; full = full_moon_in r k }

unfoldable pub moons_of : ℕ → ℕ → ℕ → Bool → Answer Moons
moons_of c y m leap = of_month moons_in c y m leap

-- neither of the two is a nan
pub record BothNumbers (p : Moons) : Type 0 where
  pub new : T (not (is_nan p.new))
  pub full : T (not (is_nan p.full))
