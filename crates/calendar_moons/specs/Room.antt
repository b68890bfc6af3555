-- What inner functions find, and what they ask of their callers, which have made sure of it. No rule of the calendar.
use Rattle.std.specs.Prelude.{Bool, ℕ, ◌≤◌, Float}
use Rattle.answers.specs.Answer.{Answer}
use Rattle.julian.specs.Room.{Datable}
use Rattle.months_rules.specs.declared.Moment.{Moment}
use Rattle.months_rules.specs.Rules.{Rules, days_at}
use Rattle.calendar_moons.specs.Instants.{day_number_at, part_at, instant_in, of_month}

-- the two moons of a month
pub data Phase : Type 0 where
  New : Phase
  Full : Phase

-- either of them, and what a call answers for it
abbrev pub moment_in : Phase → Rules → ℕ → Moment
moment_in New r k = r.new_moon k
moment_in Full r k = r.full_moon k

abbrev pub phase_of : Phase → ℕ → ℕ → ℕ → Bool → Answer Float
phase_of phase c y m leap = of_month (λ r k. instant_in r (moment_in phase r k)) c y m leap

-- a moment on or after day number 0 that has a Julian date
pub record Dated (r : Rules) (t : Moment) : Type 0 where
  pub after_zero : r.day_zero ≤ days_at t
  pub datable : Datable (day_number_at r t) (part_at t) t.of_day
