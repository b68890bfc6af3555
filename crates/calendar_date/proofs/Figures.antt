-- The definitions of days and dates at 01's worked figures and edges.
use mathlib.Core.Path.{◌≡◌, refl}
use mathlib.Core.Bool.{true, false}
use Prim.Native.Nat.{ℕ, ◌+◌, ◌-◌, ◌^◌}
use lib.Dec.{ltb}
use Rattle.answers.specs.Answer.{given, refused}
use Rattle.answers.specs.Conditions.{asking}
use Rattle.cycles.proofs.CycleLaws.{last_told, last_holds}
use Rattle.senmyo.proofs.Worked.{day_at}
use Rattle.months_rules.specs.Rules.{Rules, mid, senmyo, genka, rules_of}
use Rattle.months_rules.proofs.Steady.{Steady}
use Rattle.months_rules.proofs.Calendars.{senmyo_steady, genka_steady}
use Rattle.months_rules.proofs.Figures.{month_with_lem, senmyo_opens, senmyo_ends, genka_opens, genka_ends}
use Rattle.months.specs.Months.{is_leap}
use Rattle.months.proofs.Terms.{name_told}
use Rattle.calendar_date.specs.Dates.{day_of, date_of}
use Rattle.calendar_date.proofs.OneDate.{date_of_day_of}

-- whether month k is leap, told by a quotient
leap_told : (r : Rules) → Steady r → (k : ℕ) → is_leap r k ≡ ltb (mid r (last_told r.terms (r.start (k + 1) - 1))) (r.start k)
leap_told r s k = (name_told r s k _ (last_holds r.terms s.apart _)).1

-- ---- dates and days

-- 643 month 5 day 16 is 1956072
pub day_643 : day_of 2 643 5 false 16 ≡ given 1956072
unfolding asking day_of rules_of
day_643 = rw (month_with_lem genka genka_steady 73014 (genka.rain_water 643 + 4) tt)

date_643 : date_of 2 1956072 ≡ given (record { year = 643; month = 5; leap = false; day = 16 })
date_643 = date_of_day_of 2 643 5 false 16 1956072 day_643

-- the last day of its leap month
pub leap_643 : day_of 2 643 7 true 30 ≡ given 1956174
unfolding asking day_of rules_of
leap_643 =
    let is_leap_lem : is_leap genka 73017 ≡ true = leap_told genka genka_steady 73017 in
    rw (month_with_lem genka genka_steady 73016 (genka.rain_water 643 + 6) tt, is_leap_lem)

-- the first and the last covered day of each calendar
outermost_dates : (day_of 1 822 1 false 1 ≡ given 2021320) × (day_of 1 1684 12 false 30 ≡ given 2336528) ×
    (day_of 2 445 1 false 1 ≡ given 1883618) × (day_of 2 697 12 false 30 ≡ given 1976048)
unfolding asking day_of rules_of day_at
outermost_dates = (
  rw (month_with_lem senmyo senmyo_steady 87445920 (senmyo.rain_water 822) tt),
  rw (month_with_lem senmyo senmyo_steady 87456593 (senmyo.rain_water 1684 + 11) tt),
  rw (month_with_lem genka genka_steady 70561 (genka.rain_water 445) tt),
  rw (month_with_lem genka genka_steady 73690 (genka.rain_water 697 + 11) tt),
)

-- ---- edges

-- 1: no such calendar
unknown_calendars : (day_of 3 1522 1 false 1 ≡ refused 1) × (date_of (2 ^ 64 - 1) 2276996 ≡ refused 1)
unfolding asking day_of date_of
unknown_calendars = (refl, refl)

-- 3: months 0 and 13, and a leap month that the year lacks
months_lacking : (day_of 1 1522 0 false 1 ≡ refused 3) × (day_of 1 1522 13 false 1 ≡ refused 3) × (day_of 1 1522 1 true 1 ≡ refused 3)
unfolding asking day_of rules_of day_at
months_lacking =
    let not_leap : is_leap senmyo 87454579 ≡ false = leap_told senmyo senmyo_steady 87454579 in
    (refl, refl, rw (month_with_lem senmyo senmyo_steady 87454578 (senmyo.rain_water 1522) tt, not_leap))

-- 4: day 0, and the day past a month of 29
days_lacking : (day_of 1 1522 1 false 0 ≡ refused 4) × (day_of 1 1522 1 false 30 ≡ refused 4)
unfolding asking day_of rules_of day_at
days_lacking = (refl, rw (month_with_lem senmyo senmyo_steady 87454578 (senmyo.rain_water 1522) tt))

-- 5: the day before the first covered day, and the day after the last
days_outside : (date_of 1 2021319 ≡ refused 5) × (date_of 1 2336529 ≡ refused 5) × (date_of 2 1883617 ≡ refused 5) × (date_of 2 1976049 ≡ refused 5)
unfolding asking date_of rules_of
days_outside = (rw senmyo_opens, rw (senmyo_opens, senmyo_ends), rw genka_opens, rw (genka_opens, genka_ends))
