-- A year's definition at 01's worked figures and edges.
use mathlib.Core.Path.{◌≡◌, refl, ap, fun_ext}
use mathlib.Core.Bool.{true, false}
use mathlib.Core.List.{[], ◌∷◌}
use Prim.Native.Nat.{ℕ, ◌+◌, ◌-◌}
use lib.Dec.{ltb}
use Rattle.answers.specs.Answer.{given, refused}
use Rattle.answers.specs.Conditions.{asking}
use Rattle.numbers.specs.Places.{places}
use Rattle.cycles.proofs.CycleLaws.{last_told, last_holds}
use Rattle.senmyo.proofs.Worked.{day_at}
use Rattle.months_rules.specs.Rules.{Rules, mid, senmyo, genka, rules_of, day_number, term_number}
use Rattle.months_rules.proofs.Steady.{Steady}
use Rattle.months_rules.proofs.Calendars.{senmyo_steady, genka_steady}
use Rattle.months_rules.proofs.Figures.{first_1522, first_1523, first_643, first_644}
use Rattle.months.specs.Months.{month_length}
use Rattle.months.proofs.Terms.{name_told}
use Rattle.calendar_year.specs.declared.Month.{Month}
use Rattle.calendar_year.specs.Years.{listed, no_month, leap_number, year_in, year_of}

-- ---- a year's months, worked out

-- month k with the last mid-term by its end told by a quotient
worked : Rules → ℕ → Month
worked r k =
    let j : ℕ = last_told r.terms (r.start (k + 1) - 1) in
    record { number = term_number r j; leap = ltb (mid r j) (r.start k); length = month_length r k; first_day = day_number r (r.start k) }

module _ (r : Rules) (s : Steady r) where
  listed_worked : (k : ℕ) → listed r k ≡ worked r k
  unfolding worked
  listed_worked k =
      let (number, leap) = name_told r s k _ (last_holds r.terms s.apart _) in
      rw (number, leap)

  all_worked : (λ k. listed r k) ≡ worked r
  all_worked = fun_ext listed_worked

  places_worked : (k count n : ℕ) → places no_month (listed r) k count n ≡ places no_month (worked r) k count n
  places_worked k count n = ap (λ month. places no_month month k count n) all_worked

  leap_worked : (k count : ℕ) → leap_number (listed r) k count ≡ leap_number (worked r) k count
  leap_worked k count = ap (λ month. leap_number month k count) all_worked

abbrev month : ℕ → ℕ → ℕ → Month
month number length first = record { number = number; leap = false; length = length; first_day = first }

abbrev leap_month : ℕ → ℕ → ℕ → Month
leap_month number length first = record { number = number; leap = true; length = length; first_day = first }

-- 1522, as the program prints it
pub months_1522 : year_of 1 1522 ≡
    given
    (record {
      days = 354;
      leap = 0;
      count = 12;
      months =
          month 1 29 2276996 ∷
          month 2 30 2277025 ∷
          month 3 29 2277055 ∷
          month 4 30 2277084 ∷
          month 5 29 2277114 ∷
          month 6 29 2277143 ∷
          month 7 30 2277172 ∷
          month 8 29 2277202 ∷
          month 9 30 2277231 ∷
          month 10 29 2277261 ∷
          month 11 30 2277290 ∷
          month 12 30 2277320 ∷
          no_month ∷ [];
    })
unfolding asking year_of rules_of year_in places leap_number worked day_at
months_1522 =
    rw (first_1522, first_1523, places_worked senmyo senmyo_steady 87454578 12 13, leap_worked senmyo senmyo_steady 87454578 12)

-- 643: 383 days, 13 months, leap 7
pub months_643 : year_of 2 643 ≡
    given
    (record {
      days = 383;
      leap = 7;
      count = 13;
      months =
          month 1 29 1955939 ∷
          month 2 30 1955968 ∷
          month 3 29 1955998 ∷
          month 4 30 1956027 ∷
          month 5 29 1956057 ∷
          month 6 30 1956086 ∷
          month 7 29 1956116 ∷
          leap_month 7 30 1956145 ∷
          month 8 29 1956175 ∷
          month 9 30 1956204 ∷
          month 10 29 1956234 ∷
          month 11 30 1956263 ∷
          month 12 29 1956293 ∷ [];
    })
unfolding asking year_of rules_of year_in places leap_number worked
months_643 =
    rw (first_643, first_644, places_worked genka genka_steady 73010 13 13, leap_worked genka genka_steady 73010 13)

-- ---- edges

-- 1: no such calendar
unknown_calendar : year_of 0 1522 ≡ refused 1
unfolding asking year_of
unknown_calendar = refl

-- 2: the years before the first and after the last
years_outside : (year_of 1 821 ≡ refused 2) × (year_of 1 1685 ≡ refused 2) × (year_of 2 444 ≡ refused 2) × (year_of 2 698 ≡ refused 2)
unfolding asking year_of rules_of
years_outside = (refl, refl, refl, refl)
