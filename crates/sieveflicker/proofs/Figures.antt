-- The exported calls' definitions at 01's worked figures, and the order of their refusals.
use mathlib.Core.Path.{◌≡◌, refl, ap, ◌∙◌}
use mathlib.Core.Bool.{true}
use mathlib.Core.List.{[], ◌∷◌, ◌++◌}
use Prim.Native.Nat.{◌-◌, ◌^◌}
use native.Mathlib.Omega.{arith}
use lib.ListN.{replicate}
use Rattle.answers.specs.Answer.{given, refused, then}
use Rattle.answers.specs.Conditions.{asking}
use Rattle.calendar_eclipses.proofs.Figures.{eclipse_1522}
use Rattle.calendar_hours.proofs.Figures.{hours_1522}
use Rattle.calendar_date.specs.Dates.{date_number}
use Rattle.calendar_date.proofs.OneDate.{date_of_day_of}
use Rattle.calendar_date.proofs.Figures.{day_643, leap_643}
use Rattle.calendar_year.proofs.Figures.{months_1522}
use Rattle.record_fields.specs.Tagged.{numbers_of}
use Rattle.record_fields.specs.Fields.{layout}
use Rattle.record_fields.proofs.Figures.{printed_1522}
use Rattle.record.proofs.Figures.{read_1522}
use Rattle.sieveflicker_numbers.specs.Numbers.{number_in, places_numbers, year_numbers, eclipse_numbers, hours_numbers}
use Rattle.sieveflicker.specs.Exported.{day_number_of, date_number_of, year_written, eclipse_written, hours_written, fields_written}
use Rattle.sieveflicker.proofs.Written.{year_follows, eclipse_follows, hours_follow, fields_follow}

-- 643 month 5 day 16
day : day_number_of 2 643 5 0 16 ≡ 1956072
day = ap number_in day_643

-- the last day of its leap month, asked for with the largest number
leap_day : day_number_of 2 643 7 (2 ^ 64 - 1) 30 ≡ 1956174
leap_day = ap number_in leap_643

leap_date : date_number_of 2 1956174 ≡ 1_0643_07_30
leap_date = ap (λ a. number_in (then a (λ t. given (date_number t)))) (date_of_day_of 2 643 7 true 30 1956174 leap_643)

-- 1522, into memory for 56 numbers, of which one stays as it was
year : year_written 1 1522 (replicate 56 7) ≡
    given
    (354 ∷ 0 ∷ 12 ∷
    1 ∷ 0 ∷ 29 ∷ 2276996 ∷
    2 ∷ 0 ∷ 30 ∷ 2277025 ∷
    3 ∷ 0 ∷ 29 ∷ 2277055 ∷
    4 ∷ 0 ∷ 30 ∷ 2277084 ∷
    5 ∷ 0 ∷ 29 ∷ 2277114 ∷
    6 ∷ 0 ∷ 29 ∷ 2277143 ∷
    7 ∷ 0 ∷ 30 ∷ 2277172 ∷
    8 ∷ 0 ∷ 29 ∷ 2277202 ∷
    9 ∷ 0 ∷ 30 ∷ 2277231 ∷
    10 ∷ 0 ∷ 29 ∷ 2277261 ∷
    11 ∷ 0 ∷ 30 ∷ 2277290 ∷
    12 ∷ 0 ∷ 30 ∷ 2277320 ∷
    0 ∷ 0 ∷ 0 ∷ 0 ∷
    7 ∷ [])
unfolding places_numbers
year = (year_follows 1 1522 (replicate 56 7)).room (omega arith) ∙ ap (λ a. then a (λ x. given (year_numbers x ++ 7 ∷ []))) months_1522

-- 1522 month 2
eclipse : eclipse_written 1 1522 2 0 (replicate 8 7) ≡ given (2277039 ∷ 6215 ∷ 1 ∷ 2241 ∷ 2 ∷ 14 ∷ 412 ∷ 1 ∷ [])
eclipse = (eclipse_follows 1 1522 2 0 (replicate 8 7)).room (omega arith) ∙ ap (λ a. then a (λ e. given (eclipse_numbers e ++ []))) eclipse_1522

-- .. and its hours, into memory for 13 numbers, of which one stays as it was
hours : hours_written 1 1522 2 0 (replicate 13 7) ≡
    given (1696 ∷ 20 ∷ 16 ∷ 2277039 ∷ 5367 ∷ 63 ∷ 2277039 ∷ 6215 ∷ 73 ∷ 2277039 ∷ 7063 ∷ 84 ∷ 7 ∷ [])
hours = (hours_follow 1 1522 2 0 (replicate 13 7)).room (omega arith) ∙ ap (λ a. then a (λ h. given (hours_numbers h ++ 7 ∷ []))) hours_1522

-- the record as 01 prints it
fields : fields_written printed_1522 (replicate 5 7) ≡ given (1 ∷ 1522 ∷ 2276996 ∷ 0 ∷ 3402 ∷ [])
unfolding numbers_of
fields = (fields_follow printed_1522 (replicate 5 7)).room (omega arith) ∙ ap (λ a. then a (λ x. given (numbers_of layout x ++ []))) read_1522

-- ---- refusals, the first in 01's order where several hold

-- 6: too little memory, for a calendar that is none
short_year : year_written 3 0 (replicate 54 7) ≡ refused 6
unfolding asking
short_year = refl

short_fields : fields_written printed_1522 (replicate 4 7) ≡ refused 6
unfolding asking
short_fields = refl

-- 13, with a year and a month that are none
genka_eclipse : eclipse_written 2 0 0 1 (replicate 8 7) ≡ refused 13
unfolding asking
genka_eclipse = refl
