-- A run's definition at 01's worked years: of a single year it holds what that year lists. And a run that fills all its places.
use mathlib.Core.Path.{◌≡◌, sym, ap, ◌∙◌}
use Prim.Native.Nat.{ℕ, ◌<◌}
use native.Mathlib.Omega.{arith}
use lib.ListN.{get_or}
use Rattle.answers.specs.Answer.{given}
use Rattle.numbers.proofs.Places.{at_place}
use Rattle.months_rules.specs.Rules.{rules_of}
use Rattle.months_rules.specs.FirstMonths.{first_month}
use Rattle.months_rules.proofs.Figures.{first_1523, first_1537}
use Rattle.months.specs.Months.{month_count}
use Rattle.calendar_range.specs.Range.{numbered, rules_for}
use Rattle.calendar_range.specs.Room.{CoveredYear}
use Rattle.calendar_range.proofs.Covered.{covered_year_told}
use Rattle.calendar_year.specs.declared.Year.{Year}
use Rattle.calendar_year.specs.Years.{no_month, year_in, year_of}
use Rattle.calendar_year.proofs.Covered.{year_room}
use Rattle.calendar_year.proofs.Refusals.{year_given}
use Rattle.calendar_year.proofs.Figures.{months_1522, months_643}
use Rattle.run_content.specs.Runs.{held_first, held_last, run_of}
use Rattle.run_content.specs.Room.{last_date_of}
use Rattle.run_content.proofs.Extending.{first_listed, last_listed}

-- ---- a run of one year

module _ (c y : ℕ) (x : Year) (e : year_of c y ≡ given x) where
  covered : CoveredYear (rules_for c) y
  covered = covered_year_told (rules_for c) y ((year_given c y x).only_if e).0.1.0

  listing : year_in (rules_for c) y ≡ x
  listing = ((year_given c y x).only_if e).1

  pub count_listed : (run_of c y 1).count ≡ x.count
  unfolding run_of year_in
  count_listed = ap (λ (z : Year). z.count) listing

  module _ (i : ℕ) (inside : i < x.count) where
    in_year_lem : i < month_count (rules_for c) y
    unfolding year_in
    in_year_lem = omega (arith, inside, ap (λ (z : Year). z.count) listing)

    pub day_listed : get_or (run_of c y 1).first_days i 0 ≡ (get_or x.months i no_month).first_day
    unfolding run_of
    day_listed =
        at_place 0 (held_first (rules_for c)) (first_month (rules_for c) y) (month_count (rules_for c) y) 174 i 0 in_year_lem (omega (arith, (year_room (numbered c) y covered).at_most))
        ∙ sym (first_listed c y i no_month covered in_year_lem)
        ∙ ap (λ (z : Year). (get_or z.months i no_month).first_day) listing

    pub date_listed : get_or (run_of c y 1).last_dates i 0 ≡ last_date_of y (get_or x.months i no_month)
    unfolding run_of
    date_listed =
        at_place 0 (held_last (rules_for c)) (first_month (rules_for c) y) (month_count (rules_for c) y) 174 i 0 in_year_lem (omega (arith, (year_room (numbered c) y covered).at_most))
        ∙ sym (last_listed c y i no_month covered in_year_lem)
        ∙ ap (λ (z : Year). last_date_of y (get_or z.months i no_month)) listing

-- 1522: twelve months, the first from 2276996 to its 29th day
count_1522 : (run_of 1 1522 1).count ≡ 12
count_1522 = count_listed 1 1522 _ months_1522

day_1522 : get_or (run_of 1 1522 1).first_days 0 0 ≡ 2276996
day_1522 = day_listed 1 1522 _ months_1522 0 (omega arith)

date_1522 : get_or (run_of 1 1522 1).last_dates 0 0 ≡ 15220129
date_1522 = date_listed 1 1522 _ months_1522 0 (omega arith)

-- 643: thirteen, the eighth leap after month 7, of 30 days
count_643 : (run_of 2 643 1).count ≡ 13
count_643 = count_listed 2 643 _ months_643

day_643 : get_or (run_of 2 643 1).first_days 7 0 ≡ 1956145
day_643 = day_listed 2 643 _ months_643 7 (omega arith)

date_643 : get_or (run_of 2 643 1).last_dates 7 0 ≡ 106430730
date_643 = date_listed 2 643 _ months_643 7 (omega arith)

-- ---- the fourteen years from 1523 on have 174 months: no place is left

full_1523 : (run_of 1 1523 14).count ≡ 174
unfolding run_of rules_of
full_1523 = rw (first_1523, first_1537)
