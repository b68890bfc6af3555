-- A date gives its one day and a day its one date, in both calendars.
use mathlib.Core.Path.{◌≡◌, refl}
use mathlib.Core.Bool.{Bool, true, and-eq-true_iff}
use Prim.Native.Nat.{ℕ, ◌+◌, ◌-◌}
use native.Mathlib.Omega.{arith}
use lib.Dec.{leb}
use borrow.Author.Tests.{le-leb, leb-true}
use Rattle.answers.specs.Answer.{given}
use Rattle.answers.specs.Conditions.{Exactly}
use Rattle.numbers.proofs.Spans.{span_holds, span_is}
use Rattle.months_rules.specs.declared.Calendar.{Calendar}
use Rattle.months_rules.specs.Rules.{Rules, rules_of}
use Rattle.months_rules.specs.FirstMonths.{month_of}
use Rattle.months_rules.proofs.Calendars.{steady}
use Rattle.months.specs.Months.{month_length, year_with}
use Rattle.months.proofs.YearOfMonth.{year_holds, year_is, year_from_lem, year_to}
use Rattle.months.proofs.CoveredYears.{edges, its_year, starts_covered, ends_covered, covering_day}
use Rattle.calendar_range.specs.Range.{is_calendar, numbered, rules_for, is_covered}
use Rattle.calendar_range.specs.Room.{CoveredYear}
use Rattle.calendar_range.proofs.Covered.{covered_year_told, covered_year_tested}
use Rattle.calendar_month.specs.Asked.{has_month, month_named, has_day}
use Rattle.calendar_month.proofs.Names.{named_back}
use Rattle.calendar_month.proofs.Covered.{name_found, month_covering}
use Rattle.calendar_date.specs.declared.Date.{Date}
use Rattle.calendar_date.specs.Dates.{day_in, day_of, is_covered_day, date_in, date_of}
use Rattle.calendar_date.specs.Room.{CoveredDay}
use Rattle.calendar_date.proofs.Refusals.{day_given, date_given}
use Rattle.calendar_date.proofs.Covered.{covered_day_told, covered_day_tested}

abbrev date : ℕ → ℕ → Bool → ℕ → Date
date y m leap d = record { year = y; month = m; leap = leap; day = d }

-- ---- the day of a date, and its date

module _ (c : Calendar) (y m : ℕ) (leap : Bool) (d : ℕ) where
  abbrev r : Rules
  r = rules_of c

  abbrev k : ℕ
  k = month_named r y m leap

  record Dated (n : ℕ) : Type 0 where
    covered : is_covered_day r n ≡ true
    dated : date_in r (n + r.day_zero) ≡ date y m leap d

  day_dated : CoveredYear r y → has_month r y m leap ≡ true → has_day r k d ≡ true → Dated (day_in r k d)
  day_dated covered has has_day_lem =
      let name = name_found c y covered m leap has in
      let covers = month_covering c y covered k name.of_year in
      let (from_1, to_length) = (and-eq-true_iff (leb 1 d) (leb d (month_length r k))).0 has_day_lem in
      let low = leb-true 1 d from_1 in
      let high = leb-true d (month_length r k) to_length in
      let from = starts_covered c k covers in
      let to = ends_covered c k covers in
      let whole : day_in r k d + r.day_zero ≡ r.start k + d - 1 = omega (arith, (edges c).first_day) in
      let here : month_of r (r.start k + d - 1) ≡ k = span_is r.start (steady c).months_grow k (r.start k + d - 1) (omega arith) in
      let year : year_with r k ≡ y = year_is r (steady c) k covers y name.of_year in
      let day : r.start k + d - 1 - r.start k + 1 ≡ d = omega arith in
      record {
        covered = covered_day_tested c (day_in r k d) (rw whole (omega arith));
        dated = rw (whole, here, year, name.number, name.is_leap_lem, day);
      }

-- ---- the date of a day, and its day

module _ (c : Calendar) (n : ℕ) where
  abbrev rules : Rules
  rules = rules_of c

  record DateOfDay (t : Date) : Type 0 where
    covered : is_covered rules t.year ≡ true
    month : has_month rules t.year t.month t.leap ≡ true
    has_day_lem : has_day rules (month_named rules t.year t.month t.leap) t.day ≡ true
    day : day_in rules (month_named rules t.year t.month t.leap) t.day ≡ n

  date_dayed : is_covered_day rules n ≡ true → DateOfDay (date_in rules (n + rules.day_zero))
  date_dayed h =
      let s = steady c in
      let x = n + rules.day_zero in
      let k = month_of rules x in
      let d = x - rules.start k + 1 in
      let told = covered_day_told c n h in
      let covers = covering_day c x told.from told.to in
      let y = year_with rules k in
      let name = named_back rules s y (its_year c k covers).months k (year_holds rules s k covers) in
      let has = span_holds rules.start s.months_grow x in
      record {
        covered = covered_year_tested rules y (record { from = year_from_lem rules s k covers; to = year_to rules s k covers });
        month = name.has;
        has_day_lem = rw (name.back, le-leb 1 d (omega arith), le-leb d (month_length rules k) (omega arith));
        day = rw name.back (omega arith);
      }

-- ---- the two laws

-- the date of the day of a date is that date
pub date_of_day_of : (c y m : ℕ) (leap : Bool) (d n : ℕ) → day_of c y m leap d ≡ given n → date_of c n ≡ given (date y m leap d)
date_of_day_of c y m leap d n e =
    let g = (day_given c y m leap d n).only_if e in
    let dated = day_dated (numbered c) y m leap d (covered_year_told (rules_for c) y g.0.1.0) g.0.1.1.0 g.0.1.1.1.0 in
    (date_given c n (date y m leap d)).if ((g.0.0, (rw g.1 at dated.covered, tt)), rw g.1 at dated.dated)

-- the day of the date of a day is that day
pub day_of_date_of : (c n : ℕ) (t : Date) → date_of c n ≡ given t → day_of c t.year t.month t.leap t.day ≡ given n
day_of_date_of c n t e =
    let g = (date_given c n t).only_if e in
    let back : DateOfDay (numbered c) n t = rw g.1 at (date_dayed (numbered c) n g.0.1.0) in
    (day_given c t.year t.month t.leap t.day n).if ((g.0.0, (back.covered, (back.month, (back.has_day_lem, tt)))), back.day)

-- the days that have a date are those from the first covered year's first day to the eve of the year after the last
pub covered_days : (c n : ℕ) → is_calendar c ≡ true → Exactly (CoveredDay (rules_for c) (n + (rules_for c).day_zero)) (date_of c n ≡ given (date_in (rules_for c) (n + (rules_for c).day_zero)))
covered_days c n known =
    record {
      if = λ e. covered_day_told (numbered c) n ((date_given c n _).only_if e).0.1.0;
      only_if = λ h. (date_given c n _).if ((known, (covered_day_tested (numbered c) n h, tt)), refl);
    }
