-- The third demand, for every covered year of both calendars.
use Prim.Native.Nat.{ℕ, ◌+◌, ◌-◌, ◌<◌, ◌≤◌, ◌^◌}
use native.Mathlib.Omega.{arith}
use Rattle.numbers.proofs.Spans.{later, span_from, span_before}
use Rattle.senmyo_lengths.proofs.Lengths as SenmyoLengths
use Rattle.genka.proofs.GenkaLaws as GenkaLaws
use Rattle.months_rules.specs.declared.Calendar.{Calendar}
use Rattle.months_rules.specs.declared.Calendar.TheVariants.{Senmyo, Genka}
use Rattle.months_rules.specs.Rules.{Rules, mid, senmyo, genka, rules_of}
use Rattle.months_rules.specs.FirstMonths.{month_of, first_month, first_day_of, next_first_day}
use Rattle.months_rules.specs.Room.{CoveredTerm}
use Rattle.months_rules.proofs.Steady.{Steady, terms_grow}
use Rattle.months_rules.proofs.FirstMonths.{from_year_0, years_in_order}
use Rattle.months_rules.proofs.Calendars.{senmyo_steady, genka_steady, steady, sizes}
use Rattle.months_rules.proofs.Figures.{first_1685, first_698, senmyo_opens, senmyo_ends, genka_opens, genka_ends}
use Rattle.months.specs.Months.{year_with, last_term}
use Rattle.months.specs.Year.{MonthDays, OfYear, DemandedYear}
use Rattle.months.specs.Room.{Covering}
use Rattle.months.proofs.YearOfMonth.{year_holds, year_from_lem, year_to, rain_water_fallen, year_told}
use Rattle.months.proofs.Years.{year_of_lem}

-- the tested months are all that the covered years need
tested_from : (y : ℕ) → 822 ≤ y → SenmyoLengths.first_tested ≤ first_month senmyo y
unfolding first_month
tested_from y h =
    let terms = later (mid senmyo) (terms_grow senmyo senmyo_steady) (senmyo.rain_water 822) (senmyo.rain_water y) (omega arith) in
    span_from senmyo.start senmyo_steady.months_grow SenmyoLengths.first_tested _ (omega (arith, SenmyoLengths.tested_from))

tested_to : (y : ℕ) → y ≤ 1685 → first_month senmyo y < SenmyoLengths.first_tested + SenmyoLengths.tested
unfolding first_month
tested_to y h =
    let terms = later (mid senmyo) (terms_grow senmyo senmyo_steady) (senmyo.rain_water y) (senmyo.rain_water 1685) (omega arith) in
    let after = SenmyoLengths.first_tested + SenmyoLengths.tested in
    span_before senmyo.start senmyo_steady.months_grow after _ (omega (arith, SenmyoLengths.tested_to))

pub senmyo_year : (y : ℕ) → 822 ≤ y → y ≤ 1684 → DemandedYear senmyo y
senmyo_year y from to =
    let first = tested_from y from in
    let after = tested_to (y + 1) (omega arith) in
    year_of_lem senmyo senmyo_steady y (λ k low high. omega (arith, SenmyoLengths.month_takes k (omega arith) (omega arith)))

pub genka_year : (y : ℕ) → 445 ≤ y → y ≤ 697 → DemandedYear genka y
genka_year y from to = year_of_lem genka genka_steady y (λ k low high. omega (arith, GenkaLaws.month_takes k))

-- .. read for either
pub covered_year : (c : Calendar) (y : ℕ) → (rules_of c).first_year ≤ y → y ≤ (rules_of c).last_year → DemandedYear (rules_of c) y
unfolding rules_of
covered_year Senmyo y from to = senmyo_year y from to
covered_year Genka y from to = genka_year y from to

-- ---- where the covered years begin and end, in round numbers

pub record Edges (r : Rules) : Type 0 where
  pub first_day : r.day_zero + 2 < first_day_of r r.first_year
  pub last_day : next_first_day r r.last_year < r.day_zero + 2 ^ 22
  pub last_month : first_month r (r.last_year + 1) < 2 ^ 27 - 2
  pub day_zero_lem : r.day_zero + 2 ^ 22 < 2 ^ 32

pub edges : (c : Calendar) → Edges (rules_of c)
unfolding rules_of
edges Senmyo = omega (arith, senmyo_opens, senmyo_ends, first_1685)
edges Genka = omega (arith, genka_opens, genka_ends, first_698)

-- ---- a month of the covered years

module _ (c : Calendar) where
  abbrev r : Rules
  r = rules_of c

  abbrev s : Steady r
  s = steady c

  module _ (k : ℕ) (h : Covering r k) where
    -- its year is covered
    pub its_year : DemandedYear r (year_with r k)
    its_year = covered_year c (year_with r k) (year_from_lem r s k h) (year_to r s k h)

    pub its_days : MonthDays r k
    its_days = its_year.length k (year_holds r s k h)

    -- its days are covered
    pub starts_covered : first_day_of r r.first_year ≤ r.start k
    starts_covered = omega (arith, later r.start s.months_grow (first_month r r.first_year) k h.from)

    pub ends_covered : r.start (k + 1) ≤ next_first_day r r.last_year
    ends_covered = omega (arith, later r.start s.months_grow (k + 1) (first_month r (r.last_year + 1)) (omega (arith, h.to)))

    -- and so is the last mid-term by its end
    pub its_term : CoveredTerm r (last_term r k)
    its_term =
        record {
          from = omega (arith, rain_water_fallen r s k h, from_year_0 r s r.first_year);
          year_small = omega (arith, year_told r s k h, year_to r s k h, (sizes c).year_size);
        }

  -- the covered years' months lie between the first year's and the last's
  pub after_first : (y : ℕ) → r.first_year ≤ y → first_month r r.first_year ≤ first_month r y
  after_first y from = years_in_order r s r.first_year y from

  pub before_last : (y : ℕ) → y ≤ r.last_year → first_month r (y + 1) ≤ first_month r (r.last_year + 1)
  before_last y to = years_in_order r s (y + 1) (r.last_year + 1) (omega arith)

  -- a month of a covered year
  pub covering : (y k : ℕ) → r.first_year ≤ y → y ≤ r.last_year → OfYear r y k → Covering r k
  covering y k from to h = omega (arith, after_first y from, before_last y to)

  -- the month that has a covered day
  pub covering_day : (d : ℕ) → first_day_of r r.first_year ≤ d → d < next_first_day r r.last_year → Covering r (month_of r d)
  covering_day d from to =
      let grow = s.months_grow in
      record { from = span_from r.start grow (first_month r r.first_year) d from; to = span_before r.start grow _ d to }
