-- A month's name: its number, and leap or not (01, "Months and leap"; refusal 3).
use Rattle.std.specs.Prelude.{◌≡◌, Bool, true, false, ℕ, ◌+◌}
use Rattle.months_rules.specs.Rules.{Rules}
use Rattle.months_rules.specs.FirstMonths.{month_with}
use Rattle.months.specs.Months.{is_leap, number_of}
use Rattle.months.specs.Year.{OfYear}
use Rattle.calendar_month.specs.Asked.{regular_month, month_named, has_month}

-- month k of year y has this number, and is leap or not
pub record Named (r : Rules) (y m : ℕ) (leap : Bool) (k : ℕ) : Type 0 where
  pub of_year : OfYear r y k
  pub number : number_of r k ≡ m
  pub is_leap_lem : is_leap r k ≡ leap

-- month k is the one that its name names in year y
pub record NamedBack (r : Rules) (y k : ℕ) : Type 0 where
  pub has : has_month r y (number_of r k) (is_leap r k) ≡ true
  pub back : month_named r y (number_of r k) (is_leap r k) ≡ k

-- the month that has the next mid-term follows month m of year y at once, or its leap month
pub data NextTerm (r : Rules) (y m : ℕ) : Type 0 where
  at_once : month_with r (r.rain_water y + m) ≡ regular_month r y m + 1 → is_leap r (regular_month r y m + 1) ≡ false → NextTerm r y m
  after_leap : month_with r (r.rain_water y + m) ≡ regular_month r y m + 2 → is_leap r (regular_month r y m + 1) ≡ true → NextTerm r y m
