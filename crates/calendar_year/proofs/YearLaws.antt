-- What a year's numbers say of its months: their lengths add up to its days, its count is the number of months listed, and its leap number is that of
-- the month that has no mid-term.
use mathlib.Core.Path.{◌≡◌, refl, sym, ◌∙◌}
use mathlib.Core.Bool.{true, false}
use Prim.Native.Nat.{ℕ, zero, suc, ◌+◌, ◌-◌, ◌<◌, ◌≤◌}
use native.Mathlib.Omega.{arith}
use borrow.Author.Tests.{lt-ltb}
use lib.ListN.{get_or}
use Rattle.numbers.specs.Places.{places}
use Rattle.numbers.proofs.Places.{at_place}
use Rattle.months_rules.specs.declared.Calendar.{Calendar}
use Rattle.months_rules.specs.Rules.{Rules, rules_of}
use Rattle.months_rules.specs.FirstMonths.{first_month}
use Rattle.months_rules.proofs.Steady.{Steady}
use Rattle.months_rules.proofs.Calendars.{steady}
use Rattle.months.specs.Months.{month_count, is_leap, number_of}
use Rattle.months.specs.Year.{Twelve, Thirteen, TwelveOrThirteen, twelve, thirteen}
use Rattle.months.proofs.Terms.{number_of_last}
use Rattle.months.proofs.CoveredYears.{covered_year}
use Rattle.calendar_range.specs.Room.{CoveredYear}
use Rattle.calendar_year.specs.declared.Month.{Month}
use Rattle.calendar_year.specs.Years.{listed, no_month, leap_number, year_in}
use Rattle.calendar_year.specs.Demand.{days_of, used_of}
use Rattle.calendar_year.proofs.Covered.{year_room}

module _ (r : Rules) (s : Steady r) where
  days_add_up : (k count n : ℕ) → count ≤ n → r.start k + days_of (places no_month (listed r) k count n) ≡ r.start (k + count)
  unfolding places days_of
  days_add_up k zero zero h = let e : k + 0 ≡ k = omega arith in rw e (omega arith)
  days_add_up k zero (suc n) h = omega (arith, days_add_up k zero n (omega arith))
  days_add_up k (suc count) zero h = absurd (omega (arith, h))
  days_add_up k (suc count) (suc n) h =
      let e : k + suc count ≡ k + 1 + count = omega arith in
      rw e (omega (arith, days_add_up (k + 1) count n (omega (arith, h)), s.months_grow.grows k))

  -- a month's number is not 0
  numbered : (k : ℕ) → 0 < number_of r k
  numbered k = rw (number_of_last r s k) (omega arith)

  places_used : (k count n : ℕ) → count ≤ n → used_of (places no_month (listed r) k count n) ≡ count
  unfolding places used_of
  places_used k zero zero h = refl
  places_used k zero (suc n) h = places_used k zero n (omega arith)
  places_used k (suc count) zero h = absurd (omega (arith, h))
  places_used k (suc count) (suc n) h =
      rw (lt-ltb 0 (number_of r k) (numbered k), used_of) (omega (arith, places_used (k + 1) count n (omega arith)))

module _ (c : Calendar) (y : ℕ) (covered : CoveredYear (rules_of c) y) where
  abbrev r : Rules
  r = rules_of c

  -- the months' lengths add up to the year's days
  pub days_are_lengths : (year_in r y).days ≡ days_of (year_in r y).months
  unfolding year_in
  days_are_lengths =
      let room = year_room c y covered in
      let on : first_month r y + month_count r y ≡ first_month r (y + 1) = omega arith in
      omega (arith, rw on at (days_add_up r (steady c) (first_month r y) (month_count r y) 13 (omega arith)))

  -- the count is the number of months listed
  pub count_is_used : (year_in r y).count ≡ used_of (year_in r y).months
  unfolding year_in
  count_is_used = sym (places_used r (steady c) (first_month r y) (month_count r y) 13 (omega (arith, (year_room c y covered).at_most)))

  -- what stands at a place of its months
  pub listed_at : (i : ℕ) (d : Month) → i < month_count r y → get_or (year_in r y).months i d ≡ listed r (first_month r y + i)
  unfolding year_in
  listed_at i d h = at_place no_month (listed r) (first_month r y) (month_count r y) 13 i d h (omega (arith, (year_room c y covered).at_most))

-- ---- the leap number

module _ (r : Rules) (k : ℕ) where
  none_leap : (n : ℕ) → ((i : ℕ) → i < n → is_leap r (k + i) ≡ false) → leap_number (listed r) k n ≡ 0
  unfolding leap_number
  none_leap zero h = refl
  none_leap (suc n) h = rw (h n (omega arith), leap_number) (none_leap n (λ i l. h i (omega (arith, l))))

  one_leap : (l n : ℕ) → is_leap r (k + l) ≡ true → ((i : ℕ) → l < i → i < l + 1 + n → is_leap r (k + i) ≡ false) →
      leap_number (listed r) k (l + 1 + n) ≡ number_of r (k + l)
  unfolding leap_number
  one_leap l zero e h = let last : l + 1 + 0 ≡ suc l = omega arith in rw (last, e, leap_number)
  one_leap l (suc n) e h =
      let last : l + 1 + suc n ≡ suc (l + 1 + n) = omega arith in
      rw (last, h (l + 1 + n) (omega arith) (omega arith), leap_number) (one_leap l n e (λ i low high. h i low (omega (arith, high))))

-- 0 in a year of twelve months ..
pub leap_0 : (r : Rules) (y : ℕ) → Twelve r y → (year_in r y).leap ≡ 0
unfolding year_in
leap_0 r y t = rw t.count (none_leap r (first_month r y) 12 (λ i h. (t.each i h).not_leap))

-- .. and in one of thirteen the number of the month that holds no mid-term
pub leap_is : (r : Rules) (y : ℕ) (t : Thirteen r y) → (year_in r y).leap ≡ t.leap_number
unfolding year_in
leap_is r y t =
    let k = first_month r y in
    let l = t.leap_number in
    let all : l + 1 + (12 - l) ≡ 13 = omega (arith, t.to_12) in
    rw t.count (rw all at (one_leap r k l (12 - l) t.leap.leap (λ i low high. behind t i low (omega (arith, high)))) ∙ t.leap.number)
  where
    behind : (t : Thirteen r y) (i : ℕ) → t.leap_number < i → i < 13 → is_leap r (first_month r y + i) ≡ false
    behind t i low high =
        let on : first_month r y + (i - 1) + 1 ≡ first_month r y + i = omega (arith, low) in
        rw on at (t.after (i - 1) (omega (arith, low)) (omega (arith, low, high))).not_leap

-- so that it is at most 12
pub leap_small : (c : Calendar) (y : ℕ) → CoveredYear (rules_of c) y → (year_in (rules_of c) y).leap ≤ 12
leap_small c y covered = by_count (covered_year c y covered.from covered.to).months
  where
    by_count : TwelveOrThirteen (rules_of c) y → (year_in (rules_of c) y).leap ≤ 12
    by_count (twelve t) = omega (arith, leap_0 (rules_of c) y t)
    by_count (thirteen t) = omega (arith, leap_is (rules_of c) y t, t.to_12)
