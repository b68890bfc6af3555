-- Mid-terms in months: a month is leap exactly if it has none, none has two, and a month's number is that of the last mid-term by its end.
use mathlib.Core.Path.{◌≡◌, refl, sym, ap, ◌∙◌}
use mathlib.Core.Bool.{Bool, true, false, not-eq-not}
use Prim.Native.Nat.{ℕ, zero, suc, ◌+◌, ◌-◌, ◌<◌, ◌≤◌}
use native.Mathlib.Omega.{arith, by_contra}
use borrow.Author.Tests.{ltb-true, ltb-false, lt-ltb, le-ltb}
use lib.Dec.{ltb}
use Rattle.numbers.specs.Spans.{Holds}
use Rattle.numbers.proofs.Spans.{later, not_after, span_holds, span_is}
use Rattle.months_rules.specs.Rules.{Rules, mid, term_number}
use Rattle.months_rules.specs.FirstMonths.{HasTerm, first_month}
use Rattle.months_rules.proofs.Steady.{Steady, terms_grow, terms_apart}
use Rattle.months_rules.proofs.FirstMonths.{opens}
use Rattle.months.specs.Months.{last_term, is_leap, number_of}
use Rattle.months.specs.Year.{MonthDays}
use Rattle.months.specs.Room.{IsLast, last_term_of}

module _ (r : Rules) (s : Steady r) (k : ℕ) where
  pub last_term_lem : IsLast r k (last_term r k)
  unfolding last_term
  last_term_lem = span_holds (mid r) (terms_grow r s) _

  pub last_term_told : (j : ℕ) → IsLast r k j → last_term r k ≡ j
  unfolding last_term
  last_term_told j h = span_is (mid r) (terms_grow r s) j _ h

  -- a mid-term of the month falls by its end, so that it is not after the last that does
  not_after_last : (j : ℕ) → HasTerm r k j → mid r j ≤ mid r (last_term r k)
  not_after_last j h =
      let before = not_after (mid r) (terms_grow r s) j (last_term r k) _ (omega (arith, h.to)) last_term_lem.to in
      omega (arith, later (mid r) (terms_grow r s) j (last_term r k) before)

  pub leap_has_none : is_leap r k ≡ true → (j : ℕ) → HasTerm r k j → ⊥
  unfolding is_leap
  leap_has_none e j h = omega (arith, ltb-true (mid r (last_term r k)) (r.start k) e, h.from, not_after_last j h)

  pub has_not_leap : (j : ℕ) → HasTerm r k j → is_leap r k ≡ false
  unfolding is_leap
  has_not_leap j h = le-ltb (mid r (last_term r k)) (r.start k) (omega (arith, h.from, not_after_last j h))

  pub not_leap_has : is_leap r k ≡ false → HasTerm r k (last_term r k)
  unfolding is_leap
  not_leap_has e = record { from = ltb-false _ _ e; to = omega (arith, last_term_lem.from, s.months_grow.grows k) }

  pub has_none_leap : ((j : ℕ) → HasTerm r k j → ⊥) → is_leap r k ≡ true
  has_none_leap none = not-eq-not.0 (λ e. none (last_term r k) (not_leap_has e))

  -- no month of at most 30 days has two
  pub one_term : (i j : ℕ) → r.start (k + 1) ≤ r.start k + 30 → HasTerm r k i → HasTerm r k j → i ≡ j
  one_term i j short h g = omega (arith, by_contra j i (two i j h g), by_contra i j (two j i g h))
    where
      two : (i j : ℕ) → HasTerm r k i → HasTerm r k j → i < j → ⊥
      two i j h g o = omega (arith, (terms_apart r s i).at_least, later (mid r) (terms_grow r s) (i + 1) j (omega arith))

  pub last_term_is : (j : ℕ) → r.start (k + 1) ≤ r.start k + 30 → HasTerm r k j → last_term r k ≡ j
  last_term_is j short h = one_term (last_term r k) j short (not_leap_has (has_not_leap j h)) h

-- month 1 of a year is never leap: it has the Rain Water
pub month_1_not_leap : (r : Rules) → Steady r → (y : ℕ) → is_leap r (first_month r y) ≡ false
month_1_not_leap r s y = has_not_leap r s (first_month r y) (r.rain_water y) (opens r s y)

-- without a mid-term, the last by the end is the last by the eve of the month
last_before : (r : Rules) → Steady r → (k : ℕ) → is_leap r k ≡ true → last_term r (k - 1) ≡ last_term r k
unfolding is_leap last_term
last_before r s zero e = refl
last_before r s (suc k) e =
    let before = ltb-true (mid r (last_term r (suc k))) (r.start (suc k)) e in
    let eve : suc k - 1 + 1 ≡ suc k = omega arith in
    rw eve
    (span_is (mid r) (terms_grow r s) (last_term r (suc k)) (r.start (suc k) - 1)
    (omega (arith, (last_term_lem r s (suc k)).to, s.months_grow.grows (suc k))))

pub number_of_leap : (r : Rules) (k : ℕ) → is_leap r k ≡ true → number_of r k ≡ term_number r (last_term r (k - 1))
unfolding number_of
number_of_leap r k e = rw (e, number_of)

-- so in either case a month's number is that of the last mid-term by its end
pub number_of_last : (r : Rules) → Steady r → (k : ℕ) → number_of r k ≡ term_number r (last_term r k)
unfolding number_of
number_of_last r s k = by_leap (is_leap r k) refl
  where
    by_leap : (b : Bool) → is_leap r k ≡ b → number_of r k ≡ term_number r (last_term r k)
    by_leap true e = number_of_leap r k e ∙ ap (term_number r) (last_before r s k e)
    by_leap false e = rw (e, number_of)

-- a leap month takes the number of the month before it
pub number_before : (r : Rules) → Steady r → (k : ℕ) → is_leap r k ≡ true → number_of r k ≡ number_of r (k - 1)
number_before r s k e = number_of_leap r k e ∙ sym (number_of_last r s (k - 1))

module _ (r : Rules) (s : Steady r) (k j : ℕ) where
  -- that mid-term told, and whether the month is leap
  pub last_told_lem : (leap : Bool) → IsLast r k j → ltb (mid r j) (r.start k) ≡ leap → record { term = j; leap = leap } ≡ last_term_of r k
  unfolding is_leap
  last_told_lem leap h l = let e = last_term_told r s k j h in rw (e, l)

  -- .. and a month's name by that mid-term
  pub name_told : IsLast r k j → (number_of r k ≡ term_number r j) × (is_leap r k ≡ ltb (mid r j) (r.start k))
  unfolding is_leap
  name_told h = let e = last_term_told r s k j h in (rw (number_of_last r s k, e), rw e)

  -- ---- the same found from the last mid-term by day 30, be the month of 29 days or of 30

  module _ (days : MonthDays r k) (by_30 : Holds (mid r) j (r.start k + 29)) where
    -- the month has it, or it falls before
    pub before_end : mid r j < r.start (k + 1) → IsLast r k j
    before_end h = omega arith

    -- the month ended before: then the last is the one before, and the month is leap
    module _ (h : r.start (k + 1) ≤ mid r j) where
      pub not_term_0 : 1 ≤ j
      not_term_0 = by_contra 1 j (λ none. let e : j ≡ 0 = omega arith in omega (arith, rw e at h, (terms_grow r s).zeroth))

      on : j - 1 + 1 ≡ j
      on = omega (arith, not_term_0)

      term_before : mid r (j - 1) + 30 ≤ mid r j
      term_before = rw on at (terms_apart r s (j - 1)).at_least

      pub past_end : IsLast r k (j - 1)
      past_end = record { from = omega (arith, term_before); to = rw on (omega arith) }

      pub before_start : ltb (mid r (j - 1)) (r.start k) ≡ true
      before_start = lt-ltb (mid r (j - 1)) (r.start k) (omega (arith, term_before))
