-- The numbers of calendars and years that are covered: small, and no year of both calendars.
use mathlib.Core.Path.{◌≡◌, refl, sym, ◌∙◌}
use mathlib.Core.Bool.{Bool, true, false, false≢true, ◌||◌}
use Prim.Native.Nat.{ℕ, ◌≤◌}
use native.Mathlib.Omega.{arith}
use lib.Dec.{eqb}
use borrow.Author.Tests.{eqb-true}
use Rattle.months_rules.specs.declared.Calendar.{Calendar}
use Rattle.months_rules.specs.declared.Calendar.TheVariants.{Senmyo, Genka}
use Rattle.months_rules.specs.Rules.{rules_of}
use Rattle.calendar_range.specs.Range.{is_calendar, numbered, rules_for, is_covered}
use Rattle.calendar_range.proofs.Covered.{covered_year_told}

-- a calendar's number is 1 or 2
data OneOrTwo (c : ℕ) : Type 0 where
  one : c ≡ 1 → OneOrTwo c
  two : c ≡ 2 → OneOrTwo c

calendar_told : (c : ℕ) → is_calendar c ≡ true → OneOrTwo c
calendar_told c h = by_tests (eqb c 1) (eqb c 2) refl refl h
  where
    by_tests : (a b : Bool) → eqb c 1 ≡ a → eqb c 2 ≡ b → (a || b) ≡ true → OneOrTwo c
    by_tests true b e f h = one (eqb-true c 1 e)
    by_tests false true e f h = two (eqb-true c 2 f)
    by_tests false false e f h = absurd (false≢true h)

pub calendar_small : (c : ℕ) → is_calendar c ≡ true → c ≤ 2
calendar_small c h = by_number (calendar_told c h)
  where
    by_number : OneOrTwo c → c ≤ 2
    by_number (one e) = omega (arith, e)
    by_number (two e) = omega (arith, e)

last_small : (c : Calendar) → (rules_of c).last_year ≤ 1684
unfolding rules_of
last_small Senmyo = omega arith
last_small Genka = omega arith

pub year_small : (c y : ℕ) → is_covered (rules_for c) y ≡ true → y ≤ 1684
year_small c y h = omega (arith, (covered_year_told (rules_for c) y h).to, last_small (numbered c))

-- no year is covered by both calendars
pub no_year_of_both : (c d y : ℕ) → is_calendar c ≡ true → is_calendar d ≡ true → is_covered (rules_for c) y ≡ true → is_covered (rules_for d) y ≡ true → c ≡ d
unfolding rules_of
no_year_of_both c d y is_c is_d in_c in_d = by_numbers (calendar_told c is_c) (calendar_told d is_d)
  where
    -- Senmyo from 822, Genka up to 697
    apart : (n : ℕ) → is_covered (rules_for 1) n ≡ true → is_covered (rules_for 2) n ≡ true → ⊥
    apart n h k = omega (arith, (covered_year_told (rules_for 1) n h).from, (covered_year_told (rules_for 2) n k).to)

    by_numbers : OneOrTwo c → OneOrTwo d → c ≡ d
    by_numbers (one e) (one f) = e ∙ sym f
    by_numbers (two e) (two f) = e ∙ sym f
    by_numbers (one e) (two f) = absurd (apart y (rw e at in_c) (rw f at in_d))
    by_numbers (two e) (one f) = absurd (apart y (rw f at in_d) (rw e at in_c))
