-- A date's numbers stand side by side in its one number, and are found there again.
use mathlib.Core.Path.{◌≡◌, refl, sym, ap, ◌∙◌}
use mathlib.Core.Bool.{Bool, true, false}
use Prim.Native.Nat.{ℕ, ◌+◌, ◌*◌, ◌/◌, ◌%◌, ◌<◌}
use native.Mathlib.Omega.{arith}
use lib.Dec.{leb}
use borrow.Author.Tests.{le-leb, lt-leb}
use Rattle.calendar_date.specs.declared.Date.{Date}
use Rattle.calendar_date.specs.Dates.{date_number}

-- numbers that have room beside each other
pub record Small (t : Date) : Type 0 where
  pub year : t.year < 10000
  pub month : t.month < 100
  pub day : t.day < 100

-- what stands beside the leap month's part
abbrev plain : Date → ℕ
plain t = t.year * 10000 + t.month * 100 + t.day

-- a number of which a date's numbers are the parts
pub record Parts (n : ℕ) (t : Date) : Type 0 where
  pub year : n % 100000000 / 10000 ≡ t.year
  pub month : n / 100 % 100 ≡ t.month
  pub leap : leb 100000000 n ≡ t.leap
  pub day : n % 100 ≡ t.day

pub parts : (t : Date) → Small t → Parts (date_number t) t
parts t small = by_leap t.leap
  where
    by_leap : (b : Bool) → Parts (elim b [ true ↦ 100000000 | false ↦ 0 ] + plain t) (record { year = t.year; month = t.month; leap = b; day = t.day })
    by_leap true = record { year = omega (arith, small); month = omega (arith, small); leap = le-leb 100000000 (100000000 + plain t) (omega arith); day = omega (arith, small) }
    by_leap false = record { year = omega (arith, small); month = omega (arith, small); leap = lt-leb 100000000 (0 + plain t) (omega (arith, small)); day = omega (arith, small) }

-- two dates whose numbers agree but for the day are of one month
pub record OneMonth (s t : Date) : Type 0 where
  pub year : s.year ≡ t.year
  pub month : s.month ≡ t.month
  pub leap : s.leap ≡ t.leap

module _ (s t : Date) (small_s : Small s) (small_t : Small t) where
  pub one_month : date_number s / 100 ≡ date_number t / 100 → OneMonth s t
  one_month e =
      let month : s.month ≡ t.month = sym (parts s small_s).month ∙ ap (λ n. n % 100) e ∙ (parts t small_t).month in
      let year : s.year ≡ t.year = omega (arith, e, (parts s small_s).year, (parts t small_t).year) in
      record { year = year; month = month; leap = by_leap s.leap t.leap refl refl }
    where
      by_leap : (a b : Bool) → s.leap ≡ a → t.leap ≡ b → s.leap ≡ t.leap
      by_leap true true f g = f ∙ sym g
      by_leap false false f g = f ∙ sym g
      by_leap true false f g = absurd (omega (arith, rw (f, g) at e, small_s.day, small_t.day, small_t.month, small_t.year))
      by_leap false true f g = absurd (omega (arith, rw (f, g) at e, small_s.day, small_s.month, small_s.year, small_t.day))

-- .. and the other way round
pub same_month : (y m : ℕ) (leap : Bool) (d e : ℕ) → d < 100 → e < 100 → date_number (record { year = y; month = m; leap = leap; day = d }) / 100 ≡ date_number (record { year = y; month = m; leap = leap; day = e }) / 100
same_month y m true d e f g = omega (arith, f, g)
same_month y m false d e f g = omega (arith, f, g)
