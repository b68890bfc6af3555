-- The number that a call answers tells which it is: below 100 a refusal's, else a day's or a date's.
use mathlib.Core.Path.{◌≡◌, refl}
use Prim.Native.Nat.{ℕ, ◌<◌, ◌≤◌}
use native.Mathlib.Omega.{arith}
use Rattle.answers.specs.Answer.{given, refused}
use Rattle.calendar_date.specs.declared.Date.{Date}
use Rattle.calendar_date.specs.Dates.{day_of, date_of}
use Rattle.calendar_date.proofs.Apart.{day_refusal_small, day_large, date_refusal_small, date_year_large}
use Rattle.sieveflicker_numbers.specs.Numbers.{asks_leap}
use Rattle.sieveflicker.specs.Exported.{day_number_of, date_number_of}

module _ (c y m leap d n : ℕ) where
  pub day_refusal : day_of c y m (asks_leap leap) d ≡ refused n → (day_number_of c y m leap d ≡ n) × (day_number_of c y m leap d < 100)
  day_refusal e = rw e (refl, day_refusal_small c y m (asks_leap leap) d n e)

  pub day_number_lem : day_of c y m (asks_leap leap) d ≡ given n → (day_number_of c y m leap d ≡ n) × (100 ≤ day_number_of c y m leap d)
  day_number_lem e = rw e (refl, day_large c y m (asks_leap leap) d n e)

module _ (c n : ℕ) where
  pub date_refusal : (m : ℕ) → date_of c n ≡ refused m → (date_number_of c n ≡ m) × (date_number_of c n < 100)
  date_refusal m e = rw e (refl, date_refusal_small c n m e)

  pub date_number_lem : (t : Date) → date_of c n ≡ given t → 100 ≤ date_number_of c n
  date_number_lem t e = rw e (omega (arith, date_year_large c n t e))
