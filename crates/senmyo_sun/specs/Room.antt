-- What the inner functions find, and what they ask of their callers, so that every number fits its word. No rule of the calendar.
use Rattle.std.specs.Prelude.{List, [], ◌∷◌, ℕ, ◌+◌, ◌<◌, ◌≤◌, nat_abs, take}
use Rattle.senmyo_sun.specs.declared.Term.{Term}
use Rattle.senmyo_sun.specs.Sun.{rate, first, sum, Row, sun_rows}

-- how long the terms of some rows last together, in byo
abbrev pub lasting : List Row → ℕ
lasting [] = 0
lasting (r ∷ rs) = r.span.0 + lasting rs

-- where a term starts, counted from the solstice
abbrev pub start_of : ℕ → ℕ
start_of n = lasting (take n sun_rows)

-- a moment after the solstice falls in term n
pub record TermAt (n x : ℕ) : Type 0 where
  pub one_of_24 : n < 24
  pub from : start_of n ≤ x
  pub to : x < start_of (n + 1)

-- a true term's numbers, and whole days in it
pub record DaysInTerm (t : Term) (n : ℕ) : Type 0 where
  pub rate_small : nat_abs (rate t) ≤ 5000
  pub first_small : nat_abs (first t) ≤ 400000
  pub sum_small : nat_abs (sum t) ≤ 20000000
  pub days_few : n < 16
