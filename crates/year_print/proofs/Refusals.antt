-- When the program gives a year and when it refuses, exactly: 12 before 1 before 2 (01, "Refusal numbers").
use mathlib.Core.Path.{◌≡◌, ap}
use mathlib.Core.Bool.{true, false}
use mathlib.Core.List.{List}
use Prim.Native.Nat.{ℕ}
use Rattle.std.specs.Prelude.{Result}
use Rattle.answers.specs.declared.Refusal.{Refusal}
use Rattle.answers.specs.Answer.{given, refused, refusal_in, told, then}
use Rattle.answers.specs.Conditions.{AllHold, FirstFails, Exactly}
use Rattle.answers.proofs.Conditions.{then_asking, given_exactly, refused_exactly}
use Rattle.calendar_range.specs.Range.{is_calendar, rules_for, is_covered}
use Rattle.calendar_year.specs.declared.Year.{Year}
use Rattle.calendar_year.specs.Years.{year_in, year_of}
use Rattle.year_line.specs.declared.Line.{Line}
use Rattle.year_line.specs.Line.{line_in, line_of, LineAnd, NoLine}
use Rattle.year_print.specs.Paper.{answer_conditions, answer_of, answer_refusal, year_refusal}

module _ (bytes : List ℕ) where
  abbrev calendar : ℕ
  calendar = (line_in bytes).calendar

  abbrev year : ℕ
  year = (line_in bytes).year

  pub answer_given : (x : Year) → Exactly (answer_of bytes ≡ given x) (AllHold (answer_conditions bytes) × (year_in (rules_for calendar) year ≡ x))
  unfolding answer_of
  answer_given x = given_exactly _ _ x

  pub answer_refused : (n : ℕ) → Exactly (answer_of bytes ≡ refused n) (FirstFails (answer_conditions bytes) n)
  unfolding answer_of
  answer_refused n = refused_exactly _ _ n

  pub answer_refused_12 : Exactly (answer_of bytes ≡ refused 12) (NoLine bytes)
  answer_refused_12 = answer_refused 12

  pub answer_refused_1 : Exactly (answer_of bytes ≡ refused 1) (LineAnd bytes (is_calendar calendar ≡ false))
  answer_refused_1 = answer_refused 1

  pub answer_refused_2 : Exactly (answer_of bytes ≡ refused 2) (LineAnd bytes ((is_calendar calendar ≡ true) × (is_covered (rules_for calendar) year ≡ false)))
  answer_refused_2 = answer_refused 2

  -- as the code finds it: the line, and then its year
  pub answer_asked : answer_of bytes ≡ then (line_of bytes) (λ l. year_of l.calendar l.year)
  unfolding line_of year_of answer_of
  answer_asked = then_asking _ _ _ _

-- a year's result tells its refusal
pub year_told : (calendar year : ℕ) (x : Result Year Refusal) → told x ≡ year_of calendar year → refusal_in (told x) ≡ year_refusal calendar year
unfolding year_refusal
year_told c y x e = ap refusal_in e

-- what is refused of a line's year is refused of the bytes that the line stands in ..
pub line_told : (bytes : List ℕ) (line : Line) → given line ≡ line_of bytes → year_refusal line.calendar line.year ≡ answer_refusal bytes
unfolding year_refusal answer_refusal
line_told bytes line e = rw (answer_asked, ← e)

-- .. and so is what is refused of the line
pub no_line_told : (bytes : List ℕ) (n : ℕ) → refused n ≡ line_of bytes → n ≡ answer_refusal bytes
unfolding answer_refusal
no_line_told bytes n e = rw (answer_asked, ← e)
