-- What the program answers to its input, and the refusal that a printing function answers, or 0 if it refuses nothing.
use Rattle.std.specs.Prelude.{Bool, List, ◌++◌, Option, Some, None, ℕ}
use Rattle.answers.specs.declared.Refusal.{Refusal}
use Rattle.answers.specs.Answer.{Answer, refusal_in, number_of}
use Rattle.answers.specs.Conditions.{asking}
use Rattle.calendar_range.specs.Range.{rules_for, year_conditions}
use Rattle.calendar_year.specs.declared.Year.{Year}
use Rattle.calendar_year.specs.Years.{year_in, year_of}
use Rattle.year_line.specs.Line.{line_conditions, line_in}

-- the year that the first line asks for: the line's conditions, and then the year's
abbrev pub answer_conditions : List ℕ → List (Bool × ℕ)
answer_conditions bytes =
    line_conditions bytes ++
    year_conditions (line_in bytes).calendar (line_in bytes).year

unfoldable pub answer_of : List ℕ → Answer Year
answer_of bytes = asking (answer_conditions bytes) (year_in (rules_for (line_in bytes).calendar) (line_in bytes).year)

-- ---- the refusal, or 0

unfoldable pub answer_refusal : List ℕ → ℕ
answer_refusal bytes = refusal_in (answer_of bytes)

-- of a year that is asked for by numbers
unfoldable pub year_refusal : ℕ → ℕ → ℕ
year_refusal calendar year = refusal_in (year_of calendar year)

-- of what was refused, if anything
abbrev pub refusal_number : Option Refusal → ℕ
refusal_number None = 0
refusal_number (Some refusal) = number_of refusal
