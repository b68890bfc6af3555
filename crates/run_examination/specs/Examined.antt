-- When what is given for a kept run is none: refusal 11, "not a run: its content differs from what the rules give" (01, "The kept run"; "Refusal numbers").
use Rattle.std.specs.Prelude.{Bool, ◌&&◌, List, [], ◌∷◌, ℕ, ◌+◌, ◌-◌, eqb, leb}
use Rattle.numbers.specs.Same.{same_by}
use Rattle.calendar_range.specs.Range.{is_calendar, rules_for, is_covered}
use Rattle.run_content.specs.declared.Run.{Run}
use Rattle.run_content.specs.Runs.{run_of}

-- the numbers of a run before its months
abbrev pub head : Run → List ℕ
head run = run.calendar ∷ run.first_year ∷ run.years ∷ run.count ∷ []

-- two runs are the same in every number and every place
unfoldable pub same_run : Run → Run → Bool
same_run a b = same_by eqb (head a) (head b) && (same_by eqb a.first_days b.first_days && same_by eqb a.last_dates b.last_dates)

-- 1 to 14 consecutive years of one calendar, all of them covered
unfoldable pub can_be_kept : ℕ → ℕ → ℕ → Bool
can_be_kept c first years = (leb 1 years && leb years 14) && (is_calendar c && (is_covered (rules_for c) first && is_covered (rules_for c) (first + years - 1)))

-- a run is what holds just what its calendar, first year and number of years fix
unfoldable pub is_run : Run → Bool
is_run run = can_be_kept run.calendar run.first_year run.years && same_run run (run_of run.calendar run.first_year run.years)
