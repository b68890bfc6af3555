-- `calendar_range::is_covered` meets its contract: a covered year is one that is asked for without refusal.
use Rattle.std.proofs.Common.{◌≡◌, ℕ, ◌&&◌, sym}
use Rattle.std.specs.Prelude.{Result, Ok, Err}
use Rattle.std.specs.Result.{is_ok}
use Rattle.answers.specs.declared.Refusal.{Refusal}
use Rattle.calendar_range.specs.declared.known.KnownYear.{KnownYear}
use Rattle.calendar_range.specs.Range.{is_calendar, rules_for, is_covered, year_asked}
use Rattle.calendar_range.specs.Answers.{year_means}
use Rattle.calendar_range.proofs.Steps.{covered_given, covered_refused}
use Rattle.calendar_range.proofs.is_covered.Goals as goal

covered_told : (c y : ℕ) (x : Result KnownYear Refusal) → year_means x ≡ year_asked c y → is_ok x ≡ (is_calendar c && is_covered (rules_for c) y)
covered_told c y (Ok known) e = covered_given c y _ (sym e)
covered_told c y (Err refusal) e = covered_refused c y _ (sym e)

pub returns : goal.returns
returns c = rw c.is_ok.ensures.value (covered_told _ _ _ c.asked_year.ensures)
