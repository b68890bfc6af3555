-- `run_content::with_next` meets its contract: the year after its last is covered, and `year_of` gives it.
use Rattle.std.proofs.Common.{◌≡◌, ◌+◌}
use Rattle.calendar_range.specs.Range.{rules_for}
use Rattle.calendar_year.specs.Years.{year_in}
use Rattle.run_content.proofs.Extending.{next_answered, next_year}
use Rattle.run_content.proofs.with_next.Goals as goal

pub unwrap-next-requires : goal.unwrap-next-requires
unwrap-next-requires c = rw (next_answered c.requires _ c.year_of.ensures)

pub with_year-requires : goal.with_year-requires
with_year-requires c =
    let given = next_answered c.requires _ c.year_of.ensures in
    let next : c.unwrap-next.result ≡ year_in (rules_for c.args.run.now.calendar) (c.args.run.now.first_year + c.args.run.now.years) = cc in
    next_year c.requires next
