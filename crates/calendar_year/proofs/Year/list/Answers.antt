-- `calendar_year::Year::list` meets its contract: it puts the month at the next place, and keeps its number if it is leap.
use Rattle.calendar_year.specs.Room.{listed_behind}
use Rattle.calendar_year.proofs.Year.list.Goals as goal

pub returns-then-month : goal.returns-then-month
unfolding listed_behind
returns-then-month c = rw c.if-month.true

pub returns-else-month : goal.returns-else-month
unfolding listed_behind
returns-else-month c = rw c.if-month.false
