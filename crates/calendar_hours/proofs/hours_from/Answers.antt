-- `calendar_hours::hours_from` meets its contract: each number is worked out by its own function.
use Rattle.calendar_hours.proofs.hours_from.Goals as goal

pub returns : goal.returns
returns c = rw (c.hour_at-end.ensures, c.hour_at-middle.ensures, c.hour_at-start.ensures, c.fen_over_ke-over.ensures, c.whole_ke-ke.ensures)
