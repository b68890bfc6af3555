-- `calendar_hours::hour_at` meets its contract: the day has a day number.
use Rattle.std.proofs.Common.{arith}
use Rattle.months_rules.specs.Rules.{rules_of}
use Rattle.calendar_hours.proofs.hour_at.Goals as goal

pub overflow_sub-day : goal.overflow_sub-day
unfolding rules_of
overflow_sub-day c = rw (c.numbers-day_zero.ensures, c.whole_days.ensures) c.requires.from

pub overflow_cast-day : goal.overflow_cast-day
unfolding rules_of
overflow_cast-day c = rw (c.numbers-day_zero.ensures, c.whole_days.ensures) (omega (arith, c.requires.from, c.requires.to))

pub returns : goal.returns
unfolding rules_of
returns c = rw (c.whole_ke-ke.ensures, c.fen_of_day-fen.ensures, c.whole_days.ensures, c.numbers-day_zero.ensures)
