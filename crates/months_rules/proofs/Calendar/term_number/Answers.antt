-- `months_rules::Calendar::term_number` meets its contract: it counts on from the number of mid-term 0.
use Rattle.std.proofs.Common.{arith}
use Rattle.months_rules.proofs.Calendars.{sizes}
use Rattle.months_rules.proofs.Calendar.term_number.Goals as goal

pub overflow_add-result : goal.overflow_add-result
overflow_add-result c = rw c.numbers.ensures (omega (arith, sizes c.args.self))

pub overflow_sub-result : goal.overflow_sub-result
overflow_sub-result c = rw c.numbers.ensures (omega (arith, sizes c.args.self))
