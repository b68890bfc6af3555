-- Before each turn the months so far are listed, and the next is begun.
use Rattle.std.proofs.Common.{◌≡◌, ◌+◌}
use Rattle.months_rules.specs.Rules.{rules_of}
use Rattle.months_rules.specs.FirstMonths.{begun}
use Rattle.calendar_year.specs.Room.{listing}
use Rattle.calendar_year.proofs.list_to.Given as goal

abbrev pub invariant-loop-number : goal.invariant-loop-number
invariant-loop-number l =
    (l.fn.first.month + l.year.count + 1 ≡ l.number) × (l.month ≡ begun (rules_of l.calendar) (l.fn.first.month + l.year.count)) × (l.year ≡ listing (rules_of l.calendar) l.fn.days l.fn.first.month l.year.count)
