-- `calendar_year::listed_month` meets its contract: the number, the length and the first day are those of the month.
use Rattle.std.proofs.Common.{◌≡◌, ap, arith}
use Rattle.months_rules.specs.Rules.{rules_of}
use Rattle.months_rules.proofs.Calendars.{steady}
use Rattle.months.proofs.Terms.{number_of_last}
use Rattle.months.proofs.CoveredMonths.{month_room}
use Rattle.calendar_year.proofs.listed_month.Goals as goal

pub last_term_by-last-requires : goal.last_term_by-last-requires
last_term_by-last-requires c = record { starting = (month_room _ _ c.requires.covered_month).fits; next_own = c.requires.next_value }

pub overflow_sub-result : goal.overflow_sub-result
overflow_sub-result c = omega (arith, c.requires.next_value, (month_room _ _ c.requires.covered_month).at_least)

pub overflow_cast-result : goal.overflow_cast-result
overflow_cast-result c = omega (arith, c.requires.next_value, (month_room _ _ c.requires.covered_month).at_most)

pub overflow_sub-result-2 : goal.overflow_sub-result-2
overflow_sub-result-2 c = rw c.numbers.ensures (omega (arith, (month_room _ _ c.requires.covered_month).from))

pub overflow_cast-result-2 : goal.overflow_cast-result-2
overflow_cast-result-2 c =
    let r = month_room _ _ c.requires.covered_month in
    rw c.numbers.ensures (omega (arith, r.to, r.at_least))

pub returns : goal.returns
returns c =
    let at = c.args in
    let r = rules_of at.calendar in
    let own : at.month.start ≡ r.start at.month.month = ap (λ b. b.start) c.requires.covered_month.own in
    rw (
      c.term_number.ensures,
      c.last_term_by-last.ensures,
      number_of_last r (steady at.calendar) at.month.month,
      c.numbers.ensures,
      own,
      c.requires.next_value,
    )
