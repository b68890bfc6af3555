-- A calendar's number is taken as it should be: each is asked for in turn.
use Rattle.std.proofs.Common.{◌≡◌, rules}
use borrow.Author.Tests.{ne_eqb}
use Rattle.answers.specs.Conditions.{asking}
use Rattle.months_rules.specs.Numbered.{calendar_of}
use Rattle.months_rules.proofs.CalendarTryFromU64.try_from.Goals as goal

pub returns-in-1 : goal.returns-in-1
unfolding asking calendar_of
returns-in-1 c = rw c.in-1.is

pub returns-in-2 : goal.returns-in-2
unfolding asking calendar_of
returns-in-2 c = rw c.in-2.is

pub returns-in_default : goal.returns-in_default
unfolding asking calendar_of
returns-in_default c =
    let not_1 : ¬ (c.args.number ≡ 1) = search rules in
    let not_2 : ¬ (c.args.number ≡ 2) = search rules in
    rw (ne_eqb _ _ not_1, ne_eqb _ _ not_2)
