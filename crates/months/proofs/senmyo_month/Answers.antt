-- `months::senmyo_month` meets its contract: the last month that may begin by the day has it, unless it begins later; then the month before has it.
use Rattle.std.proofs.Common.{◌≡◌, ℕ}
use Rattle.senmyo.specs.Room.{latest_month}
use Rattle.months_rules.specs.declared.Begun.{Begun}
use Rattle.months_rules.specs.declared.Calendar.TheVariants.{Senmyo}
use Rattle.months_rules.specs.Rules.{senmyo, rules_of}
use Rattle.months_rules.specs.FirstMonths.{begun}
use Rattle.months.proofs.SenmyoMonths.{latest_has, latest_from_1, before_has}
use Rattle.months.proofs.senmyo_month.Goals as goal

latest : {b : Begun} {k : ℕ} (day : ℕ) → k ≡ latest_month day → b ≡ begun (rules_of Senmyo) k → b ≡ begun senmyo (latest_month day)
unfolding rules_of
latest day k e = rw k at e

pub returns-then-latest-day : goal.returns-then-latest-day
returns-then-latest-day c =
    let e = latest c.args.day c.latest_month.ensures c.begin-latest.ensures in
    rw (latest_has c.args.day (rw e at c.if-latest-day.true)) e

pub overflow_sub-latest : goal.overflow_sub-latest
overflow_sub-latest c =
    let e = latest c.args.day c.latest_month.ensures c.begin-latest.ensures in
    rw e (latest_from_1 c.args.day (rw e at c.if-latest-day.false))

pub returns : goal.returns
unfolding rules_of
returns c =
    let e = latest c.args.day c.latest_month.ensures c.begin-latest.ensures in
    rw (before_has c.args.day (rw e at c.if-latest-day.false)) (rw e at c.begin.ensures)
