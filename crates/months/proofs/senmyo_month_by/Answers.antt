-- `months::senmyo_month_by` meets its contract: where the last month that may begin by the day is the last that must, it has the day; else its first day tells.
use Rattle.std.proofs.Common.{◌≡◌, sym, ◌∙◌}
use Rattle.senmyo.specs.Room.{latest_month, sure_month}
use Rattle.senmyo.proofs.NearMean.{sure_begun}
use Rattle.months.proofs.SenmyoMonths.{latest_has, before_has}
use Rattle.months.proofs.senmyo_month_by.Goals as goal

pub returns-then-sure_month-latest : goal.returns-then-sure_month-latest
returns-then-sure_month-latest c =
    let day = c.args.day in
    let same : sure_month day ≡ latest_month day = sym c.sure_month.ensures ∙ c.if-sure_month-latest.true ∙ c.latest_month-latest.ensures in
    rw c.latest_month-latest.ensures (sym (latest_has day (rw same at (sure_begun day))))

pub returns-then-new_moon_day-day : goal.returns-then-new_moon_day-day
returns-then-new_moon_day-day c =
    let begun = rw (c.new_moon_day.ensures, c.latest_month-latest.ensures) at c.if-new_moon_day-day.true in
    rw c.latest_month-latest.ensures (sym (latest_has c.args.day begun))

pub returns : goal.returns
returns c =
    let later = rw (c.new_moon_day.ensures, c.latest_month-latest.ensures) at c.if-new_moon_day-day.false in
    rw c.latest_month-latest.ensures (sym (before_has c.args.day later))
