-- `calendar_date::date_of` meets its contract: after the calendar, it asks whether the day is covered, and gives the date on it.
use Rattle.std.proofs.Common.{◌≡◌, ℕ, ◌+◌, ◌<◌, ◌≤◌, ◌^◌, arith}
use Rattle.answers.proofs.Answers.{handed_on}
use borrow.Author.Tests.{le-leb, lt-leb, lt-ltb, le-ltb}
use Rattle.answers.specs.Conditions.{asking}
use Rattle.months_rules.specs.declared.Calendar.{Calendar}
use Rattle.months_rules.specs.declared.CalendarNumbers.{CalendarNumbers}
use Rattle.months_rules.specs.Rules.{rules_of}
use Rattle.months_rules.specs.Room.{numbers_of}
use Rattle.months.proofs.CoveredYears.{edges}
use Rattle.calendar_date.specs.Room.{CoveredDay}
use Rattle.calendar_date.proofs.Steps.{date_asked}
use Rattle.calendar_date.proofs.date_of.Goals as goal

-- the day is covered, and fits its word
covered : (k : Calendar) (n : CalendarNumbers) (day : ℕ) → n ≡ numbers_of (rules_of k) → n.first_day ≤ day → day < n.after_last → CoveredDay (rules_of k) (day + n.day_zero)
covered k n day told from to =
    let first = rw told at from in
    let after = rw told at to in
    rw told (record { from = omega (arith, first); to = omega (arith, after) })

in_word : (k : Calendar) (n : CalendarNumbers) (day : ℕ) → n ≡ numbers_of (rules_of k) → n.first_day ≤ day → day < n.after_last → day + n.day_zero < 2 ^ 32
in_word k n day told from to = omega (arith, (covered k n day told from to).to, (edges k).last_day, (edges k).day_zero_lem)

pub returns-in_err-calendar : goal.returns-in_err-calendar
returns-in_err-calendar c = rw (handed_on _ _ c.from_residual.ensures.1, date_asked, ← c.in_err-calendar.ensures)

pub returns-then-day-numbers : goal.returns-then-day-numbers
unfolding asking
returns-then-day-numbers c =
    rw (date_asked, ← c.in_ok-calendar.ensures, lt-leb _ _ (rw c.numbers-numbers.ensures at c.if-day-numbers.true))

pub returns-then-numbers-day : goal.returns-then-numbers-day
unfolding asking
returns-then-numbers-day c =
    let told = c.numbers-numbers.ensures in
    let after = (numbers_of (rules_of c.in_ok-calendar.calendar)).after_last in
    let late = le-ltb c.args.day after (omega (arith, rw told at c.if-numbers-day.true)) in
    rw (date_asked, ← c.in_ok-calendar.ensures, le-leb _ _ (rw told at c.if-day-numbers.false), late)

pub overflow_add-day : goal.overflow_add-day
overflow_add-day c = omega (arith, in_word _ _ _ c.numbers-numbers.ensures c.if-day-numbers.false c.if-numbers-day.false)

pub overflow_cast-day : goal.overflow_cast-day
overflow_cast-day c = omega (arith, in_word _ _ _ c.numbers-numbers.ensures c.if-day-numbers.false c.if-numbers-day.false)

pub date_in-requires : goal.date_in-requires
date_in-requires c = covered _ _ _ c.numbers-numbers.ensures c.if-day-numbers.false c.if-numbers-day.false

pub returns : goal.returns
unfolding asking
returns c =
    let told = c.numbers-numbers.ensures in
    let low = le-leb _ _ (rw told at c.if-day-numbers.false) in
    let high = lt-ltb _ _ (rw told at c.if-numbers-day.false) in
    rw (date_asked, ← c.in_ok-calendar.ensures, low, high, c.date_in.ensures, told)
