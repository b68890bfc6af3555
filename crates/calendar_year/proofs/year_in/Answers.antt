-- `calendar_year::year_in` meets its contract: the months from that of the Rain Water to the one before the next year's are listed.
use Rattle.std.proofs.Common.{◌≡◌, ℕ, refl, ap, ◌∙◌, ◌+◌, arith}
use Rattle.months_rules.specs.declared.Calendar.{Calendar}
use Rattle.months_rules.specs.declared.Begun.{Begun}
use Rattle.months_rules.specs.Rules.{mid, rules_of}
use Rattle.months_rules.specs.FirstMonths.{begun, month_of, first_month}
use Rattle.months_rules.proofs.FirstMonths.{first_with, next_with}
use Rattle.months_rules.proofs.Calendars.{steady}
use Rattle.months.proofs.CoveredYears.{after_first, before_last}
use Rattle.calendar_year.specs.Years.{year_in}
use Rattle.calendar_year.proofs.Covered.{year_room}
use Rattle.calendar_year.proofs.year_in.Goals as goal

-- the two months that are found
first_is : (k : Calendar) (y : ℕ) {day : ℕ} {b : Begun} → day ≡ mid (rules_of k) ((rules_of k).rain_water y + 0) → b ≡ begun (rules_of k) (month_of (rules_of k) day) → b ≡ begun (rules_of k) (first_month (rules_of k) y)
first_is k y told e = rw told at e ∙ ap (begun (rules_of k)) (first_with (rules_of k) (steady k) y)

next_is : (k : Calendar) (y : ℕ) {day : ℕ} {b : Begun} → day ≡ mid (rules_of k) ((rules_of k).rain_water y + 12) → b ≡ begun (rules_of k) (month_of (rules_of k) day) → b ≡ begun (rules_of k) (first_month (rules_of k) (y + 1))
next_is k y told e = rw told at e ∙ ap (begun (rules_of k)) (next_with (rules_of k) (steady k) y)

pub overflow_sub-days : goal.overflow_sub-days
overflow_sub-days c =
    rw (first_is _ _ c.term_day.ensures c.month_of-first.ensures, next_is _ _ c.term_day-2.ensures c.month_of-next.ensures)
    (year_room c.args.known.calendar c.args.known.year c.args.known.covered).days_from

pub overflow_cast-days : goal.overflow_cast-days
overflow_cast-days c =
    let room = year_room c.args.known.calendar c.args.known.year c.args.known.covered in
    rw (first_is _ _ c.term_day.ensures c.month_of-first.ensures, next_is _ _ c.term_day-2.ensures c.month_of-next.ensures)
    (omega (arith, room.days_from, room.days_to))

pub list_to-requires : goal.list_to-requires
list_to-requires c =
    let room = year_room c.args.known.calendar c.args.known.year c.args.known.covered in
    rw (first_is _ _ c.term_day.ensures c.month_of-first.ensures, next_is _ _ c.term_day-2.ensures c.month_of-next.ensures)
    (record {
      first_own = refl;
      end_own = refl;
      from = after_first c.args.known.calendar c.args.known.year c.args.known.covered.from;
      to = before_last c.args.known.calendar c.args.known.year c.args.known.covered.to;
      some = omega (arith, room.at_least);
      at_most_13 = room.at_most;
    })

pub returns : goal.returns
unfolding year_in
returns c =
    rw (
      c.list_to.ensures,
      first_is _ _ c.term_day.ensures c.month_of-first.ensures,
      next_is _ _ c.term_day-2.ensures c.month_of-next.ensures,
    )
