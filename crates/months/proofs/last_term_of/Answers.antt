-- `months::last_term_of` meets its contract: the last mid-term by day 30 is the last by the month's end, unless the month ends before it falls.
use Rattle.std.proofs.Common.{◌≡◌, ℕ, true, false, ◌+◌, ◌<◌, ◌^◌, sym, ap, arith}
use borrow.Author.Tests.{le-ltb}
use lib.Dec.{ltb}
use Rattle.numbers.specs.Spans.{Holds}
use Rattle.numbers.proofs.Spans.{span_holds}
use Rattle.cycles.specs.Cycles.{last_by, dated}
use Rattle.cycles.specs.declared.Dated.{Dated}
use Rattle.months_rules.specs.declared.Begun.{Begun}
use Rattle.months_rules.specs.declared.Calendar.{Calendar}
use Rattle.months_rules.specs.Rules.{Rules, mid, rules_of}
use Rattle.months_rules.proofs.Steady.{terms_grow}
use Rattle.months_rules.proofs.Calendars.{sizes, steady}
use Rattle.months.specs.Room.{Starting}
use Rattle.months.proofs.Terms.{last_told_lem, before_end, not_term_0, past_end, before_start}
use Rattle.months.proofs.last_term_of.Goals as goal

module _ (c : Calendar) (b : Begun) (starting : Starting (rules_of c) b) where
  abbrev r : Rules
  r = rules_of c

  -- the month's own day, and that it is small
  own : b.start ≡ r.start b.month
  own = ap (λ m. m.start) starting.own

  small : b.start + 30 < 2 ^ 32
  small = omega (arith, starting.small, own, (sizes c).start_size b.month)

  -- the last mid-term by day 30
  abbrev late : ℕ
  late = last_by r.terms (r.start b.month + 29)

  by_30 : Holds (mid r) late (r.start b.month + 29)
  by_30 = span_holds (mid r) (terms_grow _ (steady c)) _

  told : {last : Dated} → last ≡ dated r.terms (last_by r.terms (b.start + 29)) → last ≡ dated r.terms late
  told e = rw own at e

pub overflow_add-month : goal.overflow_add-month
overflow_add-month c = omega (arith, small _ _ c.requires.starting)

pub overflow_cast-month : goal.overflow_cast-month
overflow_cast-month c = omega (arith, small _ _ c.requires.starting)

pub overflow_add-month-2 : goal.overflow_add-month-2
overflow_add-month-2 c = omega (arith, small _ _ c.requires.starting)

pub returns-then-day-month : goal.returns-then-day-month
returns-then-day-month c =
    let s = c.requires.starting in
    let e = told _ _ s c.mid_term_by-last.ensures in
    let early = rw e at c.if-day-month.true in
    let last = before_end _ (steady c.args.calendar) _ _ c.requires.month_days (by_30 _ _ s) (omega (arith, early, own _ _ s, c.requires.month_days)) in
    rw e (last_told_lem _ (steady c.args.calendar) _ _ _ last (ap (ltb (mid (r _ _ s) (late _ _ s))) (sym (own _ _ s))))

pub returns-then-day-begin : goal.returns-then-day-begin
returns-then-day-begin c =
    let s = c.requires.starting in
    let e = told _ _ s c.mid_term_by-last.ensures in
    let after = rw e at c.if-day-month.false in
    let inside = rw (e, c.begin.ensures) at c.if-day-begin.true in
    let not_before = le-ltb (mid (r _ _ s) (late _ _ s)) ((r _ _ s).start c.args.month.month) (omega (arith, after, own _ _ s)) in
    rw e (last_told_lem _ (steady c.args.calendar) _ _ false (before_end _ (steady c.args.calendar) _ _ c.requires.month_days (by_30 _ _ s) inside) not_before)

pub overflow_sub-result : goal.overflow_sub-result
overflow_sub-result c =
    let s = c.requires.starting in
    let e = told _ _ s c.mid_term_by-last.ensures in
    let ended = rw (e, c.begin.ensures) at c.if-day-begin.false in
    rw e (not_term_0 _ (steady c.args.calendar) _ _ c.requires.month_days (by_30 _ _ s) ended)

pub returns : goal.returns
returns c =
    let s = c.requires.starting in
    let e = told _ _ s c.mid_term_by-last.ensures in
    let ended = rw (e, c.begin.ensures) at c.if-day-begin.false in
    let days = c.requires.month_days in
    let last = past_end _ (steady c.args.calendar) _ _ days (by_30 _ _ s) ended in
    rw e (last_told_lem _ (steady c.args.calendar) _ _ true last (before_start _ (steady c.args.calendar) _ _ days (by_30 _ _ s) ended))
