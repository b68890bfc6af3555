-- `months::last_term_by` meets its contract: it asks for the last mid-term by the eve of the next month, and whether that falls before the month.
use Rattle.std.proofs.Common.{◌≡◌, ℕ, ◌+◌, ◌<◌, ◌≤◌, ◌^◌, ap, arith}
use Rattle.months_rules.specs.declared.Begun.{Begun}
use Rattle.months_rules.specs.declared.Calendar.{Calendar}
use Rattle.months_rules.specs.Rules.{rules_of}
use Rattle.months_rules.proofs.Calendars.{sizes, steady}
use Rattle.months.specs.Months.{last_term, is_leap}
use Rattle.months.specs.Room.{Ending}
use Rattle.months.proofs.last_term_by.Goals as goal

-- the next month starts after day 0, and by the end of its word
next_day : (c : Calendar) (b : Begun) (next : ℕ) → Ending (rules_of c) b next → (0 < next) × (next ≤ 2 ^ 32)
next_day c b next h =
    omega (arith, h.starting.small, h.next_own, (steady c).months_grow.grows b.month, (sizes c).start_size (b.month + 1))

pub overflow_sub-next : goal.overflow_sub-next
overflow_sub-next c = omega (arith, (next_day _ _ _ c.requires).0)

pub overflow_cast-next : goal.overflow_cast-next
overflow_cast-next c = omega (arith, (next_day _ _ _ c.requires).1)

pub returns : goal.returns
unfolding last_term is_leap
returns c =
    let own : c.args.month.start ≡ (rules_of c.args.calendar).start c.args.month.month = ap (λ b. b.start) c.requires.starting.own in
    rw (c.mid_term_by-last.ensures, own, c.requires.next_own)
