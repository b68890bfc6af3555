-- `calendar_year::list_to` meets its contract: before each turn the months so far are listed, and the next is begun; the last ends where the end begins.
use Rattle.std.proofs.Common.{◌≡◌, ℕ, false, refl, ap, ◌∙◌, ◌+◌, ◌-◌, ◌<◌, arith}
use Rattle.numbers.specs.Places.{places}
use Rattle.months_rules.specs.declared.Begun.{Begun}
use Rattle.months_rules.specs.declared.Calendar.{Calendar}
use Rattle.months_rules.specs.Rules.{Rules, rules_of}
use Rattle.months_rules.specs.FirstMonths.{begun}
use Rattle.months.specs.Room.{CoveredMonth}
use Rattle.calendar_year.specs.declared.Month.{Month}
use Rattle.calendar_year.specs.declared.Year.{Year}
use Rattle.calendar_year.specs.Years.{listed, no_month, leap_number}
use Rattle.calendar_year.specs.Room.{CoveredMonths, listed_behind, listing}
use Rattle.calendar_year.proofs.Listed.{next_listed}
use Rattle.calendar_year.proofs.list_to.Goals as goal

-- in the loop, the month is a covered one, and one of thirteen
record Within (k : Calendar) (first month : Begun) (place : ℕ) : Type 0 where
  covered : CoveredMonth (rules_of k) month
  place_small : place < 13

within : (k : Calendar) (first end month : Begun) (place : ℕ) → CoveredMonths (rules_of k) first end → first.month + place < end.month → month ≡ begun (rules_of k) (first.month + place) → Within k first month place
within k first end month place m before own =
    record {
      covered =
          rw own
          (record { own = refl; covering = record { from = omega (arith, m.from); to = omega (arith, m.to, before) } });
      place_small = omega (arith, m.at_most_13, before);
    }

-- one more month is listed
grown : (r : Rules) (days first place : ℕ) (month : Begun) (m : Month) (year next : Year) → place < 13 → month ≡ begun r (first + place) → year ≡ listing r days first place → m ≡ listed r month.month → next ≡ listed_behind m year → next ≡ listing r days first (place + 1)
grown r days first place month m year next small at so_far is e = rw (is, at, so_far) at e ∙ next_listed r days first place small

-- a month of zeros
no_month_is : (m : Month) → m.number ≡ 0 × (m.leap ≡ false × (m.length ≡ 0 × m.first_day ≡ 0)) → m ≡ no_month
no_month_is m e =
    let zeros : record { number = m.number; leap = m.leap; length = m.length; first_day = m.first_day } ≡ no_month = rw (e.0, e.1.0, e.1.1.0, e.1.1.1) in
    zeros

pub loop-number-init : goal.loop-number-init
unfolding leap_number places
loop-number-init c =
    let here : c.args.first.month + 0 ≡ c.args.first.month = omega arith in
    (omega arith, rw here c.requires.first_own, rw (no_month_is _ c.default.ensures))

pub listed_month-requires-clause-covered_month : goal.listed_month-requires-clause-covered_month
listed_month-requires-clause-covered_month c =
    let i = c.loop-number.invariant in
    (within _ _ _ _ _ c.requires (omega (arith, i.0, c.loop-number-test.true)) i.1).covered

pub listed_month-requires-clause-next_value : goal.listed_month-requires-clause-next_value
listed_month-requires-clause-next_value c =
    let i = c.loop-number.invariant in
    rw (i.1, i.0) (ap (λ b. b.start) c.begin-next.ensures)

pub loop-number-preserved : goal.loop-number-preserved
loop-number-preserved c =
    let i = c.loop-number.invariant in
    let place = c.loop-number.year.count in
    let first = c.args.first.month in
    let r = rules_of c.args.calendar in
    let w = within _ _ _ _ _ c.requires (omega (arith, i.0, c.loop-number-test.true)) i.1 in
    let new = grown r c.args.days first place _ _ _ _ w.place_small i.1 i.2 c.listed_month.ensures c.list.ensures in
    let on : c.loop-number.number ≡ first + (place + 1) = omega (arith, i.0) in
    rw new (omega (arith, i.0), rw on at c.begin-next.ensures, refl)

pub returns : goal.returns
returns c =
    let i = c.loop-number.invariant in
    let place = c.loop-number.year.count in
    let first = c.args.first.month in
    let r = rules_of c.args.calendar in
    let w = within _ _ _ _ _ c.requires (omega (arith, i.0, c.loop-number-test.false, c.loop-number.auto.number-end, c.requires.some)) i.1 in
    let all : place + 1 ≡ c.args.end.month - first = omega (arith, i.0, c.loop-number-test.false, c.loop-number.auto.number-end, c.requires.some) in
    rw (← all) (grown r c.args.days first place _ _ _ _ w.place_small i.1 i.2 c.listed_month-2.ensures c.list-2.ensures)
