-- `run_content::with_year` meets its contract: before each turn the year's months so far stand behind the run's own.
use Rattle.std.proofs.Common.{◌≡◌, ◌+◌, ◌<◌, refl, arith}
use Rattle.std.proofs.lemmas.List.{get_or-take, length-take}
use Rattle.calendar_year.specs.Years.{no_month}
use Rattle.run_content.proofs.Content.{own_rows}
use Rattle.run_content.proofs.Extending.{month_placed, others_kept, year_held}
use Rattle.run_content.proofs.with_year.Goals as goal

pub loop-listed-init : goal.loop-listed-init
loop-listed-init c =
    let here : c.args.run.now.count + 0 ≡ c.args.run.now.count = omega arith in
    record { others = refl; rows = rw here (own_rows c.requires.extendable.own) }

pub loop-listed-preserved : goal.loop-listed-preserved
loop-listed-preserved c =
    let taken : c.loop-listed.listed < c.args.next.count = omega (arith, c.loop-listed-test.true, length-take c.args.next.count c.args.next.months) in
    let one = get_or-take c.args.next.count c.args.next.months c.loop-listed.listed no_month taken in
    record {
      others = others_kept c.requires c.loop-listed.invariant.others;
      rows = rw one (month_placed c.requires c.loop-listed.listed no_month taken (rw one at c.last_date.ensures) c.loop-listed.invariant.rows);
    }

pub overflow_add-run-2 : goal.overflow_add-run-2
overflow_add-run-2 c = rw c.loop-listed.invariant.others (omega arith)

pub overflow_add-run-3 : goal.overflow_add-run-3
overflow_add-run-3 c = rw c.loop-listed.invariant.others (omega arith)

pub returns : goal.returns
returns c =
    let all : c.loop-listed.listed ≡ c.args.next.count = omega (arith, c.loop-listed-test.false, c.loop-listed.auto.listed-end, length-take c.args.next.count c.args.next.months) in
    year_held c.requires c.loop-listed.invariant.others (rw all at c.loop-listed.invariant.rows)
