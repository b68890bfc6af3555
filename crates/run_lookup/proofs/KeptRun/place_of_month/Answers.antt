-- `KeptRun::place_of_month` meets its contract: the last dates of a run's months name them, and no month has a number above 12.
use Rattle.std.proofs.Common.{arith}
use Rattle.run_lookup.proofs.DayOfDate.{held_year_small, found_named}
use Rattle.run_lookup.proofs.KeptRun.place_of_month.Goals as goal

pub overflow_cast-date : goal.overflow_cast-date
overflow_cast-date c = omega (arith, held_year_small (record { kept = c.args.self.kept; holds = c.requires }))

pub returns : goal.returns
returns c =
    let told = rw c.date_number.ensures at c.place_with_name.ensures in
    rw told (found_named (record { kept = c.args.self.kept; holds = c.requires }) c.args.month c.args.leap c.if-month-gt12.false)
