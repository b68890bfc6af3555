-- `check_print::print_moons` prints numbers only: instants that are given are no nan, so that their bytes can be told.
use Rattle.std.proofs.Common.{sym}
use Rattle.calendar_moons.proofs.InstantLaws.{both_numbers}
use Rattle.check_print.proofs.print_moons.Goals as goal

pub float_to_bits-moons : goal.float_to_bits-moons
float_to_bits-moons g c = (both_numbers _ _ _ _ _ (sym c.in-Ok.ensures)).new

pub float_to_bits-moons-2 : goal.float_to_bits-moons-2
float_to_bits-moons-2 g c = (both_numbers _ _ _ _ _ (sym c.in-Ok.ensures)).full
