-- `julian::julian_date` meets its contract: its numerator and its divisor are converted exactly, and divided once.
use native.Mathlib.Omega.{arith}
use Rattle.julian.specs.Julian.{instant}
use Rattle.julian.proofs.Division.{once}
use Rattle.julian.proofs.Moment.{days_gone}
use Rattle.julian.proofs.julian_date.Goals as goal

pub returns : goal.returns
unfolding instant
returns c =
    let days = days_gone _ _ _ c.requires in
    once _ _ (omega arith) (omega arith) (omega arith)
