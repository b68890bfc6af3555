-- `senmyo_moon::moon_of` meets its contract: where the moment stands gives the correction.
use Rattle.std.proofs.Common.{rules}
use Rattle.senmyo_moon.proofs.Rows.{moon_at_lem, roundable}
use Rattle.senmyo_moon.proofs.moon_of.Goals as goal

pub rounded_at-requires : goal.rounded_at-requires
rounded_at-requires c = rw c.stand_at.ensures (roundable c.args.at)

pub returns : goal.returns
returns c = rw (moon_at_lem, ← c.stand_at.ensures) (search rules)
