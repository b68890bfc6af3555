-- `senmyo_hours::eclipse_at` meets its contract: what it tells is read off the sky, whose numbers are small and far from the start of the count.
use Rattle.std.proofs.Common.{sym, ◌∙◌, arith}
use Rattle.senmyo.specs.FullMoons.{full_moon_sky}
use Rattle.senmyo_hours.proofs.HourLaws.{change_back, timed, parts_few}
use Rattle.senmyo_hours.proofs.eclipse_at.Goals as goal

pub times_from-requires : goal.times_from-requires
unfolding full_moon_sky
times_from-requires c =
    let found = rw (c.grade_of.ensures, c.node_of-node.ensures, c.full_moon_sky-sky.ensures) at c.whole_parts.ensures in
    let told = rw (c.byo_to_anomaly_seconds.ensures, c.full_moon_sky-sky.ensures) at c.change_of-change.ensures in
    let length = rw (change_back c.args.number told) at c.length_of-length.ensures in
    rw (length, c.byo_to_fen.ensures, c.full_moon_sky-sky.ensures) (timed _ _ (parts_few c.args.number _ (sym found ∙ c.in_ok-parts.was)) (omega arith))
