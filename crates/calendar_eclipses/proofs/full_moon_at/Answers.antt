-- `calendar_eclipses::full_moon_at` meets its contract: what it tells is read off the sky, and the full moon of a covered month has a day number.
use Rattle.std.proofs.Common.{arith}
use Rattle.senmyo.proofs.PhaseLaws.{node_within}
use Rattle.months_rules.specs.Rules.{rules_of}
use Rattle.calendar_eclipses.specs.Eclipses.{full_moon_at}
use Rattle.calendar_eclipses.proofs.Numbered.{full_numbered}
use Rattle.calendar_eclipses.proofs.full_moon_at.Goals as goal

pub node_of-node-requires : goal.node_of-node-requires
node_of-node-requires c = rw c.full_moon_sky-sky.ensures (node_within _)

pub overflow_sub-result : goal.overflow_sub-result
unfolding rules_of
overflow_sub-result c =
    let days = rw (c.byo_to_fen-moment.ensures, c.full_moon_sky-sky.ensures) at c.whole_days.ensures in
    rw (c.numbers.ensures, days) (omega (arith, (full_numbered _ c.requires).from))

pub overflow_cast-result : goal.overflow_cast-result
unfolding rules_of
overflow_cast-result c =
    let days = rw (c.byo_to_fen-moment.ensures, c.full_moon_sky-sky.ensures) at c.whole_days.ensures in
    let h = full_numbered _ c.requires in
    rw (c.numbers.ensures, days) (omega (arith, h.from, h.to))

pub returns : goal.returns
unfolding rules_of full_moon_at
returns c =
    let days = rw (c.byo_to_fen-moment.ensures, c.full_moon_sky-sky.ensures) at c.whole_days.ensures in
    rw (c.numbers.ensures, days, c.fen_of_day.ensures, c.node_of-node.ensures, c.byo_to_fen-moment.ensures, c.full_moon_sky-sky.ensures)
