-- `senmyo::new_moon` meets its contract: the mean new moon, corrected, is a natural.
use Rattle.std.proofs.Common.{arith}
use Rattle.numbers.proofs.Size.{worked_fits, worked_word}
use Rattle.units.specs.Units.{fen_to_byo}
use Rattle.senmyo_means.specs.Means.{mean_new_moon}
use Rattle.senmyo.specs.Phases.{new_moon}
use Rattle.senmyo.proofs.PhaseLaws.{together, new_moon_after_start}
use Rattle.senmyo.proofs.new_moon.Goals as goal

pub overflow_add-sun : goal.overflow_add-sun
overflow_add-sun c = rw (c.sun_of-sun.ensures, c.moon_at.ensures) (worked_fits (together _) (omega arith))

pub moved-requires : goal.moved-requires
moved-requires c =
    let k = c.args.number in
    let by = together (fen_to_byo (mean_new_moon k)) in
    rw (c.sun_of-sun.ensures, c.moon_at.ensures, c.fen_to_byo-at.ensures, c.mean_new_moon-mean.ensures, (worked_word by (omega arith)).same)
    (record { count_small = omega arith; by_small = omega (arith, by.small.size); after_start = new_moon_after_start k })

pub returns : goal.returns
unfolding new_moon
returns c =
    let by = worked_word (together (fen_to_byo (mean_new_moon c.args.number))) (omega arith) in
    rw (c.moved.ensures, c.sun_of-sun.ensures, c.moon_at.ensures, c.fen_to_byo-at.ensures, c.mean_new_moon-mean.ensures, by.same)
