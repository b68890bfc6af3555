-- `senmyo::full_moon_sky` meets its contract: the corrections at the mean full moon are small enough for their words, and moved by them it is a natural.
use Rattle.std.proofs.Common.{◌≡◌, ap, ◌∙◌, arith, ◌+ℤ◌, ℤ}
use Rattle.numbers.proofs.Size.{word, worked_fits, worked_word, told_word}
use Rattle.units.specs.declared.Byo.{Byo}
use Rattle.units.specs.Units.{byo_to_anomaly_seconds}
use Rattle.senmyo_means.specs.Means.{mean_full_moon}
use Rattle.senmyo_sun.specs.Sun.{sun_of}
use Rattle.senmyo.specs.Phases.{moon_at, corrections}
use Rattle.senmyo.specs.FullMoons.{correction_to_byo, full_moon_sky}
use Rattle.senmyo.proofs.PhaseLaws.{sun_small, moon_small, sun_word, moon_word, together, in_byo, after_start}
use Rattle.senmyo.proofs.full_moon_sky.Goals as goal

-- the correction is read back from its word as it is, in fen ..
back : (m : Byo) {sun moon : ℤ} → sun ≡ sun_of m → moon ≡ moon_at m → word (word sun +ℤ word moon) ≡ corrections m
back m of_sun of_moon = rw (of_sun, of_moon) (worked_word (together m) (omega arith)).same

-- .. and in byo
byo_back : (m : Byo) {sun moon b : ℤ} → sun ≡ sun_of m → moon ≡ moon_at m → b ≡ correction_to_byo (word (word sun +ℤ word moon)) → word b ≡ correction_to_byo (corrections m)
byo_back m of_sun of_moon e = (told_word (e ∙ ap correction_to_byo (back m of_sun of_moon)) (in_byo m) (omega arith)).same

pub overflow_add-sun : goal.overflow_add-sun
overflow_add-sun c = rw (c.sun_of-sun.ensures, c.moon_at-moon.ensures) (worked_fits (together _) (omega arith))

pub correction_to_byo-requires : goal.correction_to_byo-requires
correction_to_byo-requires c =
    rw (back _ c.sun_of-sun.ensures c.moon_at-moon.ensures) (omega (arith, (together c.mean_full_moon-mean.result).small.size))

pub moved-requires : goal.moved-requires
moved-requires c =
    let by = in_byo (mean_full_moon c.args.number) in
    rw (byo_back _ c.sun_of-sun.ensures c.moon_at-moon.ensures c.correction_to_byo.ensures, c.mean_full_moon-mean.ensures)
    (record { count_small = omega arith; by_small = omega (arith, by.size); after_start = after_start _ })

pub node_place-node-requires : goal.node_place-node-requires
node_place-node-requires c =
    let mean = mean_full_moon c.args.number in
    rw (c.sun_of-sun.ensures, c.moon_at-moon.ensures, c.mean_full_moon-mean.ensures, sun_word, moon_word)
    (record {
      mean_small = omega arith;
      sun_small = omega (arith, (sun_small mean).size);
      moon_small = omega (arith, (moon_small (byo_to_anomaly_seconds mean)).size);
    })

pub returns : goal.returns
unfolding full_moon_sky
returns c =
    rw (
      c.node_place-node.ensures,
      c.moved.ensures,
      byo_back _ c.sun_of-sun.ensures c.moon_at-moon.ensures c.correction_to_byo.ensures,
      c.sun_of-sun.ensures,
      c.moon_at-moon.ensures,
      c.mean_full_moon-mean.ensures,
      sun_word,
      moon_word,
    )
