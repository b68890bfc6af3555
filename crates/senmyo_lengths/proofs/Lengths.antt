-- That a month of Senmyo has 29 or 30 days is computed for the months that the covered years need.
use mathlib.Core.Bool.{Bool, ◌&&◌}
use Prim.Native.Nat.{ℕ, ◌+◌, ◌<◌, ◌≤◌}
use lib.Dec.{T, leb, leb→le, ltb→lt}
use mir.Facts.{and_yes}
use Rattle.numbers.specs.Spans.{Takes}
use Rattle.numbers.proofs.Tests.{every_two, at_each_two}
use Rattle.senmyo_means.specs.Means.{mid_term_day, rain_water}
use Rattle.senmyo.specs.Phases.{new_moon_day}
use Rattle.senmyo.proofs.Worked.{day_at}

-- the first month that is tested, one before month 1 of 822, and how many are, up to one after month 1 of 1685
abbrev pub first_tested : ℕ
first_tested = 87445919

abbrev pub tested : ℕ
tested = 10677

-- from a new moon's day to the next
month_test : ℕ → ℕ → Bool
month_test here next = leb (here + 29) next && leb next (here + 30)

all : T (every_two month_test new_moon_day first_tested tested)
unfolding every_two month_test day_at
all = tt

pub month_takes : (k : ℕ) → first_tested ≤ k → k < first_tested + tested → Takes new_moon_day k 29 30
unfolding month_test
month_takes k low high =
    let here = new_moon_day k in
    let next = new_moon_day (k + 1) in
    let (short, long) = and_yes (leb (here + 29) next) (leb next (here + 30)) (at_each_two month_test new_moon_day first_tested tested all k low high) in
    record { at_least = leb→le _ _ short; at_most = leb→le _ _ long }

-- the tested months reach from before the first Rain Water to after the last
pub tested_from : new_moon_day first_tested ≤ mid_term_day (rain_water 822)
unfolding day_at
tested_from = leb→le _ _ tt

pub tested_to : mid_term_day (rain_water 1685) < new_moon_day (first_tested + tested)
unfolding day_at
tested_to = ltb→lt _ _ tt
