-- Day numbers begin where 01's worked figures have them. (The other figures are in `figures`.)
use mathlib.Core.Path.{◌≡◌, refl}
use Prim.Native.Nat.{◌+◌, ◌-◌, ◌%◌}
use Rattle.units.specs.Units.{whole_days}
use Rattle.senmyo_means.specs.Means.{solstice, day_zero}

-- the solstice before 1522 falls on a day of cycle number 0
solstice_cycle_1522 : (whole_days (solstice 1522) - day_zero + 49) % 60 ≡ 0
solstice_cycle_1522 = refl
