-- Day numbers begin where 01's worked figures have them. (The other figures are in `figures`.)
use mathlib.Core.Path.{◌≡◌, refl}
use Prim.Native.Nat.{◌-◌}
use Rattle.genka.specs.Genka.{new_moon_day, day_zero}

-- new moon 73010, which opens 643 (`months_rules` Figures: `first_643`), falls on day 1955939
first_day_of_643 : new_moon_day 73010 - day_zero ≡ 1955939
first_day_of_643 = refl
