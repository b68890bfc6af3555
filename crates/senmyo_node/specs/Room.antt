-- What the functions ask of their callers, so that every number fits its word. No rule of the calendar.
use Rattle.std.specs.Prelude.{◌<◌, ◌≤◌, ◌^◌, ℤ, nat_abs}
use Rattle.units.specs.declared.Byo.{Byo}

-- a moment and corrections of which a place can be worked out
pub record Placeable (mean : Byo) (sun moon : ℤ) : Type 0 where
  pub mean_small : mean.0 < 2 ^ 53
  pub sun_small : nat_abs sun ≤ 10000
  pub moon_small : nat_abs moon ≤ 10000
