-- What inner functions ask of their callers, which have made sure of it. No rule of the calendar.
use Rattle.std.specs.Prelude.{◌<◌, ◌^◌}
use Rattle.calendar_eclipses.specs.declared.FullMoon.{FullMoon}

-- a full moon whose fen and distance fit their places
pub record FitsPlaces (m : FullMoon) : Type 0 where
  pub fen_small : m.fen.0 < 2 ^ 32
  pub distance_small : m.distance.0 < 2 ^ 32
