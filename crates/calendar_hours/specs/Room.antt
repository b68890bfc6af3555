-- What inner functions ask of their callers, which have made sure of it. No rule of the calendar.
use Rattle.std.specs.Prelude.{◌+◌, ◌<◌, ◌≤◌, ◌^◌}
use Rattle.units.specs.declared.Fen.{Fen}
use Rattle.units.specs.Units.{whole_days}
use Rattle.senmyo_hours.specs.declared.Times.{Times}
use Rattle.months_rules.specs.Rules.{senmyo}

-- the day of a moment has a day number
pub record Numbered (t : Fen) : Type 0 where
  pub from : senmyo.day_zero ≤ whole_days t
  pub to : whole_days t < senmyo.day_zero + 2 ^ 32

-- .. of each of an eclipse's three times
pub record AllNumbered (t : Times) : Type 0 where
  pub start : Numbered t.start
  pub middle : Numbered t.middle
  pub end : Numbered t.end
