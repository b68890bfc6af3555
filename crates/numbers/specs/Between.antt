-- A signed number from one to another.
use Rattle.std.specs.Prelude.{ℤ, ◌≤ℤ◌}

pub record Between (low z high : ℤ) : Type 0 where
  pub from : low ≤ℤ z
  pub to : z ≤ℤ high
