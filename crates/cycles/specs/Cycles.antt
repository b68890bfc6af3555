-- What comes round again and again, as mid-terms do: number 0 stands at the start of the count, and each next one so many units later.
use Rattle.std.specs.Prelude.{ℕ, ◌*◌, ◌/◌, ◌<◌, ◌≤◌}
use Rattle.numbers.specs.Spans.{span_of}
use Rattle.cycles.specs.declared.Cycle.{Cycle}
use Rattle.cycles.specs.declared.Dated.{Dated}

-- how many units after the start number n stands
abbrev pub cycle_moment : Cycle → ℕ → ℕ
cycle_moment c n = c.spacing * n

-- .. and its day, in whole days from the start
abbrev pub cycle_day : Cycle → ℕ → ℕ
cycle_day c n = cycle_moment c n / c.of_day

-- the last by the end of day d
abbrev pub last_by : Cycle → ℕ → ℕ
last_by c d = span_of (cycle_day c) d

-- number n with its day
abbrev pub dated : Cycle → ℕ → Dated
dated c n = record { number = n; day = cycle_day c n }

-- a day has units, and from one to the next it is a day or more
pub record Apart (c : Cycle) : Type 0 where
  pub some : 0 < c.of_day
  pub a_day : c.of_day ≤ c.spacing
