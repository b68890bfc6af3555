-- What is asked of callers, so that every number fits its word, and how the search for a month begins. No rule of the calendar.
use Rattle.std.specs.Prelude.{ℕ, ◌+◌, ◌-◌, ◌*◌, ◌/◌, ◌<◌, ◌≤◌, ◌^◌, ℤ, pos, nat_abs, ◌+ℤ◌, ◌≤ℤ◌}
use Rattle.units.specs.Units.{day_fen}
use Rattle.senmyo_means.specs.Means.{mean_new_moon}

-- a count, and what moves it no farther back than to zero
pub record Movable (count : ℕ) (by : ℤ) : Type 0 where
  pub count_small : count < 2 ^ 61
  pub by_small : nat_abs by ≤ 100000
  pub after_start : pos 0 ≤ℤ (pos count +ℤ by)

-- the last mean new moon before a day's fen 6,300 and 1,526 + 3,195 fen more, by which Sun and Moon may put a new moon before its mean
abbrev pub latest_month : ℕ → ℕ
latest_month day = (day_fen * day + 6300 + (1526 + 3195) - 1) / (mean_new_moon 1).0

-- .. and the last before that fen less 1,526 + 3,225, by which they may put it behind
abbrev pub sure_month : ℕ → ℕ
sure_month day = (day_fen * day + 6300 - (1526 + 3225) - 1) / (mean_new_moon 1).0
