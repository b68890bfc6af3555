-- The month of Senmyo that has a day is the last that may begin by then, or the one before.
use mathlib.Core.Path.{◌≡◌}
use Prim.Native.Nat.{ℕ, ◌+◌, ◌-◌, ◌<◌, ◌≤◌}
use native.Mathlib.Omega.{arith}
use Rattle.numbers.proofs.Spans.{span_is}
use Rattle.senmyo.specs.Room.{latest_month}
use Rattle.senmyo.proofs.NearMean.{near_mean, latest_begun, none_later}
use Rattle.months_rules.specs.Rules.{senmyo}
use Rattle.months_rules.specs.FirstMonths.{month_of}
use Rattle.months_rules.proofs.Calendars.{senmyo_steady}

module _ (d : ℕ) where
  pub latest_has : senmyo.start (latest_month d) ≤ d → month_of senmyo d ≡ latest_month d
  latest_has h = span_is senmyo.start senmyo_steady.months_grow (latest_month d) d (record { from = h; to = none_later d })

  module _ (h : d < senmyo.start (latest_month d)) where
    -- month 0 begins on day 0
    pub latest_from_1 : 1 ≤ latest_month d
    latest_from_1 = omega (arith, h, near_mean (latest_month d))

    pub before_has : month_of senmyo d ≡ latest_month d - 1
    before_has =
        let one_on : latest_month d - 1 + 1 ≡ latest_month d = omega (arith, latest_from_1) in
        span_is senmyo.start senmyo_steady.months_grow (latest_month d - 1) d (record { from = latest_begun d; to = rw one_on h })
