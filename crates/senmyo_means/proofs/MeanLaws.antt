-- The means of Senmyo agree with each other as 01 says.
use mathlib.Core.Path.{◌≡◌, refl, ap}
use Prim.Native.Nat.{ℕ, ◌+◌, ◌*◌}
use native.Mathlib.Omega.{arith}
use Rattle.units.specs.Units.{byo, anomaly_seconds, fen_to_byo, byo_to_fen, byo_to_anomaly_seconds, whole_days}
use Rattle.senmyo_means.specs.Means.{accumulated_years, solar_year, solstice, term_spacing, mid_term, mid_term_day, rain_water, mean_new_moon, mean_full_moon}

-- mid-terms are 255,671 1/4 fen apart
mid_term_spacing : mid_term 1 ≡ byo (255671 * 8 + 2)
mid_term_spacing = refl

-- 24 terms make a year
year_of_terms : 24 * term_spacing.0 ≡ (fen_to_byo solar_year).0
year_of_terms = refl

-- the mid-term of month 11 is the solstice
pub month_11 : (y : ℕ) → mid_term (12 * accumulated_years y) ≡ fen_to_byo (solstice y)
month_11 y = ap byo (omega arith)

-- that of month 1 is two spacings of mid-terms after it
pub month_1 : (y : ℕ) → (mid_term (rain_water y)).0 ≡ (fen_to_byo (solstice y)).0 + 2 * (mid_term 1).0
month_1 y = omega arith

-- a mean full moon is midway between two mean new moons
pub midway : (k : ℕ) → 2 * (mean_full_moon k).0 ≡ (fen_to_byo (mean_new_moon k)).0 + (fen_to_byo (mean_new_moon (k + 1))).0
midway k = omega arith

-- neither loses anything in anomaly seconds
pub new_moon_seconds : (k : ℕ) → byo_to_anomaly_seconds (fen_to_byo (mean_new_moon k)) ≡ anomaly_seconds (248057_00 * k)
new_moon_seconds k = ap anomaly_seconds (omega arith)

pub full_moon_seconds : (k : ℕ) → byo_to_anomaly_seconds (mean_full_moon k) ≡ anomaly_seconds (248057_00 * k + 124028_50)
full_moon_seconds k = ap anomaly_seconds (omega arith)

-- the day of a mid-term is its whole days, the byo dropped first
mid_term_day_lem : (j : ℕ) → whole_days (byo_to_fen (mid_term j)) ≡ mid_term_day j
mid_term_day_lem j = omega arith
