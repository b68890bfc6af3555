-- Where turning one unit into another loses nothing.
use mathlib.Core.Path.{◌≡◌, refl, ap}
use Prim.Native.Nat.{ℕ, ◌+◌, ◌*◌}
use native.Mathlib.Omega.{arith}
use Rattle.units.specs.declared.Fen.{Fen}
use Rattle.units.specs.Units.{fen, byo, anomaly_seconds, day_fen, fen_to_byo, byo_to_fen, byo_to_anomaly_seconds, ke_fen, whole_ke, fen_over_ke}

-- whole fen come back
pub fen_back : (f : Fen) → byo_to_fen (fen_to_byo f) ≡ f
fen_back f = ap fen (omega arith)

-- half fen, of 4 byo, are whole in anomaly seconds: 50 of them
pub half_fen_exact : (n : ℕ) → byo_to_anomaly_seconds (byo (n * 4)) ≡ anomaly_seconds (n * 50)
half_fen_exact n = ap anomaly_seconds (omega arith)

-- a day has 100 ke, and whole ke with the fen over are all the fen
hundred_ke : day_fen ≡ 100 * ke_fen
hundred_ke = refl

pub ke_and_fen : (f : Fen) → ke_fen * (whole_ke f).0 + (fen_over_ke f).0 ≡ f.0
ke_and_fen f = omega arith
