-- The units of Senmyo and what each is of another (01, "Units"; for ke 02, request 2).
use Rattle.std.specs.Prelude.{ℕ, ◌*◌, ◌/◌, ◌%◌}
use Rattle.units.specs.declared.Fen.{Fen}
use Rattle.units.specs.declared.Byo.{Byo}
use Rattle.units.specs.declared.AnomalySecond.{AnomalySecond}
use Rattle.units.specs.declared.Ke.{Ke}

abbrev pub fen : ℕ → Fen
fen n = record { 0 = n }

abbrev pub byo : ℕ → Byo
byo n = record { 0 = n }

abbrev pub anomaly_seconds : ℕ → AnomalySecond
anomaly_seconds n = record { 0 = n }

abbrev pub ke : ℕ → Ke
ke n = record { 0 = n }

-- a fen is 8 byo
abbrev pub fen_to_byo : Fen → Byo
fen_to_byo f = byo (f.0 * 8)

-- the whole fen of a number of byo
abbrev pub byo_to_fen : Byo → Fen
byo_to_fen b = fen (b.0 / 8)

-- an anomaly second is 1/100 fen: the whole ones of a number of byo
abbrev pub byo_to_anomaly_seconds : Byo → AnomalySecond
byo_to_anomaly_seconds b = anomaly_seconds (b.0 * 100 / 8)

-- a day has 8,400 fen
abbrev pub day_fen : ℕ
day_fen = 8400

abbrev pub day_byo : ℕ
day_byo = day_fen * 8

abbrev pub whole_days : Fen → ℕ
whole_days f = f.0 / day_fen

abbrev pub fen_of_day : Fen → Fen
fen_of_day f = fen (f.0 % day_fen)

-- a ke is 84 fen: the whole ke of a number of fen, and the fen over those
abbrev pub ke_fen : ℕ
ke_fen = 84

abbrev pub whole_ke : Fen → Ke
whole_ke f = ke (f.0 / ke_fen)

abbrev pub fen_over_ke : Fen → Fen
fen_over_ke f = fen (f.0 % ke_fen)
