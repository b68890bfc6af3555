-- The full moon of a month (01, "Lunar eclipse, Senmyo only", the first two sentences; what the node's place is stands in `senmyo_node`).
use Rattle.std.specs.Prelude.{ℕ, ℤ, pos, ◌+ℤ◌, ◌*ℤ◌}
use Rattle.numbers.specs.Sign.{whole}
use Rattle.units.specs.declared.Fen.{Fen}
use Rattle.units.specs.declared.Byo.{Byo}
use Rattle.units.specs.Units.{byo, byo_to_fen}
use Rattle.senmyo_means.specs.Means.{mean_full_moon}
use Rattle.senmyo_sun.specs.Sun.{sun_of}
use Rattle.senmyo_node.specs.declared.Node.{Node}
use Rattle.senmyo_node.specs.Eclipse.{node_place, node_of}
use Rattle.senmyo.specs.declared.Sky.{Sky}
use Rattle.senmyo.specs.Phases.{moon_at, corrections}

-- a correction in byo, of which a fen has 8
abbrev pub correction_to_byo : ℤ → ℤ
correction_to_byo fen = fen *ℤ pos 8

-- the full moon of month k: the mean new moon + 124,028 1/2 with both corrections taken there, exactly;
-- the node place by the mean moment and those corrections
unfoldable pub full_moon_sky : ℕ → Sky
full_moon_sky k =
    let mean : Byo = mean_full_moon k in
    record {
      mean = mean;
      sun = sun_of mean;
      moon = moon_at mean;
      moment = byo (whole (pos mean.0 +ℤ correction_to_byo (corrections mean)));
      node = node_place mean (sun_of mean) (moon_at mean);
    }

-- half a fen is dropped at the end
abbrev pub full_moon_fen : ℕ → Fen
full_moon_fen k = byo_to_fen (full_moon_sky k).moment

-- the side and the distance of the node
abbrev pub full_moon_node : ℕ → Node
full_moon_node k = node_of (full_moon_sky k).node
