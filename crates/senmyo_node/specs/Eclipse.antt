-- The node's place and what it says of an eclipse (01, "Lunar eclipse, Senmyo only", from the second sentence on).
use Rattle.std.specs.Prelude.{Bool, true, false, ℕ, ◌-◌, ◌*◌, ◌/◌, ◌%◌, min, leb, ltb, ℤ, pos, ◌+ℤ◌, ◌*ℤ◌}
use Rattle.numbers.specs.Sign.{whole}
use Rattle.numbers.specs.Rounding.{nearest, modulo}
use Rattle.units.specs.declared.Fen.{Fen}
use Rattle.units.specs.declared.Byo.{Byo}
use Rattle.units.specs.Units.{fen}
use Rattle.senmyo_node.specs.declared.NodeSecond.{NodeSecond}
use Rattle.senmyo_node.specs.declared.Side.{Side}
use Rattle.senmyo_node.specs.declared.Side.TheVariants.{Yang, Yin}
use Rattle.senmyo_node.specs.declared.Node.{Node}

-- node seconds, a unit for the period's four places: 1/10,000 fen
abbrev pub node_seconds : ℕ → NodeSecond
node_seconds n = record { 0 = n }

abbrev pub fen_node_seconds : ℕ
fen_node_seconds = 10000

-- .. of which a byo is 1,250
abbrev pub byo_to_node_seconds : Byo → NodeSecond
byo_to_node_seconds b = node_seconds (b.0 * 1250)

-- the node's period, 228,582.6512 fen
abbrev pub node_period : NodeSecond
node_period = node_seconds 228582_6512

-- half is 114,291.3256
abbrev pub half_node_period : NodeSecond
half_node_period = node_seconds 114291_3256

-- the Moon's correction × 202/2573, rounded, in fen
abbrev pub moon_share : ℤ → ℤ
moon_share moon = nearest (moon *ℤ pos 202) 2573

-- node place: mean moment modulo the period + Sun + the Moon's share, brought back into the period
unfoldable pub node_place : Byo → ℤ → ℤ → NodeSecond
node_place mean sun moon =
    node_seconds (modulo (pos ((byo_to_node_seconds mean).0 % node_period.0) +ℤ (sun +ℤ moon_share moon) *ℤ pos fen_node_seconds) node_period.0)

-- a place above half is yin, else yang
abbrev pub is_yin : NodeSecond → Bool
is_yin place = ltb half_node_period.0 place.0

abbrev pub side_of : NodeSecond → Side
side_of place = elim (is_yin place) [ true ↦ Yin | false ↦ Yang ]

-- .. less that half if yin
abbrev pub in_half : NodeSecond → NodeSecond
in_half place = node_seconds (elim (is_yin place) [ true ↦ place.0 - half_node_period.0 | false ↦ place.0 ])

-- distance is the lesser of place-in-half and half less it, rounded
unfoldable pub distance_of : NodeSecond → Fen
distance_of n = fen (whole (nearest (pos (min n.0 (half_node_period.0 - n.0))) fen_node_seconds))

-- the side and the distance of a place
unfoldable pub node_of : NodeSecond → Node
node_of place = record { side = side_of place; distance = distance_of (in_half place) }

pub data Kind : Type 0 where
  none total partial : Kind

-- what a distance gives: the kind, parts, remainder, and strong or not
pub record Graded : Type 0 where
  pub kind : Kind
  pub parts : ℕ
  pub remainder : ℕ
  pub strong : Bool

-- none has parts and remainder zero
abbrev pub no_eclipse : Graded
no_eclipse = record { kind = none; parts = 0; remainder = 0; strong = false }

-- total, 15 parts, no remainder
abbrev pub total_eclipse : Graded
total_eclipse = record { kind = total; parts = 15; remainder = 0; strong = false }

-- parts and remainder of what the distance is short of the limit, over 506; strong if the remainder is 253 or more, else weak
abbrev pub partial_eclipse : ℕ → Graded
partial_eclipse short = record { kind = partial; parts = short / 506; remainder = short % 506; strong = leb 253 (short % 506) }

-- eclipse if below 9,737; at or below 2,147: total
unfoldable pub grade_of : Fen → Graded
grade_of distance =
    elim (ltb distance.0 9737) [
      | true ↦ elim (leb distance.0 2147) [ true ↦ total_eclipse | false ↦ partial_eclipse (9737 - distance.0) ]
      | false ↦ no_eclipse
    ]
