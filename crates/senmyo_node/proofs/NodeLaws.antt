-- Laws of the node's place: the corrections fit their words, what is brought back is within the period, and the distance is rounded by adding half.
use mathlib.Core.Path.{◌≡◌, refl, sym, ap}
use mathlib.Core.Bool.{Bool, true, false}
use Prim.Native.Nat.{ℕ, ◌+◌, ◌-◌, ◌/◌, ◌<◌, ◌≤◌, min}
use native.Mathlib.Omega.{arith}
use borrow.Author.Tests.{lt-ltb, le-ltb}
use lib.IntN.{ℤ, pos, ◌*ℤ◌, nat_abs}
use lib.Signed.{◌≤ℤ◌}
use mir.Syntax.{w64}
use mir.Facts.{to_z-of_z}
use Rattle.std.proofs.Common.{FitsSigned}
use Rattle.std.proofs.lemmas.Int.{ints}
use Rattle.numbers.specs.Sign.{minus}
use Rattle.numbers.specs.Rounding.{nearest}
use Rattle.numbers.proofs.Size.{word, Small, small_between}
use Rattle.numbers.proofs.Rounding.{nearest_mono, modulo_below}
use Rattle.units.specs.declared.Byo.{Byo}
use Rattle.units.specs.Units.{fen}
use Rattle.senmyo_node.specs.declared.NodeSecond.{NodeSecond}
use Rattle.senmyo_node.specs.declared.Side.TheVariants.{Yang, Yin}
use Rattle.senmyo_node.specs.declared.Node.{Node}
use Rattle.senmyo_node.specs.Eclipse.{node_seconds, fen_node_seconds, node_period, half_node_period, moon_share, node_place, in_half, distance_of, node_of}

-- ---- the corrections

share_least : moon_share (minus 10000) ≡ minus 785
unfolding nearest
share_least = refl

share_most : moon_share (pos 10000) ≡ pos 785
unfolding nearest
share_most = refl

-- the Moon's share of a correction of at most 10,000 fen
pub share_small : {moon : ℤ} → Small moon 10000 → Small (moon_share moon) (785 + 785)
share_small {moon} s =
    let from : (minus 10000 *ℤ pos 202) ≤ℤ (moon *ℤ pos 202) = omega (arith, ints, s.size) in
    let to : (moon *ℤ pos 202) ≤ℤ (pos 10000 *ℤ pos 202) = omega (arith, ints, s.size) in
    small_between 785 785
    (record { from = rw share_least at (nearest_mono 2573 (omega arith) from); to = rw share_most at (nearest_mono 2573 (omega arith) to) })

-- the Moon's share, of a correction read from its word
pub share_told : (moon : ℤ) {share : ℤ} → nat_abs moon ≤ 10000 → share ≡ moon_share (word moon) → (share ≡ moon_share moon) × (nat_abs share ≤ 1570)
share_told moon h e =
    let fits : FitsSigned w64 moon = omega (arith, ints) in
    let same = rw (to_z-of_z fits) at e in
    let small : Small moon 10000 = record { size = h } in
    (same, rw same (share_small small).size)

pub ruleset shares = (ints, share_told)

-- ---- the place

-- the place is within the period
pub place_within : (mean : Byo) (sun moon : ℤ) → (node_place mean sun moon).0 < node_period.0
unfolding node_place
place_within mean sun moon = modulo_below _ _ (omega arith)

-- ---- the distance

fen_nearest : (n : ℕ) → nearest (pos n) fen_node_seconds ≡ pos ((n + 5000) / 10000)
unfolding nearest
fen_nearest n = ap pos (omega arith)

pub distance_is : (p : NodeSecond) → fen ((min p.0 (half_node_period.0 - p.0) + 5000) / 10000) ≡ distance_of p
unfolding distance_of
distance_is p = rw (fen_nearest (min p.0 (half_node_period.0 - p.0)))

-- ---- the side

abbrev sided : NodeSecond → Bool → Node
sided place yin = record { side = elim yin [ true ↦ Yin | false ↦ Yang ]; distance = distance_of (node_seconds (elim yin [ true ↦ place.0 - half_node_period.0 | false ↦ place.0 ])) }

pub node_yin : (place : NodeSecond) → half_node_period.0 < place.0 → node_of place ≡ sided place true
unfolding node_of
node_yin place h = ap (sided place) (lt-ltb half_node_period.0 place.0 h)

pub node_yang : (place : NodeSecond) → place.0 ≤ half_node_period.0 → node_of place ≡ sided place false
unfolding node_of
node_yang place h = ap (sided place) (le-ltb half_node_period.0 place.0 h)

-- ---- how far it can be

-- half the period has fewer fen than that
pub distance_small : (place : NodeSecond) → (node_of place).distance.0 < 120000
unfolding node_of
distance_small place = rw (sym (distance_is (in_half place))) (omega arith)
