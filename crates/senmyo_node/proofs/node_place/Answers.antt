-- `senmyo_node::node_place` meets its contract: the corrections fit their words, and what is brought back is the definition's place.
use Rattle.std.proofs.Common.{◌≡◌, ap, arith, ℕ, ◌%◌, ◌<◌, ◌≤◌, w64, ℤ, pos, ◌+ℤ◌, ◌*ℤ◌, to_z, nat_abs}
use Rattle.std.proofs.lemmas.Int.{ints}
use Rattle.std.specs.Int.{int_rem_euclid}
use Rattle.numbers.specs.Rounding.{modulo}
use Rattle.numbers.proofs.Size.{word}
use Rattle.numbers.proofs.Rounding.{rem_euclid_lem, modulo_below}
use Rattle.senmyo_node.specs.Eclipse.{node_seconds, node_period, node_place}
use Rattle.senmyo_node.proofs.NodeLaws.{share_told}
use Rattle.senmyo_node.proofs.node_place.Goals as goal

-- what is brought back
brought_back : (past : ℕ) (sun share : ℤ) {rest : ℤ} → past < node_period.0 → nat_abs sun ≤ 10000 → nat_abs share ≤ 1570 →
    rest ≡ int_rem_euclid (word (to_z w64 past +ℤ word (word (word sun +ℤ word share) *ℤ pos 10000))) (pos node_period.0) →
    nat_abs (word rest) ≡ modulo (pos past +ℤ (sun +ℤ share) *ℤ pos 10000) node_period.0
brought_back past sun share near slow few e =
    let place : word (to_z w64 past +ℤ word (word (word sun +ℤ word share) *ℤ pos 10000)) ≡ pos past +ℤ (sun +ℤ share) *ℤ pos 10000 = omega (arith, ints) in
    let told = rw (place, rem_euclid_lem) at e in
    omega (arith, ints, told, modulo_below (pos past +ℤ (sun +ℤ share) *ℤ pos 10000) node_period.0 (omega arith))

pub overflow_add-place : goal.overflow_add-place
overflow_add-place c = omega (arith, ints, share_told c.args.moon c.requires.moon_small c.moon_share.ensures)

pub returns : goal.returns
unfolding node_place
returns c =
    let share = share_told c.args.moon c.requires.moon_small c.moon_share.ensures in
    let place = brought_back (c.byo_to_node_seconds.result.0 % node_period.0) c.args.sun c.moon_share.result (omega arith) c.requires.sun_small share.1 c.rem_euclid.ensures.value in
    ap node_seconds (rw (share.0, c.byo_to_node_seconds.ensures) at place)
