-- `record::read_record` meets its contract: bytes whose numbers, written anew, give them again have the tags of a record, and no others do.
use Rattle.std.proofs.Common.{arith, rules}
use Rattle.record.proofs.Steps.{wrong_tags, right_tags}
use Rattle.record.proofs.read_record.Goals as goal

pub returns-then-ne : goal.returns-then-ne
returns-then-ne c =
    wrong_tags c.args.bytes.now _ c.fields_at-found.result (λ i. omega (arith, c.type_inv.bytes i)) (search rules) (search rules) c.bytes_of.ensures (search rules)

pub returns : goal.returns
returns c =
    right_tags c.args.bytes.now _ c.fields_at-found.result (λ i. omega (arith, c.type_inv.bytes i)) (search rules) (search rules) c.bytes_of.ensures _ (search rules) c.accepted.ensures
