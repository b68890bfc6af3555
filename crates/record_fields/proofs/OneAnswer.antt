-- What each public function promises leaves one answer.
use mathlib.Core.Path.{sym, ◌∙◌}
use Rattle.numbers.specs.OneResult.{OneResult}
use Rattle.numbers.proofs.OneResult.{one}
use Rattle.answers.proofs.Answers.{one_told}
use Rattle.record_fields.proofs.fields_of.Reads as fields_of
use Rattle.record_fields.proofs.bytes_of.Reads as bytes_of

pub one_fields_of : OneResult fields_of.Learnt
one_fields_of _ _ x y _ _ p q = one_told x y (p ∙ sym q)

pub one_bytes_of : OneResult bytes_of.Learnt
one_bytes_of _ _ _ _ _ _ = one
