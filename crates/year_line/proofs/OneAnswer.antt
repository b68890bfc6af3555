-- Two results that tell the same are one, so that a contract that says what a result tells fixes it.
use mathlib.Core.Path.{◌≡◌}
use Rattle.std.specs.Prelude.{Result}
use Rattle.numbers.specs.OneResult.{OneResult}
use Rattle.numbers.proofs.OneResult.{one}
use Rattle.answers.specs.declared.Refusal.{Refusal}
use Rattle.answers.specs.Answer.{told}
use Rattle.answers.proofs.Answers.{one_told}
use Rattle.year_line.specs.declared.Line.{Line}
use Rattle.year_line.proofs.line_of.Reads as Line-of

pub one_line : (x y : Result Line Refusal) → told x ≡ told y → x ≡ y
one_line x y h = one_told x y h

-- ---- what each public function promises leaves one answer

pub one_line_of : OneResult Line-of.Learnt
one_line_of _ _ x y _ _ p q = one_line x y (one p q)
