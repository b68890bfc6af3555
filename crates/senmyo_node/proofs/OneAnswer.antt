-- Two grades that mean the same are one, so that a contract that says what a grade means fixes it.
use mathlib.Core.Path.{◌≡◌, refl, sym, ap, ◌∙◌}
use Rattle.numbers.specs.OneResult.{OneResult}
use Rattle.numbers.proofs.OneResult.{one}
use Rattle.senmyo_node.specs.declared.Share.{Share}
use Rattle.senmyo_node.specs.declared.Grade.{Grade}
use Rattle.senmyo_node.specs.declared.Grade.TheVariants.{None, Total, Partial}
use Rattle.senmyo_node.specs.Eclipse.{none, total, partial, Graded}
use Rattle.senmyo_node.specs.Answers.{grade_means}
use Rattle.senmyo_node.proofs.node_place.Reads as node_place
use Rattle.senmyo_node.proofs.node_of.Reads as node_of
use Rattle.senmyo_node.proofs.grade_of.Reads as grade_of

abbrev share_in : Graded → Share
share_in g = record { parts = g.parts; remainder = g.remainder; strong = g.strong }

abbrev grade_in : Graded → Grade
grade_in g = elim g.kind [ none ↦ None | total ↦ Total | partial ↦ Partial (share_in g) ]

back : (x : Grade) → grade_in (grade_means x) ≡ x
back None = refl
back Total = refl
back (Partial s) = refl

pub one_grade : (x y : Grade) → grade_means x ≡ grade_means y → x ≡ y
one_grade x y h = sym (back x) ∙ ap grade_in h ∙ back y

-- ---- what each public function promises leaves one answer

pub one_node_place : OneResult node_place.Learnt
one_node_place _ _ _ _ _ _ = one

pub one_node_of : OneResult node_of.Learnt
one_node_of _ _ _ _ _ _ = one

pub one_grade_of : OneResult grade_of.Learnt
one_grade_of _ _ x y _ _ p q = one_grade x y (one p q)
