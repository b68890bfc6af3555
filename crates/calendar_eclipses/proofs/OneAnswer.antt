-- Two answers that mean the same are one, so that a contract that says what an answer means fixes it.
use mathlib.Core.Path.{◌≡◌, ap}
use Rattle.std.specs.Prelude.{Result}
use Rattle.answers.specs.declared.Refusal.{Refusal}
use Rattle.answers.proofs.Answers.{one_told, one_told_as}
use Rattle.numbers.specs.OneResult.{OneResult}
use Rattle.numbers.proofs.OneResult.{one}
use Rattle.senmyo_node.specs.declared.Grade.{Grade}
use Rattle.senmyo_node.specs.Eclipse.{Graded}
use Rattle.senmyo_node.proofs.OneAnswer.{one_grade}
use Rattle.calendar_eclipses.specs.declared.FullMoon.{FullMoon}
use Rattle.calendar_eclipses.specs.Answers.{moon_and_grade, eclipse_means}
use Rattle.calendar_eclipses.proofs.asked_eclipse.Reads as asked_eclipse
use Rattle.calendar_eclipses.proofs.eclipse_of.Reads as eclipse_of

one_moon_and_grade : (x y : FullMoon × Grade) → moon_and_grade x ≡ moon_and_grade y → x ≡ y
one_moon_and_grade (m, g) (n, h) e =
    let moons : m ≡ n = ap (λ (p : FullMoon × Graded). p.0) e in
    let grades : g ≡ h = one_grade g h (ap (λ (p : FullMoon × Graded). p.1) e) in
    cc

pub one_eclipse : (x y : Result (FullMoon × Grade) Refusal) → eclipse_means x ≡ eclipse_means y → x ≡ y
one_eclipse = one_told_as moon_and_grade one_moon_and_grade

-- ---- what each public function promises leaves one answer

pub one_asked_eclipse : OneResult asked_eclipse.Learnt
one_asked_eclipse _ _ x y _ _ p q = one_told x y (one p q)

pub one_eclipse_of : OneResult eclipse_of.Learnt
one_eclipse_of _ _ x y _ _ p q = one_eclipse x y (one p q)
