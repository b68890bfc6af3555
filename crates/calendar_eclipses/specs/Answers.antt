-- What the answer of an eclipse stands for: the full moon, and how far it is eclipsed.
use Rattle.std.specs.Prelude.{Result}
use Rattle.answers.specs.declared.Refusal.{Refusal}
use Rattle.answers.specs.Answer.{Answer, told_as}
use Rattle.senmyo_node.specs.declared.Grade.{Grade}
use Rattle.senmyo_node.specs.Eclipse.{Graded}
use Rattle.senmyo_node.specs.Answers.{grade_means}
use Rattle.calendar_eclipses.specs.declared.FullMoon.{FullMoon}

abbrev pub moon_and_grade : FullMoon × Grade → FullMoon × Graded
moon_and_grade (moon, grade) = (moon, grade_means grade)

abbrev pub eclipse_means : Result (FullMoon × Grade) Refusal → Answer (FullMoon × Graded)
eclipse_means = told_as moon_and_grade
