-- What each grade stands for.
use Rattle.senmyo_node.specs.declared.Grade.{Grade}
use Rattle.senmyo_node.specs.declared.Grade.TheVariants.{None, Total, Partial}
use Rattle.senmyo_node.specs.Eclipse.{Graded, partial, no_eclipse, total_eclipse}

abbrev pub grade_means : Grade → Graded
grade_means None = no_eclipse
grade_means Total = total_eclipse
grade_means (Partial s) = record { kind = partial; parts = s.parts; remainder = s.remainder; strong = s.strong }
