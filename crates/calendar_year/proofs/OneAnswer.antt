-- What each public function promises leaves one answer.
use mathlib.Core.Path.{◌≡◌}
use Rattle.answers.proofs.Answers.{one_told}
use Rattle.numbers.specs.OneResult.{OneResult}
use Rattle.numbers.proofs.OneResult.{one}
use Rattle.calendar_year.proofs.Year.listed.Reads as listed
use Rattle.calendar_year.proofs.year_of.Reads as year_of_lem

pub one_year_of : OneResult year_of_lem.Learnt
one_year_of _ _ x y _ _ p q = one_told x y (one p q)

-- .. of what is lent, the content
pub one_listed : (l : _) (a : _) (x y : _) (s t : _) → listed.Learnt l a x s → listed.Learnt l a y t → x.now ≡ y.now
one_listed _ _ _ _ _ _ = one
