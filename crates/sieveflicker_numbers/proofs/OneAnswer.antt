-- What each public function promises leaves one content of the memory that it was lent.
use Rattle.numbers.specs.OneResult.{OneContent}
use Rattle.numbers.proofs.OneResult.{one}
use Rattle.sieveflicker_numbers.proofs.put_year.Reads as put_year
use Rattle.sieveflicker_numbers.proofs.put_moon.Reads as put_moon
use Rattle.sieveflicker_numbers.proofs.put_grade.Reads as put_grade
use Rattle.sieveflicker_numbers.proofs.put_hours.Reads as put_hours
use Rattle.sieveflicker_numbers.proofs.put_moons.Reads as put_moons
use Rattle.sieveflicker_numbers.proofs.put_fields.Reads as put_fields

pub one_put_year_left : OneContent put_year.Learnt (λ _ lent. lent.0.now)
one_put_year_left _ _ _ _ _ _ = one

pub one_put_moon_left : OneContent put_moon.Learnt (λ _ lent. lent.0.now)
one_put_moon_left _ _ _ _ _ _ = one

pub one_put_grade_left : OneContent put_grade.Learnt (λ _ lent. lent.0.now)
one_put_grade_left _ _ _ _ _ _ = one

pub one_put_hours_left : OneContent put_hours.Learnt (λ _ lent. lent.0.now)
one_put_hours_left _ _ _ _ _ _ = one

pub one_put_moons_left : OneContent put_moons.Learnt (λ _ lent. lent.0.now)
one_put_moons_left _ _ _ _ _ _ = one

pub one_put_fields_left : OneContent put_fields.Learnt (λ _ lent. lent.0.now)
one_put_fields_left _ _ _ _ _ _ = one
