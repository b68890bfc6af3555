-- What each exported call promises leaves one answer, and one content of the memory that it was lent.
use Rattle.numbers.specs.OneResult.{OneResult, OneContent}
use Rattle.numbers.proofs.OneResult.{one}
use Rattle.sieveflicker_c.proofs.sf_day.Reads as sf_day
use Rattle.sieveflicker_c.proofs.sf_date.Reads as sf_date
use Rattle.sieveflicker_c.proofs.sf_year.Reads as sf_year
use Rattle.sieveflicker_c.proofs.sf_eclipse.Reads as sf_eclipse
use Rattle.sieveflicker_c.proofs.sf_hours.Reads as sf_hours
use Rattle.sieveflicker_c.proofs.sf_moons.Reads as sf_moons
use Rattle.sieveflicker_c.proofs.sf_write_record.Reads as sf_write_record
use Rattle.sieveflicker_c.proofs.sf_read_record.Reads as sf_read_record

pub one_sf_day : OneResult sf_day.Learnt
one_sf_day _ _ _ _ _ _ = one

pub one_sf_date : OneResult sf_date.Learnt
one_sf_date _ _ _ _ _ _ = one

pub one_sf_year : OneResult sf_year.Learnt
one_sf_year _ _ _ _ _ _ p q = one p.0 q.0

pub one_year_left : OneContent sf_year.Learnt (λ _ lent. lent.1.1.0.now)
one_year_left _ _ _ _ _ _ p q = one p.1 q.1

pub one_sf_eclipse : OneResult sf_eclipse.Learnt
one_sf_eclipse _ _ _ _ _ _ p q = one p.0 q.0

pub one_eclipse_left : OneContent sf_eclipse.Learnt (λ _ lent. lent.1.1.1.1.0.now)
one_eclipse_left _ _ _ _ _ _ p q = one p.1 q.1

pub one_sf_hours : OneResult sf_hours.Learnt
one_sf_hours _ _ _ _ _ _ p q = one p.0 q.0

pub one_hours_left : OneContent sf_hours.Learnt (λ _ lent. lent.1.1.1.1.0.now)
one_hours_left _ _ _ _ _ _ p q = one p.1 q.1

pub one_sf_moons : OneResult sf_moons.Learnt
one_sf_moons _ _ _ _ _ _ p q = one p.0 q.0

pub one_moons_left : OneContent sf_moons.Learnt (λ _ lent. lent.1.1.1.1.0.now)
one_moons_left _ _ _ _ _ _ p q = one p.1 q.1

pub one_sf_write_record : OneResult sf_write_record.Learnt
one_sf_write_record _ _ _ _ _ _ p q = one p.0 q.0

pub one_record_left : OneContent sf_write_record.Learnt (λ _ lent. lent.1.1.0.now)
one_record_left _ _ _ _ _ _ p q = one p.1 q.1

pub one_sf_read_record : OneResult sf_read_record.Learnt
one_sf_read_record _ _ _ _ _ _ p q = one p.0 q.0

pub one_fields_left : OneContent sf_read_record.Learnt (λ _ lent. lent.1.0.now)
one_fields_left _ _ _ _ _ _ p q = one p.1 q.1
