-- What each public function promises leaves one answer.
use Rattle.numbers.specs.OneResult.{OneResult}
use Rattle.numbers.proofs.OneResult.{one}
use Rattle.months.proofs.month_of.Reads as month_of
use Rattle.months.proofs.month_by.Reads as month_by
use Rattle.months.proofs.last_term_by.Reads as last_term_by
use Rattle.months.proofs.last_term_of.Reads as last_term_of

pub one_month_of : OneResult month_of.Learnt
one_month_of _ _ _ _ _ _ = one

pub one_month_by : OneResult month_by.Learnt
one_month_by _ _ _ _ _ _ = one

pub one_last_term_by : OneResult last_term_by.Learnt
one_last_term_by _ _ _ _ _ _ = one

pub one_last_term_of : OneResult last_term_of.Learnt
one_last_term_of _ _ _ _ _ _ = one
