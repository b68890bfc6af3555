-- What each public function promises leaves one answer.
use Rattle.answers.proofs.Answers.{one_told}
use Rattle.numbers.specs.OneResult.{OneResult}
use Rattle.numbers.proofs.OneResult.{one}
use Rattle.months_rules.proofs.CalendarTryFromU64.try_from.Reads as try_from
use Rattle.months_rules.proofs.Calendar.numbers.Reads as numbers
use Rattle.months_rules.proofs.Calendar.term_number.Reads as term_number_lem
use Rattle.months_rules.proofs.Calendar.mid_term_by.Reads as mid_term_by
use Rattle.months_rules.proofs.Calendar.term_day.Reads as term_day
use Rattle.months_rules.proofs.Calendar.term_year.Reads as term_year
use Rattle.months_rules.proofs.Calendar.begin.Reads as begin
use Rattle.months_rules.proofs.Calendar.new_moon.Reads as new_moon
use Rattle.months_rules.proofs.Calendar.full_moon.Reads as full_moon

pub one_numbers : OneResult numbers.Learnt
one_numbers _ _ _ _ _ _ = one

pub one_term_number : OneResult term_number_lem.Learnt
one_term_number _ _ _ _ _ _ = one

pub one_mid_term_by : OneResult mid_term_by.Learnt
one_mid_term_by _ _ _ _ _ _ = one

pub one_term_day : OneResult term_day.Learnt
one_term_day _ _ _ _ _ _ = one

pub one_term_year : OneResult term_year.Learnt
one_term_year _ _ _ _ _ _ = one

pub one_begin : OneResult begin.Learnt
one_begin _ _ _ _ _ _ = one

pub one_new_moon : OneResult new_moon.Learnt
one_new_moon _ _ _ _ _ _ = one

pub one_full_moon : OneResult full_moon.Learnt
one_full_moon _ _ _ _ _ _ = one

pub one_try_from : OneResult try_from.Learnt
one_try_from _ _ x y _ _ p q = one_told x y (one p q)
