-- What each public function promises leaves one answer.
use Rattle.numbers.specs.OneResult.{OneResult}
use Rattle.numbers.proofs.OneResult.{one}
use Rattle.senmyo.proofs.new_moon.Reads as new_moon
use Rattle.senmyo.proofs.advanced_day.Reads as advanced_day
use Rattle.senmyo.proofs.new_moon_day.Reads as new_moon_day
use Rattle.senmyo.proofs.latest_month.Reads as latest_month
use Rattle.senmyo.proofs.sure_month.Reads as sure_month
use Rattle.senmyo.proofs.full_moon_sky.Reads as full_moon_sky

pub one_new_moon : OneResult new_moon.Learnt
one_new_moon _ _ _ _ _ _ = one

pub one_advanced_day : OneResult advanced_day.Learnt
one_advanced_day _ _ _ _ _ _ = one

pub one_new_moon_day : OneResult new_moon_day.Learnt
one_new_moon_day _ _ _ _ _ _ = one

pub one_latest_month : OneResult latest_month.Learnt
one_latest_month _ _ _ _ _ _ = one

pub one_sure_month : OneResult sure_month.Learnt
one_sure_month _ _ _ _ _ _ = one

pub one_full_moon_sky : OneResult full_moon_sky.Learnt
one_full_moon_sky _ _ _ _ _ _ = one
