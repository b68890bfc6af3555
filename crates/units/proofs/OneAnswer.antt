-- What each public function promises leaves one answer.
use Rattle.numbers.specs.OneResult.{OneResult}
use Rattle.numbers.proofs.OneResult.{one}
use Rattle.units.proofs.fen_to_byo.Reads as fen_to_byo
use Rattle.units.proofs.byo_to_fen.Reads as byo_to_fen
use Rattle.units.proofs.byo_to_anomaly_seconds.Reads as byo_to_anomaly_seconds
use Rattle.units.proofs.whole_days.Reads as whole_days
use Rattle.units.proofs.fen_of_day.Reads as fen_of_day
use Rattle.units.proofs.whole_ke.Reads as whole_ke
use Rattle.units.proofs.fen_over_ke.Reads as fen_over_ke

pub one_fen_to_byo : OneResult fen_to_byo.Learnt
one_fen_to_byo _ _ _ _ _ _ = one

pub one_byo_to_fen : OneResult byo_to_fen.Learnt
one_byo_to_fen _ _ _ _ _ _ = one

pub one_byo_to_anomaly_seconds : OneResult byo_to_anomaly_seconds.Learnt
one_byo_to_anomaly_seconds _ _ _ _ _ _ = one

pub one_whole_days : OneResult whole_days.Learnt
one_whole_days _ _ _ _ _ _ = one

pub one_fen_of_day : OneResult fen_of_day.Learnt
one_fen_of_day _ _ _ _ _ _ = one

pub one_whole_ke : OneResult whole_ke.Learnt
one_whole_ke _ _ _ _ _ _ = one

pub one_fen_over_ke : OneResult fen_over_ke.Learnt
one_fen_over_ke _ _ _ _ _ _ = one
