-- What each public function that answers promises leaves one answer, whatever it prints by.
use denote.Param.Laws.{Laws}
use denote.RattleType.{RattleType}
use mir.Syntax.{Dict}
use Rattle.std.specs.declared.io.Print.{Ghosts}
use Rattle.numbers.specs.OneResult.{OneResult, OneContent}
use Rattle.numbers.proofs.OneResult.{one}
use Rattle.year_print.specs.OneOk.{OneOk}
use Rattle.year_print.proofs.OneAnswer.{one_refused}
use Rattle.check_print.proofs.refusal_number.Reads as refusal_number
use Rattle.check_print.proofs.writing.Reads as writing
use Rattle.check_print.proofs.reading.Reads as reading
use Rattle.check_print.proofs.print_summary.Reads as print_summary
use Rattle.check_print.proofs.print_eclipses.Reads as print_eclipses
use Rattle.check_print.proofs.print_instants.Reads as print_instants

pub one_refusal_number : OneResult refusal_number.Learnt
one_refusal_number _ _ _ _ _ _ = one

pub one_writing : OneResult writing.Learnt
one_writing _ _ _ _ _ _ p q = one p.0 q.0

-- the bytes afterwards, every one of them
pub one_writing_left : OneContent writing.Learnt (λ _ lent. lent.1.1.0.now)
one_writing_left _ _ _ _ _ _ p q = one p.1 q.1

pub one_reading : OneResult reading.Learnt
one_reading _ _ _ _ _ _ = one

module _ (T : RattleType) (L : Laws T) (P : Ghosts T.Denot) (d : Dict) where
  pub one_print_summary : OneOk (print_summary.Learnt T L P d)
  one_print_summary _ _ x y _ _ p q = one_refused x y (one p q)

  pub one_print_eclipses : OneOk (print_eclipses.Learnt T L P d)
  one_print_eclipses _ _ x y _ _ p q = one_refused x y (one p q)

  pub one_print_instants : OneOk (print_instants.Learnt T L P d)
  one_print_instants _ _ x y _ _ p q = one_refused x y (one p q)
