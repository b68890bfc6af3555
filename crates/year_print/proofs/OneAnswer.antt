-- What each public function that answers promises leaves one answer, whatever it prints by.
use mathlib.Core.Path.{◌≡◌, refl, sym, ap, ◌∙◌}
use mathlib.Core.Bool.{false, true≢false}
use borrow.Author.Tests.{eq-eqb}
use lib.Dec.{eqb}
use denote.Param.Laws.{Laws}
use denote.RattleType.{RattleType}
use mir.Syntax.{Dict}
use Rattle.std.specs.Prelude.{Option, Some, None}
use Rattle.std.specs.declared.io.Print.{Ghosts}
use Rattle.numbers.proofs.OneResult.{one}
use Rattle.answers.specs.declared.Refusal.{Refusal}
use Rattle.answers.specs.declared.Refusal.TheVariants.{NoSuchCalendar}
use Rattle.answers.specs.Answer.{number_of}
use Rattle.answers.proofs.Answers.{one_number}
use Rattle.year_print.specs.OneOk.{OneOk}
use Rattle.year_print.specs.Paper.{refusal_number}
use Rattle.year_print.proofs.print_answer.Reads as print_answer

-- no refusal has the number 0 ..
not_0 : (r : Refusal) → eqb (number_of r) 0 ≡ false
not_0 NoSuchCalendar = refl
not_0 _ = refl

some_number : (r : Refusal) → number_of r ≡ 0 → ⊥
some_number r e = true≢false (sym (eq-eqb (number_of r) 0 e) ∙ not_0 r)

-- .. so that a number tells what was refused, if anything
pub one_refused : (x y : Option Refusal) → refusal_number x ≡ refusal_number y → x ≡ y
one_refused None None e = refl
one_refused None (Some r) e = absurd (some_number r (sym e))
one_refused (Some r) None e = absurd (some_number r e)
one_refused (Some r) (Some s) e = ap Some (one_number r s e)

pub one_print_answer : (T : RattleType) (L : Laws T) (P : Ghosts T.Denot) (d : Dict) → OneOk (print_answer.Learnt T L P d)
one_print_answer _ _ _ _ _ _ x y _ _ p q = one_refused x y (one p q)
