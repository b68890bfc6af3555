-- A day or date is looked up in what the examination found to be a run, and in nothing else.
use Rattle.std.proofs.Common.{◌≡◌, ℕ, Bool, true, false, sym, ◌∙◌}
use Rattle.answers.specs.Answer.{Answer, refused, then}
use Rattle.answers.proofs.Conditions.{then_asking}
use Rattle.run_content.specs.declared.Run.{Run}
use Rattle.run_examination.specs.Examined.{is_run}
use Rattle.run_lookup.specs.Held.{day_in_run, date_in_run}
use Rattle.run.specs.Calls.{examined_of, run_day_of, run_date_of}
use Rattle.run.proofs.Refusals.{run_day_refused_11}
use Rattle.run.proofs.Steps.{passed}

pub date_asked : (run : Run) (n : ℕ) → run_date_of run n ≡ then (examined_of run) (λ x. date_in_run x n)
unfolding run_date_of examined_of date_in_run
date_asked run n = then_asking _ _ _ _

module _ (run : Run) (y m : ℕ) (leap : Bool) (d : ℕ) where
  pub day_asked : run_day_of run y m leap d ≡ then (examined_of run) (λ x. day_in_run x y m leap d)
  unfolding run_day_of examined_of day_in_run
  day_asked = then_asking _ _ _ _

  pub looked_up : (answer : Answer ℕ) → is_run run ≡ true → answer ≡ day_in_run run y m leap d → answer ≡ run_day_of run y m leap d
  looked_up answer is told = told ∙ rw (day_asked, ← passed run is)

  pub not_looked_up : is_run run ≡ false → refused 11 ≡ run_day_of run y m leap d
  not_looked_up none = sym ((run_day_refused_11 run y m leap d).if none)
