-- What the benchmark is answered: a run held as plain numbers, what a call makes of it, and a date or the refusal as one number.
use Rattle.std.specs.Prelude.{List, ℕ, zero, suc}
use Rattle.answers.specs.Answer.{Answer, given, refused}
use Rattle.calendar_date.specs.declared.Date.{Date}
use Rattle.calendar_date.specs.Dates.{date_number}
use Rattle.run_content.specs.declared.Run.{Run}
use Rattle.run.specs.Calls.{extend_of, drop_of}

abbrev pub held_run : ℕ → ℕ → ℕ → ℕ → List ℕ → List ℕ → Run
held_run calendar first years count days dates =
    record { calendar = calendar; first_year = first; years = years; count = count; first_days = days; last_dates = dates }

-- 0 extends the run, and any other number drops its oldest year
abbrev pub changed : ℕ → Run → Answer Run
changed zero run = extend_of run
changed (suc drop) run = drop_of run

-- a date as one number, or the refusal's number alone
abbrev pub told_in : Answer Date → ℕ
told_in (given t) = date_number t
told_in (refused n) = n
