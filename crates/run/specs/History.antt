-- Calls on a run one after the other, and what is demanded of the run after them (docs/PROMISES.md, the third demand; its words are quoted).
use Rattle.std.specs.Prelude.{◌≡◌, Bool, true, false, ◌&&◌, List, [], ◌∷◌, ℕ, ◌+◌, ◌-◌, ◌<◌, ◌≤◌, ltb}
use Rattle.answers.specs.Answer.{given, left_in}
use Rattle.months_rules.specs.Rules.{Rules}
use Rattle.calendar_range.specs.Range.{rules_for, is_covered}
use Rattle.calendar_date.specs.declared.Date.{Date}
use Rattle.calendar_date.specs.Dates.{day_of, date_of}
use Rattle.run_content.specs.declared.Run.{Run}
use Rattle.run_content.specs.Runs.{run_of}
use Rattle.run_examination.specs.Examined.{is_run}
use Rattle.run_lookup.specs.Held.{holds_year, holds_day, PlaceHas, OnePlace}
use Rattle.run.specs.Calls.{extend_of, drop_of, run_day_of, run_date_of}

-- "any extending and dropping, refused calls too"
pub data Call : Type 0 where
  extend : Call
  drop : Call

-- the run that a call leaves
abbrev pub run_after : Run → Call → Run
run_after run extend = left_in run (extend_of run)
run_after run drop = left_in run (drop_of run)

-- .. and all calls of a list, the first of them first
unfoldable pub run_after_all : Run → List Call → Run
run_after_all run [] = run
run_after_all run (call ∷ calls) = run_after_all (run_after run call) calls

-- "the consecutive years": the first, and how many
pub record Years : Type 0 where
  pub first : ℕ
  pub number : ℕ

-- "which those calls leave": one more, if it is covered and there are fewer than 14; or without the oldest, if there are more than one
abbrev pub years_after : Rules → Years → Call → Years
years_after r y extend = elim (is_covered r (y.first + y.number) && ltb y.number 14) [ true ↦ record { first = y.first; number = y.number + 1 } | false ↦ y ]
years_after r y drop = elim (ltb 1 y.number) [ true ↦ record { first = y.first + 1; number = y.number - 1 } | false ↦ y ]

-- .. and all calls of a list
unfoldable pub years_after_all : Rules → Years → List Call → Years
years_after_all r y [] = y
years_after_all r y (call ∷ calls) = years_after_all r (years_after r y call) calls

-- day n has exactly one date in the run, and it is the calendar's
pub record OneDate (run : Run) (n : ℕ) : Type 0 where
  pub date : Date
  pub found : run_date_of run n ≡ given date
  pub calendars : date_of run.calendar n ≡ given date
  pub back : run_day_of run date.year date.month date.leap date.day ≡ given n
  pub no_other : (t : Date) → run_day_of run t.year t.month t.leap t.day ≡ given n → t ≡ date

-- "the consecutive years which those calls leave, in at most 174 months, and each day in it has exactly one date"
pub record Demanded (c : ℕ) (y : Years) (run : Run) : Type 0 where
  pub content : run ≡ run_of c y.first y.number
  -- so that no call answers it with 11
  pub no_11 : is_run run ≡ true
  pub at_least_1 : 1 ≤ y.number
  pub at_most_14 : y.number ≤ 14
  pub covered : (z : ℕ) → y.first ≤ z → z < y.first + y.number → is_covered (rules_for c) z ≡ true
  pub at_most_174 : run.count ≤ 174
  pub one_place : (n : ℕ) → holds_day run n ≡ true → OnePlace run n
  pub one_date : (n : ℕ) → holds_day run n ≡ true → OneDate run n
  pub no_other_day : (i n : ℕ) → PlaceHas run i n → holds_day run n ≡ true
  -- and each date of its years has the calendar's one day, or its refusal; the day is one of the run's, and has that date again
  pub one_day : (z m : ℕ) (leap : Bool) (d : ℕ) → holds_year run z ≡ true → run_day_of run z m leap d ≡ day_of c z m leap d
  pub back : (t : Date) (n : ℕ) → run_day_of run t.year t.month t.leap t.day ≡ given n → (holds_day run n ≡ true) × (run_date_of run n ≡ given t)
