-- What a call answers: the thing asked for, or the number of a refusal (01, "Refusal numbers").
use Rattle.std.specs.Prelude.{ℕ, Result, Ok, Err}
use Rattle.answers.specs.declared.Refusal.{Refusal}
use Rattle.answers.specs.declared.Refusal.TheVariants.{NoSuchCalendar, YearNotCovered, NoSuchMonth, NoSuchDay, DayNotCovered, WrongSize, WrongTagOrLength, WrongField, RunFull, RunOfOneYear, NoRun, NoLine, EclipseOfGenka, NoEclipse}

pub data Answer (A : Type 0) : Type 0 where
  given : A → Answer A
  refused : ℕ → Answer A

-- a step that follows an answer: a refusal goes on as it came
abbrev pub then : {A B : Type 0} → Answer A → (A → Answer B) → Answer B
then (given a) step = step a
then (refused refusal) step = refused refusal

-- the number of a refusal, and 0 of any other answer
abbrev pub refusal_in : {A : Type 0} → Answer A → ℕ
refusal_in (given a) = 0
refusal_in (refused n) = n

-- what lent memory holds after a call that answers what it is to hold: in a refusal, what it held before
abbrev pub left_in : {A : Type 0} → A → Answer A → A
left_in before (given after) = after
left_in before (refused n) = before

-- ---- a `Result`, as an answer

-- the number of each refusal: calendar, year, month, day of a month, day outside; a record's size, tag or length, other field; a run full, of one year, none;
-- the program's line; an eclipse of Genka (01), a month without an eclipse (02)
abbrev pub number_of : Refusal → ℕ
number_of NoSuchCalendar = 1
number_of YearNotCovered = 2
number_of NoSuchMonth = 3
number_of NoSuchDay = 4
number_of DayNotCovered = 5
number_of WrongSize = 6
number_of WrongTagOrLength = 7
number_of WrongField = 8
number_of RunFull = 9
number_of RunOfOneYear = 10
number_of NoRun = 11
number_of NoLine = 12
number_of EclipseOfGenka = 13
number_of NoEclipse = 14

-- what is given, or the refusal's number
abbrev pub told : {A : Type 0} → Result A Refusal → Answer A
told (Ok a) = given a
told (Err refusal) = refused (number_of refusal)

-- .. told of something that comes of what it gives
abbrev pub told_as : {A B : Type 0} → (A → B) → Result A Refusal → Answer B
told_as f (Ok a) = given (f a)
told_as f (Err refusal) = refused (number_of refusal)

-- whether something is given, and no more of it
abbrev pub done : {A : Type 0} → Answer A → Answer Unit
done (given a) = given tt
done (refused n) = refused n
