-- What a call that is lent memory writes follows from what the call behind it answers.
use mathlib.Core.Path.{◌≡◌, ◌∙◌}
use mathlib.Core.Bool.{Bool}
use mathlib.Core.List.{List, ◌∷◌, ◌++◌}
use Prim.Native.Nat.{ℕ, ◌<◌, ◌≤◌}
use borrow.Author.Tests.{lt-leb, le-leb}
use lib.Ieee.{Float}
use lib.ListN.{length, drop}
use lib.Seq.{sets}
use Rattle.answers.specs.Answer.{Answer, given, refused, then, refusal_in, left_in}
use Rattle.answers.specs.Conditions.{asking}
use Rattle.answers.proofs.Conditions.{then_given}
use Rattle.calendar_eclipses.specs.Eclipses.{eclipse_in, eclipse_of}
use Rattle.calendar_moons.specs.Instants.{of_month, moons_of}
use Rattle.calendar_hours.specs.Hours.{hours_in, hours_of}
use Rattle.calendar_year.specs.Years.{year_of}
use Rattle.record_fields.specs.Tagged.{numbers_of}
use Rattle.record_fields.specs.Fields.{layout}
use Rattle.record.specs.Record.{read_of}
use Rattle.sieveflicker_numbers.specs.Numbers.{asks_leap, year_numbers, eclipse_numbers, hours_numbers, moons_numbers}
use Rattle.sieveflicker_numbers.proofs.Memory.{sets_front}
use Rattle.sieveflicker.specs.Exported.{has_room, year_written, eclipse_written, hours_written, moons_written, fields_written}

-- refused in memory that is too short, and else what is answered, as so many numbers before the rest of the memory
pub record Follows {A B : Type 0} (size : ℕ) (numbers : A → List B) (answer : Answer A) (out : List B) (written : Answer (List B)) : Type 0 where
  pub short : length out < size → written ≡ refused 6
  pub room : size ≤ length out → written ≡ then answer (λ a. given (numbers a ++ drop size out))

follows : {A B : Type 0} (size : ℕ) (numbers : A → List B) (conditions : List (Bool × ℕ)) (thing : A) (out : List B) → Follows size numbers (asking conditions thing) out (asking ((has_room size out, 6) ∷ conditions) (numbers thing ++ drop size out))
unfolding asking
follows size numbers conditions thing out =
    record { short = λ h. rw (lt-leb _ _ h); room = λ h. rw (le-leb _ _ h) (then_given conditions thing (λ a. numbers a ++ drop size out)) }

pub year_follows : (c y : ℕ) (out : List ℕ) → Follows 55 year_numbers (year_of c y) out (year_written c y out)
unfolding year_of
year_follows c y out = follows 55 year_numbers _ _ out

pub eclipse_follows : (c y m leap : ℕ) (out : List ℕ) → Follows 8 eclipse_numbers (eclipse_of c y m (asks_leap leap)) out (eclipse_written c y m leap out)
unfolding eclipse_of
eclipse_follows c y m leap out = follows 8 eclipse_numbers _ (eclipse_in _) out

pub hours_follow : (c y m leap : ℕ) (out : List ℕ) → Follows 12 hours_numbers (hours_of c y m (asks_leap leap)) out (hours_written c y m leap out)
unfolding hours_of
hours_follow c y m leap out = follows 12 hours_numbers _ (hours_in _) out

pub moons_follow : (c y m leap : ℕ) (out : List Float) → Follows 2 moons_numbers (moons_of c y m (asks_leap leap)) out (moons_written c y m leap out)
unfolding moons_of of_month
moons_follow c y m leap out = follows 2 moons_numbers _ _ out

pub fields_follow : (bytes out : List ℕ) → Follows 5 (numbers_of layout) (read_of bytes) out (fields_written bytes out)
unfolding read_of
fields_follow bytes out = follows 5 (numbers_of layout) _ _ out

-- what a call leaves, and answers, once it is known that ..
module _ {A B : Type 0} {size : ℕ} {numbers : A → List B} {answer : Answer A} {out : List B} {written : Answer (List B)} (f : Follows size numbers answer out written) where
  abbrev Left : ℕ → List B → Type 0
  Left number left = (number ≡ refusal_in written) × (left ≡ left_in out written)

  -- .. the memory is too short
  pub too_short : length out < size → Left 6 out
  too_short h = (rw (f.short h), rw (f.short h))

  -- .. the call behind it refuses
  pub passed_on : (n : ℕ) → size ≤ length out → answer ≡ refused n → Left n out
  passed_on n h e = (rw (f.room h, e), rw (f.room h, e))

  -- .. it answers, and its numbers have been stored
  pub stored : (a : A) (left : List B) → size ≤ length out → answer ≡ given a → length (numbers a) ≡ size → left ≡ sets out 0 (numbers a) → Left 0 left
  stored a left h e all l = (rw (f.room h, e), rw (f.room h, e) (l ∙ sets_front out (numbers a) size all h))
