-- When each exported call that is lent memory writes, and when it refuses, exactly: too little memory comes before all else, and then the conditions of
-- the call behind it follow in their order.
use mathlib.Core.Path.{◌≡◌}
use mathlib.Core.Bool.{Bool, true, false}
use mathlib.Core.List.{List, ◌++◌}
use mathlib.Core.Logic.{◌⊎◌}
use Prim.Native.Nat.{ℕ}
use lib.Dec.{eqb}
use lib.Ieee.{Float}
use lib.ListN.{length, get_or, drop}
use Rattle.answers.specs.Answer.{given, refused}
use Rattle.answers.specs.Conditions.{AllHold, FirstFails, Exactly}
use Rattle.answers.proofs.Conditions.{given_exactly, refused_exactly}
use Rattle.calendar_range.specs.Range.{is_calendar, rules_for, is_covered}
use Rattle.calendar_month.specs.Asked.{month_named, has_month}
use Rattle.calendar_eclipses.specs.Eclipses.{eclipse_in, is_senmyo}
use Rattle.calendar_moons.specs.Instants.{moons_in}
use Rattle.calendar_hours.specs.Hours.{hours_in, has_eclipse}
use Rattle.calendar_year.specs.Years.{year_in}
use Rattle.record_fields.specs.Tagged.{numbers_of, numbers_at, tags_at, same}
use Rattle.record_fields.specs.Fields.{layout, size}
use Rattle.record.specs.Record.{fields_for}
use Rattle.sieveflicker_numbers.specs.Numbers.{asks_leap, year_numbers, eclipse_numbers, hours_numbers, moons_numbers}
use Rattle.sieveflicker.specs.Exported.{has_room, year_written_conditions, year_written, eclipse_written_conditions, eclipse_written, hours_written_conditions, hours_written, moons_written_conditions, moons_written, fields_written_conditions, fields_written}

-- ---- a year

module _ (c y : ℕ) (out : List ℕ) where
  pub year_written_lem : (l : List ℕ) → Exactly (year_written c y out ≡ given l) (AllHold (year_written_conditions c y out) × (year_numbers (year_in (rules_for c) y) ++ drop 55 out ≡ l))
  year_written_lem l = given_exactly _ _ l

  pub year_refused : (n : ℕ) → Exactly (year_written c y out ≡ refused n) (FirstFails (year_written_conditions c y out) n)
  year_refused n = refused_exactly _ _ n

  pub year_refused_6 : Exactly (year_written c y out ≡ refused 6) (has_room 55 out ≡ false)
  year_refused_6 = year_refused 6

  pub year_refused_1 : Exactly (year_written c y out ≡ refused 1) ((has_room 55 out ≡ true) × (is_calendar c ≡ false))
  year_refused_1 = year_refused 1

  pub year_refused_2 : Exactly (year_written c y out ≡ refused 2) ((has_room 55 out ≡ true) × ((is_calendar c ≡ true) × (is_covered (rules_for c) y ≡ false)))
  year_refused_2 = year_refused 2

-- ---- an eclipse

module _ (c y m leap : ℕ) (out : List ℕ) where
  pub eclipse_written_lem : (l : List ℕ) → Exactly (eclipse_written c y m leap out ≡ given l) (AllHold (eclipse_written_conditions c y m leap out) × (eclipse_numbers (eclipse_in (month_named (rules_for c) y m (asks_leap leap))) ++ drop 8 out ≡ l))
  eclipse_written_lem l = given_exactly _ _ l

  pub eclipse_refused : (n : ℕ) → Exactly (eclipse_written c y m leap out ≡ refused n) (FirstFails (eclipse_written_conditions c y m leap out) n)
  eclipse_refused n = refused_exactly _ _ n

  pub eclipse_refused_6 : Exactly (eclipse_written c y m leap out ≡ refused 6) (has_room 8 out ≡ false)
  eclipse_refused_6 = eclipse_refused 6

  pub eclipse_refused_1 : Exactly (eclipse_written c y m leap out ≡ refused 1) ((has_room 8 out ≡ true) × (is_calendar c ≡ false))
  eclipse_refused_1 = eclipse_refused 1

  pub eclipse_refused_13 : Exactly (eclipse_written c y m leap out ≡ refused 13) ((has_room 8 out ≡ true) × ((is_calendar c ≡ true) × (is_senmyo c ≡ false)))
  eclipse_refused_13 = eclipse_refused 13

  pub eclipse_refused_2 : Exactly (eclipse_written c y m leap out ≡ refused 2) ((has_room 8 out ≡ true) × ((is_calendar c ≡ true) × ((is_senmyo c ≡ true) × (is_covered (rules_for c) y ≡ false))))
  eclipse_refused_2 = eclipse_refused 2

  pub eclipse_refused_3 : Exactly (eclipse_written c y m leap out ≡ refused 3) ((has_room 8 out ≡ true) × ((is_calendar c ≡ true) × ((is_senmyo c ≡ true) × ((is_covered (rules_for c) y ≡ true) × (has_month (rules_for c) y m (asks_leap leap) ≡ false)))))
  eclipse_refused_3 = eclipse_refused 3

-- ---- the hours of an eclipse

module _ (c y m leap : ℕ) (out : List ℕ) where
  abbrev asked_month : ℕ
  asked_month = month_named (rules_for c) y m (asks_leap leap)

  abbrev has_asked : Bool
  has_asked = has_month (rules_for c) y m (asks_leap leap)

  pub hours_written_lem : (l : List ℕ) → Exactly (hours_written c y m leap out ≡ given l) (AllHold (hours_written_conditions c y m leap out) × (hours_numbers (hours_in asked_month) ++ drop 12 out ≡ l))
  hours_written_lem l = given_exactly _ _ l

  pub hours_refused : (n : ℕ) → Exactly (hours_written c y m leap out ≡ refused n) (FirstFails (hours_written_conditions c y m leap out) n)
  hours_refused n = refused_exactly _ _ n

  pub hours_refused_6 : Exactly (hours_written c y m leap out ≡ refused 6) (has_room 12 out ≡ false)
  hours_refused_6 = hours_refused 6

  pub hours_refused_1 : Exactly (hours_written c y m leap out ≡ refused 1) ((has_room 12 out ≡ true) × (is_calendar c ≡ false))
  hours_refused_1 = hours_refused 1

  pub hours_refused_13 : Exactly (hours_written c y m leap out ≡ refused 13) ((has_room 12 out ≡ true) × ((is_calendar c ≡ true) × (is_senmyo c ≡ false)))
  hours_refused_13 = hours_refused 13

  pub hours_refused_2 : Exactly (hours_written c y m leap out ≡ refused 2) ((has_room 12 out ≡ true) × ((is_calendar c ≡ true) × ((is_senmyo c ≡ true) × (is_covered (rules_for c) y ≡ false))))
  hours_refused_2 = hours_refused 2

  pub hours_refused_3 : Exactly (hours_written c y m leap out ≡ refused 3) ((has_room 12 out ≡ true) × ((is_calendar c ≡ true) × ((is_senmyo c ≡ true) × ((is_covered (rules_for c) y ≡ true) × (has_asked ≡ false)))))
  hours_refused_3 = hours_refused 3

  pub hours_refused_14 : Exactly (hours_written c y m leap out ≡ refused 14) ((has_room 12 out ≡ true) × ((is_calendar c ≡ true) × ((is_senmyo c ≡ true) × ((is_covered (rules_for c) y ≡ true) × ((has_asked ≡ true) × (has_eclipse asked_month ≡ false))))))
  hours_refused_14 = hours_refused 14

-- ---- both moons

module _ (c y m leap : ℕ) (out : List Float) where
  pub moons_written_lem : (l : List Float) → Exactly (moons_written c y m leap out ≡ given l) (AllHold (moons_written_conditions c y m leap out) × (moons_numbers (moons_in (rules_for c) (month_named (rules_for c) y m (asks_leap leap))) ++ drop 2 out ≡ l))
  moons_written_lem l = given_exactly _ _ l

  pub moons_refused : (n : ℕ) → Exactly (moons_written c y m leap out ≡ refused n) (FirstFails (moons_written_conditions c y m leap out) n)
  moons_refused n = refused_exactly _ _ n

  pub moons_refused_6 : Exactly (moons_written c y m leap out ≡ refused 6) (has_room 2 out ≡ false)
  moons_refused_6 = moons_refused 6

  pub moons_refused_1 : Exactly (moons_written c y m leap out ≡ refused 1) ((has_room 2 out ≡ true) × (is_calendar c ≡ false))
  moons_refused_1 = moons_refused 1

  pub moons_refused_2 : Exactly (moons_written c y m leap out ≡ refused 2) ((has_room 2 out ≡ true) × ((is_calendar c ≡ true) × (is_covered (rules_for c) y ≡ false)))
  moons_refused_2 = moons_refused 2

  pub moons_refused_3 : Exactly (moons_written c y m leap out ≡ refused 3) ((has_room 2 out ≡ true) × ((is_calendar c ≡ true) × ((is_covered (rules_for c) y ≡ true) × (has_month (rules_for c) y m (asks_leap leap) ≡ false))))
  moons_refused_3 = moons_refused 3

-- ---- a record's fields: 6 stands for memory that is too short and for bytes that are not 25

module _ (bytes out : List ℕ) where
  abbrev numbers : List ℕ
  numbers = numbers_at layout bytes 0

  abbrev calendar : ℕ
  calendar = get_or numbers 0 0

  -- room, and 25 bytes with a record's tags, and more
  abbrev TaggedAnd : Type 0 → Type 0
  TaggedAnd more = (has_room 5 out ≡ true) × ((eqb (length bytes) size ≡ true) × ((tags_at layout bytes 0 ≡ true) × more))

  abbrev has_year : Bool
  has_year = is_covered (rules_for calendar) (get_or numbers 1 0)

  pub fields_written_lem : (l : List ℕ) → Exactly (fields_written bytes out ≡ given l) (AllHold (fields_written_conditions bytes out) × (numbers_of layout (fields_for numbers) ++ drop 5 out ≡ l))
  fields_written_lem l = given_exactly _ _ l

  pub fields_refused : (n : ℕ) → Exactly (fields_written bytes out ≡ refused n) (FirstFails (fields_written_conditions bytes out) n)
  fields_refused n = refused_exactly _ _ n

  pub fields_refused_6 : Exactly (fields_written bytes out ≡ refused 6) ((has_room 5 out ≡ false) ⊎ ((has_room 5 out ≡ true) × (eqb (length bytes) size ≡ false)))
  fields_refused_6 = fields_refused 6

  pub fields_refused_7 : Exactly (fields_written bytes out ≡ refused 7) ((has_room 5 out ≡ true) × ((eqb (length bytes) size ≡ true) × (tags_at layout bytes 0 ≡ false)))
  fields_refused_7 = fields_refused 7

  pub fields_refused_1 : Exactly (fields_written bytes out ≡ refused 1) (TaggedAnd (is_calendar calendar ≡ false))
  fields_refused_1 = fields_refused 1

  pub fields_refused_2 : Exactly (fields_written bytes out ≡ refused 2) (TaggedAnd ((is_calendar calendar ≡ true) × (has_year ≡ false)))
  fields_refused_2 = fields_refused 2

  pub fields_refused_8 : Exactly (fields_written bytes out ≡ refused 8) (TaggedAnd ((is_calendar calendar ≡ true) × ((has_year ≡ true) × (same numbers (numbers_of layout (fields_for numbers)) ≡ false))))
  fields_refused_8 = fields_refused 8
