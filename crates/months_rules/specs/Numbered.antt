-- The calendars by number, with the refusal of others (01, "Refusal numbers").
use Rattle.std.specs.Prelude.{Bool, true, false, ◌||◌, List, [], ◌∷◌, ℕ, eqb}
use Rattle.answers.specs.Answer.{Answer}
use Rattle.answers.specs.Conditions.{asking}
use Rattle.months_rules.specs.declared.Calendar.{Calendar}
use Rattle.months_rules.specs.declared.Calendar.TheVariants.{Senmyo, Genka}

-- two calendars by number: 1 Senmyo, 2 Genka
abbrev pub is_calendar : ℕ → Bool
is_calendar c = eqb c 1 || eqb c 2

-- .. which of the two, where it is one of them
abbrev pub numbered : ℕ → Calendar
numbered c = elim (eqb c 1) [ true ↦ Senmyo | false ↦ Genka ]

abbrev pub calendar_conditions : ℕ → List (Bool × ℕ)
calendar_conditions c =
    (is_calendar c, 1) ∷ []

-- the calendar that is asked for, or the refusal
unfoldable pub calendar_of : ℕ → Answer Calendar
calendar_of c = asking (calendar_conditions c) (numbered c)
