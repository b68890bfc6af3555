-- The calendars and years that are covered, with the refusals of others (01, "Refusal numbers").
use Rattle.std.specs.Prelude.{Bool, ◌&&◌, List, [], ◌∷◌, ◌++◌, ℕ, leb}
use Rattle.answers.specs.Answer.{Answer}
use Rattle.answers.specs.Conditions.{asking}
use Rattle.months_rules.specs.declared.Calendar.{Calendar}
use Rattle.months_rules.specs.Rules.{Rules, rules_of}
pub use Rattle.months_rules.specs.Numbered.{is_calendar, numbered, calendar_conditions}
unfoldable pub use Rattle.months_rules.specs.Numbered.{calendar_of}

-- the rules of the calendar of a number
abbrev pub rules_for : ℕ → Rules
rules_for c = rules_of (numbered c)

-- the covered years
abbrev pub is_covered : Rules → ℕ → Bool
is_covered r y = leb r.first_year y && leb y r.last_year

-- ---- the conditions, each with its refusal

abbrev pub year_conditions : ℕ → ℕ → List (Bool × ℕ)
year_conditions c y =
    calendar_conditions c ++
    (is_covered (rules_for c) y, 2) ∷ []

-- ---- what is asked for, or the refusal

-- the year of a calendar
unfoldable pub year_asked : ℕ → ℕ → Answer (Calendar × ℕ)
year_asked c y = asking (year_conditions c y) (numbered c, y)
