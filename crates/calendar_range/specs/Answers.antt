-- What the answer of a year stands for: its calendar and number.
use Rattle.std.specs.Prelude.{ℕ, Result}
use Rattle.answers.specs.declared.Refusal.{Refusal}
use Rattle.answers.specs.Answer.{Answer, told_as}
use Rattle.months_rules.specs.declared.Calendar.{Calendar}
use Rattle.calendar_range.specs.declared.known.KnownYear.{KnownYear}

abbrev pub known_year : KnownYear → Calendar × ℕ
known_year y = (y.calendar, y.year)

abbrev pub year_means : Result KnownYear Refusal → Answer (Calendar × ℕ)
year_means = told_as known_year
