-- Hours of a month's lunar eclipse (02, request 2; how its times are worked out stands in `senmyo_hours`).
use Rattle.std.specs.Prelude.{◌≡◌, Bool, List, [], ◌∷◌, ◌++◌, ℕ, ◌+◌, ◌*◌, ◌/◌, ◌<◌, ◌≤◌}
use Rattle.answers.specs.Answer.{Answer}
use Rattle.answers.specs.Conditions.{asking}
use Rattle.units.specs.declared.Fen.{Fen}
use Rattle.units.specs.Units.{day_fen, whole_days, fen_of_day, ke_fen, whole_ke, fen_over_ke}
use Rattle.senmyo_hours.specs.declared.Times.{Times}
use Rattle.senmyo_hours.specs.Hours.{is_eclipse, grade_at, times_at}
use Rattle.months_rules.specs.Rules.{senmyo, day_number}
use Rattle.calendar_range.specs.Range.{rules_for}
use Rattle.calendar_month.specs.Asked.{month_named}
use Rattle.calendar_eclipses.specs.Eclipses.{eclipse_conditions}
use Rattle.calendar_hours.specs.declared.Hour.{Hour}
use Rattle.calendar_hours.specs.declared.Hours.{Hours}

-- the day on which a moment falls, the fen of the day, and the ke (fen of the day over 84); a start before midnight belongs to the day before
abbrev pub hour_at : Fen → Hour
hour_at t = record { day = day_number senmyo (whole_days t); fen = fen_of_day t; ke = whole_ke (fen_of_day t) }

-- the length, in ke and fen too; start, middle and end
abbrev pub hours_from : Times → Hours
hours_from t =
    record {
      length = t.length;
      ke = whole_ke t.length;
      over = fen_over_ke t.length;
      start = hour_at t.start;
      middle = hour_at t.middle;
      end = hour_at t.end;
    }

-- the hours of month k's eclipse
unfoldable pub hours_in : ℕ → Hours
hours_in k = hours_from (times_at k)

-- month k has an eclipse; else refusal 14: "no eclipse in that month"
unfoldable pub has_eclipse : ℕ → Bool
has_eclipse k = is_eclipse (grade_at k)

-- what is asked of a month whose hours are wanted: as of its eclipse, and then that there is one
abbrev pub hours_conditions : ℕ → ℕ → ℕ → Bool → List (Bool × ℕ)
hours_conditions c y m leap =
    eclipse_conditions c y m leap ++
    (has_eclipse (month_named (rules_for c) y m leap), 14) ∷ []

-- the hours of a month that is named
unfoldable pub hours_of : ℕ → ℕ → ℕ → Bool → Answer Hours
hours_of c y m leap = asking (hours_conditions c y m leap) (hours_in (month_named (rules_for c) y m leap))

-- ---- what is proved of every answer that is given (HoursLaws)

-- the fen from day number 0 on
abbrev pub clock : Hour → ℕ
clock t = t.day * day_fen + t.fen.0

pub record HoursInOrder (h : Hours) : Type 0 where
  -- start ≤ middle ≤ end, and the end is at most a day after the start
  pub start_first : clock h.start ≤ clock h.middle
  pub end_last : clock h.middle ≤ clock h.end
  pub within_day : clock h.end ≤ clock h.start + day_fen
  -- the middle is half the length after the start, an odd fen dropped, and the end the whole length
  pub half : clock h.middle ≡ clock h.start + h.length.0 / 2
  pub whole : clock h.end ≡ clock h.start + h.length.0

-- numbers of fen below a day's, and of ke below 100
pub record HourSmall (t : Hour) : Type 0 where
  pub fen_below : t.fen.0 < day_fen
  pub ke_below : t.ke.0 < 100

pub record HoursSmall (h : Hours) : Type 0 where
  pub length_below : h.length.0 < day_fen
  pub ke_below : h.ke.0 < 100
  pub over_below : h.over.0 < ke_fen
  pub start : HourSmall h.start
  pub middle : HourSmall h.middle
  pub end : HourSmall h.end
