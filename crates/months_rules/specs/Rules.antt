-- The two calendars as one thing: what "Months and leap" and "Instants for the chart" of 01 ask of a calendar, and what each of them gives. Days are whole days
-- from the calendar's own origin.
use Rattle.std.specs.Prelude.{ℕ, ◌+◌, ◌-◌, ◌/◌, ◌%◌}
use Rattle.units.specs.Units.{day_fen}
use Rattle.cycles.specs.declared.Cycle.{Cycle}
use Rattle.cycles.specs.Cycles.{cycle_day}
use Rattle.senmyo_means.specs.Means as SenmyoMeans
use Rattle.senmyo.specs.Phases as SenmyoPhases
use Rattle.senmyo.specs.FullMoons as SenmyoFullMoons
use Rattle.genka.specs.Genka as GenkaMeans
use Rattle.months_rules.specs.declared.Calendar.{Calendar}
use Rattle.months_rules.specs.declared.Moment.{Moment}
use Rattle.months_rules.specs.declared.Calendar.TheVariants.{Senmyo, Genka}

pub record Rules : Type 0 where
  -- the covered years
  pub first_year : ℕ
  pub last_year : ℕ
  -- the day to which new moon k counts: where month k starts
  pub start : ℕ → ℕ
  -- mid-terms, each so much after the one before
  pub terms : Cycle
  -- the number of the month whose mid-term is mid-term 0
  pub zeroth_number : ℕ
  -- the mid-term that is the Rain Water of year y
  pub rain_water : ℕ → ℕ
  -- the whole days of day number 0
  pub day_zero : ℕ
  -- new moon k, before any advance, and the full moon after it
  pub new_moon : ℕ → Moment
  pub full_moon : ℕ → Moment

-- the day of mid-term j
abbrev pub mid : Rules → ℕ → ℕ
mid r j = cycle_day r.terms j

-- the number, 1 to 12, of the month whose mid-term is j
abbrev pub term_number : Rules → ℕ → ℕ
term_number r j = (j + r.zeroth_number - 1) % 12 + 1

-- a moment of so many units, of which a day has so many
abbrev pub moment : ℕ → ℕ → Moment
moment units of_day = record { units = units; of_day = of_day }

-- its whole days
abbrev pub days_at : Moment → ℕ
days_at t = t.units / t.of_day

-- mid-term 0 is a solstice, of month 11; moments are told in fen
abbrev pub senmyo : Rules
senmyo =
    record {
      first_year = 822;
      last_year = 1684;
      start = λ k. SenmyoPhases.new_moon_day k;
      terms = SenmyoMeans.mid_terms;
      zeroth_number = 11;
      rain_water = λ y. SenmyoMeans.rain_water y;
      day_zero = SenmyoMeans.day_zero;
      new_moon = λ k. moment (SenmyoPhases.new_moon k).0 day_fen;
      full_moon = λ k. moment (SenmyoFullMoons.full_moon_fen k).0 day_fen;
    }

-- mid-term 0 is a Rain Water, of month 1; moments are told in half parts
abbrev pub genka : Rules
genka =
    record {
      first_year = 445;
      last_year = 697;
      start = λ k. GenkaMeans.new_moon_day k;
      terms = GenkaMeans.mid_terms;
      zeroth_number = 1;
      rain_water = λ y. GenkaMeans.rain_water y;
      day_zero = GenkaMeans.day_zero;
      new_moon = λ k. moment (GenkaMeans.part_to_half_parts (GenkaMeans.new_moon k)).0 GenkaMeans.day_half_parts;
      full_moon = λ k. moment (GenkaMeans.full_moon k).0 GenkaMeans.day_half_parts;
    }

-- the day number of a day (0 of any day before day number 0)
abbrev pub day_number : Rules → ℕ → ℕ
day_number r d = d - r.day_zero

unfoldable pub rules_of : Calendar → Rules
rules_of Senmyo = senmyo
rules_of Genka = genka
