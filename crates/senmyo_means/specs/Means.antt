-- Means of Senmyo, counted from the start of the count (01, "Senmyo means"; 000, 004).
use Rattle.std.specs.Prelude.{ℕ, ◌+◌, ◌-◌, ◌*◌}
use Rattle.units.specs.declared.Fen.{Fen}
use Rattle.units.specs.declared.Byo.{Byo}
use Rattle.units.specs.Units.{fen, byo, fen_to_byo, day_byo}
use Rattle.cycles.specs.declared.Cycle.{Cycle}
use Rattle.cycles.specs.Cycles.{cycle_moment, cycle_day}

-- accumulated years of year Y: 7,070,138 + (Y − 822)
abbrev pub accumulated_years : ℕ → ℕ
accumulated_years y = 7070138 + y - 822

-- from a solstice to the next
abbrev pub solar_year : Fen
solar_year = fen 3068055

-- the solstice before year Y: so many of these
abbrev pub solstice : ℕ → Fen
solstice y = fen (solar_year.0 * accumulated_years y)

-- day number = whole days − 2,580,308,749: the whole days of day number 0
abbrev pub day_zero : ℕ
day_zero = 2580308749

-- from a term to the next: 127,835 fen 5 byo
abbrev pub term_spacing : Byo
term_spacing = byo ((fen_to_byo (fen 127835)).0 + 5)

-- mid-terms are every second term
abbrev pub mid_terms : Cycle
mid_terms = record { spacing = 2 * term_spacing.0; of_day = day_byo }

-- mid-term j, counted from the solstice at the start of the count
abbrev pub mid_term : ℕ → Byo
mid_term j = byo (cycle_moment mid_terms j)

-- .. and its day, in whole days from there
abbrev pub mid_term_day : ℕ → ℕ
mid_term_day j = cycle_day mid_terms j

-- the number of the mid-term of month 1 of year Y, two after the solstice's, which is that of month 11
abbrev pub rain_water : ℕ → ℕ
rain_water y = 12 * accumulated_years y + 2

-- mean new moon k
abbrev pub mean_new_moon : ℕ → Fen
mean_new_moon k = fen (248057 * k)

-- the mean full moon after it: 124,028 1/2 fen
abbrev pub mean_full_moon : ℕ → Byo
mean_full_moon k = byo ((fen_to_byo (mean_new_moon k)).0 + ((fen_to_byo (fen 124028)).0 + 4))
