-- Genka, counted from its origin (01, "Months and leap", the last sentence of "Units", and "Instants for the chart"; 001).
use Rattle.std.specs.Prelude.{ℕ, ◌+◌, ◌*◌}
use Rattle.cycles.specs.declared.Cycle.{Cycle}
use Rattle.cycles.specs.Cycles.{cycle_moment, cycle_day}
use Rattle.genka.specs.declared.Part.{Part}
use Rattle.genka.specs.declared.HalfPart.{HalfPart}

abbrev pub part : ℕ → Part
part n = record { 0 = n }

abbrev pub half_part : ℕ → HalfPart
half_part n = record { 0 = n }

-- a part is 2 half parts
abbrev pub part_to_half_parts : Part → HalfPart
part_to_half_parts p = half_part (p.0 * 2)

-- a day has 752 parts
abbrev pub day_parts : ℕ
day_parts = 752

abbrev pub day_half_parts : ℕ
day_half_parts = 2 * day_parts

-- new moons are 22,207/752 days apart
abbrev pub new_moons : Cycle
new_moons = record { spacing = 22207; of_day = day_parts }

-- new moon j
abbrev pub new_moon : ℕ → Part
new_moon j = part (cycle_moment new_moons j)

-- .. and its day, with no correction and no advance, in whole days from the origin
abbrev pub new_moon_day : ℕ → ℕ
new_moon_day j = cycle_day new_moons j

-- the full moon is half a spacing later: half of 22,207 parts is 22,207 half parts
abbrev pub full_moon : ℕ → HalfPart
full_moon j = half_part ((part_to_half_parts (new_moon j)).0 + new_moons.spacing)

-- mid-terms are 222,070/7,296 days apart
abbrev pub mid_terms : Cycle
mid_terms = record { spacing = 222070; of_day = 7296 }

-- the day of mid-term j
abbrev pub mid_term_day : ℕ → ℕ
mid_term_day j = cycle_day mid_terms j

-- year Y starts with k = Y + 5260 years since the origin
abbrev pub years_since_origin : ℕ → ℕ
years_since_origin y = y + 5260

-- the number of that year's Rain Water, of which there is one in twelve mid-terms
abbrev pub rain_water : ℕ → ℕ
rain_water y = 12 * years_since_origin y

-- day number = whole days − 200,089: the whole days of day number 0
abbrev pub day_zero : ℕ
day_zero = 200089
