-- Where the rates and firsts of Table 2 come from (003, Table 3): the parabola through the sums of three terms that follow each other.
-- Its speed grows evenly, and over any stretch the mean speed is that of the stretch's middle.
use Rattle.std.specs.Prelude.{List, [], ◌∷◌, ◌++◌, ℕ, ◌+◌, ◌*◌, ℤ, pos, ◌+ℤ◌, ◌-ℤ◌, ◌*ℤ◌, get_or, take, drop}
use Rattle.numbers.specs.Rounding.{nearest}
use Rattle.units.specs.Units.{day_byo}
use Rattle.senmyo_sun.specs.declared.Term.{Term}
use Rattle.senmyo_sun.specs.Sun.{sum, Row, solstice_row, sun_rows, no_row}

-- how long a term lasts, in byo
abbrev pub long : Row → ℕ
long r = r.span.0

-- how far the sums go up from a term to the next
abbrev pub change : Row → Row → ℤ
change r q = sum q.term -ℤ sum r.term

-- the mean speed in term q less that in term r: what is to be divided by both lengths
abbrev pub bend : Row → Row → Row → ℤ
bend r q s = change q s *ℤ pos (long r) -ℤ change r q *ℤ pos (long q)

-- what the parabola's numbers are to be divided by: both lengths, and the two together
abbrev pub lengths : Row → Row → ℕ
lengths r q = long r * long q * (long r + long q)

-- what its speed grows by from a day to the next, rounded to the four places
unfoldable pub rate_from : Row → Row → Row → ℤ
rate_from r q s = nearest (bend r q s *ℤ pos (2 * day_byo * day_byo)) (lengths r q)

-- what it changes by in the day that begins x byo after the start of r, rounded to the four places
unfoldable pub first_from : ℕ → Row → Row → Row → ℤ
first_from x r q s =
    nearest
    ((change r q *ℤ pos (long q * (long r + long q)) +ℤ bend r q s *ℤ (pos (2 * x + day_byo) -ℤ pos (long r))) *ℤ pos day_byo)
    (lengths r q)

-- a term's numbers from the sums of r, q and s, when it begins x byo after r does
abbrev pub term_from : ℕ → Row → Row → Row → Row → Term
term_from x r q s t = (rate_from r q s, first_from x r q s, sum t.term)

-- r, q and more rows are what is left of a quarter of the year and the next one's first. The three sums begin with the term's own, for the
-- last term of the quarter with the one before
unfoldable pub quarter_from : Row → Row → List Row → List Term
quarter_from r q [] = []
quarter_from r q (s ∷ []) = term_from 0 r q s r ∷ term_from (long r) r q s q ∷ []
quarter_from r q (s ∷ t ∷ more) = term_from 0 r q s r ∷ quarter_from q s (t ∷ more)

-- the quarter that begins with term n
abbrev pub quarter : ℕ → List Term
quarter n = quarter_from (get_or sun_rows n no_row) (get_or sun_rows (n + 1) no_row) (take 5 (drop (n + 2) (sun_rows ++ solstice_row ∷ [])))

-- the whole year, from the solstice
abbrev pub year_from : List Term
year_from = quarter 0 ++ quarter 6 ++ quarter 12 ++ quarter 18
