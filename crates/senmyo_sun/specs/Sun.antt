-- The Sun's correction (01, "Sun's correction"; 003, Tables 1 and 2).
use Rattle.std.specs.Prelude.{true, false, List, [], ◌∷◌, ℕ, ◌+◌, ◌-◌, ◌*◌, ◌/◌, ◌%◌, ltb, ℤ, pos, ◌+ℤ◌, ◌*ℤ◌}
use Rattle.numbers.specs.Sign.{plus, minus}
use Rattle.numbers.specs.Rounding.{nearest}
use Rattle.units.specs.declared.Byo.{Byo}
use Rattle.units.specs.Units.{fen, byo, day_byo, fen_to_byo}
use Rattle.senmyo_means.specs.Means.{solar_year}
use Rattle.senmyo_sun.specs.declared.Term.{Term}
use Rattle.senmyo_sun.specs.declared.TermPlace.{TermPlace}

-- the numbers of a true term
abbrev pub rate : Term → ℤ
rate t = t.0

abbrev pub first : Term → ℤ
first t = t.1

abbrev pub sum : Term → ℤ
sum t = t.2

-- a row: the span of a true term, and its numbers
pub record Row : Type 0 where
  pub span : Byo
  pub term : Term

-- .. as printed: days, fen and byo of the span; rate, first and sum in ten-thousandths of a fen, with `_` for the decimal point
abbrev pub row : ℕ → ℕ → ℕ → ℤ → ℤ → ℤ → Row
row days f b rate first sum = record { span = byo (days * day_byo + (fen_to_byo (fen f)).0 + b); term = (rate, first, sum) }

-- the term of the solstice, Dongzhi
unfoldable pub solstice_row : Row
solstice_row = row 14 4235 5 (minus 0_3695) (plus 33_4511) (plus 0)

-- the 23 that follow, from Xiaohan to Daxue; Xiaohan's first is mended (02, request 1) and stands in 000, Table 1
unfoldable pub later_rows : List Row
later_rows =
    row 14 5235 5 (minus 0_3606) (plus 28_0316) (plus 449_0000) ∷
    row 14 6235 5 (minus 0_3519) (plus 22_6998) (plus 823_0000) ∷
    row 14 7235 5 (minus 0_4068) (plus 17_8923) (plus 1122_0000) ∷
    row 15 35 5 (minus 0_3998) (plus 11_7966) (plus 1346_0000) ∷
    row 15 1235 5 (minus 0_3998) (plus 5_7986) (plus 1481_0000) ∷
    row 15 2435 5 (minus 0_3779) (minus 0_2433) (plus 1526_0000) ∷
    row 15 3635 5 (minus 0_3634) (minus 6_1254) (plus 1481_0000) ∷
    row 15 4835 5 (minus 0_2987) (minus 12_2048) (plus 1346_0000) ∷
    row 15 5835 5 (minus 0_2919) (minus 16_9060) (plus 1122_0000) ∷
    row 15 6835 5 (minus 0_2854) (minus 21_5362) (plus 823_0000) ∷
    row 15 7835 5 (minus 0_2854) (minus 26_0498) (plus 449_0000) ∷
    row 15 7835 5 (plus 0_2854) (minus 30_3119) (plus 0) ∷
    row 15 6835 5 (plus 0_2919) (minus 25_8126) (minus 449_0000) ∷
    row 15 5835 5 (plus 0_2987) (minus 21_2454) (minus 823_0000) ∷
    row 15 4835 5 (plus 0_3634) (minus 17_0296) (minus 1122_0000) ∷
    row 15 3635 5 (plus 0_3779) (minus 11_4744) (minus 1346_0000) ∷
    row 15 2435 5 (plus 0_3779) (minus 5_6429) (minus 1481_0000) ∷
    row 15 1235 5 (plus 0_3998) (plus 0_1432) (minus 1526_0000) ∷
    row 15 35 5 (plus 0_4068) (plus 6_1488) (minus 1481_0000) ∷
    row 14 7235 5 (plus 0_3519) (plus 12_6336) (minus 1346_0000) ∷
    row 14 6235 5 (plus 0_3606) (plus 17_8043) (minus 1122_0000) ∷
    row 14 5235 5 (plus 0_3695) (plus 23_0590) (minus 823_0000) ∷
    row 14 4235 5 (plus 0_3695) (plus 28_4618) (minus 449_0000) ∷ []

abbrev pub sun_rows : List Row
sun_rows = solstice_row ∷ later_rows

-- what stands for a row that there is not
abbrev pub no_row : Row
no_row = row 0 0 0 (plus 0) (plus 0) (plus 0)

abbrev pub place : Term → ℕ → TermPlace
place t x = record { term = t; into = byo x }

-- x byo after the start of a row's term, which other rows follow: the term whose span holds that moment, start counted in
unfoldable pub place_in : Row → List Row → ℕ → TermPlace
place_in r [] x = place r.term x
place_in r (q ∷ qs) x =
    elim (ltb x r.span.0) [ true ↦ place r.term x | false ↦ place_in q qs (x - r.span.0) ]

-- from the solstice, modulo 3,068,055 fen
unfoldable pub sun_place : Byo → TermPlace
sun_place at = place_in solstice_row later_rows (at.0 % (fen_to_byo solar_year).0)

-- n whole days into a term: sum + first × n + rate × n(n − 1)/2
unfoldable pub after_days : Term → ℕ → ℤ
after_days t n = sum t +ℤ first t *ℤ pos n +ℤ rate t *ℤ pos (n * (n - 1) / 2)

-- the change of the day after that: first + rate × n
unfoldable pub on_day : Term → ℕ → ℤ
on_day t n = first t +ℤ rate t *ℤ pos n

-- n whole days and the rest of a day, r byo, into a term: the value after n days, plus the rest's share of the day's change;
-- what is to be divided by 10,000 × a day's byo
unfoldable pub sun_share : TermPlace → ℤ
sun_share p =
    let n : ℕ = p.into.0 / day_byo in
    let r : ℕ = p.into.0 % day_byo in
    after_days p.term n *ℤ pos day_byo +ℤ on_day p.term n *ℤ pos r

-- the Sun's correction at a moment counted from the start of the count, rounded once, to fen
unfoldable pub sun_of : Byo → ℤ
sun_of at = nearest (sun_share (sun_place at)) (10000 * day_byo)
