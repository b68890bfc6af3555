-- Laws of the true terms: what every printed row has, and how the search for a moment's term goes.
use mathlib.Core.Path.{◌≡◌, refl, sym, ap, ◌∙◌}
use mathlib.Core.Bool.{Bool, true, false}
use mathlib.Core.List.{List, [], ◌∷◌, map, reverse}
use Prim.Native.Nat.{ℕ, zero, suc, ◌+◌, ◌-◌, ◌*◌, ◌/◌, ◌<◌, ◌≤◌}
use native.Mathlib.Nat.{mod-lt}
use native.Mathlib.Numerals.{add-one}
use native.Mathlib.Omega.{arith}
use borrow.Author.Tests.{lt-ltb, le-ltb, ltb-true, ltb-false}
use lib.Dec.{ltb, leb, ltb→lt, leb→le}
use lib.IntN.{nat_abs}
use lib.ListN.{length, get_or, take, drop}
use lib.Seq.{drop-cons}
use Rattle.numbers.proofs.Tests.{every, at_each, at_each_row}
use Rattle.units.specs.declared.Byo.{Byo}
use Rattle.units.specs.Units.{day_byo, fen_to_byo}
use Rattle.senmyo_means.specs.Means.{solar_year}
use Rattle.senmyo_sun.specs.declared.TermPlace.{TermPlace}
use Rattle.senmyo_sun.specs.Sun.{rate, first, sum, Row, solstice_row, later_rows, sun_rows, no_row, place, place_in, sun_place}
use Rattle.senmyo_sun.specs.Room.{lasting, start_of, TermAt}

pub row_count : length sun_rows ≡ 24
unfolding later_rows
row_count = refl

-- ---- what every row has, by a test of each number over the table

pub record Fair (r : Row) : Type 0 where
  pub span_small : r.span.0 < 16 * day_byo
  pub rate_small : nat_abs (rate r.term) ≤ 5000
  pub first_small : nat_abs (first r.term) ≤ 400000
  pub sum_small : nat_abs (sum r.term) ≤ 20000000

pub fair : (i : ℕ) → i < 24 → Fair (get_or sun_rows i no_row)
unfolding every solstice_row later_rows
fair i h =
    record {
      span_small = ltb→lt _ _ (at_each_row (λ r. ltb r.span.0 (16 * day_byo)) no_row sun_rows tt i h);
      rate_small = leb→le _ _ (at_each_row (λ r. leb (nat_abs (rate r.term)) 5000) no_row sun_rows tt i h);
      first_small = leb→le _ _ (at_each_row (λ r. leb (nat_abs (first r.term)) 400000) no_row sun_rows tt i h);
      sum_small = leb→le _ _ (at_each_row (λ r. leb (nat_abs (sum r.term)) 20000000) no_row sun_rows tt i h);
    }

-- ---- the search

-- it stops at a term that lasts longer ..
pub place_here : (r : Row) (rs : List Row) (x : ℕ) → x < r.span.0 → place_in r rs x ≡ place r.term x
unfolding place_in
place_here r [] x h = refl
place_here r (q ∷ qs) x h = rw (lt-ltb x r.span.0 h, place_in)

-- .. and goes on past one that is over, to the next row of the list
pub place_next : (l : List Row) (i x : ℕ) → i + 1 < length l → (get_or l i no_row).span.0 ≤ x → place_in (get_or l i no_row) (drop (i + 1) l) x ≡ place_in (get_or l (i + 1) no_row) (drop (i + 1 + 1) l) (x - (get_or l i no_row).span.0)
unfolding place_in
place_next l i x h over =
    rw (drop-cons l (i + 1) no_row, le-ltb x (get_or l i no_row).span.0 over, place_in) (rw (add-one (i + 1)))

-- one row more lasts as much longer as its term
lasting_next : (l : List Row) (n : ℕ) → n < length l → lasting (take (n + 1) l) ≡ lasting (take n l) + (get_or l n no_row).span.0
lasting_next [] n h = absurd (omega arith)
lasting_next (r ∷ rs) zero h = omega arith
lasting_next (r ∷ rs) (suc n) h =
    let e : suc n + 1 ≡ suc (n + 1) = omega arith in
    rw e (omega (arith, lasting_next rs n (omega arith)))

start_next : (n : ℕ) → n < 24 → start_of (n + 1) ≡ start_of n + (get_or sun_rows n no_row).span.0
start_next n h = lasting_next sun_rows n (omega (arith, row_count))

-- past so many terms the search goes on from there
passed : (n x : ℕ) → n < 24 → start_of n ≤ x → place_in (get_or sun_rows n no_row) (drop (n + 1) sun_rows) (x - start_of n) ≡ place_in solstice_row later_rows x
passed zero x h from = let e : x - start_of 0 ≡ x = omega arith in rw e
passed (suc n) x h from =
    let next : start_of (suc n) ≡ start_of n + (get_or sun_rows n no_row).span.0 = sym (ap start_of (add-one n)) ∙ start_next n (omega arith) in
    let rest : x - start_of n - (get_or sun_rows n no_row).span.0 ≡ x - start_of (suc n) = omega (arith, next) in
    sym (place_next sun_rows n (x - start_of n) (omega (arith, row_count)) (omega (arith, next, from)) ∙ rw (add-one n, rest))
    ∙ passed n x (omega arith) (omega (arith, next, from))

-- what is found of a moment that falls in a term
pub place_at : (n x : ℕ) → TermAt n x → place (get_or sun_rows n no_row).term (x - start_of n) ≡ place_in solstice_row later_rows x
place_at n x h =
    let within : x - start_of n < (get_or sun_rows n no_row).span.0 = omega (arith, start_next n h.one_of_24, h.from, h.to) in
    sym (place_here (get_or sun_rows n no_row) (drop (n + 1) sun_rows) (x - start_of n) within) ∙ passed n x h.one_of_24 h.from

-- half a mean term after the mean start of each term stands between its start and the next one's, by two tests over the table
half_between : (n : ℕ) → n < 24 → (2 * start_of n ≤ (2 * n + 1) * 1022685) × ((2 * n + 1) * 1022685 ≤ 2 * start_of (n + 1))
unfolding every solstice_row later_rows
half_between n h =
    let from = at_each (λ i. leb (2 * start_of i) ((2 * i + 1) * 1022685)) 0 24 tt n (omega arith) h in
    let to = at_each (λ i. leb ((2 * i + 1) * 1022685) (2 * start_of (i + 1))) 0 24 tt n (omega arith) h in
    (leb→le _ _ from, leb→le _ _ to)

year_start : start_of 24 ≡ 24544440
unfolding solstice_row later_rows
year_start = refl

-- the term that by the mean starts nearest to a moment
abbrev nearest_term : ℕ → ℕ
nearest_term x = (2 * x + 1022685) / 2045370

module _ (x : ℕ) (inside : x < 24544440) where
  -- if it has started, it is one of the 24, and the moment falls in it
  pub at_nearest : start_of (nearest_term x) ≤ x → TermAt (nearest_term x) x
  at_nearest from = by (ltb (nearest_term x) 24) refl
    where
      by : (b : Bool) → ltb (nearest_term x) 24 ≡ b → TermAt (nearest_term x) x
      by true e =
          let few = ltb-true _ 24 e in
          record { one_of_24 = few; from = from; to = omega (arith, half_between (nearest_term x) few) }
      by false e =
          let last : nearest_term x ≡ 24 = omega (arith, ltb-false (nearest_term x) 24 e) in
          absurd (omega (arith, ap start_of last, year_start))

  -- if it has not, there is one before it ..
  pub not_first : x < start_of (nearest_term x) → 1 ≤ nearest_term x
  not_first to = by (nearest_term x) refl
    where
      by : (m : ℕ) → nearest_term x ≡ m → 1 ≤ nearest_term x
      by zero e = absurd (omega (arith, ap start_of e))
      by (suc m) e = omega (arith, e)

  -- .. and the moment falls in that one
  pub before_nearest : x < start_of (nearest_term x) → TermAt (nearest_term x - 1) x
  before_nearest to =
      let again : nearest_term x - 1 + 1 ≡ nearest_term x = omega (arith, not_first to) in
      let few : nearest_term x - 1 < 24 = omega arith in
      record { one_of_24 = few; from = omega (arith, half_between (nearest_term x - 1) few, not_first to); to = rw again to }

-- what is found: a row's term, with what holds of every row, and a place within its span
pub record Found (P : Row → Type 0) (p : TermPlace) : Type 0 where
  pub row : Row
  pub its_term : p.term ≡ row.term
  pub holds : P row
  pub within : p.into.0 < row.span.0

found_in : (P : Row → Type 0) (r : Row) (rs : List Row) (x : ℕ) → ((i : ℕ) → i < length (r ∷ rs) → P (get_or (r ∷ rs) i no_row)) → x < lasting (r ∷ rs) → Found P (place_in r rs x)
unfolding place_in
found_in P r [] x rows h = record { row = r; its_term = refl; holds = rows 0 (omega arith); within = omega arith }
found_in P r (q ∷ qs) x rows h =
    by_span (ltb x r.span.0) refl
    (λ over. found_in P q qs (x - r.span.0) (λ i g. rows (suc i) (omega arith)) (omega arith))
  where
    by_span : (b : Bool) → ltb x r.span.0 ≡ b → (r.span.0 ≤ x → Found P (place_in q qs (x - r.span.0))) → Found P (elim b as (λ _. TermPlace) [ true ↦ place r.term x | false ↦ place_in q qs (x - r.span.0) ])
    by_span true e later =
        record { row = r; its_term = refl; holds = rows 0 (omega arith); within = ltb-true x r.span.0 e }
    by_span false e later = later (ltb-false x r.span.0 e)

-- the 24 spans fill the year
pub year_filled : lasting sun_rows ≡ (fen_to_byo solar_year).0
unfolding solstice_row later_rows
year_filled = refl

pub found : (P : Row → Type 0) → ((i : ℕ) → i < 24 → P (get_or sun_rows i no_row)) → (at : Byo) → Found P (sun_place at)
unfolding sun_place
found P rows at =
    found_in P solstice_row later_rows _ (λ i g. rows i (omega (arith, row_count)))
    (rw year_filled (mod-lt at.0 (omega arith)))

-- the last twelve spans are the first twelve in reverse
abbrev span : Row → ℕ
span r = r.span.0

mirrored : map span (drop 12 sun_rows) ≡ reverse (map span (take 12 sun_rows))
unfolding solstice_row later_rows
mirrored = refl
