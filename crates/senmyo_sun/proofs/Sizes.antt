-- The Sun's numbers fit their words, whole days before the sixteenth in a printed term.
use mathlib.Core.Path.{◌≡◌, refl}
use Prim.Native.Nat.{ℕ, zero, suc, ◌+◌, ◌-◌, ◌*◌, ◌/◌, ◌%◌, ◌<◌, ◌≤◌}
use native.Mathlib.Nat.{mul-suc, mul-le-mul}
use native.Mathlib.Omega.{arith}
use lib.IntN.{ℤ, pos, ◌+ℤ◌, ◌*ℤ◌}
use mir.Syntax.{w64}
use mir.Val.{to_z}
use Rattle.numbers.proofs.Size.{word, Worked, worked_word, told_word, small_word, worked_pos, constant, worked_add, worked_mul}
use Rattle.units.specs.Units.{day_byo}
use Rattle.senmyo_sun.specs.declared.TermPlace.{TermPlace}
use Rattle.senmyo_sun.specs.declared.Term.{Term}
use Rattle.senmyo_sun.specs.Sun.{after_days, on_day, sun_share}
use Rattle.senmyo_sun.specs.Room.{DaysInTerm}
use Rattle.senmyo_sun.proofs.Terms.{Fair, Found}

-- n(n − 1) as the code has it
pub pairs : (n : ℕ) → n * n - n ≡ n * (n - 1)
pairs zero = refl
pairs (suc n) =
    let less : suc n - 1 ≡ n = omega arith in
    rw less (omega (arith, mul-suc (suc n) n))

pub square_more : (n : ℕ) → n ≤ n * n
square_more zero = omega arith
square_more (suc n) = omega (arith, mul-suc (suc n) n)

pub square_few : (n : ℕ) → n < 16 → n * n ≤ 15 * 15
square_few n h = let few : n ≤ 15 = omega arith in mul-le-mul few few

pub pairs_few : (n : ℕ) → n < 16 → n * (n - 1) / 2 ≤ 112
pairs_few n h = omega (arith, pairs n, square_few n h)

-- what the code works out of a term's numbers
module _ (t : Term) (n : ℕ) (h : DaysInTerm t n) where
  rate : Worked (word t.0) t.0 5000
  rate = small_word t.0 h.rate_small (omega arith)

  first : Worked (word t.1) t.1 400000
  first = small_word t.1 h.first_small (omega arith)

  sum : Worked (word t.2) t.2 20000000
  sum = small_word t.2 h.sum_small (omega arith)

  pub by_first : Worked (word t.1 *ℤ to_z w64 n) (t.1 *ℤ pos n) (400000 * 15)
  by_first = worked_mul first (worked_pos n 15 (omega arith) (omega arith))

  pub to_first : Worked (word t.2 +ℤ word (word t.1 *ℤ to_z w64 n)) (t.2 +ℤ t.1 *ℤ pos n) (20000000 + 400000 * 15)
  to_first = worked_add sum (worked_word by_first (omega arith))

  pub by_pairs : Worked (word t.0 *ℤ to_z w64 (n * (n - 1) / 2)) (t.0 *ℤ pos (n * (n - 1) / 2)) (5000 * 112)
  by_pairs = worked_mul rate (worked_pos (n * (n - 1) / 2) 112 (pairs_few n h.days_few) (omega arith))

  pub after : Worked (word (word t.2 +ℤ word (word t.1 *ℤ to_z w64 n)) +ℤ word (word t.0 *ℤ to_z w64 (n * (n - 1) / 2))) (after_days t n) (20000000 + 400000 * 15 + 5000 * 112)
  unfolding after_days
  after = worked_add (worked_word to_first (omega arith)) (worked_word by_pairs (omega arith))

  pub by_days : Worked (word t.0 *ℤ to_z w64 n) (t.0 *ℤ pos n) (5000 * 15)
  by_days = worked_mul rate (worked_pos n 15 (omega arith) (omega arith))

  pub day : Worked (word t.1 +ℤ word (word t.0 *ℤ to_z w64 n)) (on_day t n) (400000 + 5000 * 15)
  unfolding on_day
  day = worked_add first (worked_word by_days (omega arith))

-- .. and of a place that the search finds
abbrev days_in : TermPlace → ℕ
days_in p = p.into.0 / day_byo

abbrev rest_in : TermPlace → ℕ
rest_in p = p.into.0 % day_byo

module _ (p : TermPlace) (h : Found Fair p) where
  pub in_term : DaysInTerm p.term (days_in p)
  in_term =
      let row = h.holds in
      rw h.its_term
      (record {
        rate_small = row.rate_small;
        first_small = row.first_small;
        sum_small = row.sum_small;
        days_few = omega arith;
      })

  pub whole : {a : ℤ} → a ≡ after_days p.term (days_in p) → Worked (word a *ℤ pos day_byo) (after_days p.term (days_in p) *ℤ pos day_byo) (26560000 * day_byo)
  whole e = worked_mul (told_word e (after _ _ in_term).small (omega arith)) (constant day_byo)

  pub rest : {b : ℤ} → b ≡ on_day p.term (days_in p) → Worked (word b *ℤ to_z w64 (rest_in p)) (on_day p.term (days_in p) *ℤ pos (rest_in p)) (475000 * day_byo)
  rest e = worked_mul (told_word e (day _ _ in_term).small (omega arith)) (worked_pos (rest_in p) day_byo (omega arith) (omega arith))

  pub share : {a b : ℤ} → a ≡ after_days p.term (days_in p) → b ≡ on_day p.term (days_in p) → Worked (word (word a *ℤ pos day_byo) +ℤ word (word b *ℤ to_z w64 (rest_in p))) (sun_share p) (26560000 * day_byo + 475000 * day_byo)
  unfolding sun_share
  share e f = worked_add (worked_word (whole e) (omega arith)) (worked_word (rest f) (omega arith))
