-- The test that two runs are the same tells what is one from what is not.
use mathlib.Core.Path.{◌≡◌, refl, ap}
use mathlib.Core.Bool.{Bool, true, false, ◌&&◌, and-eq-true_iff}
use mathlib.Core.List.{List, [], ◌∷◌}
use Prim.Native.Nat.{ℕ}
use lib.Dec.{eqb}
use lib.ListN.{get_or}
use Rattle.std.specs.Cmp.Lexicographic.{pointwise}
use Rattle.numbers.specs.Same.{same_by}
use Rattle.numbers.proofs.Same.{Tells, tells_numbers, tells_lists}
use Rattle.run_content.specs.declared.Run.{Run}
use Rattle.run_examination.specs.Examined.{head, same_run}

-- runs that agree in their heads and in every place are one
run_is : {a b : Run} → head a ≡ head b → a.first_days ≡ b.first_days → a.last_dates ≡ b.last_dates → a ≡ b
run_is {a} {b} heads days dates =
    whole (ap (λ l. get_or l 0 0) heads) (ap (λ l. get_or l 1 0) heads) (ap (λ l. get_or l 2 0) heads) (ap (λ l. get_or l 3 0) heads) days dates
  where
    whole : {c d f g m n j k : ℕ} {l p q s : List ℕ} → c ≡ d → f ≡ g → m ≡ n → j ≡ k → l ≡ p → q ≡ s
        → ◌≡◌ {A = Run} (record { calendar = c; first_year = f; years = m; count = j; first_days = l; last_dates = q }) (record { calendar = d; first_year = g; years = n; count = k; first_days = p; last_dates = s })
    whole e f g h i j = cc

-- the test of numbers in places tells
pub tells_places : Tells (same_by eqb)
tells_places = tells_lists eqb tells_numbers

-- .. and so does that of runs
pub tells_runs : Tells same_run
unfolding same_run
tells_runs = record { one = one; itself = itself }
  where
    one : (a b : Run) → same_run a b ≡ true → a ≡ b
    one a b h =
        let (heads, places) = (and-eq-true_iff (same_by eqb (head a) (head b)) _).0 h in
        let (days, dates) = (and-eq-true_iff (same_by eqb a.first_days b.first_days) _).0 places in
        run_is (tells_places.one _ _ heads) (tells_places.one _ _ days) (tells_places.one _ _ dates)

    itself : (a : Run) → same_run a a ≡ true
    itself a = rw (tells_places.itself (head a), tells_places.itself a.first_days, tells_places.itself a.last_dates)

-- ---- what `==` says of two runs, field by field

same_places : (l m : List ℕ) → pointwise eqb l m ≡ same_by eqb l m
unfolding same_by
same_places [] [] = refl
same_places [] (y ∷ ys) = refl
same_places (x ∷ xs) [] = refl
same_places (x ∷ xs) (y ∷ ys) = rw (same_places xs ys)

-- the head is a list
listed : (c f y n days dates : Bool) → (c && (f && (y && (n && (days && dates))))) ≡ ((c && (f && (y && (n && true)))) && (days && dates))
listed true true true true days dates = refl
listed true true true false days dates = refl
listed true true false n days dates = refl
listed true false y n days dates = refl
listed false f y n days dates = refl

pub field_by_field : (a b : Run) → (eqb a.calendar b.calendar && (eqb a.first_year b.first_year && (eqb a.years b.years && (eqb a.count b.count && (pointwise eqb a.first_days b.first_days && pointwise eqb a.last_dates b.last_dates))))) ≡ same_run a b
unfolding same_run same_by
field_by_field a b = rw (same_places a.first_days b.first_days, same_places a.last_dates b.last_dates) (listed (eqb a.calendar b.calendar) (eqb a.first_year b.first_year) (eqb a.years b.years) (eqb a.count b.count) (same_by eqb a.first_days b.first_days) (same_by eqb a.last_dates b.last_dates))
