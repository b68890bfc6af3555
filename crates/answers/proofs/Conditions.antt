-- What any list of conditions gives and refuses, exactly, and that one list behind another asks the rest of what the first gives.
use mathlib.Core.Path.{◌≡◌, refl, sym, ap}
use mathlib.Core.Bool.{Bool, true, false, false≢true, ◌||◌, ◌&&◌, and-eq-true_iff}
use mathlib.Core.List.{List, [], ◌∷◌, ◌++◌}
use mathlib.Core.Logic.{inl, inr, ⊎_elim}
use Prim.Native.Nat.{ℕ, ◌<◌}
use lib.Dec.{eqb, ltb}
use borrow.Author.Tests.{eqb-true, eqb-false, ltb-true}
use Rattle.answers.specs.Answer.{Answer, given, refused, then}
use Rattle.answers.specs.Conditions.{asking, AllHold, is_named, FailsFrom, FirstFails, Exactly}
use Rattle.answers.proofs.Answers.{not_given, not_refused, one_refusal}

-- a call that asks more of what another gives is that one, and then the rest
pub then_asking : {A B : Type 0} (first : List (Bool × ℕ)) (a : A) (more : A → List (Bool × ℕ)) (b : A → B) → asking (first ++ more a) (b a) ≡ then (asking first a) (λ x. asking (more x) (b x))
unfolding asking
then_asking [] a more b = refl
then_asking ((true, n) ∷ first) a more b = then_asking first a more b
then_asking ((false, n) ∷ first) a more b = refl

-- what is told of the thing that a call gives is refused as that is
pub then_given : {A B : Type 0} (conditions : List (Bool × ℕ)) (a : A) (b : A → B) → asking conditions (b a) ≡ then (asking conditions a) (λ x. given (b x))
unfolding asking
then_given [] a b = refl
then_given ((true, n) ∷ rest) a b = then_given rest a b
then_given ((false, n) ∷ rest) a b = refl

pub neither : (a b : Bool) → (a || b) ≡ false → (a ≡ false) × (b ≡ false)
neither true b h = absurd (false≢true (sym h))
neither false b h = (refl, h)

-- every condition's refusal is below a limit
abbrev pub all_below : ℕ → List (Bool × ℕ) → Bool
all_below limit [] = true
all_below limit ((holds, n) ∷ rest) = ltb n limit && all_below limit rest

module _ {A : Type 0} where
  -- given exactly if every condition holds
  pub given_exactly : (conditions : List (Bool × ℕ)) (a x : A) → Exactly (asking conditions a ≡ given x) (AllHold conditions × (a ≡ x))
  unfolding asking
  given_exactly [] a x = record { if = λ h. ap given h.1; only_if = λ e. (tt, cc) }
  given_exactly ((true, n) ∷ rest) a x =
      let later = given_exactly rest a x in
      record { if = λ h. later.if (h.0.1, h.1); only_if = λ e. let h = later.only_if e in ((refl, h.0), h.1) }
  given_exactly ((false, n) ∷ rest) a x = record { if = λ h. absurd (false≢true h.0.0); only_if = λ e. absurd (not_given n x e) }

  -- a number that no condition has is no refusal
  pub never_refused : (conditions : List (Bool × ℕ)) (a : A) (n : ℕ) → is_named n conditions ≡ false → asking conditions a ≡ refused n → ⊥
  unfolding asking
  never_refused [] a n none e = not_refused n a e
  never_refused ((true, m) ∷ rest) a n none e = never_refused rest a n (neither (eqb m n) (is_named n rest) none).1 e
  never_refused ((false, m) ∷ rest) a n none e = eqb-false m n (neither (eqb m n) (is_named n rest) none).0 (one_refusal m n e)

  module _ {T : Type 0} (m n : ℕ) (rest : List (Bool × ℕ)) (a : A) (later : Exactly (asking rest a ≡ refused n) T) where
    -- a condition that holds leaves the refusal to the later ones ..
    holding : (is again : Bool) → (again ≡ false → asking rest a ≡ refused n → ⊥) → Exactly (asking rest a ≡ refused n) (FailsFrom is again true T)
    holding false again none = record { if = λ h. later.if h.1; only_if = λ e. (refl, later.only_if e) }
    holding true false none = record { if = λ h. absurd (false≢true (sym h)); only_if = λ e. absurd (none refl e) }
    holding true true none =
        record { if = λ h. ⊎_elim (λ f. absurd (false≢true (sym f))) (λ f. later.if f.1) h; only_if = λ e. inr (refl, later.only_if e) }

    -- .. and one that fails names it
    failing : (is again : Bool) → eqb m n ≡ is → Exactly (◌≡◌ {A = Answer A} (refused m) (refused n)) (FailsFrom is again false T)
    failing false again h = record { if = λ f. absurd (false≢true f.0); only_if = λ e. absurd (eqb-false m n h (one_refusal m n e)) }
    failing true false h = record { if = λ f. ap refused (eqb-true m n h); only_if = λ e. refl }
    failing true true h = record { if = λ f. ap refused (eqb-true m n h); only_if = λ e. inl refl }

  -- refused exactly with the number of the first condition that fails
  pub refused_exactly : (conditions : List (Bool × ℕ)) (a : A) (n : ℕ) → Exactly (asking conditions a ≡ refused n) (FirstFails conditions n)
  unfolding asking
  refused_exactly [] a n = record { if = λ h. absurd h; only_if = λ e. not_refused n a e }
  refused_exactly ((true, m) ∷ rest) a n = holding m n rest a (refused_exactly rest a n) (eqb m n) (is_named n rest) (never_refused rest a n)
  refused_exactly ((false, m) ∷ rest) a n = failing m n rest a (refused_exactly rest a n) (eqb m n) (is_named n rest) refl

  -- a refusal is small, where each condition's is
  pub small_refused : (conditions : List (Bool × ℕ)) (a : A) (n limit : ℕ) → all_below limit conditions ≡ true → asking conditions a ≡ refused n → n < limit
  unfolding asking
  small_refused [] a n limit h e = absurd (not_refused n a e)
  small_refused ((true, m) ∷ rest) a n limit h e = small_refused rest a n limit ((and-eq-true_iff (ltb m limit) (all_below limit rest)).0 h).1 e
  small_refused ((false, m) ∷ rest) a n limit h e =
      rw (one_refusal m n e) at (ltb-true m limit ((and-eq-true_iff (ltb m limit) (all_below limit rest)).0 h).0)
