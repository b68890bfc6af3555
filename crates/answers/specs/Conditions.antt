-- The conditions of a call, each with its refusal, in the order in which they are asked (01, "Refusal numbers").
use Rattle.std.specs.Prelude.{◌≡◌, Bool, true, false, ◌||◌, List, [], ◌∷◌, ◌⊎◌, ℕ, eqb}
use Rattle.answers.specs.Answer.{Answer, given, refused}

-- the first condition that fails names the refusal; where none fails, the answer is given
unfoldable pub asking : {A : Type 0} → List (Bool × ℕ) → A → Answer A
asking [] answer = given answer
asking ((holds, refusal) ∷ rest) answer = elim holds [ true ↦ asking rest answer | false ↦ refused refusal ]

-- every condition holds
abbrev pub AllHold : List (Bool × ℕ) → Type 0
AllHold [] = Unit {0}
AllHold ((holds, refusal) ∷ rest) = (holds ≡ true) × AllHold rest

-- one of the conditions has refusal n
abbrev pub is_named : ℕ → List (Bool × ℕ) → Bool
is_named n [] = false
is_named n ((holds, refusal) ∷ rest) = eqb refusal n || is_named n rest

-- a condition, or one behind it, is the first to fail with some refusal: told by whether that refusal is its own, whether it is also a later one's,
-- whether it holds, and what is said of the later ones
abbrev pub FailsFrom : Bool → Bool → Bool → Type 0 → Type 0
FailsFrom false again holds later = (holds ≡ true) × later
FailsFrom true false holds later = holds ≡ false
FailsFrom true true holds later = (holds ≡ false) ⊎ ((holds ≡ true) × later)

-- the first condition that fails has refusal n: those before it hold, and it fails
abbrev pub FirstFails : List (Bool × ℕ) → ℕ → Type 0
FirstFails [] n = ⊥
FirstFails ((holds, refusal) ∷ rest) n = FailsFrom (eqb refusal n) (is_named n rest) holds (FirstFails rest n)

-- one thing holds exactly if another does
pub record Exactly (A B : Type 0) : Type 0 where
  pub if : B → A
  pub only_if : A → B
