-- An answer is given or refused and not both, and a `Result` tells one.
use mathlib.Core.Path.{◌≡◌, refl, sym, ap, ◌∙◌}
use mathlib.Core.Bool.{false≢true}
use Prim.Native.Nat.{ℕ}
use Rattle.std.specs.Prelude.{List, [], ◌∷◌, get_or, Result, Ok, Err}
use Rattle.std.specs.Result.{IsErrAnd}
use Rattle.std.proofs.lemmas.Result.{err_from_is_err_and}
use Rattle.answers.specs.declared.Refusal.{Refusal}
use Rattle.answers.specs.declared.Refusal.TheVariants.{NoSuchCalendar, YearNotCovered, NoSuchMonth, NoSuchDay, DayNotCovered, WrongSize, WrongTagOrLength, WrongField, RunFull, RunOfOneYear, NoRun, NoLine, EclipseOfGenka, NoEclipse}
use Rattle.answers.specs.Answer.{Answer, given, refused, number_of, told, told_as}

pub not_given : {A : Type 0} (n : ℕ) (a : A) → refused n ≡ given a → ⊥
not_given n a e = false≢true cc

pub not_refused : {A : Type 0} (n : ℕ) (a : A) → given a ≡ refused n → ⊥
not_refused n a e = not_given n a (sym e)

pub one_given : {A : Type 0} (a b : A) → given a ≡ given b → a ≡ b
one_given a b e = cc

pub one_refusal : {A : Type 0} (n m : ℕ) → ◌≡◌ {A = Answer A} (refused n) (refused m) → n ≡ m
one_refusal n m e = cc

-- ---- a `Result` tells one answer

-- the refusals by number, from 0, which none has
by_number : List Refusal
by_number =
    NoEclipse ∷ NoSuchCalendar ∷ YearNotCovered ∷ NoSuchMonth ∷ NoSuchDay ∷ DayNotCovered ∷ WrongSize ∷ WrongTagOrLength ∷ WrongField ∷ RunFull ∷
    RunOfOneYear ∷ NoRun ∷ NoLine ∷ EclipseOfGenka ∷ NoEclipse ∷ []

numbered : ℕ → Refusal
numbered n = get_or by_number n NoEclipse

numbered_number : (r : Refusal) → numbered (number_of r) ≡ r
unfolding numbered by_number
numbered_number NoSuchCalendar = refl
numbered_number YearNotCovered = refl
numbered_number NoSuchMonth = refl
numbered_number NoSuchDay = refl
numbered_number DayNotCovered = refl
numbered_number WrongSize = refl
numbered_number WrongTagOrLength = refl
numbered_number WrongField = refl
numbered_number RunFull = refl
numbered_number RunOfOneYear = refl
numbered_number NoRun = refl
numbered_number NoLine = refl
numbered_number EclipseOfGenka = refl
numbered_number NoEclipse = refl

-- no two refusals have one number
pub one_number : (r s : Refusal) → number_of r ≡ number_of s → r ≡ s
one_number r s e = sym (numbered_number r) ∙ ap numbered e ∙ numbered_number s

-- two results that tell the same are one, where what is told of a value tells which it is
pub one_told_as : {A B : Type 0} (f : A → B) → ((a b : A) → f a ≡ f b → a ≡ b) → (x y : Result A Refusal) → told_as f x ≡ told_as f y → x ≡ y
one_told_as f one (Ok a) (Ok b) e = ap Ok (one a b (one_given (f a) (f b) e))
one_told_as f one (Ok a) (Err s) e = absurd (not_refused _ _ e)
one_told_as f one (Err r) (Ok b) e = absurd (not_given _ _ e)
one_told_as f one (Err r) (Err s) e = ap Err (one_number r s (one_refusal _ _ e))

pub one_told : {A : Type 0} (x y : Result A Refusal) → told x ≡ told y → x ≡ y
one_told (Ok a) (Ok b) e = ap Ok (one_given a b e)
one_told (Ok a) (Err s) e = absurd (not_refused _ _ e)
one_told (Err r) (Ok b) e = absurd (not_given _ _ e)
one_told (Err r) (Err s) e = ap Err (one_number r s (one_refusal _ _ e))

-- what `?` hands on is told as it came
pub handed_on : {A : Type 0} (refusal : Refusal) (r : Result A Refusal) → IsErrAnd r (λ e. e ≡ refusal) → told r ≡ refused (number_of refusal)
handed_on refusal r h = let p = err_from_is_err_and r h in rw (p.1, p.2)

pub handed_on_as : {A B : Type 0} (f : A → B) (refusal : Refusal) (r : Result A Refusal) → IsErrAnd r (λ e. e ≡ refusal) → told_as f r ≡ refused (number_of refusal)
handed_on_as f refusal r h = let p = err_from_is_err_and r h in rw (p.1, p.2)
