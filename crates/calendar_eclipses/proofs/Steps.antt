-- The calls' definitions, step by step as the code takes them.
use mathlib.Core.Path.{◌≡◌, refl, sym, ap, subst, ◌∙◌}
use mathlib.Core.Bool.{Bool, true, false, false≢true, ◌||◌}
use mathlib.Core.List.{List, [], ◌∷◌}
use Prim.Native.Nat.{ℕ}
use lib.Dec.{eqb}
use borrow.Author.Tests.{ne_eqb}
use Rattle.answers.specs.Answer.{given, refused, then}
use Rattle.answers.specs.Conditions.{asking}
use Rattle.answers.proofs.Answers.{not_refused, one_refusal}
use Rattle.answers.proofs.Conditions.{then_given, given_exactly}
use Rattle.months_rules.specs.declared.Calendar.{Calendar}
use Rattle.months_rules.specs.declared.Calendar.TheVariants.{Senmyo, Genka}
use Rattle.months_rules.specs.Rules.{senmyo, rules_of}
use Rattle.months.specs.Room.{Covering}
use Rattle.calendar_range.specs.Range.{numbered, rules_for, calendar_of}
use Rattle.calendar_month.specs.Asked.{month_named, moon_asked}
use Rattle.calendar_month.proofs.Given.{moon_given}
use Rattle.calendar_month.proofs.Covered.{asked_moon_covered}
use Rattle.calendar_eclipses.specs.Eclipses.{eclipse_in, eclipse_asked, eclipse_of}
use Rattle.calendar_eclipses.proofs.Refusals.{asked_given}

Senmyo≢Genka : Senmyo ≡ Genka → ⊥
Senmyo≢Genka e = false≢true cc

-- a calendar that is not Genka's is Senmyo's, so that 13 need not be asked after 1
no_other : {A : Type 0} (senmyo : Bool) (rest : List (Bool × ℕ)) (a : A) → asking ((senmyo || false, 1) ∷ (senmyo, 13) ∷ rest) a ≡ asking ((senmyo || false, 1) ∷ rest) a
unfolding asking
no_other true rest a = refl
no_other false rest a = refl

-- .. and the month is asked for as any other
pub not_genka : (c y m : ℕ) (leap : Bool) → (c ≡ 2 → ⊥) → eclipse_asked c y m leap ≡ then (moon_asked c y m leap) (λ a. given a.1)
unfolding eclipse_asked moon_asked
not_genka c y m leap h = rw (ne_eqb c 2 h) (no_other (eqb c 1) _ _ ∙ then_given _ (numbered c, month_named (rules_for c) y m leap) (λ a. a.1))

-- what is no calendar is refused as one is
refused_first : (known : Bool) (rest : List (Bool × ℕ)) (a : Calendar) (k n : ℕ) → refused n ≡ asking ((known, 1) ∷ []) a → refused n ≡ asking ((known, 1) ∷ rest) k
unfolding asking
refused_first true rest a k n e = absurd (not_refused _ _ (sym e))
refused_first false rest a k n e = ap refused (one_refusal _ _ e)

pub calendar_refused : (c y m : ℕ) (leap : Bool) (n : ℕ) → refused n ≡ calendar_of c → refused n ≡ eclipse_asked c y m leap
unfolding calendar_of eclipse_asked
calendar_refused c y m leap n e = refused_first _ _ _ _ _ e

-- Genka, which is known and not Senmyo, is refused with 13
refused_second : (known senmyo : Bool) (rest : List (Bool × ℕ)) (k : ℕ) → known ≡ true → senmyo ≡ false → refused 13 ≡ asking ((known, 1) ∷ (senmyo, 13) ∷ rest) k
unfolding asking
refused_second known senmyo rest k is not = rw (is, not)

is_2 : (one two : Bool) (k : ℕ) → elim one [ true ↦ Senmyo | false ↦ Genka ] ≡ Genka → one ≡ false
is_2 true two k e = absurd (Senmyo≢Genka e)
is_2 false two k e = refl

pub genka_refused : (c y m : ℕ) (leap : Bool) → given Genka ≡ calendar_of c → refused 13 ≡ eclipse_asked c y m leap
unfolding calendar_of eclipse_asked
genka_refused c y m leap e =
    let g = (given_exactly _ _ _).only_if (sym e) in
    refused_second _ _ _ _ g.0.0 (is_2 (eqb c 1) (eqb c 2) c g.1)

-- .. and Senmyo has not its number
pub senmyo_not_2 : (c : ℕ) → given Senmyo ≡ calendar_of c → c ≡ 2 → ⊥
unfolding calendar_of
senmyo_not_2 c e two = let g = (given_exactly _ _ _).only_if (sym e) in Senmyo≢Genka (sym (rw two at g.1))

-- the eclipse is told of the month that was found
pub eclipse_asked_lem : (c y m : ℕ) (leap : Bool) → eclipse_of c y m leap ≡ then (eclipse_asked c y m leap) (λ k. given (eclipse_in k))
unfolding eclipse_asked eclipse_of
eclipse_asked_lem c y m leap = then_given _ _ eclipse_in

-- .. which is one of the covered months of Senmyo
pub asked_covered : (c y m : ℕ) (leap : Bool) (k : ℕ) → eclipse_asked c y m leap ≡ given k → Covering senmyo k
unfolding rules_of
asked_covered c y m leap k e =
    let g = (asked_given c y m leap k).only_if e in
    let named = (moon_given c y m leap (numbered c, month_named (rules_for c) y m leap)).if ((g.0.0, (g.0.1.1.0, (g.0.1.1.1.0, tt))), refl) in
    let is_senmyo : numbered c ≡ Senmyo = rw (g.0.1.0, numbered) in
    subst (Covering senmyo) g.1
    (subst (λ (s : Calendar). Covering (rules_of s) (month_named (rules_for c) y m leap)) is_senmyo (asked_moon_covered c y m leap _ named))
