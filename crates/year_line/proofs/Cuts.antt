-- Bytes cut at the first of a kind: what stands before it, the byte itself, what stands behind it.
use mathlib.Core.Path.{◌≡◌, refl, sym, ap, ◌∙◌}
use mathlib.Core.Bool.{Bool, true, false, ◌||◌, or_assoc, true≢false}
use mathlib.Core.List.{List, [], ◌∷◌, ◌++◌}
use Prim.Native.Nat.{ℕ}
use borrow.Author.Tests.{eq-eqb, eqb-true}
use lib.Dec.{eqb}
use Rattle.answers.proofs.Conditions.{neither}
use Rattle.year_line.specs.Line.{has, before, behind}

module _ (stop : ℕ) where
  -- two lists together have what either has
  pub has_joined : (front rest : List ℕ) → has stop (front ++ rest) ≡ (has stop front || has stop rest)
  unfolding has
  has_joined [] rest = refl
  has_joined (byte ∷ front) rest =
      ap (λ b. eqb byte stop || b) (has_joined front rest) ∙ sym (or_assoc (eqb byte stop) (has stop front) (has stop rest))

  -- the bytes are cut in a front and a rest
  pub record Cut (bytes front rest : List ℕ) : Type 0 where
    pub found : has stop bytes ≡ true
    pub front_is : before stop bytes ≡ front
    pub rest_is : behind stop bytes ≡ rest

  -- the first stop cuts: before it stands no other
  pub cut_at : (front rest : List ℕ) → has stop front ≡ false → Cut (front ++ stop ∷ rest) front rest
  unfolding has before behind
  cut_at [] rest none =
      let e = eq-eqb stop stop refl in
      record { found = rw e; front_is = rw (e, before); rest_is = rw (e, behind) }
  cut_at (byte ∷ front) rest none =
      let (e, later) = neither (eqb byte stop) (has stop front) none in
      let cut = cut_at front rest later in
      let front_is = ap (λ l. byte ∷ l) cut.front_is in
      record { found = rw e cut.found; front_is = rw (e, before) front_is; rest_is = rw (e, behind) cut.rest_is }

  -- the two parts and the stop between them are the whole
  abbrev Joined : List ℕ → Type 0
  Joined bytes = bytes ≡ before stop bytes ++ stop ∷ behind stop bytes

  pub whole : (bytes : List ℕ) → has stop bytes ≡ true → Joined bytes
  unfolding has before behind
  whole [] found = absurd (true≢false (sym found))
  whole (byte ∷ bytes) found = by_byte (eqb byte stop) refl (whole bytes)
    where
      by_byte : (b : Bool) → eqb byte stop ≡ b → (has stop bytes ≡ true → Joined bytes) → Joined (byte ∷ bytes)
      by_byte true e later = rw (e, before, behind) (ap (λ x. x ∷ bytes) (eqb-true byte stop e))
      by_byte false e later = rw (e, before, behind) (ap (λ l. byte ∷ l) (later (rw e at found)))
