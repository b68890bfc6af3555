-- `year_line::place_of` meets its contract: before the first stop stands none, so that the bytes are cut there.
use mathlib.Core.Path.{◌≡◌, refl, sym}
use mathlib.Core.Bool.{false}
use mathlib.Core.List.{List, ◌∷◌, ◌++◌}
use Prim.Native.Nat.{ℕ, suc, ◌<◌}
use native.Mathlib.Numerals.{add-one}
use native.Mathlib.Omega.{arith}
use borrow.Author.Tests.{tests}
use borrow.Author.Rules.{rules}
use lib.Dec.{eqb}
use lib.ListN.{length, get_or, take, drop, length-take}
use lib.Seq.{split_at}
use Rattle.std.specs.Prelude.{Option, Some, None}
use Rattle.std.specs.List.{AllWithin, HoldsAt}
use Rattle.std.specs.Option.{MatchOption}
use Rattle.std.proofs.lemmas.Iterator.{IsFirst-from_position, YieldsList-from_slice}
use Rattle.std.proofs.lemmas.List.{get_or-take}
use Rattle.std.proofs.lemmas.List.Recursion.{or_from_places}
use Rattle.year_line.specs.Line.{has}
use Rattle.year_line.specs.Room.{Stands, FirstPlace}
use Rattle.year_line.proofs.Cuts.{Cut, cut_at}
use Rattle.year_line.proofs.place_of.Goals as goal

module _ (stop : ℕ) where
  abbrev Other : ℕ → Type 0
  Other byte = eqb byte stop ≡ false

  none_at : (bytes : List ℕ) → ((i : ℕ) → i < length bytes → Other (get_or bytes i 0)) → has stop bytes ≡ false
  unfolding has
  none_at bytes none = or_from_places (has stop) (λ byte. eqb byte stop) refl (λ _ _. refl) bytes 0 none

  cut : (bytes : List ℕ) (place : ℕ) → place < length bytes → get_or bytes place 0 ≡ stop → has stop (take place bytes) ≡ false → Stands stop bytes place
  cut bytes place inside e none =
      let front = take place bytes in
      let rest = drop (suc place) bytes in
      let parts : front ++ stop ∷ rest ≡ bytes = sym (rw e at (split_at bytes place 0 inside)) in
      let cut : Cut stop bytes front rest = rw parts at (cut_at stop front rest none) in
      record { found = cut.found; inside = inside; front = sym cut.front_is; rest = rw add-one (sym cut.rest_is) }

  first : (bytes : List ℕ) (r : Option ℕ) → MatchOption r (AllWithin Other bytes 0 (length bytes)) (λ i. (i < length bytes) × HoldsAt (λ byte. byte ≡ stop) bytes i × AllWithin Other bytes 0 i) → FirstPlace stop bytes r
  first bytes None none = none_at bytes (λ i inside. none i 0 (omega arith) inside)
  first bytes (Some place) (inside, here, none) =
      cut bytes place inside (here 0) (none_at (take place bytes) (λ i h. let before : i < place = omega (arith, simp length-take at h) in rw (get_or-take place bytes i 0 before) (none i 0 (omega arith) before)))

pub returns : goal.returns
returns c =
    first _ _ _ (IsFirst-from_position _ _ _ (λ byte. byte ≡ c.args.stop) (Other c.args.stop) c.position.ensures.ran (YieldsList-from_slice c.args.bytes.now cc) (λ x q k. search (rules, tests)) (λ x q k. search (rules, tests)))
