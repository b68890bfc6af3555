-- Of places that are filled all but the first move up to the front: they hold the same things, from a later one on.
use mathlib.Core.Path.{◌≡◌, refl, sym, ap, ◌∙◌}
use mathlib.Core.Bool.{Bool, true, false}
use mathlib.Core.List.{List, ◌++◌}
use Prim.Native.Nat.{ℕ, ◌+◌, ◌-◌, ◌<◌, ◌≤◌}
use native.Mathlib.Omega.{arith}
use lib.Dec.{ltb}
use lib.ListN.{length, get_or, take, drop, replicate}
use borrow.Author.Tests.{ltb-true, ltb-false}
use Rattle.std.proofs.lemmas.List.{length-drop, length-take-le, length-replicate, length-append, get_or-take, get_or-drop, get_or-replicate, get_or_append_left, get_or-append_right, same_lists}
use Rattle.numbers.specs.Places.{places}
use Rattle.numbers.proofs.Places.{length_places, at_place, unused_place}
use Rattle.run_content.specs.Room.{moved_up}

module _ (thing : ℕ → ℕ) (k used n first : ℕ) (some_stay : first ≤ used) (inside : used ≤ n) where
  abbrev before : List ℕ
  before = places 0 thing k used n

  abbrev after : List ℕ
  after = places 0 thing (k + first) (used - first) n

  whole : length before ≡ n
  whole = length_places 0 thing k used n

  stay : length (take (used - first) (drop first before)) ≡ used - first
  stay = length-take-le (used - first) (drop first before) (omega (arith, length-drop first before, whole))

  freed : length {A = ℕ} (replicate first 0) ≡ first
  freed = length-replicate first 0

  -- the places that hold the later things, those that these leave, and those that held none
  at_front : (i d : ℕ) → i < used - first → get_or (moved_up before first used) i d ≡ get_or after i d
  at_front i d h =
      get_or_append_left _ _ d i (omega (arith, h, stay))
      ∙ get_or-take (used - first) (drop first before) i d h
      ∙ get_or-drop first before i d
      ∙ at_place 0 thing k used n (first + i) d (omega (arith, h)) inside
      ∙ (let on : k + (first + i) ≡ k + first + i = omega arith in ap thing on)
      ∙ sym (at_place 0 thing (k + first) (used - first) n i d h (omega (arith, inside)))

  behind : (i d : ℕ) → used - first ≤ i → get_or (moved_up before first used) i d ≡ get_or (replicate first 0 ++ drop used before) (i - (used - first)) d
  behind i d h = get_or-append_right _ _ (used - first) i d stay h

  at_freed : (i d : ℕ) → used - first ≤ i → i < used → get_or (moved_up before first used) i d ≡ get_or after i d
  at_freed i d h g =
      let j : i - (used - first) < first = omega (arith, h, g, some_stay) in
      behind i d h
      ∙ get_or_append_left (replicate first 0) _ d _ (rw freed j)
      ∙ get_or-replicate first _ 0 d j
      ∙ sym (unused_place 0 thing (k + first) (used - first) n i d h (omega (arith, g, inside)))

  at_end : (i d : ℕ) → used ≤ i → i < n → get_or (moved_up before first used) i d ≡ get_or after i d
  at_end i d h g =
      let on : used + (i - (used - first) - first) ≡ i = omega (arith, h, some_stay) in
      behind i d (omega (arith, h))
      ∙ get_or-append_right _ _ first _ d freed (omega (arith, h, some_stay))
      ∙ get_or-drop used before _ d
      ∙ ap (λ m. get_or before m d) on
      ∙ unused_place 0 thing k used n i d h g
      ∙ sym (unused_place 0 thing (k + first) (used - first) n i d (omega (arith, h)) g)

  same_length : length (moved_up before first used) ≡ n
  same_length =
      omega (arith, length-append (take (used - first) (drop first before)) (replicate first 0 ++ drop used before), length-append (replicate first 0) (drop used before), stay, freed, length-drop used before, whole, some_stay, inside)

  pub moved : moved_up before first used ≡ after
  moved = same_lists _ _ (same_length ∙ sym (length_places 0 thing (k + first) (used - first) n)) (λ i d h. by_place i d (omega (arith, h, same_length)) (ltb i (used - first)) refl (ltb i used) refl)
    where
      by_place : (i d : ℕ) → i < n → (b : Bool) → ltb i (used - first) ≡ b → (a : Bool) → ltb i used ≡ a → get_or (moved_up before first used) i d ≡ get_or after i d
      by_place i d g true e a f = at_front i d (ltb-true i (used - first) e)
      by_place i d g false e true f = at_freed i d (ltb-false i (used - first) e) (ltb-true i used f)
      by_place i d g false e false f = at_end i d (ltb-false i used f) g
