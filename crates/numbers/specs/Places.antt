-- Things one behind another in a fixed number of places, as the months of a year stand and of a run.
use Rattle.std.specs.Prelude.{List, [], ◌∷◌, ℕ, zero, suc, ◌+◌}

-- n places: first so many things from thing k on, in order, as far as there are places, then places that are not used
unfoldable pub places : {A : Type 0} → A → (ℕ → A) → ℕ → ℕ → ℕ → List A
places unused thing k count zero = []
places unused thing k zero (suc n) = unused ∷ places unused thing k zero n
places unused thing k (suc count) (suc n) = thing k ∷ places unused thing (k + 1) count n
