-- Whether two lists are the same, told by a test of what stands in them.
use Rattle.std.specs.Prelude.{Bool, true, false, ◌&&◌, List, [], ◌∷◌}

unfoldable pub same_by : {A : Type 0} → (A → A → Bool) → List A → List A → Bool
same_by test [] [] = true
same_by test [] (y ∷ ys) = false
same_by test (x ∷ xs) [] = false
same_by test (x ∷ xs) (y ∷ ys) = test x y && same_by test xs ys
