-- When a promise fixes what a call that prints answers. Printing may fail, and then the call tells so in place of an answer.
use Rattle.std.specs.Prelude.{◌≡◌, Result, Ok}

-- two answers that a promise allows to the same call are one
abbrev pub OneOk : {L : Type 0} {A E : L → Type 0} {V F : Type 0} → ((l : L) → A l → Result V F → E l → Type 0) → Type 0
OneOk {L} {A} {E} {V} {F} promise = (l : L) (a : A l) (x y : V) (s t : E l) → promise l a (Ok x) s → promise l a (Ok y) t → x ≡ y
