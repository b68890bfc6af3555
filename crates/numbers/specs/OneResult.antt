-- When a promise fixes the answer (01, "Holding each call to its answer"). A promise is what a caller learns of a call: of what it was given, what it answers,
-- and what it leaves in memory that was lent. (How long that memory is lent comes first.)
use Rattle.std.specs.Prelude.{◌≡◌}

-- two answers that a promise allows to the same call are one
abbrev pub OneResult : {L : Type 0} {A R E : L → Type 0} → ((l : L) → A l → R l → E l → Type 0) → Type 0
OneResult {L} {A} {R} {E} promise = (l : L) (a : A l) (x y : R l) (s t : E l) → promise l a x s → promise l a y t → x ≡ y

-- .. and so are two contents of lent memory afterwards
abbrev pub OneContent : {L : Type 0} {A R E : L → Type 0} → ((l : L) → A l → R l → E l → Type 0) → {C : Type 0} → ((l : L) → E l → C) → Type 0
OneContent {L} {A} {R} {E} promise content = (l : L) (a : A l) (x y : R l) (s t : E l) → promise l a x s → promise l a y t → content l s ≡ content l t
