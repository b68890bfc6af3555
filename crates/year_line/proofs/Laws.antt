-- Laws of the line: exactly the lines are taken, whatever follows them; the first 20 bytes decide; every refusal is 12.
use mathlib.Core.Path.{◌≡◌, refl, sym, ap, ◌∙◌}
use mathlib.Core.Bool.{Bool, true, false}
use mathlib.Core.List.{List, [], ◌∷◌, ◌++◌, append_assoc}
use Prim.Native.Nat.{ℕ, ◌+◌, ◌-◌, ◌≤◌}
use native.Mathlib.Omega.{arith}
use borrow.Author.Tests.{eqb-true}
use lib.Dec.{eqb}
use lib.ListN.{length, take, drop, length-append, take-append-drop}
use lib.Seq.{take-append-add}
use Rattle.answers.specs.Answer.{Answer, given, refused}
use Rattle.answers.specs.Conditions.{asking, AllHold, Exactly}
use Rattle.answers.proofs.Answers.{not_given}
use Rattle.answers.proofs.Conditions.{given_exactly, refused_exactly, never_refused}
use Rattle.year_line.specs.declared.Line.{Line}
use Rattle.year_line.specs.Line.{line_feed, space, has, before, behind, first_line, line_conditions, line_in, line_of, IsLine, Begins, NoLine}
use Rattle.year_line.proofs.Cuts.{has_joined, cut_at, whole}
use Rattle.year_line.proofs.Digits.{not_among, of_nine}

-- ---- when a line is given and when it is refused

module _ (bytes : List ℕ) where
  pub line_given : (asked : Line) → Exactly (line_of bytes ≡ given asked) (AllHold (line_conditions bytes) × (line_in bytes ≡ asked))
  unfolding line_of
  line_given asked = given_exactly _ _ asked

  pub line_refused_12 : Exactly (line_of bytes ≡ refused 12) (NoLine bytes)
  unfolding line_of
  line_refused_12 = refused_exactly _ _ 12

  -- every refusal is 12
  pub refusal_12 : (refusal : ℕ) → line_of bytes ≡ refused refusal → refusal ≡ 12
  unfolding line_of
  refusal_12 refusal e = by_number (eqb 12 refusal) refl
    where
      by_number : (is : Bool) → eqb 12 refusal ≡ is → refusal ≡ 12
      by_number true h = sym (eqb-true 12 refusal h)
      by_number false h = absurd (never_refused (line_conditions bytes) _ refusal (rw h) e)

-- ---- the same of a line written out

-- every line is taken, whatever follows it ..
pub taken : (text more : List ℕ) (line : Line) → IsLine text line → line_of (text ++ more) ≡ given line
unfolding asking has line_of
taken text more line is_line =
    let calendar = is_line.calendar in
    let year = is_line.year in
    let first = (of_nine calendar is_line.calendar_is).digits in
    let second = not_among line_feed refl year (of_nine year is_line.year_is).digits in
    let one_line : has line_feed (calendar ++ space ∷ year) ≡ false = rw (has_joined, not_among line_feed refl calendar first, second) in
    let end = cut_at line_feed (calendar ++ space ∷ year) more one_line in
    let middle = cut_at space calendar year (not_among space refl calendar first) in
    rw (is_line.text_is, append_assoc (calendar ++ space ∷ year), end.found, end.front_is, middle.found, middle.front_is, middle.rest_is)
    (rw (is_line.calendar_is, is_line.year_is, is_line.line_is))

-- .. and nothing else is ..
pub only : (bytes : List ℕ) (line : Line) → line_of bytes ≡ given line → Begins bytes line
only bytes line e =
    let front = first_line bytes in
    let ((ended, (spaced, (calendar_is, (year_is, _)))), same) = (line_given bytes line).only_if e in
    record {
      text = front ++ line_feed ∷ [];
      more = behind line_feed bytes;
      bytes_are = whole line_feed bytes ended ∙ sym (append_assoc front (line_feed ∷ []) (behind line_feed bytes));
      is_line = record {
        calendar = before space front;
        year = behind space front;
        text_is = ap (λ l. l ++ line_feed ∷ []) (whole space front spaced);
        calendar_is = calendar_is;
        year_is = year_is;
        line_is = sym same;
      };
    }

-- .. so that the refusal 12 is given exactly to bytes that begin with no line
pub none_begins : (bytes : List ℕ) → Exactly (line_of bytes ≡ refused 12) ((line : Line) → Begins bytes line → ⊥)
none_begins bytes =
    record {
      if = by_answer (line_of bytes) refl;
      only_if = λ e line b. not_given 12 line (sym e ∙ rw b.bytes_are (taken _ _ line b.is_line));
    }
  where
    by_answer : (a : Answer Line) → line_of bytes ≡ a → ((line : Line) → Begins bytes line → ⊥) → line_of bytes ≡ refused 12
    by_answer (given line) e none = absurd (none line (only bytes line e))
    by_answer (refused n) e none = e ∙ ap refused (refusal_12 bytes n e)

-- ---- what follows the line does not count, and the first 20 bytes decide

pub rest_free : (bytes more : List ℕ) (line : Line) → line_of bytes ≡ given line → line_of (bytes ++ more) ≡ given line
rest_free bytes more line e =
    let begins = only bytes line e in
    rw (begins.bytes_are, append_assoc) (taken begins.text (begins.more ++ more) line begins.is_line)

-- a line has at most 20 bytes: 9 digits, a space, 9 digits and a line feed
line_short : (text : List ℕ) (line : Line) → IsLine text line → length text ≤ 20
line_short text line is_line =
    let size = simp length-append at (ap (λ l. length l) is_line.text_is) in
    omega (arith, size, (of_nine _ is_line.calendar_is).short, (of_nine _ is_line.year_is).short)

pub twenty_decide : (bytes : List ℕ) → line_of (take 20 bytes) ≡ line_of bytes
twenty_decide bytes = by_answers (line_of (take 20 bytes)) (line_of bytes) refl refl
  where
    still_taken : (line : Line) → line_of bytes ≡ given line → line_of (take 20 bytes) ≡ given line
    still_taken line e =
        let begins = only bytes line e in
        let text = begins.text in
        let reach : length text + (20 - length text) ≡ 20 = omega (arith, line_short text line begins.is_line) in
        rw (begins.bytes_are, ← reach, take-append-add text) (taken text _ line begins.is_line)

    by_answers : (front all : Answer Line) → line_of (take 20 bytes) ≡ front → line_of bytes ≡ all → line_of (take 20 bytes) ≡ line_of bytes
    by_answers front (given line) f a = still_taken line a ∙ sym a
    by_answers (given line) (refused n) f a = f ∙ sym (rw take-append-drop at (rest_free (take 20 bytes) (drop 20 bytes) line f))
    by_answers (refused m) (refused n) f a = cc (refusal_12 (take 20 bytes) m f, refusal_12 bytes n a)
