-- The line that a program reads: "two decimal numbers, each 1 to 9 digits, one space between, line end" (01, "Refusal numbers", 12). It ends with a
-- line feed, and nothing that follows counts (01, "Worked figures").
use Rattle.std.specs.Prelude.{◌≡◌, Bool, true, false, ◌&&◌, ◌||◌, List, [], ◌∷◌, ◌++◌, ◌⊎◌, ℕ, ◌+◌, ◌-◌, ◌*◌, ◌^◌, eqb, leb, length}
use Rattle.answers.specs.Answer.{Answer}
use Rattle.answers.specs.Conditions.{asking}
use Rattle.year_line.specs.declared.Line.{Line}

abbrev pub line_feed : ℕ
line_feed = 10

abbrev pub space : ℕ
space = 32

-- "0" to "9" are the bytes 48 to 57
abbrev pub is_digit : ℕ → Bool
is_digit byte = leb 48 byte && leb byte 57

unfoldable pub all_digits : List ℕ → Bool
all_digits [] = true
all_digits (byte ∷ bytes) = is_digit byte && all_digits bytes

-- 1 to 9 digits; leading zeros are allowed
unfoldable pub is_number : List ℕ → Bool
is_number bytes = leb 1 (length bytes) && leb (length bytes) 9 && all_digits bytes

-- a digit counts ten times as much for each that follows it
unfoldable pub value_of : List ℕ → ℕ
value_of [] = 0
value_of (digit ∷ digits) = (digit - 48) * 10 ^ length digits + value_of digits

-- whether such a byte is among them
unfoldable pub has : ℕ → List ℕ → Bool
has stop [] = false
has stop (byte ∷ bytes) = eqb byte stop || has stop bytes

-- what stands before the first such byte
unfoldable pub before : ℕ → List ℕ → List ℕ
before stop [] = []
before stop (byte ∷ bytes) = elim (eqb byte stop) [ true ↦ [] | false ↦ byte ∷ before stop bytes ]

-- what stands behind it
unfoldable pub behind : ℕ → List ℕ → List ℕ
behind stop [] = []
behind stop (byte ∷ bytes) = elim (eqb byte stop) [ true ↦ bytes | false ↦ behind stop bytes ]

-- the first line: what stands before the first line feed
abbrev pub first_line : List ℕ → List ℕ
first_line bytes = before line_feed bytes

-- ---- the conditions, each with its refusal

-- a line, without its line feed: one space between two numbers
abbrev pub numbers_conditions : List ℕ → List (Bool × ℕ)
numbers_conditions line =
    (has space line, 12) ∷
    (is_number (before space line), 12) ∷
    (is_number (behind space line), 12) ∷ []

-- the bytes have a line end, and before the first of them stands such a line
abbrev pub line_conditions : List ℕ → List (Bool × ℕ)
line_conditions bytes =
    (has line_feed bytes, 12) ∷
    numbers_conditions (first_line bytes)

-- ---- what a line asks for, or the refusal

abbrev pub numbers_in : List ℕ → Line
numbers_in line = record { calendar = value_of (before space line); year = value_of (behind space line) }

unfoldable pub numbers_of : List ℕ → Answer Line
numbers_of line = asking (numbers_conditions line) (numbers_in line)

-- .. the first line
abbrev pub line_in : List ℕ → Line
line_in bytes = numbers_in (first_line bytes)

unfoldable pub line_of : List ℕ → Answer Line
line_of bytes = asking (line_conditions bytes) (line_in bytes)

-- ---- a line written out

-- a number, a space, a number, a line feed
pub record IsLine (text : List ℕ) (line : Line) : Type 0 where
  pub calendar : List ℕ
  pub year : List ℕ
  pub text_is : text ≡ calendar ++ space ∷ year ++ line_feed ∷ []
  pub calendar_is : is_number calendar ≡ true
  pub year_is : is_number year ≡ true
  pub line_is : line ≡ record { calendar = value_of calendar; year = value_of year }

-- bytes that begin with a line
pub record Begins (bytes : List ℕ) (line : Line) : Type 0 where
  pub text : List ℕ
  pub more : List ℕ
  pub bytes_are : bytes ≡ text ++ more
  pub is_line : IsLine text line

-- ---- the conditions spelled out: where they hold there is a line, and where one fails there is none

-- a line end, a space before it, a number on both sides of that, and more
abbrev pub LineAnd : List ℕ → Type 0 → Type 0
LineAnd bytes more =
    let line : List ℕ = first_line bytes in
    (has line_feed bytes ≡ true) × ((has space line ≡ true) × ((is_number (before space line) ≡ true) × ((is_number (behind space line) ≡ true) × more)))

-- a test fails, or it passes and a later one fails
abbrev pub FailsOr : Bool → Type 0 → Type 0
FailsOr test later = (test ≡ false) ⊎ ((test ≡ true) × later)

abbrev pub NoLine : List ℕ → Type 0
NoLine bytes =
    let line : List ℕ = first_line bytes in
    FailsOr (has line_feed bytes) (FailsOr (has space line) (FailsOr (is_number (before space line)) (is_number (behind space line) ≡ false)))
