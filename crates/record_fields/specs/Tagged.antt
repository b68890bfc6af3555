-- Tagged fields as bytes: "one-byte tag, two-byte length, high byte first" (01, "The year record"), for any list of fields.
use Rattle.std.specs.Prelude.{Bool, true, ◌&&◌, List, [], ◌∷◌, ◌++◌, ℕ, zero, suc, ◌+◌, ◌*◌, ◌/◌, ◌%◌, ◌<◌, get_or, eqb}
use Rattle.numbers.specs.Same.{same_by}
use Rattle.record_fields.specs.declared.Fields.{Fields}

-- a field: its tag, its width (the length of its number in bytes), and which number that is
pub record Field : Type 0 where
  pub tag : ℕ
  pub width : ℕ
  pub number : Fields → ℕ

-- a number in so many bytes, high byte first
unfoldable pub bytes_of : ℕ → ℕ → List ℕ
bytes_of zero n = []
bytes_of (suc width) n = bytes_of width (n / 256) ++ (n % 256 ∷ [])

-- how many bytes fields take
abbrev pub size_of : List Field → ℕ
size_of [] = 0
size_of (f ∷ fs) = 3 + f.width + size_of fs

-- all fields, one behind the other
unfoldable pub field_bytes : List Field → Fields → List ℕ
field_bytes [] x = []
field_bytes (f ∷ fs) x = bytes_of 1 f.tag ++ (bytes_of 2 f.width ++ (bytes_of f.width (f.number x) ++ field_bytes fs x))

-- the numbers of a record, in the order of its fields
unfoldable pub numbers_of : List Field → Fields → List ℕ
numbers_of [] x = []
numbers_of (f ∷ fs) x = f.number x ∷ numbers_of fs x

-- ---- the same, found in bytes

-- the number in so many bytes from a place on
unfoldable pub number_at : List ℕ → ℕ → ℕ → ℕ
number_at bytes place zero = 0
number_at bytes place (suc width) = number_at bytes place width * 256 + get_or bytes (place + width) 0

-- from a place on each field has its tag and its length, which is its width
unfoldable pub tags_at : List Field → List ℕ → ℕ → Bool
tags_at [] bytes place = true
tags_at (f ∷ fs) bytes place = eqb (number_at bytes place 1) f.tag && (eqb (number_at bytes (place + 1) 2) f.width && tags_at fs bytes (place + 3 + f.width))

-- the numbers of the fields from a place on
unfoldable pub numbers_at : List Field → List ℕ → ℕ → List ℕ
numbers_at [] bytes place = []
numbers_at (f ∷ fs) bytes place = number_at bytes (place + 3) f.width ∷ numbers_at fs bytes (place + 3 + f.width)

-- bytes, as numbers
abbrev pub Bytes : List ℕ → Type 0
Bytes bytes = (place : ℕ) → get_or bytes place 0 < 256

-- two lists of numbers are the same
abbrev pub same : List ℕ → List ℕ → Bool
same = same_by eqb
