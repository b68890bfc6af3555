-- What the inner functions tell. No rule of the line.
use Rattle.std.specs.Prelude.{◌≡◌, true, false, List, Option, Some, None, ℕ, ◌+◌, ◌<◌, length, take, drop}
use Rattle.year_line.specs.Line.{has, before, behind, is_number, value_of}

-- the first such byte stands at a place: there the bytes are cut
pub record Stands (stop : ℕ) (bytes : List ℕ) (place : ℕ) : Type 0 where
  pub found : has stop bytes ≡ true
  pub inside : place < length bytes
  pub front : take place bytes ≡ before stop bytes
  pub rest : drop (place + 1) bytes ≡ behind stop bytes

-- what `place_of` tells: where the first such byte stands, or that there is none
abbrev pub FirstPlace : ℕ → List ℕ → Option ℕ → Type 0
FirstPlace stop bytes (Some place) = Stands stop bytes place
FirstPlace stop bytes None = has stop bytes ≡ false

-- the bytes are a number of this value
pub record IsNumber (bytes : List ℕ) (value : ℕ) : Type 0 where
  pub number : is_number bytes ≡ true
  pub value_is : value ≡ value_of bytes

-- what `number_of` tells: the value, or that the bytes are no number
abbrev pub NumberIn : List ℕ → Option ℕ → Type 0
NumberIn bytes (Some value) = IsNumber bytes value
NumberIn bytes None = is_number bytes ≡ false
