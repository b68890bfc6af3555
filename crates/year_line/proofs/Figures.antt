-- The definition at inputs that are taken and at inputs that are refused, computed.
use mathlib.Core.Path.{◌≡◌, refl}
use mathlib.Core.List.{List, [], ◌∷◌, ◌++◌, map}
use Prim.Native.Nat.{ℕ}
use lib.ListN.{replicate}
use Rattle.answers.specs.Answer.{given, refused}
use Rattle.answers.specs.Conditions.{asking}
use Rattle.year_line.specs.Line.{line_feed, space, all_digits, is_number, value_of, has, before, behind, line_of}

-- "1" and "1522"
abbrev calendar : List ℕ
calendar = 49 ∷ []

abbrev year : List ℕ
year = 49 ∷ 53 ∷ 50 ∷ 50 ∷ []

abbrev zeros : ℕ → List ℕ
zeros n = replicate n 48

abbrev nine_nines : List ℕ
nine_nines = replicate 9 57

abbrev lines : List (List ℕ)
lines =
    (calendar ++ space ∷ year ++ line_feed ∷ []) ∷  -- plain
    (zeros 2 ++ calendar ++ space ∷ zeros 5 ++ year ++ line_feed ∷ []) ∷  -- leading zeros
    (calendar ++ space ∷ year ++ line_feed ∷ 120 ∷ space ∷ line_feed ∷ []) ∷ []  -- text behind the line

taken_lines : map (λ bytes. line_of bytes) lines ≡ replicate 3 (given (record { calendar = 1; year = 1522 }))
unfolding asking all_digits is_number value_of has before behind line_of
taken_lines = refl

-- the largest numbers
nines : line_of (nine_nines ++ space ∷ nine_nines ++ line_feed ∷ []) ≡ given (record { calendar = 999999999; year = 999999999 })
unfolding asking all_digits is_number value_of has before behind line_of
nines = refl

abbrev no_lines : List (List ℕ)
no_lines =
    [] ∷  -- nothing
    (calendar ++ space ∷ year) ∷  -- no line feed
    (line_feed ∷ calendar ++ space ∷ year ++ line_feed ∷ []) ∷  -- an empty line
    (calendar ++ space ∷ zeros 6 ++ year ++ line_feed ∷ []) ∷  -- ten digits
    (zeros 9 ++ calendar ++ space ∷ year ++ line_feed ∷ []) ∷  -- ten digits in front
    (calendar ++ space ∷ space ∷ year ++ line_feed ∷ []) ∷  -- two spaces
    (space ∷ calendar ++ space ∷ year ++ line_feed ∷ []) ∷  -- a space in front
    (calendar ++ space ∷ year ++ space ∷ line_feed ∷ []) ∷  -- a space behind
    (calendar ++ space ∷ year ++ 120 ∷ line_feed ∷ []) ∷  -- a letter
    (calendar ++ line_feed ∷ []) ∷  -- one number
    (calendar ++ space ∷ line_feed ∷ []) ∷  -- no second number
    (space ∷ year ++ line_feed ∷ []) ∷  -- no first number
    (calendar ++ space ∷ year ++ space ∷ year ++ line_feed ∷ []) ∷  -- a third number
    (calendar ++ space ∷ year ++ 13 ∷ line_feed ∷ []) ∷  -- a carriage return
    (calendar ++ space ∷ 45 ∷ year ++ line_feed ∷ []) ∷  -- a minus sign
    (calendar ++ 9 ∷ year ++ line_feed ∷ []) ∷  -- a tab
    (calendar ++ space ∷ 47 ∷ line_feed ∷ []) ∷  -- the byte before "0"
    (calendar ++ space ∷ 58 ∷ line_feed ∷ []) ∷ []  -- the byte after "9"

refused_lines : map (λ bytes. line_of bytes) no_lines ≡ replicate 18 (refused 12)
unfolding asking all_digits is_number value_of has before behind line_of
refused_lines = refl
