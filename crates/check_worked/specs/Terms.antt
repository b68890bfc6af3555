-- No moon of the eight cases stands in Xiaohan, so none of them moved when its first was mended (02, request 1).
use Rattle.std.specs.Prelude.{◌≡◌, [], ◌∷◌, map, ℕ, get_or}
use Rattle.units.specs.Units.{fen_to_byo}
use Rattle.senmyo_means.specs.Means.{mean_new_moon, mean_full_moon}
use Rattle.senmyo_sun.specs.declared.Term.{Term}
use Rattle.senmyo_sun.specs.Sun.{sun_rows, no_row, sun_place}
use Rattle.months_rules.specs.Rules.{senmyo}
use Rattle.calendar_month.specs.Asked.{regular_month}
use Rattle.check_worked.specs.Worked.{twelve}

-- the true term so many after the solstice's; 1 is Xiaohan
abbrev pub after : ℕ → Term
after n = (get_or sun_rows n no_row).term

abbrev pub lichun : Term
lichun = after 3

abbrev pub chunfen : Term
chunfen = after 6

-- the true term that holds the mean new moon of month m of Senmyo's year y, or its mean full moon
abbrev pub new_moon_term : ℕ → ℕ → Term
new_moon_term y m = (sun_place (fen_to_byo (mean_new_moon (regular_month senmyo y m)))).term

abbrev pub full_moon_term : ℕ → ℕ → Term
full_moon_term y m = (sun_place (mean_full_moon (regular_month senmyo y m))).term

-- months 1 to 12 of 1522
abbrev pub NewMoons1522 : Type 0
NewMoons1522 = map (new_moon_term 1522) twelve ≡ map after (3 ∷ 5 ∷ 6 ∷ 8 ∷ 10 ∷ 12 ∷ 14 ∷ 16 ∷ 18 ∷ 20 ∷ 22 ∷ 0 ∷ [])

-- the full moon of the eclipse
abbrev pub FullMoon1522 : Type 0
FullMoon1522 = full_moon_term 1522 2 ≡ chunfen

-- month 1 of 1413
abbrev pub NewMoon1413 : Type 0
NewMoon1413 = new_moon_term 1413 1 ≡ lichun
