-- Where a copyist goes wrong: Genka's leap months are told by the month without a mid-term.
use mathlib.Core.Path.{◌≡◌}
use mathlib.Core.Bool.{true}
use Prim.Native.Nat.{◌+◌, ◌*◌, ◌/◌}
use lib.Dec.{leb→le, ltb→lt}
use Rattle.months_rules.specs.Rules.{genka}
use Rattle.months_rules.specs.FirstMonths.{first_month}
use Rattle.months_rules.proofs.Calendars.{genka_steady}
use Rattle.months_rules.proofs.Figures.{first_445}
use Rattle.months.specs.Months.{number_of, is_leap}
use Rattle.months.specs.Room.{IsLast}
use Rattle.months.proofs.Terms.{name_told}

-- 445 is leap after 5; by the count of 235 months to the 228 mid-terms of 19 years, that month would have mid-term 6
leap_445 : (number_of genka (first_month genka 445 + 5) ≡ 5) × (is_leap genka (first_month genka 445 + 5) ≡ true)
leap_445 =
    let last : IsLast genka (70561 + 5) (genka.rain_water 445 + 4) = record { from = leb→le _ _ tt; to = ltb→lt _ _ tt } in
    rw first_445 (name_told genka genka_steady (70561 + 5) (genka.rain_water 445 + 4) last)

not_by_count_445 : 235 * (genka.rain_water 445 + 5) / 228 ≡ first_month genka 445 + 5
not_by_count_445 = rw first_445
