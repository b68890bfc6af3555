-- The definitions at 01's worked figures: months known by a test, where the covered years begin and end, and where a copyist goes wrong.
use mathlib.Core.Path.{◌≡◌, refl, sym}
use mathlib.Core.Bool.{Bool, true, ◌&&◌}
use Prim.Native.Nat.{ℕ, ◌+◌, ◌*◌, ◌/◌}
use lib.Dec.{T, leb, ltb, leb→le, ltb→lt}
use mir.Facts.{and_yes}
use Rattle.numbers.proofs.Spans.{span_is}
use Rattle.units.specs.Units.{fen_to_byo}
use Rattle.senmyo_means.specs.Means.{accumulated_years, solstice, mid_term, mean_new_moon}
use Rattle.senmyo.specs.Phases.{new_moon}
use Rattle.senmyo.proofs.Worked.{day_at}
use Rattle.months_rules.specs.Rules.{Rules, mid, senmyo, genka, day_number}
use Rattle.months_rules.specs.FirstMonths.{Has, HasTerm, month_of, month_with, first_month, first_day_of, next_first_day}
use Rattle.months_rules.proofs.Steady.{Steady}
use Rattle.months_rules.proofs.FirstMonths.{opened_by}
use Rattle.months_rules.proofs.Calendars.{senmyo_steady, genka_steady}

-- ---- months known by a test

abbrev pub has_test : Rules → ℕ → ℕ → Bool
has_test r k d = leb (r.start k) d && ltb d (r.start (k + 1))

pub has : (r : Rules) (k d : ℕ) → T (has_test r k d) → Has r k d
has r k d t =
    let (from, to) = and_yes (leb (r.start k) d) (ltb d (r.start (k + 1))) t in
    record { from = leb→le _ _ from; to = ltb→lt _ _ to }

-- the month that has day d, and that which has mid-term j
month_on : (r : Rules) → Steady r → (k d : ℕ) → T (has_test r k d) → month_of r d ≡ k
month_on r s k d t = span_is r.start s.months_grow k d (has r k d t)

pub month_with_lem : (r : Rules) → Steady r → (k j : ℕ) → T (has_test r k (mid r j)) → month_with r j ≡ k
month_with_lem r s k j t = month_on r s k (mid r j) t

-- month 1 of a year, by its Rain Water
pub known : (r : Rules) → Steady r → (y k : ℕ) → T (has_test r k (mid r (r.rain_water y))) → first_month r y ≡ k
known r s y k t = sym (opened_by r s y k (has r k (mid r (r.rain_water y)) t))

pub first_1522 : first_month senmyo 1522 ≡ 87454578
unfolding day_at
first_1522 = known senmyo senmyo_steady 1522 87454578 tt

pub first_1523 : first_month senmyo 1523 ≡ 87454590
unfolding day_at
first_1523 = known senmyo senmyo_steady 1523 87454590 tt

-- fourteen years later by 174 months
pub first_1537 : first_month senmyo 1537 ≡ 87454764
unfolding day_at
first_1537 = known senmyo senmyo_steady 1537 87454764 tt

-- 1685, the year after the last
pub first_1685 : first_month senmyo (senmyo.last_year + 1) ≡ 87456594
unfolding day_at
first_1685 = known senmyo senmyo_steady (senmyo.last_year + 1) 87456594 tt

pub first_445 : first_month genka 445 ≡ 70561
first_445 = known genka genka_steady 445 70561 tt

pub first_643 : first_month genka 643 ≡ 73010
first_643 = known genka genka_steady 643 73010 tt

pub first_644 : first_month genka 644 ≡ 73023
first_644 = known genka genka_steady 644 73023 tt

pub first_698 : first_month genka 698 ≡ 73691
first_698 = known genka genka_steady 698 73691 tt

-- ---- the first day of the covered years, and the day after the last

pub senmyo_opens : day_number senmyo (first_day_of senmyo senmyo.first_year) ≡ 2021320
unfolding day_at
senmyo_opens = rw (known senmyo senmyo_steady senmyo.first_year 87445920 tt)

pub senmyo_ends : day_number senmyo (next_first_day senmyo senmyo.last_year) ≡ 2336529
unfolding day_at
senmyo_ends = rw first_1685

pub genka_opens : day_number genka (first_day_of genka genka.first_year) ≡ 1883618
genka_opens = rw first_445

pub genka_ends : day_number genka (next_first_day genka genka.last_year) ≡ 1976049
genka_ends = rw first_698

-- ---- where a copyist goes wrong

-- the solstices of 937 and 1575 belong to the month before the one that the last mean new moon opens
solstice_day : ℕ → ℕ
solstice_day y = mid senmyo (12 * accumulated_years y)

solstice_937 : month_of senmyo (solstice_day 937) + 1 ≡ (solstice 937).0 / (mean_new_moon 1).0
unfolding solstice_day day_at
solstice_937 = rw (month_on senmyo senmyo_steady 87447340 (solstice_day 937) tt)

solstice_1575 : month_of senmyo (solstice_day 1575) + 1 ≡ (solstice 1575).0 / (mean_new_moon 1).0
unfolding solstice_day day_at
solstice_1575 = rw (month_on senmyo senmyo_steady 87455231 (solstice_day 1575) tt)

-- the mid-term of month 8 of 833 falls on that month's first day, before the moment of its new moon
by_day_833 : HasTerm senmyo 87446064 (senmyo.rain_water 833 + 7)
unfolding day_at
by_day_833 = has senmyo 87446064 (mid senmyo (senmyo.rain_water 833 + 7)) tt

not_by_moment_833 : ltb (mid_term (senmyo.rain_water 833 + 7)).0 (fen_to_byo (new_moon 87446064)).0 ≡ true
unfolding day_at
not_by_moment_833 = refl
