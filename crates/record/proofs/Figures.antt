-- The record's definitions at 01's worked record, and the order of its refusals.
use mathlib.Core.Path.{◌≡◌, refl, ap, ◌∙◌}
use mathlib.Core.List.{[], ◌∷◌, ◌++◌}
use lib.ListN.{replicate}
use Rattle.answers.specs.Answer.{Answer, given, refused}
use Rattle.answers.specs.Conditions.{asking}
use Rattle.numbers.specs.Same.{same_by}
use Rattle.months_rules.specs.Rules.{rules_of}
use Rattle.record_fields.specs.declared.Fields.{Fields}
use Rattle.record_fields.specs.Tagged.{bytes_of, field_bytes, numbers_of, number_at, tags_at, numbers_at}
use Rattle.record_fields.specs.Fields.{layout}
use Rattle.record_fields.proofs.Figures.{fields, fields_1522, printed_1522, record_1522}
use Rattle.record.specs.Record.{write_of, read_of}
use Rattle.record.proofs.RecordLaws.{read_back}

-- ---- 1522

-- written into a buffer of 27 bytes, of which two stay as they were
write_1522 : write_of 1 1522 (replicate 27 255) ≡ given (printed_1522 ++ 255 ∷ 255 ∷ [])
unfolding asking write_of rules_of
write_1522 = rw record_1522

pub read_1522 : read_of printed_1522 ≡ given (fields 1 1522 2276996 0 3402)
read_1522 = read_back 1 1522 (replicate 27 255) _ write_1522 ∙ ap given fields_1522

-- ---- refusals, the first in 01's order where several hold

-- 6: a buffer of 24 bytes, for a calendar that is none
write_24 : write_of 3 9999 (replicate 24 0) ≡ refused 6
unfolding asking write_of
write_24 = refl

-- 1: .. of 25
write_calendar_3 : write_of 3 9999 (replicate 25 0) ≡ refused 1
unfolding asking write_of
write_calendar_3 = refl

-- 2: a year before the first
write_821 : write_of 1 821 (replicate 25 0) ≡ refused 2
unfolding asking write_of rules_of
write_821 = refl

-- 6: 24 bytes, and 26
read_24 : read_of (replicate 24 0) ≡ refused 6
unfolding asking read_of
read_24 = refl

read_26 : read_of (replicate 26 0) ≡ refused 6
unfolding asking read_of
read_26 = refl

-- 7: no tags, and calendar 0
read_zeros : read_of (replicate 25 0) ≡ refused 7
unfolding asking read_of tags_at number_at
read_zeros = refl

-- the record of any fields, read
abbrev reading : Fields → Answer Fields
reading x = read_of (field_bytes layout x)

-- 1: calendar 3, in a year that neither has
read_calendar_3 : reading (fields 3 9999 0 13 65535) ≡ refused 1
unfolding asking read_of tags_at numbers_at number_at field_bytes bytes_of
read_calendar_3 = refl

-- 2: 1522 of Genka, whose other fields are not the rule's either
read_genka_1522 : reading (fields 2 1522 0 13 65535) ≡ refused 2
unfolding asking read_of tags_at numbers_at number_at field_bytes bytes_of rules_of
read_genka_1522 = refl

-- 8: 1522 with another first day, leap number, or long months: one more, and an unused bit
read_other_day : reading (fields 1 1522 2276997 0 3402) ≡ refused 8
unfolding asking read_of tags_at numbers_at number_at numbers_of same_by field_bytes bytes_of rules_of
read_other_day = rw fields_1522

read_other_leap : reading (fields 1 1522 2276996 1 3402) ≡ refused 8
unfolding asking read_of tags_at numbers_at number_at numbers_of same_by field_bytes bytes_of rules_of
read_other_leap = rw fields_1522

read_other_months : reading (fields 1 1522 2276996 0 3403) ≡ refused 8
unfolding asking read_of tags_at numbers_at number_at numbers_of same_by field_bytes bytes_of rules_of
read_other_months = rw fields_1522

read_unused_bit : reading (fields 1 1522 2276996 0 36170) ≡ refused 8
unfolding asking read_of tags_at numbers_at number_at numbers_of same_by field_bytes bytes_of rules_of
read_unused_bit = rw fields_1522
