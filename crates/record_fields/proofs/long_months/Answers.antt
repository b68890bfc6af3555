-- `record_fields::long_months` meets its contract: at each turn the bits tell of the months so far, from the last one back.
use Rattle.std.proofs.Common.{◌≡◌, ℕ, List, ◌++◌, ◌∷◌, [], ◌*◌, ◌+◌, ◌<◌, map, length, reverse, refl, ap, ◌∙◌, arith, rules, Bor, Some}
use Rattle.std.specs.Iterator.Adapters.{rev_steps}
use Rattle.std.specs.Slice.Iter.{iter_steps_back}
use Rattle.std.proofs.lemmas.List.{reverse-reverse, length-reverse, length-map, map_push}
use Rattle.std.proofs.lemmas.Fn.{serves_by, fold_over}
use Rattle.std.proofs.lemmas.Iterator.Consumers.{YieldsList-turn}
use Rattle.std.proofs.lemmas.Iterator.Adapters.{YieldsList-from_rev_slice}
use Rattle.calendar_year.specs.declared.Month.{Month}
use Rattle.record_fields.specs.Fields.{long_bit, long_months_of}
use Rattle.record_fields.proofs.LongMonths.{BitsOf, no_bits, small_before, one_more}
use Rattle.record_fields.proofs.long_months.Goals as goal

abbrev shown : List (Bor Month) → List Month
shown = map (λ m. m.now)

one_shown : (xs : List (Bor Month)) (x : Bor Month) (bits more : ℕ) → BitsOf (shown xs) bits → more ≡ long_bit x.now + 2 * bits → BitsOf (shown (xs ++ x ∷ [])) more
one_shown xs x bits more told e = rw map_push (one_more (shown xs) x.now bits more told e)

pub fold-requires-clause-callable : goal.fold-requires-clause-callable
fold-requires-clause-callable c =
    let road = YieldsList-from_rev_slice {s = c.rev.result} c.args.months (cc) in
    serves_by _ (λ (xs : List (Bor Month)) (q : Unit {0} × ℕ). BitsOf (shown xs) q.1) (λ xs q x w j r. one_shown xs x q.1 w.1 j (search rules)) _ _ _ _ no_bits
    (λ xs t q x u y e j.
    let in_all : length xs < length (reverse c.args.months) = (YieldsList-turn road xs t y (Some x) u x refl e).0 in
    let all : length c.args.months ≡ 13 = search rules in
    let small : q.1 < 32768 = small_before (shown xs) q.1 j (omega (arith, in_all, all, length-reverse c.args.months, length-map xs (λ (m : Bor Month). m.now))) in
    search rules)

pub returns : goal.returns
returns c = fold_over (rev_steps iter_steps_back) (λ m. m.now) _ BitsOf _ (λ ys a x b f' j k. (one_more ys x.now a b j (search rules), search rules)) c.rev.result (reverse c.args.months) _ _ (YieldsList-from_rev_slice {s = c.rev.result} c.args.months (cc)).runs no_bits c.fold.ensures.ran ∙ ap long_months_of (reverse-reverse c.args.months)
