-- `KeptRun::date_of` meets its contract: the day is one of the run's, its month is found by the months' first days, and its date by the last date.
use Rattle.std.proofs.Common.{◌≡◌, ℕ, Bool, true, ◌&&◌, is_le, is_lt, nat_cmp, slice_index_or, sym, ◌∙◌, arith}
use Rattle.answers.specs.Conditions.{asking}
use Rattle.run_content.specs.declared.Run.{Run}
use Rattle.run_content.specs.Room.{Kept}
use Rattle.run_lookup.specs.Held.{date_in_run}
use Rattle.run_lookup.specs.Room.{day_after}
use Rattle.run_lookup.proofs.DateOfDay.{HeldDay, day_tested, held_day_told, day_held, place_has, is_date}
use Rattle.run_lookup.proofs.KeptRun.date_of.Goals as goal

-- the day is one of the run's
held : {run : Run} {day after : ℕ} {is : Bool} → Kept run → after ≡ day_after run → is ≡ (is_le (nat_cmp (slice_index_or run.first_days 0 0) day) && is_lt (nat_cmp day after)) → is ≡ true → HeldDay run day
held {day = day} kept end is e = held_day_told kept day (sym (day_tested kept day end is) ∙ e)

pub returns-then-not-contains : goal.returns-then-not-contains
unfolding date_in_run asking
returns-then-not-contains c = rw (sym (day_tested c.args.self.kept c.args.day c.day_after.ensures c.contains.ensures.value) ∙ c.if-not-contains.true)

pub place_of_day-place-requires : goal.place_of_day-place-requires
place_of_day-place-requires c = day_held (held c.args.self.kept c.day_after.ensures c.contains.ensures.value c.if-not-contains.false)

pub overflow_cast-number-2 : goal.overflow_cast-number-2
overflow_cast-number-2 c =
    let its = held c.args.self.kept c.day_after.ensures c.contains.ensures.value c.if-not-contains.false in
    omega (arith, (place_has its c.place_of_day-place.ensures).to)

pub returns : goal.returns
unfolding date_in_run asking
returns c =
    let its = held c.args.self.kept c.day_after.ensures c.contains.ensures.value c.if-not-contains.false in
    rw (c.date_in_month.ensures, day_held its, is_date its c.place_of_day-place.ensures)
