-- `KeptRun::place_of_day` meets its contract: the months' first days are in order, so that those that have begun come first.
use Rattle.std.proofs.Common.{ℕ, ◌≤◌, ◌-◌, rules}
use lib.Dec.{leb}
use Rattle.std.proofs.lemmas.List.Sorted.{IsPartitionPoint-from_clause}
use Rattle.run_lookup.specs.Room.{LastBegun}
use Rattle.run_lookup.proofs.DateOfDay.{held_day_told, begun_first, last_begun}
use Rattle.run_lookup.proofs.KeptRun.place_of_day.Goals as goal

module _ (c : goal.After-partition_point) where
  abbrev found : ℕ
  found = c.partition_point.result

  begun : (1 ≤ found) × LastBegun c.args.self.run.now.first_days c.args.self.run.now.count c.args.day (found - 1)
  begun =
      let day = held_day_told c.args.self.kept c.args.day c.requires in
      last_begun day found (IsPartitionPoint-from_clause (λ first. leb first c.args.day) _ found c.partition_point.ensures.partitioned (begun_first day) (λ a r f k. search rules)) c.partition_point.ensures.bound

pub overflow_sub-result : goal.overflow_sub-result
overflow_sub-result c = (begun c).0

pub returns : goal.returns
returns c = (begun c).1
