-- `run_content::without_oldest` meets its contract: both rows move up by the oldest year's months.
use Rattle.run_content.proofs.Dropping.{oldest_dropped}
use Rattle.run_content.proofs.without_oldest.Goals as goal

pub returns : goal.returns
returns c = rw (c.move_up.ensures, c.move_up-2.ensures) (oldest_dropped c.requires c.oldest_months-oldest.ensures)
