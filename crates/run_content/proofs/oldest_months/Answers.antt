-- `run_content::oldest_months` meets its contract: the first year has a thirteenth month exactly if the thirteenth place holds one of its dates.
use Rattle.run_content.proofs.Dropping.{thirteen_told, twelve_told}
use Rattle.run_content.proofs.oldest_months.Goals as goal

pub returns-then-thirteenth-run : goal.returns-then-thirteenth-run
returns-then-thirteenth-run c = thirteen_told c.requires c.if-thirteenth-run.true

pub returns : goal.returns
returns c = twelve_told c.requires c.if-thirteenth-run.false
