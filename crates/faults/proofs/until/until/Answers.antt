use Rattle.history.proofs.UntilLaws.{until_both}
use Rattle.faults.proofs.until.until.Goals as goal

pub returns : goal.returns
returns c = rw c.min.ensures (until_both _ _ _ _ _ c.rows_until.ensures c.rows_until-2.ensures)
