use Rattle.tables.specs.Rows.{set_end}
use Rattle.tables.proofs.rows.set_edge_end.Goals as goal

pub returns : goal.returns
unfolding set_end
returns c = rw c.instant.ensures
