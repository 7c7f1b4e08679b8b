use Rattle.text.proofs.WriteLaws.{rows_put}
use Rattle.text.proofs.write.write_rows.Goals as goal

pub returns : goal.returns
returns c = rows_put _ _ _ c.write_lines-n.ensures c.write_lines-m.ensures c.write_lines.ensures
