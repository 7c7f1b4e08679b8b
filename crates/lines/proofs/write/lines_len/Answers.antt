use Rattle.lines.proofs.WriteLaws.{count_line, count_lines_done}
use Rattle.lines.proofs.write.lines_len.Goals as goal

pub loop-row-preserved : goal.loop-row-preserved
loop-row-preserved c =
    count_line c.loop-row.invariant c.loop-row-test.true (rw (← c.table.view_is) at c.requires) c.numbers_len.ensures

pub returns : goal.returns
returns c = rw (← c.table.view_is) (count_lines_done c.loop-row.invariant c.loop-row-test.false)
