use Rattle.lines.proofs.WriteLaws.{write_turn, write_done}
use Rattle.lines.proofs.write.write_numbers.Goals as goal

pub loop-j-preserved : goal.loop-j-preserved
loop-j-preserved c =
    write_turn c.loop-j.invariant c.loop-j-test.true c.requires c.loop-j.auto.out c.is_end.ensures
    c.write_number-i.ensures c.mark_after.ensures

pub returns : goal.returns
returns c = write_done c.loop-j.invariant c.loop-j-test.false
