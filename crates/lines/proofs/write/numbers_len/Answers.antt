use Rattle.lines.proofs.WriteLaws.{count_turn, count_done}
use Rattle.lines.proofs.write.numbers_len.Goals as goal

pub loop-j-preserved : goal.loop-j-preserved
loop-j-preserved c =
    count_turn c.loop-j.invariant c.loop-j-test.true c.requires c.is_end.ensures c.number_len.ensures

pub returns : goal.returns
returns c = count_done c.loop-j.invariant c.loop-j-test.false
