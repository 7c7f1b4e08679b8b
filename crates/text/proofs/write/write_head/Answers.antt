use Rattle.text.proofs.WriteLaws.{head_put}
use Rattle.text.proofs.write.write_head.Goals as goal

pub returns : goal.returns
returns c =
    head_put _ c.write_one-a.ensures c.write_one-b.ensures c.write_one-n.ensures
    c.write_one-m.ensures c.write_one.ensures
