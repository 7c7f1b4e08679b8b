use Rattle.std.proofs.lemmas.Result.{IfOk-weaker}
use Rattle.both_sides.proofs.CaseLaws.{snapshot_counted}
use Rattle.both_sides.proofs.snapshot_is.Goals as goal

pub returns : goal.returns
returns c =
    IfOk-weaker _ _ _ (λ n e. snapshot_counted e c.bw_snapshot-a.ensures c.same.ensures) c.report.ensures
