use Rattle.std.proofs.lemmas.Result.{IfOk-weaker}
use Rattle.both_sides.proofs.CaseLaws.{repair_counted}
use Rattle.both_sides.proofs.repair_is.Goals as goal

pub returns-clause-ok : goal.returns-clause-ok
returns-clause-ok c =
    IfOk-weaker _ _ _ (λ n e. repair_counted e c.bw_repair-a.ensures c.same.ensures) c.report.ensures
