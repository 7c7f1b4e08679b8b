use Rattle.history.proofs.UntilLaws.{until_label}
use Rattle.faults.proofs.until.label_until.Goals as goal

pub returns : goal.returns
returns c =
    rw c.min.ensures
    (until_label c.args.t c.args.label.from _ c.start_until.ensures
    (rw c.instant.ensures at c.end_until.ensures))
