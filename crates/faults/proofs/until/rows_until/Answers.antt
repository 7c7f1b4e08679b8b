use native.Mathlib.Omega.{arith}
use mathlib.Core.Path.{◌≡◌}
use Rattle.history.proofs.UntilLaws.{until_more, until_row}
use Rattle.faults.proofs.until.rows_until.Goals as goal

pub loop-i-preserved : goal.loop-i-preserved
loop-i-preserved g c =
    rw c.min-best.ensures
    (until_more _ _ _ c.loop-i.invariant (until_row _ _ _ (rw c.row.ensures at c.label.ensures) c.label_until.ensures))

pub returns : goal.returns
returns g c =
    let e : c.loop-i.i ≡ c.args.rows.now.count = omega (arith, c.len-i-end.ensures) in
    rw (← e) c.loop-i.invariant
