use Rattle.history.specs.Until.{Calm, LargestInstant}
use Rattle.faults.proofs.until.rows_until.Given as goal

abbrev pub invariant-loop-i : goal.invariant-loop-i
invariant-loop-i g l =
    let row = g.R.Row.row_at l.rows.numbers in
    LargestInstant (Calm l.t l.i (λ i. g.R.Join.from (row i)) (λ i. g.R.Join.to (row i))) l.best
