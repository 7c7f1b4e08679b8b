use borrow.Author.Rules.{rules}
use native.Mathlib.Omega.{arith}
use Rattle.faults.proofs.WalkLaws.{means_true}
use Rattle.faults.proofs.MarkLaws.{settling_starts, settling_ends}
use Rattle.faults.proofs.walk.settled.Goals as goal

pub loop-start-init : goal.loop-start-init
loop-start-init c = settling_starts _ _ (search rules)

pub returns : goal.returns
returns c = means_true (settling_ends _ _ c.loop-start.invariant (omega arith) c.loop-start-test.false)
