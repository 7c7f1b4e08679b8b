use borrow.Author.Rules.{rules}
use native.Mathlib.Omega.{arith}
use Rattle.faults.proofs.WalkLaws.{means_false, climbing_starts, climbing_on}
use Rattle.faults.proofs.WalkLaws.{climbing_left, climbing_ends}
use Rattle.faults.proofs.walk.comes_back.Goals as goal

pub loop-step-init : goal.loop-step-init
loop-step-init c = climbing_starts _ _ (search rules)

pub returns-then-up-x : goal.returns-then-up-x
returns-then-up-x c = means_false (climbing_left _ _ c.loop-step.invariant (omega arith) (search rules) c.if-up-x.true)

pub loop-step-preserved : goal.loop-step-preserved
loop-step-preserved c = climbing_on _ _ c.loop-step.invariant (search rules) (search rules) c.if-x-c.false

pub returns : goal.returns
returns c = means_false (climbing_ends _ _ c.loop-step.invariant (omega arith) (search rules) (omega arith))
