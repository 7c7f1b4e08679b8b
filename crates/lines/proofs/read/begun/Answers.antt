use mathlib.Core.Path.{◌∙◌}
use native.Mathlib.Omega.{arith}
use Rattle.lines.proofs.StepLaws.{begun_left, begun_turn, begun_not, begun_all}
use Rattle.lines.proofs.read.begun.Goals as goal

pub returns-then-rest-j : goal.returns-then-rest-j
returns-then-rest-j c =
    begun_not _ _ _ c.loop-j.invariant (omega arith) (omega arith) c.if-rest-j.true
    ∙ begun_left _ _ _ c.min.ensures

pub loop-j-preserved : goal.loop-j-preserved
loop-j-preserved c = begun_turn _ _ _ c.loop-j.invariant (omega arith) (omega arith) c.if-rest-j.false

pub returns : goal.returns
returns c =
    begun_all _ _ _ c.loop-j.invariant c.min-most.ensures c.loop-j.auto.j-end c.loop-j-test.false
    ∙ begun_left _ _ _ c.min.ensures
