use lib.ListN.{length}
use Rattle.faults.proofs.MarkLaws.{Stamping, zeros}
use Rattle.faults.proofs.walk.walk.Given as goal

abbrev pub invariant-loop-x : goal.invariant-loop-x
invariant-loop-x l = Stamping l.up (length l.up) l.start l.stamp l.initial.mark l.mark l.x

abbrev pub decreases-loop-x : goal.decreases-loop-x
decreases-loop-x l = zeros l.mark
