use lib.ListN.{length}
use Rattle.faults.proofs.MarkLaws.{Settling}
use Rattle.faults.proofs.walk.settled.Given as goal

abbrev pub invariant-loop-start : goal.invariant-loop-start
invariant-loop-start l = Settling l.up (length l.up) l.start l.mark
