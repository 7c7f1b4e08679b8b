use lib.ListN.{length}
use Rattle.ground.specs.Searches.{Finds}
use Rattle.faults.specs.Leaves.{Parts}
use Rattle.faults.proofs.leaves.first_outside.Given as goal

abbrev pub invariant-loop-slot : goal.invariant-loop-slot
invariant-loop-slot l = Finds (Parts l.up l.slot-index) (length l.up) l.best
