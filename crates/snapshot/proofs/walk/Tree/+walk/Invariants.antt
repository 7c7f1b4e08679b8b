-- The measure is the number of nodes not yet on the chain. The loop's invariant: the children from `child` on are still
-- to come. Its measure: how many these are.
use lib.ListN.{length}
use Rattle.snapshot.proofs.PartLaws.{siblings, Part}
use Rattle.snapshot.proofs.walk.Tree.+walk.Given as goal

abbrev pub decreases-walk : goal.decreases-walk
decreases-walk l = l.left

abbrev pub invariant-loop-child : goal.invariant-loop-child
invariant-loop-child l =
    Part l.self l.left l.parent l.node l.initial.out l.out l.rows (siblings l.self l.child)

abbrev pub decreases-loop-child : goal.decreases-loop-child
decreases-loop-child l = length (siblings l.self l.child)
