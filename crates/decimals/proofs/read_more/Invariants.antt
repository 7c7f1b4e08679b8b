use Prim.Native.Nat.{max, ◌≤◌}
use lib.ListN.{length}
use Rattle.decimals.proofs.ReadLaws.{ReadSoFar}
use Rattle.decimals.proofs.read_more.Given as goal

abbrev pub invariant-loop-after : goal.invariant-loop-after
invariant-loop-after l =
    ReadSoFar l.hi l.first l.text l.at l.value l.after × (l.after ≤ max l.at (length l.text))
