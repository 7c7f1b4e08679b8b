use mathlib.Core.Path.{◌≡◌}
use Prim.Native.Nat.{◌+◌}
use lib.ListN.{drop}
use Rattle.lines.specs.Reads.{begun}
use Rattle.lines.proofs.read.begun.Given as goal

abbrev pub invariant-loop-j : goal.invariant-loop-j
invariant-loop-j l = begun l.key l.rest ≡ l.j + begun (drop l.j l.key) (drop l.j l.rest)
