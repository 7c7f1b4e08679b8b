use mathlib.Core.Path.{◌≡◌}
use Prim.Native.Nat.{◌+◌}
use lib.ListN.{drop}
use lib.Seq.{sets}
use Rattle.lines.proofs.write.put.Given as goal

-- what is left makes of out what the bytes make of it at first
abbrev pub invariant-loop-j : goal.invariant-loop-j
invariant-loop-j l = sets l.initial.out l.at l.bytes ≡ sets l.out (l.at + l.j) (drop l.j l.bytes)
