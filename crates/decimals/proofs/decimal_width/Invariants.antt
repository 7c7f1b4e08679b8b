use mathlib.Core.Path.{◌≡◌}
use Prim.Native.Nat.{◌+◌, ◌≤◌}
use lib.ListN.{length}
use Rattle.decimals.specs.Decimals.{dec}
use Rattle.decimals.proofs.decimal_width.Given as goal

abbrev pub invariant-loop-x : goal.invariant-loop-x
invariant-loop-x l = (length (dec l.v) + 1 ≡ length (dec l.x) + l.w) × (l.x ≤ l.v) × (l.w + l.x ≤ l.v + 1)

abbrev pub decreases-loop-x : goal.decreases-loop-x
decreases-loop-x l = l.x
