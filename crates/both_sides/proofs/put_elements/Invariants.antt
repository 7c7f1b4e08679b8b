use mathlib.Core.Path.{◌≡◌}
use Prim.Native.Nat.{ℕ, ◌<◌}
use lib.ListN.{get_or}
use Rattle.both_sides.specs.Cases.{elements}
use Rattle.both_sides.proofs.put_elements.Given as goal

-- before turn i each number below i is an element's
abbrev pub invariant-loop-i : goal.invariant-loop-i
invariant-loop-i l = (k : ℕ) → k < l.i → get_or l.nodes k 0 ≡ elements k
