use mathlib.Core.Path.{◌≡◌}
use Rattle.std.specs.Prelude.{None}
use Rattle.ground.specs.Least.{Before}
use Rattle.ground.specs.Searches.{Passes}
use Rattle.tables.specs.Tables.{edge_at}
use Rattle.repair.specs.Ends.{same_start_of, tied}
use Rattle.repair.proofs.tie.first_tie.Given as goal

-- before turn j, no row below j shares its child and its start with row i, and no tie is found
abbrev pub invariant-loop-j : goal.invariant-loop-j
invariant-loop-j l =
    let edge = edge_at l.rows.numbers in
    (l.first ≡ None) × Before (Passes (λ j. same_start_of (edge j) (edge l.i))) l.j

-- before turn i, no row below i is tied
abbrev pub invariant-rows : goal.invariant-rows
invariant-rows l = (l.first ≡ None) × Before (Passes (tied (edge_at l.rows.numbers))) l.i
