use Rattle.tables.specs.Tables.{edge_at}
use Rattle.faults.specs.Slots.{Slots}
use Rattle.faults.proofs.slots.take_rows.Given as goal

abbrev pub invariant-loop-i : goal.invariant-loop-i
invariant-loop-i l = Slots (edge_at l.edges.numbers) l.t l.i l.up
