use Rattle.tables.specs.Tables.{edge_at}
use Rattle.faults.specs.Spans.{Spans}
use Rattle.faults.proofs.spans.note_rows.Given as goal

abbrev pub invariant-loop-i : goal.invariant-loop-i
invariant-loop-i l = Spans (edge_at l.edges.numbers) l.i l.spans
