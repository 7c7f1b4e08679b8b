use native.Mathlib.Omega.{arith}
use Rattle.faults.proofs.SpanLaws.{spans_next}
use Rattle.faults.proofs.spans.note_rows.Goals as goal

pub loop-i-preserved : goal.loop-i-preserved
loop-i-preserved c =
    rw (c.note_row.ensures, c.row.ensures)
    (spans_next _ c.requires c.loop-i.auto.spans (omega (arith, c.len-i-end.ensures)) c.loop-i.invariant)
