use native.Mathlib.Omega.{arith}
use mathlib.Core.Path.{◌≡◌}
use Rattle.faults.proofs.SlotLaws.{slots_next}
use Rattle.faults.proofs.slots.take_rows.Goals as goal

pub loop-i-preserved : goal.loop-i-preserved
loop-i-preserved c =
    rw (c.take_row.ensures, c.row.ensures)
    (slots_next _ c.requires c.loop-i.auto.up (omega (arith, c.len-i-end.ensures)) c.loop-i.invariant)

pub returns : goal.returns
returns c =
    let e : c.loop-i.i ≡ c.args.edges.now.count = omega (arith, c.len-i-end.ensures) in
    rw (← e) c.loop-i.invariant
