use native.Mathlib.Omega.{arith}
use Rattle.lines.proofs.WriteLaws.{line_fits, write_ready, write_line, lines_done}
use Rattle.lines.proofs.write.write_lines.Goals as goal

pub put-i-requires : goal.put-i-requires
put-i-requires c =
    let ask = rw (← c.table.view_is) at c.requires in
    omega (arith, line_fits c.loop-row.invariant c.loop-row-test.true ask c.loop-row.auto.out)

pub write_numbers-i-requires : goal.write_numbers-i-requires
write_numbers-i-requires c =
    let ask = rw (← c.table.view_is) at c.requires in
    write_ready c.loop-row.invariant c.loop-row-test.true ask c.loop-row.auto.out c.put-i.ensures

pub loop-row-preserved : goal.loop-row-preserved
loop-row-preserved c =
    let ask = rw (← c.table.view_is) at c.requires in
    write_line c.loop-row.invariant c.loop-row-test.true ask c.loop-row.auto.out c.put-i.ensures
    c.write_numbers-i.ensures

pub returns : goal.returns
returns c = rw (← c.table.view_is) (lines_done c.loop-row.invariant c.loop-row-test.false)
