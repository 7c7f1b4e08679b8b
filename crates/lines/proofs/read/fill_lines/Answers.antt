use native.Mathlib.Omega.{arith}
use Rattle.lines.proofs.FillLaws.{key_within, fill_line_ready, fill_line, fill_lines_done}
use Rattle.lines.proofs.read.fill_lines.Goals as goal

pub overflow_add-i : goal.overflow_add-i
overflow_add-i c =
    omega (arith, key_within c.loop-row.invariant c.loop-row-test.true c.requires c.loop-row.auto.out)

pub fill_numbers-i-requires : goal.fill_numbers-i-requires
fill_numbers-i-requires c =
    fill_line_ready c.loop-row.invariant c.loop-row-test.true c.requires c.loop-row.auto.out

pub loop-row-preserved : goal.loop-row-preserved
loop-row-preserved c =
    fill_line c.loop-row.invariant c.loop-row-test.true c.requires c.loop-row.auto.out c.fill_numbers-i.ensures

pub returns : goal.returns
returns c = fill_lines_done c.loop-row.invariant c.loop-row-test.false
