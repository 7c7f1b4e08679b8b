use native.Mathlib.Omega.{arith}
use Rattle.std.proofs.Common.{eq-eqb}
use Rattle.std.proofs.lemmas.Result.{IfOk-weaker}
use Rattle.both_sides.proofs.CaseLaws.{counts_one}
use Rattle.both_sides.proofs.TextLaws.{zeros_most, tables_written, back, rows_back}
use Rattle.both_sides.proofs.written_is_read.Goals as goal

pub same_rows-requires-2 : goal.same_rows-requires-2
same_rows-requires-2 c =
    (rows_back c.bw_write_text-w.ensures c.if-w-ne0.false (omega arith) (λ i. omega (arith, c.type_inv.nodes i))
    (λ i. omega (arith, c.type_inv.edges i)) (λ i. omega (arith, c.type_inv.refs i)) zeros_most
    c.bw_read_text-x.ensures).1

pub same_rows-requires-3 : goal.same_rows-requires-3
same_rows-requires-3 c =
    (rows_back c.bw_write_text-w.ensures c.if-w-ne0.false (omega arith) (λ i. omega (arith, c.type_inv.nodes i))
    (λ i. omega (arith, c.type_inv.edges i)) (λ i. omega (arith, c.type_inv.refs i)) zeros_most
    c.bw_read_text-x.ensures).2

-- what was read back is what was written
pub returns-clause-ok : goal.returns-clause-ok
returns-clause-ok c =
    let same = back c.bw_write_text-w.ensures c.if-w-ne0.false (omega arith) (λ i. omega (arith, c.type_inv.nodes i))
    (λ i. omega (arith, c.type_inv.edges i)) (λ i. omega (arith, c.type_inv.refs i)) zeros_most
    c.bw_read_text-x.ensures in
    let one = c.same_rows.ensures.1 same.nodes in
    let two = c.same_rows-2.ensures.1 same.edges in
    let three = c.same_rows-3.ensures.1 same.refs in
    IfOk-weaker _ _ _
    (λ n e. counts_one e (tables_written c.bw_write_text-w.ensures c.if-w-ne0.false))
    (rw (eq-eqb _ _ same.start, one, two, three) at c.report-2.ensures)
