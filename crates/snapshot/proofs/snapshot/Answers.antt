use borrow.Author.Rules.{rules}
use native.Mathlib.Omega.{arith}
use Rattle.faults.proofs.SlotLaws.{fresh}
use Rattle.snapshot.proofs.SnapshotLaws.{on_unready, on_short, rows_showable, on_rows}
use Rattle.snapshot.proofs.snapshot.Goals as goal

pub ready-requires : goal.ready-requires
ready-requires c = fresh (omega arith)

pub returns-in_err-history : goal.returns-in_err-history
returns-in_err-history c =
    let refusal = on_unready c.args.tables.now c.args.t c.args.out.now (c.in_err-history.ensures {u = tt}) in
    search (rules, refusal)

pub returns-then-out-rows : goal.returns-then-out-rows
returns-then-out-rows c =
    on_short _ _ _ (c.in_ok-history.ensures {u = tt}) c.count_rows-rows.ensures c.if-out-rows.true

pub show-requires : goal.show-requires
show-requires c =
    rows_showable _ _ _ (c.in_ok-history.ensures {u = tt}) c.count_rows-rows.ensures c.if-out-rows.false

pub returns : goal.returns
returns c =
    on_rows _ _ _ (c.in_ok-history.ensures {u = tt}) c.count_rows-rows.ensures c.if-out-rows.false c.show.ensures
