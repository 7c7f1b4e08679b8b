use Prim.Native.Nat.{◌<◌}
use native.Mathlib.Omega.{arith}
use Rattle.tables.specs.Tables.{node_at}
use Rattle.tables.proofs.RuleLaws.{joins_is}
use Rattle.tables.proofs.rules.join_rule.Goals as goal

pub returns-in-Ok-Ok : goal.returns-in-Ok-Ok
returns-in-Ok-Ok g c =
    let n = c.args.nodes.now.count in
    let first : c.sides-first.result.0 < n = omega (arith, c.if-len-a.false, c.len.ensures) in
    let second : c.sides-first.result.1 < n = omega (arith, c.if-len-b.false, c.len-2.ensures) in
    rw (← c.sides-first.ensures.first, ← c.sides-first.ensures.second)
    (joins_is g.R.Join.refers _ n (node_at c.args.nodes.now.numbers) _ _ first second c.row.ensures c.row-2.ensures
    (rw c.in-Ok-Ok.is-0 at c.try_from.ensures) (rw c.in-Ok-Ok.is-1 at c.try_from-2.ensures) c.may_join.ensures
    c.label.ensures c.label_rule.ensures)
