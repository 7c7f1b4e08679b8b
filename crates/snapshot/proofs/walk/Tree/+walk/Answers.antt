use mathlib.Core.Path.{ap}
use native.Mathlib.Omega.{arith}
use lib.ListN.{length-drop}
use Rattle.snapshot.proofs.PartLaws.{part_some, part_start, part_none, part_long, part_room, part_fill, part_end}
use Rattle.snapshot.proofs.PartLaws.{part_all, part_next, part_last}
use Rattle.snapshot.proofs.walk.Tree.+walk.Goals as goal

pub returns-then-left-eq0 : goal.returns-then-left-eq0
returns-then-left-eq0 t c =
    part_none c.args.self.now c.args.left c.args.parent c.args.node c.args.out.now (omega (arith, c.if-left-eq0.true))

pub put_row-requires : goal.put_row-requires
put_row-requires t c =
    let some = part_some c.args.self.now c.args.left c.args.parent c.args.node (omega arith) in
    omega (arith, c.requires.room)

pub loop-child-init : goal.loop-child-init
loop-child-init t c =
    let row = rw (ap (λ x. x.referents) c.self.view_is) at c.put_row.ensures in
    rw (ap (λ x. x.first) c.self.view_is) (part_start {x = c.args.self.now} _ (omega arith) (omega arith) row)

pub walk-rows-requires : goal.walk-rows-requires
walk-rows-requires t c =
    let turn = part_next c.self.view_is c.loop-child.invariant c.self.invariant c.loop-child-test.true in (
      omega (arith, c.decreases, turn.some),
      record {
        node_below = omega (arith, ap (λ x. x.count) c.self.view_is);
        room = rw (part_all, length-drop) (omega (arith, part_room turn));
      },
    )

pub overflow_add-rows : goal.overflow_add-rows
overflow_add-rows t c =
    let turn = part_next c.self.view_is c.loop-child.invariant c.self.invariant c.loop-child-test.true in
    omega (arith, c.walk-rows.ensures.number, part_long turn, part_room turn, c.loop-child.auto.out, c.well_formed)

pub loop-child-preserved : goal.loop-child-preserved
loop-child-preserved t c =
    let turn = part_next c.self.view_is c.loop-child.invariant c.self.invariant c.loop-child-test.true in
    rw (ap (λ x. x.next) c.self.view_is)
    (part_fill turn _ _ c.walk-rows.ensures.number c.walk-rows.ensures.out)

pub returns : goal.returns
returns t c =
    let all = part_last c.self.view_is c.loop-child.invariant (omega (arith, c.loop-child-test.false)) in
    part_end c.args.out.now all (rw (ap (λ x. x.referents) c.self.view_is) at c.put_row.ensures)
