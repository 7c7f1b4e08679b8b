use native.Mathlib.Omega.{arith}
use mathlib.Core.Path.{sym, ap, ◌∙◌}
use Prim.Native.Nat.{ℕ, ◌<◌}
use Rattle.tables.specs.Rows.{Attribute, Target}
use Rattle.tables.specs.Tables.{no_node, ref_at}
use Rattle.snapshot.proofs.ValueLaws.{list_start, list_skip, list_put}
use Rattle.snapshot.proofs.lists.list_referents.Goals as goal
use Rattle.snapshot.proofs.lists.list_referents.Goals.{then-in_force, else-in_force}

pub loop-i-init : goal.loop-i-init
loop-i-init c = list_start (ref_at c.args.refs.now.numbers) c.args.t c.args.referents.now c.requires.blank

pub put_first-requires : goal.put_first-requires
put_first-requires c =
    let here = c.requires.refers Attribute c.loop-i.i (omega (arith, c.len-i-end.ensures)) in
    omega (arith, ap (λ r. r.attribute) c.row-reference.ensures, here, c.loop-i.auto.referents)

pub loop-i-preserved : goal.loop-i-preserved
loop-i-preserved c =
    let l = c.loop-i in
    let row = c.row-reference.ensures in
    let told = sym c.in_force.ensures in
    let known : (j : ℕ) → j < l.i → (ref_at c.args.refs.now.numbers j).target < no_node =
    λ j h. omega (arith, c.requires.refers Target j (omega (arith, c.len-i-end.ensures)), c.requires.few) in
    let here = c.requires.refers Attribute l.i (omega (arith, c.len-i-end.ensures)) in
    elim c.if-in_force.branch [
      | then-in_force w ↦
          (list_put (ref_at c.args.refs.now.numbers) c.args.t l.i l.referents (rw row at (told ∙ w.if-in_force.true))
          known l.invariant _ (rw row at (w.referents-is ∙ w.put_first.ensures))
          (omega (arith, here, l.auto.referents))).1
      | else-in_force w ↦
          list_skip (ref_at c.args.refs.now.numbers) c.args.t l.i _ _ w.referents-is
          (rw row at (told ∙ w.if-in_force.false)) l.invariant
    ]
