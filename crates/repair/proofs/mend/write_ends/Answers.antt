use native.Mathlib.Omega.{arith}
use borrow.Author.Rules.{rules}
use mathlib.Core.Path.{ap, ◌∙◌}
use Rattle.tables.specs.Tables.{EdgeRow}
use Rattle.tables.proofs.LabelLaws.{label_to}
use Rattle.repair.proofs.StepLaws.{stored_none, stored_hit, stored_miss, stored_le}
use Rattle.repair.proofs.mend.write_ends.Goals as goal
use Rattle.repair.proofs.mend.write_ends.Goals.{then-instant-to, else-instant-to}

pub loop-i-init : goal.loop-i-init
loop-i-init c = record { size = search rules; done = stored_none _ _ }

pub overflow_add-changed : goal.overflow_add-changed
overflow_add-changed c = omega (arith, stored_le c.loop-i.invariant.done)

pub loop-i-preserved : goal.loop-i-preserved
loop-i-preserved c =
    let inv = c.loop-i.invariant.done in
    let end = c.instant.ensures ∙ label_to _ _ _ c.label-end.ensures ∙ ap (λ (e : EdgeRow). e.to) c.read.ensures in
    let set = c.set_edge_end.ensures in
    record {
      size = search rules;
      done =
          elim c.if-instant-to.branch [
            | then-instant-to w ↦ stored_hit _ _ _ inv end c.from.ensures set w.if-instant-to.true w.changed-is
            | else-instant-to w ↦ stored_miss _ _ _ inv end c.from.ensures set w.if-instant-to.false w.changed-is
          ];
    }
