use borrow.Author.Rules.{rules}
use native.Mathlib.Omega.{arith}
use mathlib.Core.Path.{refl}
use Rattle.faults.proofs.WalkLaws.{means_true}
use Rattle.faults.proofs.MarkLaws.{zeros_set, walk_steps, walk_ends}
use Rattle.faults.proofs.walk.walk.Goals as goal

pub returns-then-seen-ne0 : goal.returns-then-seen-ne0
returns-then-seen-ne0 c =
    let w = c.loop-x.invariant.walking in
    let others = w.others c.loop-x.x (search rules) c.if-seen-ne0.true (λ q. c.if-seen-stamp.false (cc)) in
    means_true (walk_ends _ _ w others.0 (λ _. c.if-seen-ne0.true))

pub loop-x-smaller : goal.loop-x-smaller
loop-x-smaller c =
    zeros_set c.loop-x.mark c.loop-x.x _ (omega arith) c.if-seen-ne0.false (omega arith)

pub loop-x-preserved : goal.loop-x-preserved
loop-x-preserved c =
    record { stamped = refl; walking = walk_steps _ _ c.loop-x.invariant.walking (search rules) (omega arith) }
