use native.Mathlib.Omega.{arith}
use mathlib.Core.Path.{sym, ◌∙◌}
use Rattle.ground.proofs.LeastLaws.{search_more, found_some, found_none}
use Rattle.repair.proofs.TieLaws.{tied_found, tied_missed}
use Rattle.repair.proofs.tie.first_tie.Goals as goal

pub rows-preserved : goal.rows-preserved
rows-preserved c =
    let (none, before) = c.loop-j.invariant in
    (none, search_more _ _ c.rows.invariant.1 (tied_missed _ _ c.loop-j-test.false before))

pub returns-after-rows : goal.returns-after-rows
returns-after-rows c =
    let (none, before) = c.rows.invariant in
    none ∙ found_none _ (λ k h. before k (omega (arith, c.rows-test.false, c.len-i-end.ensures)))

pub returns-then-same_start : goal.returns-then-same_start
returns-then-same_start c =
    let same = sym c.same_start.ensures ∙ c.if-same_start.true in
    found_some _ (omega (arith, c.rows-test.true, c.len-i-end.ensures)) c.rows.invariant.1
    (tied_found _ _ _ c.loop-j-test.true (rw (c.row.ensures, c.row-row.ensures) at same))
