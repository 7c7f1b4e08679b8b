use native.Mathlib.Omega.{arith}
use mathlib.Core.Path.{sym, ◌∙◌}
use Rattle.repair.proofs.BoundLaws.{next_some}
use Rattle.repair.proofs.mend.new_end.Goals as goal

pub overflow_sub-result : goal.overflow_sub-result
overflow_sub-result c =
    let later = next_some _ _ _ _ (sym c.in-Some.is ∙ c.find_bounds-bounds.ensures.start) in
    omega arith
