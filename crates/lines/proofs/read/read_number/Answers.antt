use native.Mathlib.Omega.{arith}
use Rattle.lines.proofs.NumberLaws.{begun_within}
use Rattle.lines.proofs.read.read_number.Goals as goal

pub overflow_add-after : goal.overflow_add-after
overflow_add-after c = omega (arith, begun_within _ _ _ _ c.begun-k.ensures)
