use native.Mathlib.Omega.{arith}
use borrow.Author.Rules.{rules}
use Rattle.repair.proofs.StepLaws.{stored_le}
use Rattle.repair.proofs.SaysLaws.{on_mend}
use Rattle.repair.proofs.settle.Goals as goal

pub overflow_cast-place : goal.overflow_cast-place
overflow_cast-place c = omega (arith, stored_le c.mend-place.ensures)

pub returns : goal.returns
returns c = on_mend _ _ (search rules) (search rules) c.mend-place.ensures
