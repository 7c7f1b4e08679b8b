use native.Mathlib.Omega.{arith}
use Rattle.tables.proofs.LabelLaws.{instant_end}
use Rattle.repair.specs.Ends.{next_start, last_end}
use Rattle.repair.proofs.mend.find_bounds.Goals as goal

pub loop-i-preserved : goal.loop-i-preserved
unfolding next_start last_end
loop-i-preserved c = grind (arith, instant_end)
