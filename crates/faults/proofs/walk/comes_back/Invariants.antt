use lib.ListN.{length}
use Rattle.faults.proofs.WalkLaws.{Climbing}
use Rattle.faults.proofs.walk.comes_back.Given as goal

abbrev pub invariant-loop-step : goal.invariant-loop-step
invariant-loop-step l = Climbing l.up (length l.up) l.c l.x l.step
