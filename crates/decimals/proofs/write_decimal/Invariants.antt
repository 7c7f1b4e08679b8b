use Rattle.decimals.proofs.WriteLaws.{Digits}
use Rattle.decimals.proofs.write_decimal.Given as goal

abbrev pub invariant-loop-x : goal.invariant-loop-x
invariant-loop-x l = Digits l.initial.out l.at l.v l.out l.i l.x

abbrev pub decreases-loop-x : goal.decreases-loop-x
decreases-loop-x l = l.x
