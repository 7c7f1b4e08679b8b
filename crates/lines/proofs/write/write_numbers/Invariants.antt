use Rattle.lines.proofs.WriteLaws.{Writing}
use Rattle.lines.proofs.write.write_numbers.Given as goal

abbrev pub invariant-loop-j : goal.invariant-loop-j
invariant-loop-j l = Writing l.f l.table l.base l.initial.out l.at l.j l.out l.i
