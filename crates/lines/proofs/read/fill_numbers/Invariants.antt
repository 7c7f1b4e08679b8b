use Rattle.lines.proofs.FillLaws.{Filling}
use Rattle.lines.proofs.read.fill_numbers.Given as goal

abbrev pub invariant-loop-j : goal.invariant-loop-j
invariant-loop-j l = Filling l.f l.text l.from l.initial.out l.base l.j l.i l.out
