use Rattle.lines.proofs.WriteLaws.{Counting}
use Rattle.lines.proofs.write.numbers_len.Given as goal

abbrev pub invariant-loop-j : goal.invariant-loop-j
invariant-loop-j l = Counting l.f l.table l.base l.j l.sum
