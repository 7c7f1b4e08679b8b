use Rattle.lines.proofs.WriteLaws.{CountingLines}
use Rattle.lines.proofs.write.lines_len.Given as goal

abbrev pub invariant-loop-row : goal.invariant-loop-row
invariant-loop-row l = CountingLines l.line.key.now l.line.form l.numbers l.count l.row l.sum
