use Rattle.lines.proofs.WriteLaws.{WritingLines}
use Rattle.lines.proofs.write.write_lines.Given as goal

abbrev pub invariant-loop-row : goal.invariant-loop-row
invariant-loop-row l = WritingLines l.line.key.now l.line.form l.numbers l.count l.initial.out l.at l.row l.out l.i
