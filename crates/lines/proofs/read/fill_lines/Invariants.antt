use Rattle.lines.proofs.FillLaws.{FillingLines}
use Rattle.lines.proofs.read.fill_lines.Given as goal

abbrev pub invariant-loop-row : goal.invariant-loop-row
invariant-loop-row l = FillingLines l.line.key.now l.line.form l.text l.m l.at l.initial.out l.row l.i l.out
