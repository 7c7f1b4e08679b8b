use mathlib.Core.Path.{◌≡◌, sym, ◌∙◌}
use native.Mathlib.Omega.{arith}
use Rattle.std.proofs.Common.{rules, Ok}
use Rattle.lines.specs.Reads.{ended_of, lines_at, and_then, on_line}
use Rattle.lines.proofs.StepLaws.{lines_step}
use Rattle.lines.proofs.read.check_lines.Goals as goal

pub returns-in_err-i : goal.returns-in_err-i
unfolding ended_of lines_at and_then on_line
returns-in_err-i c = search rules

pub loop-preserved : goal.loop-preserved
loop-preserved c =
    let read : c.check_line.result ≡ Ok c.in_ok-i.i = search rules in
    c.loop.invariant ∙ lines_step _ _ _ _ _ _ (omega arith) (sym c.check_line.ensures ∙ read)

pub returns : goal.returns
unfolding ended_of lines_at
returns c = search rules
