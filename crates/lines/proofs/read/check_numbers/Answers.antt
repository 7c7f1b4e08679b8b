use mathlib.Core.Path.{sym, ◌∙◌}
use native.Mathlib.Omega.{arith}
use Rattle.std.proofs.Common.{rules}
use Rattle.lines.specs.Reads.{ended_of, numbers_at, then_number, onto}
use Rattle.lines.proofs.StepLaws.{check_turn}
use Rattle.lines.proofs.read.check_numbers.Goals as goal

pub returns-in_err-i : goal.returns-in_err-i
unfolding ended_of numbers_at then_number onto
returns-in_err-i c = search rules

pub loop-left-preserved : goal.loop-left-preserved
loop-left-preserved c =
    c.loop-left.invariant ∙ check_turn _ _ _ _ _ (omega arith) (sym c.read_marked.ensures ∙ c.in_ok-i.was)

pub returns : goal.returns
unfolding ended_of numbers_at
returns c = search rules
