use mathlib.Core.Path.{sym, ◌∙◌}
use Rattle.lines.proofs.FillLaws.{fill_right, fill_turn, fill_done}
use Rattle.lines.proofs.read.fill_numbers.Goals as goal

pub returns-in_default : goal.returns-in_default
returns-in_default c =
    absurd (fill_right c.loop-j.invariant c.loop-j-test.true (sym c.read_marked.ensures ∙ c.in_default.is))

pub loop-j-preserved : goal.loop-j-preserved
loop-j-preserved c = fill_turn c.loop-j.invariant c.loop-j-test.true (sym c.read_marked.ensures ∙ c.in-Ok.is)

pub returns : goal.returns
returns c = fill_done c.loop-j.invariant c.loop-j-test.false
