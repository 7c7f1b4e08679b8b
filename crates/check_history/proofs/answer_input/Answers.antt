use Rattle.check_history.specs.Says.{short, long}
use Rattle.check_history.proofs.answer_input.Goals as goal

pub returns-then-input-le-MOST_INPUT : goal.returns-then-input-le-MOST_INPUT
returns-then-input-le-MOST_INPUT c = short c.if-input-le-MOST_INPUT.true c.answer.ensures

pub returns-else-input-le-MOST_INPUT : goal.returns-else-input-le-MOST_INPUT
returns-else-input-le-MOST_INPUT c = long c.if-input-le-MOST_INPUT.false
