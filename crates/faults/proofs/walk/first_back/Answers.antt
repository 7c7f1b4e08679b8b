use Rattle.faults.proofs.walk.first_back.Goals as goal

pub returns-then-settled : goal.returns-then-settled
returns-then-settled c = c.settled.ensures.passed c.if-settled.true
