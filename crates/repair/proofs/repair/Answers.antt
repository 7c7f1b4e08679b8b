use borrow.Author.Rules.{rules}
use native.Mathlib.Omega.{arith}
use mathlib.Core.Path.{ap}
use Rattle.answers.specs.Numbers.{refuses}
use Rattle.history.proofs.RuledLaws.{passes_obey, obeys_lent}
use Rattle.repair.proofs.SaysLaws.{on_refusal, on_rows}
use Rattle.repair.proofs.RepairedLaws.{repaired_of}
use Rattle.repair.proofs.repair.Goals as goal

pub returns-in_err-judge_history : goal.returns-in_err-judge_history
returns-in_err-judge_history c = repaired_of (on_refusal _ (search rules) (search rules))

pub settle-requires : goal.settle-requires
settle-requires c =
    let obeys = passes_obey _ c.judge_history.ensures (c.in_ok-judge_history.was {u = tt}) in
    (omega (arith, (obeys_lent _ obeys).edge_rows), omega (arith, obeys.sizes.edges.most))

pub returns : goal.returns
returns c =
    let passed = ap (λ a. refuses a) (c.in_ok-judge_history.was {u = tt}) in
    repaired_of (on_rows _ c.judge_history.ensures passed c.settle.ensures)
