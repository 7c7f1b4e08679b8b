use Rattle.history.proofs.RuledLaws.{passes_obey, passes_lent}
use Rattle.history.proofs.ruled.History.of.Goals as goal

pub of-requires : goal.of-requires
of-requires c =
    (passes_lent c.args.tables.now c.judge_history.ensures (c.in_ok-judge_history.was {u = tt})).edge_rows

pub of-requires-2 : goal.of-requires-2
of-requires-2 c =
    (passes_lent c.args.tables.now c.judge_history.ensures (c.in_ok-judge_history.was {u = tt})).ref_rows

pub invariant_of-result : goal.invariant_of-result
invariant_of-result c =
    let lent = passes_lent c.args.tables.now c.judge_history.ensures (c.in_ok-judge_history.was {u = tt}) in
    record { ruled = rw (c.len.ensures, c.of.ensures, c.of-2.ensures) lent.ruled }

pub returns : goal.returns
returns c = (
  passes_obey c.args.tables.now c.judge_history.ensures (c.in_ok-judge_history.was {u = tt}),
  rw (c.len.ensures, c.of.ensures, c.of-2.ensures),
  c.of.ensures,
  c.of-2.ensures,
)
