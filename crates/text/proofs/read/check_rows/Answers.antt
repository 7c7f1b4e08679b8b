use Rattle.std.proofs.Common.{rules}
use Rattle.lines.specs.Reads.{and_then, ended_of}
use Rattle.lines.specs.Plans.{plan_at}
use Rattle.text.specs.Reads.{rows_plan}
use Rattle.text.proofs.read.check_rows.Goals as goal

pub returns-in_err-nodes : goal.returns-in_err-nodes
unfolding rows_plan plan_at and_then ended_of
returns-in_err-nodes c = search rules

pub returns-in_err-edges : goal.returns-in_err-edges
unfolding rows_plan plan_at and_then ended_of
returns-in_err-edges c = search rules

pub returns-in_err-refs : goal.returns-in_err-refs
unfolding rows_plan plan_at and_then ended_of
returns-in_err-refs c = search rules

pub returns : goal.returns
unfolding rows_plan plan_at and_then ended_of
returns c = search rules
