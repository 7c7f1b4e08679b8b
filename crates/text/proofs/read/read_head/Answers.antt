use Rattle.std.proofs.Common.{rules}
use Rattle.lines.specs.Reads.{and_then, one_of}
use Rattle.lines.specs.Plans.{plan_at}
use Rattle.text.specs.Reads.{head_plan, head_of}
use Rattle.text.proofs.read.read_head.Goals as goal

pub returns-in_err-edition : goal.returns-in_err-edition
unfolding head_of head_plan plan_at and_then one_of
returns-in_err-edition c = search rules

pub returns-in_err-start : goal.returns-in_err-start
unfolding head_of head_plan plan_at and_then one_of
returns-in_err-start c = search rules

pub returns-in_err-nodes : goal.returns-in_err-nodes
unfolding head_of head_plan plan_at and_then one_of
returns-in_err-nodes c = search rules

pub returns-in_err-edges : goal.returns-in_err-edges
unfolding head_of head_plan plan_at and_then one_of
returns-in_err-edges c = search rules

pub returns-in_err-refs : goal.returns-in_err-refs
unfolding head_of head_plan plan_at and_then one_of
returns-in_err-refs c = search rules

pub returns : goal.returns
unfolding head_of head_plan plan_at and_then one_of
returns c = search rules
