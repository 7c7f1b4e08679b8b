use borrow.Author.Rules.{rules}
use native.Mathlib.Omega.{arith}
use Rattle.snapshot.proofs.ReadyLaws.{rules_refuse, too_early, judge_refuses, judge_shows}
use Rattle.snapshot.proofs.ready.Goals as goal

pub returns-in_err-history : goal.returns-in_err-history
returns-in_err-history c =
    let refusal = rules_refuse c.args.tables.now c.args.t (c.in_err-history.ensures {u = tt}) in
    search (rules, refusal)

pub returns-then-t-history : goal.returns-then-t-history
returns-then-t-history c = too_early _ _ c.in_ok-history.history (c.in_ok-history.ensures {u = tt}) c.if-t-history.true

pub returns-in_err-judge_shown : goal.returns-in_err-judge_shown
returns-in_err-judge_shown c =
    let h = c.in_ok-history.history in
    let refusal =
    judge_refuses c.args.tables.now c.args.t h (c.in_ok-history.ensures {u = tt}) c.if-t-history.false _
    (c.in_err-judge_shown.ensures {u = tt}) in
    search (rules, refusal)

pub returns : goal.returns
returns c =
    let h = c.in_ok-history.history in
    judge_shows c.args.tables.now c.args.t h (c.in_ok-history.ensures {u = tt}) c.if-t-history.false _
    (omega (arith, c.requires.long, h.ruled.few_nodes, c.judge_shown.auto.up))
    (c.in_ok-judge_shown.ensures {u = tt})
