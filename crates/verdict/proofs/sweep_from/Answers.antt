use borrow.Author.Rules.{rules}
use native.Mathlib.Omega.{arith}
use mathlib.Core.Path.{◌≡◌}
use mathlib.Core.Bool.{true}
use Rattle.answers.specs.Numbers.{refuses}
use Rattle.history.specs.Taken.{held_in}
use Rattle.history.specs.Computed.{faults_say}
use Rattle.verdict.proofs.SweepLaws.{sweep_found, sweep_later, sweep_on, sweep_done}
use Rattle.verdict.proofs.sweep_from.Goals as goal

pub returns-in_err-judge : goal.returns-in_err-judge
returns-in_err-judge c =
    let e : c.from_residual.result ≡ faults_say (held_in c.args.history.now) c.loop-calm.t = search rules in
    let f : refuses c.from_residual.result ≡ true = search rules in
    sweep_found _ e c.args.history.now.ruled c.loop-calm.invariant f

pub returns-then-calm : goal.returns-then-calm
returns-then-calm c =
    sweep_done _ c.judge.ensures c.args.history.now.ruled c.loop-calm.invariant (c.in_ok-judge.was {u = tt})
    c.until-calm.ensures c.if-calm.true

pub loop-calm-smaller : goal.loop-calm-smaller
loop-calm-smaller c =
    omega (
      arith,
      sweep_later _ c.judge.ensures c.args.history.now.ruled c.loop-calm.invariant (c.in_ok-judge.was {u = tt})
          c.until-calm.ensures,
    )

pub loop-calm-preserved : goal.loop-calm-preserved
loop-calm-preserved c =
    sweep_on _ c.judge.ensures c.args.history.now.ruled c.loop-calm.invariant (c.in_ok-judge.was {u = tt})
    c.until-calm.ensures c.if-calm.false
