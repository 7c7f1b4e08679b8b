use borrow.Author.Rules.{rules}
use mathlib.Core.Path.{◌≡◌}
use Rattle.std.specs.Prelude.{Err}
use Rattle.verdict.proofs.CheckedLaws.{on_refused, on_taken}
use Rattle.verdict.proofs.check.Goals as goal

pub returns-in_err-history : goal.returns-in_err-history
returns-in_err-history c =
    let e : c.from_residual.result ≡ Err c.in_err-history.field-0.0 = search rules in
    rw e (on_refused _ (rw (c.in_err-history.was {u = tt}) at c.of.ensures))

pub returns : goal.returns
returns c = on_taken _ c.in_ok-history.history (rw (c.in_ok-history.was {u = tt}) at c.of.ensures) c.sweep.ensures
