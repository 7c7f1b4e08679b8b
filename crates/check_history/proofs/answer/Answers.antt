use mathlib.Core.Path.{◌≡◌, refl}
use borrow.Author.Rules.{rules}
use Rattle.std.specs.Prelude.{Err}
use Rattle.check_history.proofs.SaysLaws.{unread_says, read_says}
use Rattle.check_history.proofs.answer.Goals as goal

pub returns-in_err-counts : goal.returns-in_err-counts
returns-in_err-counts c =
    let handed : c.from_residual.result ≡ Err c.in_err-counts.field-0.0 = search rules in
    rw handed
    (unread_says (rw (c.in_err-counts.was {u = tt}) at c.read_text.ensures)
    (record { nodes = refl; edges = refl; refs = refl }))

pub returns : goal.returns
returns c = read_says (rw (c.in_ok-counts.was {u = tt}) at c.read_text.ensures) c.check.ensures
