use mathlib.Core.Path.{◌≡◌, sym, ◌∙◌}
use Rattle.std.proofs.Common.{rules, Err}
use Rattle.text.proofs.ScanLaws.{head_refused, rows_refused, text_headed}
use Rattle.text.proofs.read.check_text.Goals as goal

pub returns-in_err-counts : goal.returns-in_err-counts
returns-in_err-counts c =
    let handed : c.from_residual.result ≡ Err c.in_err-counts.field-0.0 = search rules in
    rw handed (head_refused _ (sym c.read_head.ensures ∙ c.in_err-counts.was))

pub returns-in_err-check_rows : goal.returns-in_err-check_rows
returns-in_err-check_rows c =
    let handed : c.from_residual-in_err-check_rows.result ≡ Err c.in_err-check_rows.field-0.0 = search rules in
    let head = sym c.read_head.ensures ∙ c.in_ok-counts.was in
    rw handed (rows_refused _ head (sym c.check_rows.ensures ∙ c.in_err-check_rows.was))

pub returns : goal.returns
returns c =
    let head = sym c.read_head.ensures ∙ c.in_ok-counts.was in
    text_headed _ head (sym c.check_rows.ensures ∙ c.in_ok-check_rows.was)
