use mathlib.Core.Path.{◌≡◌, sym}
use mathlib.Core.Bool.{true}
use borrow.Author.Rules.{rules}
use lib.Seq.{length-take-le}
use Rattle.std.proofs.lemmas.Result.{IfOk-weaker}
use Rattle.both_sides.proofs.CaseLaws.{differs, report_counted}
use Rattle.both_sides.proofs.TextLaws.{zeros_most, form_read, form_unread, again}
use Rattle.both_sides.proofs.read_is_written.Goals as goal

pub returns-then-said-ne0-clause-ok : goal.returns-then-said-ne0-clause-ok
returns-then-said-ne0-clause-ok c =
    IfOk-weaker _ _ _
    (λ n e. report_counted e (differs (form_unread zeros_most c.bw_read_text-x.ensures c.if-said-ne0.true)))
    c.report.ensures

-- the text that was written is within what was lent
pub slice_bounds-eq-end : goal.slice_bounds-eq-end
slice_bounds-eq-end c =
    (again zeros_most c.bw_read_text-x.ensures c.if-said-ne0.false c.first_rows-a.ensures c.first_rows-b.ensures
    c.first_rows-c.ensures c.bw_write_text-w.ensures c.requires).0

pub slice_bounds-eq-end-2 : goal.slice_bounds-eq-end-2
slice_bounds-eq-end-2 c =
    sym (length-take-le _ _ (again zeros_most c.bw_read_text-x.ensures c.if-said-ne0.false c.first_rows-a.ensures
    c.first_rows-b.ensures c.first_rows-c.ensures c.bw_write_text-w.ensures c.requires).0)

-- and it is the text that was read
pub returns-clause-ok : goal.returns-clause-ok
returns-clause-ok c =
    let same = again zeros_most c.bw_read_text-x.ensures c.if-said-ne0.false c.first_rows-a.ensures
    c.first_rows-b.ensures c.first_rows-c.ensures c.bw_write_text-w.ensures c.requires in
    let equal : c.eq.result ≡ true = search (rules, same.1) in
    IfOk-weaker _ _ _
    (λ n e. report_counted e (
      λ _. form_read zeros_most c.bw_read_text-x.ensures c.if-said-ne0.false,
      λ _. equal,
    ))
    c.report-2.ensures
