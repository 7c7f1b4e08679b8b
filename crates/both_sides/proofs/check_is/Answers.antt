use mathlib.Core.Path.{◌≡◌}
use mathlib.Core.Logic.{◌↔◌}
use mathlib.Core.Bool.{true}
use borrow.Author.Rules.{rules}
use Rattle.std.proofs.lemmas.Result.{IfOk-weaker}
use Rattle.both_sides.proofs.CaseLaws.{check_counted}
use Rattle.both_sides.proofs.check_is.Goals as goal

pub returns : goal.returns
returns c =
    let same : (c.eq.result ≡ true) ↔ (c.bw_check-a.result ≡ c.args.stated) = search rules in
    IfOk-weaker _ _ _ (λ n e. check_counted e c.bw_check-a.ensures same) c.report.ensures
