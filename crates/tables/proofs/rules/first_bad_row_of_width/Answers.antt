use borrow.Author.Rules.{rules}
use borrow.Author.Tests.{tests}
use mathlib.Core.Path.{refl}
use Rattle.ground.proofs.LeastLaws.{find_found}
use Rattle.tables.specs.Tables.{node_at}
use Rattle.tables.specs.Tests.{bad_row_of}
use Rattle.tables.proofs.rules.first_bad_row_of_width.Goals as goal

pub returns : goal.returns
returns c =
    let node = node_at c.args.nodes.now in
    find_found (bad_row_of c.args.refers c.args.start c.args.n node c.args.width c.args.rows.now) _ _ refl refl _ _
    c.find.ensures.ran (λ x b q k. search (rules, tests))
