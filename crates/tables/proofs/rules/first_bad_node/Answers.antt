use borrow.Author.Rules.{rules}
use borrow.Author.Tests.{tests}
use mathlib.Core.Path.{refl}
use Rattle.ground.proofs.LeastLaws.{find_found}
use Rattle.tables.specs.Tables.{node_at}
use Rattle.tables.specs.Tests.{bad_node_of}
use Rattle.tables.proofs.rules.first_bad_node.Goals as goal

pub returns : goal.returns
unfolding bad_node_of
returns c =
    find_found (bad_node_of (node_at c.args.nodes.now.numbers)) _ _ refl c.len.ensures _ _ c.find.ensures.ran
    (λ x b q k. search (rules, tests))
