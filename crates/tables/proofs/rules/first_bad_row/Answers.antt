use borrow.Author.Rules.{rules}
use borrow.Author.Tests.{tests}
use mathlib.Core.Path.{refl}
use Rattle.ground.proofs.LeastLaws.{find_found}
use Rattle.tables.specs.Tables.{node_at}
use Rattle.tables.specs.Tests.{bad_row_of}
use Rattle.tables.proofs.rules.first_bad_row.Goals as goal

pub returns : goal.returns
unfolding bad_row_of
returns g c =
    let node = node_at c.args.nodes.now.numbers in
    let xs = c.args.rows.now.numbers in
    let law = g.met.R.Join in
    find_found (bad_row_of g.R.Join.refers c.args.start c.args.nodes.now.count node g.R.Row.WIDTH xs) _ _ refl
    c.len.ensures _ _ c.find.ensures.ran
    (λ x b q k. rw (
      ← law.first_number xs x,
      ← law.second_number xs x,
      ← law.from_number xs x,
      ← law.to_number xs x,
    ) (search (rules, tests)))
