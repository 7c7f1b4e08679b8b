use borrow.Author.Rules.{rules}
use borrow.Author.Tests.{tests}
use mathlib.Core.Path.{refl}
use Rattle.ground.proofs.LeastLaws.{find_found}
use Rattle.faults.specs.Leaves.{is_gap_of}
use Rattle.faults.proofs.leaves.first_gap.Goals as goal

pub returns : goal.returns
returns c =
    find_found (is_gap_of c.args.up.now c.args.spans.now c.args.t) _ _ refl refl _ _ c.find.ensures.ran
    (λ x b q k. search (rules, tests))
