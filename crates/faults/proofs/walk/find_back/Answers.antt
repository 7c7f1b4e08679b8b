use borrow.Author.Rules.{rules}
use borrow.Author.Tests.{tests}
use mathlib.Core.Path.{refl}
use lib.ListN.{length}
use Rattle.ground.proofs.LeastLaws.{find_finds}
use Rattle.faults.specs.Walks.{Back}
use Rattle.faults.proofs.walk.find_back.Goals as goal

pub returns : goal.returns
returns c =
    find_finds (Back c.args.up.now (length c.args.up.now)) _ _ refl refl _ _ c.find.ensures.ran
    (λ x q k. search (rules, tests)) (λ x q k. search (rules, tests))
