use borrow.Author.Rules.{rules}
use mathlib.Core.Path.{◌≡◌}
use lib.ListN.{length}
use Rattle.repair.proofs.StepLaws.{stored_same}
use Rattle.repair.proofs.mend.mend.Goals as goal

pub returns : goal.returns
returns c =
    let size : length c.find_ends.new.ends ≡ c.args.m = search rules in
    stored_same _ _ _ _ (rw c.new.ensures at c.find_ends.ensures) (rw size at c.write_ends.ensures)
