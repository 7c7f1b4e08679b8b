use native.Mathlib.Omega.{arith}
use Rattle.snapshot.proofs.ShowLaws.{blanks_blank, show_grown, show_walkable, show_written}
use Rattle.snapshot.proofs.show.Goals as goal

-- The links are those of the parents and the referents those of the rows, so that the walk shows who has a parent.

pub list_referents-requires : goal.list_referents-requires
list_referents-requires c =
    let p = c.requires in
    record {
      refers = λ side i h. omega (arith, p.few, p.refers side i h);
      few = omega arith;
      blank = blanks_blank;
    }

pub invariant_of-tree : goal.invariant_of-tree
invariant_of-tree c =
    let referents = c.list_referents.new.referents in
    show_grown c.requires referents c.link.ensures (omega (arith, c.requires.few)) c.list_referents.ensures

pub walk-requires : goal.walk-requires
walk-requires c =
    let referents = c.list_referents.new.referents in
    show_walkable c.requires referents c.link.ensures (omega (arith, c.requires.few)) c.list_referents.ensures

pub returns : goal.returns
returns c =
    let referents = c.list_referents.new.referents in
    show_written c.requires referents c.link.ensures (omega (arith, c.requires.few)) c.list_referents.ensures
    c.walk.ensures
