use mathlib.Core.Path.{refl, sym, ◌∙◌}
use Prim.Native.Nat.{◌+◌}
use Rattle.lines.proofs.WriteLaws.{put_turn, put_done}
use Rattle.lines.proofs.write.put.Goals as goal

pub loop-j-preserved : goal.loop-j-preserved
loop-j-preserved c =
    c.loop-j.invariant ∙ put_turn c.loop-j.out c.args.bytes.now c.args.at c.loop-j.j c.loop-j-test.true refl

pub returns : goal.returns
returns c =
    let done = put_done c.loop-j.out c.args.bytes.now (c.args.at + c.loop-j.j) c.loop-j.j c.loop-j-test.false in
    record { held = sym (c.loop-j.invariant ∙ done); after = refl }
