use native.Mathlib.Omega.{arith}
use mathlib.Core.Path.{◌≡◌}
use Rattle.faults.proofs.RefLaws.{found_none, found_all}
use Rattle.faults.proofs.refs.take_refs.Goals as goal

pub loop-j-init : goal.loop-j-init
loop-j-init c = found_none

pub returns : goal.returns
returns c =
    let e : c.loop-j.j ≡ c.args.refs.now.count = omega (arith, c.len-j-end.ensures) in
    found_all (rw e at c.loop-j.invariant)
