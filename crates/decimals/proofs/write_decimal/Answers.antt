use mathlib.Core.Path.{refl}
use Prim.Native.Nat.{◌/◌}
use native.Mathlib.Omega.{arith}
use Rattle.decimals.proofs.DecimalLaws.{dec_length_snoc, dec_pos}
use Rattle.decimals.proofs.WriteLaws.{digits_turn, digits_done}
use Rattle.decimals.proofs.write_decimal.Goals as goal

pub overflow_sub-i : goal.overflow_sub-i
overflow_sub-i c = omega (arith, dec_pos c.args.v)

pub loop-x-init : goal.loop-x-init
loop-x-init c =
    let p = dec_pos c.args.v in
    record { place = omega arith; held = refl; long = refl; reached = omega arith }

pub overflow_sub-i-in-loop-x : goal.overflow_sub-i-in-loop-x
overflow_sub-i-in-loop-x c =
    omega (arith, dec_length_snoc c.loop-x.x c.loop-x-test.true, dec_pos (c.loop-x.x / 10))

pub loop-x-preserved : goal.loop-x-preserved
loop-x-preserved c =
    let l = c.loop-x in
    let a = c.args in
    digits_turn _ a.at a.v l.out l.i l.x c.loop-x-test.true l.invariant

pub returns : goal.returns
returns c =
    let l = c.loop-x in
    let a = c.args in
    let p = digits_done _ a.at a.v l.out l.i l.x c.loop-x-test.false l.invariant in
    record { held = p.held; after = omega arith }
