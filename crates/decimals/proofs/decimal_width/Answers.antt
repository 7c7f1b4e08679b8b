use mathlib.Core.Path.{ap}
use native.Mathlib.Omega.{arith}
use lib.ListN.{length}
use Rattle.decimals.proofs.DecimalLaws.{dec_small, dec_length_snoc}
use Rattle.decimals.proofs.decimal_width.Goals as goal

pub loop-x-preserved : goal.loop-x-preserved
loop-x-preserved c = omega (arith, dec_length_snoc c.loop-x.x c.loop-x-test.true)

pub returns : goal.returns
returns c = omega (arith, ap length (dec_small c.loop-x.x c.loop-x-test.false))
