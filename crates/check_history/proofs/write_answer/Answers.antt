use native.Mathlib.Omega.{arith}
use Rattle.ground.specs.Lists.{bytes}
use Rattle.lines.proofs.WriteLaws.{one_short}
use Rattle.check_history.proofs.SaysLaws.{put_printed, printed_most}
use Rattle.check_history.proofs.write_answer.Goals as goal

pub write_one-a-requires : goal.write_one-a-requires
write_one-a-requires c =
    omega (arith, one_short (bytes "code=") c.from-told.result.code (omega arith) (omega arith))

pub write_one-b-requires : goal.write_one-b-requires
write_one-b-requires c =
    omega (
      arith,
      one_short (bytes "code=") c.from-told.result.code (omega arith) (omega arith),
      one_short (bytes "instant=") c.from-told.result.instant (omega arith) (omega arith),
    )

pub write_one-requires : goal.write_one-requires
write_one-requires c =
    omega (
      arith,
      one_short (bytes "code=") c.from-told.result.code (omega arith) (omega arith),
      one_short (bytes "instant=") c.from-told.result.instant (omega arith) (omega arith),
      one_short (bytes "place=") c.from-told.result.place (omega arith) (omega arith),
    )

pub returns : goal.returns
returns c = (
  put_printed c.write_one-a.ensures c.write_one-b.ensures c.write_one.ensures c.args.said c.from-told.ensures,
  printed_most c.write_one-a.ensures c.write_one-b.ensures c.write_one.ensures (omega arith) (omega arith)
      (omega arith),
)
