use mathlib.Core.Path.{◌≡◌}
use Rattle.lines.specs.Reads.{ended_of, numbers_at}
use Rattle.lines.proofs.read.check_numbers.Given as goal

abbrev pub invariant-loop-left : goal.invariant-loop-left
invariant-loop-left l =
    ended_of (numbers_at l.f l.text l.f.columns l.from) ≡ ended_of (numbers_at l.f l.text l.left l.i)
