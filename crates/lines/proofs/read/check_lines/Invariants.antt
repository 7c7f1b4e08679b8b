use mathlib.Core.Path.{◌≡◌}
use Prim.Native.Nat.{◌-◌}
use Rattle.lines.specs.Reads.{ended_of, lines_at}
use Rattle.lines.proofs.read.check_lines.Given as goal

abbrev pub invariant-loop : goal.invariant-loop
invariant-loop l =
    ended_of (lines_at l.line.key.now l.line.form l.text l.m l.at)
    ≡ ended_of (lines_at l.line.key.now l.line.form l.text (l.m - l.counter) l.i)
