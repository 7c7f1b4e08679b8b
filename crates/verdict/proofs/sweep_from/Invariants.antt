use Prim.Native.Nat.{◌-◌}
use Rattle.tables.specs.Tables.{Now}
use Rattle.history.specs.Taken.{held_in}
use Rattle.verdict.specs.Swept.{Swept}
use Rattle.verdict.proofs.sweep_from.Given as goal

abbrev pub invariant-loop-calm : goal.invariant-loop-calm
invariant-loop-calm l = Swept (held_in l.history) l.t

abbrev pub decreases-loop-calm : goal.decreases-loop-calm
decreases-loop-calm l = Now - l.t
