use mathlib.Core.Path.{◌≡◌}
use lib.ListN.{length}
use Rattle.repair.specs.Steps.{nth, EndsStored}
use Rattle.repair.proofs.mend.write_ends.Given as goal

-- before turn i the rows below i are written, and `changed` of them had another end
abbrev pub invariant-loop-i : goal.invariant-loop-i
invariant-loop-i l =
    record {
      size : length l.edges ≡ length l.initial.edges;
      done : EndsStored l.initial.edges (nth l.ends) l.i l.changed l.edges;
    }
