-- Before turn i, the list holds for each node the number of the smallest row below i that is in force there.
use Rattle.tables.specs.Tables.{ref_at}
use Rattle.snapshot.specs.Says.{referent_at}
use Rattle.snapshot.specs.Lists.{Lists}
use Rattle.snapshot.proofs.lists.list_referents.Given as goal

abbrev pub invariant-loop-i : goal.invariant-loop-i
invariant-loop-i l = Lists (referent_at l.i (ref_at l.refs.numbers) l.t) l.referents
