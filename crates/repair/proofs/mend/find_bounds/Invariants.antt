use Rattle.tables.specs.Tables.{edge_at}
use Rattle.repair.specs.Steps.{Bounded}
use Rattle.repair.proofs.mend.find_bounds.Given as goal

-- before turn i the bounds are those of the rows below i
abbrev pub invariant-loop-i : goal.invariant-loop-i
invariant-loop-i l = Bounded (edge_at l.rows.numbers) l.i l.c l.s l.next l.last
