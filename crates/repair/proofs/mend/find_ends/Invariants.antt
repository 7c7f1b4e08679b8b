use Rattle.tables.specs.Tables.{edge_at}
use Rattle.repair.specs.Ends.{new_end_of}
use Rattle.repair.specs.Steps.{Found}
use Rattle.repair.proofs.mend.find_ends.Given as goal

-- before turn i the new ends of the rows below i are found
abbrev pub invariant-loop-i : goal.invariant-loop-i
invariant-loop-i l = Found (new_end_of (edge_at l.rows.numbers) l.rows.count) l.i l.ends
