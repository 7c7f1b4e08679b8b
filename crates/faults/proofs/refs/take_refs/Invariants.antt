use Rattle.tables.specs.Tables.{ref_at}
use Rattle.faults.specs.Refs.{Found}
use Rattle.faults.proofs.refs.take_refs.Given as goal

abbrev pub invariant-loop-j : goal.invariant-loop-j
invariant-loop-j l = Found (ref_at l.refs.numbers) l.refs.count l.t l.up l.j l.found l.pointing
