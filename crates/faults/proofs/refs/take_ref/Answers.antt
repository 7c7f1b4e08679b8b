use mathlib.Core.Path.{sym, ◌∙◌}
use native.Mathlib.Omega.{arith}
use Rattle.faults.proofs.RefLaws.{found_skip, found_more, row_ends}
use Rattle.faults.proofs.refs.take_ref.Goals as goal

pub bounds-pointing-attribute : goal.bounds-pointing-attribute
bounds-pointing-attribute c = rw c.row-row.ensures (omega (arith, row_ends c.requires, c.requires.flagged))

pub bounds-pointing-attribute-then-in_force : goal.bounds-pointing-attribute-then-in_force
bounds-pointing-attribute-then-in_force c =
    rw c.row-row.ensures (omega (arith, row_ends c.requires, c.requires.flagged))

pub is_absent-requires : goal.is_absent-requires
is_absent-requires c = rw c.row-row.ensures (omega (arith, row_ends c.requires))

pub is_absent-requires-then-in_force : goal.is_absent-requires-then-in_force
is_absent-requires-then-in_force c = rw c.row-row.ensures (omega (arith, row_ends c.requires))

pub returns-then-in_force : goal.returns-then-in_force
returns-then-in_force c =
    rw (
      c.nearer.ensures,
      c.nearer-then-in_force.ensures,
      c.nearer-then-in_force-2.ensures,
      c.is_absent.ensures,
      c.is_absent-then-in_force.ensures,
      c.row-row.ensures,
    ) (found_more c.requires (rw c.row-row.ensures at (sym c.in_force.ensures ∙ c.if-in_force.true)))

pub returns : goal.returns
returns c = found_skip c.requires (rw c.row-row.ensures at (sym c.in_force.ensures ∙ c.if-in_force.false))
