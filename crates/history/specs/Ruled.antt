-- What the rules say of rows by number: what theory and code over a history ask.
--   EdgeFits, RefFits   what the rules of rows say of a row of a history; Ruled: of a history
--   LentRows            the tables hold so many rows, and the rows fit
-- EdgeFits and RefFits ask less than EdgeRule and RefRule of tables/specs/Rules.antt. A history has no kinds: of
-- them it is left that no row leads into the root. And a label may start at Now. Theory over rows by number needs only
-- this, and code over a history asks no more. proofs/RuledLaws.antt: tables that obey the rules hold a Ruled history.
-- Assumes nothing.
use Rattle.std.specs.Prelude.{◌≢◌, List, ℕ, ◌≤◌, ◌<◌}
use Rattle.tables.specs.Tables.{EdgeRow, RefRow}
use Rattle.tables.specs.Rows.{HasEdges, HasRefs}
use Rattle.tables.specs.Rules.{most_nodes, most_edges, most_refs}
use Rattle.history.specs.Faults.{History, history_of}

-- a containment row: both ends are nodes, its child is not the root, its label is no earlier than the start and does
-- not end before it starts
pub record EdgeFits (start n : ℕ) (e : EdgeRow) : Type 0 where
  pub parent : e.parent < n
  pub child : e.child < n
  pub not_root : e.child ≢ 0
  pub begins : start ≤ e.from
  pub ends : e.from ≤ e.to

pub record RefFits (start n : ℕ) (r : RefRow) : Type 0 where
  pub attribute : r.attribute < n
  pub target : r.target < n
  pub begins : start ≤ r.from
  pub ends : r.from ≤ r.to

pub record Ruled (H : History) : Type 0 where
  pub root : 0 < H.nodes
  pub few_nodes : H.nodes ≤ most_nodes
  pub few_edges : H.edges ≤ most_edges
  pub few_refs : H.refs ≤ most_refs
  pub edge_fits : (i : ℕ) → i < H.edges → EdgeFits H.start H.nodes (H.edge i)
  pub ref_fits : (k : ℕ) → k < H.refs → RefFits H.start H.nodes (H.ref k)

pub record LentRows (start n : ℕ) (es : List ℕ) (m : ℕ) (rs : List ℕ) (k : ℕ) : Type 0 where
  pub edge_rows : HasEdges es m
  pub ref_rows : HasRefs rs k
  pub ruled : Ruled (history_of start n es m rs k)
