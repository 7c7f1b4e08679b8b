-- What the sizes and the rules of rows answer, computed: codes 1 to 5 in their order, each with the smallest row.
-- proofs/GivesLaws.antt ties it to specs/Rules.antt: it is the one answer that `Gives` allows.
--   named        the answer that names a row that was found
--   smallest     the answer that names the smallest bad row
--   sizes_say     1: the sizes
--   rows_say      2 to 5: the start, the node rows, the containment rows, the reference rows
--   history_says  1 to 5
-- Assumes nothing.
use Rattle.std.specs.Prelude.{Bool, true, false, not, ℕ, eqb, Option, Some, None}
use Rattle.ground.specs.Searches.{found}
use Rattle.answers.specs.Answers.{Answer}
use Rattle.answers.specs.Answers.{Size, Start, Node, Edge, Reference}
use Rattle.answers.specs.Numbers.{passed}
use Rattle.answers.specs.Refusals.{when, ◌⨾◌}
use Rattle.tables.specs.Tables.{Now, edge_width, ref_width, Table, Tables, node_in}
use Rattle.tables.specs.Tests.{nodes_fit, edges_fit, refs_fit, bad_node_of, bad_row_of}

abbrev pub named : (ℕ → Answer) → Option ℕ → Answer
named answer None = passed
named answer (Some row) = answer row

-- the answer that names the smallest bad row of n, where there is one
abbrev pub smallest : (ℕ → Answer) → (ℕ → Bool) → ℕ → Answer
smallest answer bad n = named answer (found bad n)

-- [01:What the calls answer] "SIZE: a table is not whole rows or is out of size; place 0 nodes, 1 containment, 2
-- references: the first such"
unfoldable pub sizes_say : Table → Table → Table → Answer
sizes_say ns es rs =
    when (not (nodes_fit ns)) (Size 0)
    ⨾ when (not (edges_fit es)) (Size 1)
    ⨾ when (not (refs_fit rs)) (Size 2)

-- [01:What the calls answer] "START: start is Now"; "NODE: a node row breaks its rule; smallest row"; "EDGE: a
-- containment row breaks its rule; smallest row"; "REFERENCE: a reference row breaks its rule; smallest row"
unfoldable pub rows_say : Tables → Answer
rows_say L =
    when (eqb L.start Now) Start
    ⨾ smallest Node (bad_node_of (node_in L)) L.nodes.count
    ⨾ smallest Edge (bad_row_of false L.start L.nodes.count (node_in L) edge_width L.edges.numbers)
    L.edges.count
    ⨾ smallest Reference (bad_row_of true L.start L.nodes.count (node_in L) ref_width L.refs.numbers)
    L.refs.count

-- [01:What the calls answer] Check: "1, 2, 3, 4, 5"; Snapshot: "1 to 5 in order"; Repair, which takes no references:
-- "1 to 4 in order"
unfoldable pub history_says : Tables → Answer
history_says L = sizes_say L.nodes L.edges L.refs ⨾ rows_say L
