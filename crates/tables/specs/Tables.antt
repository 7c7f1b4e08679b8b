-- Instants, rows, and the tables that are lent to a call: numbers, row after row. Assumes nothing.
use Rattle.std.specs.Prelude.{List, ℕ, ◌+◌, ◌*◌, ◌≤◌, get_or}
use Rattle.tables.specs.declared.rows.NodeRow.{NodeRow as Node}
use Rattle.tables.specs.declared.rows.EdgeRow.{EdgeRow as Edge}
use Rattle.tables.specs.declared.rows.RefRow.{RefRow as Reference}
use Rattle.tables.specs.Numbered.{Numbered}
use Rattle.tables.specs.declared.lent.Tables.{Tables as Lent}

-- [01:Instants and tables] "An instant is a whole number of seconds, 0 to 4,294,967,295. Instant 0 is 2000-01-01
-- 00:00:00 with days of 86,400 seconds. The largest instant is called Now; a row ending there is current."
abbrev pub Now : ℕ
Now = 4294967295

-- [01:Instants and tables] "A label [from, to] is closed: the row is in force at t when from ≤ t ≤ to."
abbrev pub During : ℕ → ℕ → ℕ → Type 0
During from to t = (from ≤ t) × (t ≤ to)

-- [01:Instants and tables] "Node row, 3 numbers: kind, label, value."
abbrev pub NodeRow : Type 0
NodeRow = Node

-- [01:Instants and tables] "Containment row, 4 numbers: parent, child, from, to."
abbrev pub EdgeRow : Type 0
EdgeRow = Edge

-- [01:Instants and tables] "Reference row, 4 numbers: attribute (kind 4), target (kind 1), from, to."
abbrev pub RefRow : Type 0
RefRow = Reference

-- how many numbers a row has
abbrev pub node_width : ℕ
node_width = 3

abbrev pub edge_width : ℕ
edge_width = 4

abbrev pub ref_width : ℕ
ref_width = 4

-- [01:What the calls answer] "The root's parent is 4,294,967,295. Referent is .. 4,294,967,295 if there is none."
abbrev pub no_node : ℕ
no_node = 4294967295

-- number k of row i, where rows have w numbers
-- [01:Instants and tables] "Tables are lent as 32-bit numbers. A row's number is its place, from 0."
abbrev pub cell_at : ℕ → List ℕ → ℕ → ℕ → ℕ
cell_at w xs i k = get_or xs (i * w + k) 0

unfoldable pub node_at : List ℕ → ℕ → NodeRow
node_at ns i = let c = cell_at node_width ns i in record { kind = c 0; label = c 1; value = c 2 }

unfoldable pub edge_at : List ℕ → ℕ → EdgeRow
edge_at es i = let c = cell_at edge_width es i in record { parent = c 0; child = c 1; from = c 2; to = c 3 }

unfoldable pub ref_at : List ℕ → ℕ → RefRow
ref_at rs i = let c = cell_at ref_width rs i in record { attribute = c 0; target = c 1; from = c 2; to = c 3 }

-- numbers that were lent, and a count of rows: SIZE asks that they agree
abbrev pub Table : Type 0
Table = Numbered

-- the start, and the tables of nodes, edges and refs
abbrev pub Tables : Type 0
Tables = Lent

abbrev pub table : List ℕ → ℕ → Table
table xs m = record { numbers = xs; count = m }

abbrev pub lent : ℕ → List ℕ → ℕ → List ℕ → ℕ → List ℕ → ℕ → Tables
lent start ns n es m rs k = record { start = start; nodes = table ns n; edges = table es m; refs = table rs k }

abbrev pub node_in : Tables → ℕ → NodeRow
node_in L = node_at L.nodes.numbers

abbrev pub edge_in : Tables → ℕ → EdgeRow
edge_in L = edge_at L.edges.numbers

abbrev pub ref_in : Tables → ℕ → RefRow
ref_in L = ref_at L.refs.numbers

-- a containment row with another end
abbrev pub with_end : EdgeRow → ℕ → EdgeRow
with_end e to = record { parent = e.parent; child = e.child; from = e.from; to = to }
