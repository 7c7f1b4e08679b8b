-- The sizes of tables, the rules of rows, and when each of the codes 1 to 5 is given. Assumes nothing.
use Rattle.std.specs.Prelude.{◌≡◌, ◌≢◌, ◌⊎◌, ℕ, ◌*◌, ◌≤◌, ◌<◌, length}
use Rattle.ground.specs.Least.{Smallest}
use Rattle.answers.specs.Answers.{Answer}
use Rattle.answers.specs.Answers.{Size, Start, Node, Edge, Reference}
use Rattle.answers.specs.Numbers.{passed}
use Rattle.tables.specs.Tables.{Now, NodeRow, EdgeRow, RefRow, node_width, edge_width, ref_width, Table, Tables}
use Rattle.tables.specs.Tables.{node_in, edge_in, ref_in}

-- [01:Instants and tables] "Sizes: 1 to 1,024 nodes, 0 to 2,048 containment rows, 0 to 1,024 reference rows."
abbrev pub least_nodes : ℕ
least_nodes = 1

abbrev pub most_nodes : ℕ
most_nodes = 1024

abbrev pub most_edges : ℕ
most_edges = 2048

abbrev pub most_refs : ℕ
most_refs = 1024

-- just the numbers of its rows, w each
abbrev pub Whole : ℕ → Table → Type 0
Whole w x = length x.numbers ≡ x.count * w

-- [01:What the calls answer] SIZE "a table is not whole rows or is out of size"
pub record SizeRule (w lo hi : ℕ) (x : Table) : Type 0 where
  pub whole : Whole w x
  pub least : lo ≤ x.count
  pub most : x.count ≤ hi

abbrev pub NodesSize : Table → Type 0
NodesSize = SizeRule node_width least_nodes most_nodes

abbrev pub EdgesSize : Table → Type 0
EdgesSize = SizeRule edge_width 0 most_edges

abbrev pub RefsSize : Table → Type 0
RefsSize = SizeRule ref_width 0 most_refs

pub record Sizes (L : Tables) : Type 0 where
  pub nodes : NodesSize L.nodes
  pub edges : EdgesSize L.edges
  pub refs : RefsSize L.refs

-- [01:Instants and tables] "Kinds: 0 root, 1 element, 2 plain attribute, 3 ID attribute, 4 REF attribute, 5 value."
abbrev pub root : ℕ
root = 0

abbrev pub element : ℕ
element = 1

abbrev pub plain_attribute : ℕ
plain_attribute = 2

abbrev pub id_attribute : ℕ
id_attribute = 3

abbrev pub ref_attribute : ℕ
ref_attribute = 4

abbrev pub value : ℕ
value = 5

abbrev pub most_label : ℕ
most_label = 65535

-- [01:Instants and tables] "Label is 0 for kind 5 and 1 to 65,535 for the rest. Value is free for kind 5 and 0 for the
-- rest. Row 0 has kind 0 and no other row has."
pub record NodeRule (i : ℕ) (x : NodeRow) : Type 0 where
  pub kind : x.kind ≤ value
  pub value_label : x.kind ≡ value → x.label ≡ 0
  pub other_label : x.kind ≢ value → (1 ≤ x.label) × (x.label ≤ most_label)
  pub other_value : x.kind ≢ value → x.value ≡ 0
  pub first : i ≡ 0 → x.kind ≡ root
  pub no_other : i ≢ 0 → x.kind ≢ root

-- [01:Instants and tables] "Allowed: parent of kind 0 or 1 with child of kind 1 to 5; parent of kind 2 or 3 with child
-- of kind 5; nothing else."
abbrev pub MayHold : ℕ → ℕ → Type 0
MayHold p c =
    (((p ≡ root) ⊎ (p ≡ element)) × ((element ≤ c) × (c ≤ value)))
    ⊎ (((p ≡ plain_attribute) ⊎ (p ≡ id_attribute)) × (c ≡ value))

-- [01:Instants and tables] "For both row kinds: start ≤ from ≤ to, and from is never Now."
pub record LabelRule (start from to : ℕ) : Type 0 where
  pub begins : start ≤ from
  pub ends : from ≤ to
  pub not_now : from ≢ Now

-- [01:Instants and tables] "Both are node numbers": of n nodes. "003 wants every node reachable, every attribute valued
-- and exactly one edge into each value. We don't: a node with no containment row is allowed and is never present, an
-- attribute of kind 2 or 3 may have any number of values, and a value may have several rows into it like any other
-- node. A parent equal to its child breaks no row rule; it is a cycle." So nothing else is asked of a row.
pub record EdgeRule (start n : ℕ) (node : ℕ → NodeRow) (e : EdgeRow) : Type 0 where
  pub parent : e.parent < n
  pub child : e.child < n
  pub allowed : MayHold (node e.parent).kind (node e.child).kind
  pub label : LabelRule start e.from e.to

-- [01:Instants and tables] "Reference row, 4 numbers: attribute (kind 4), target (kind 1), from, to."
pub record RefRule (start n : ℕ) (node : ℕ → NodeRow) (r : RefRow) : Type 0 where
  pub attribute : r.attribute < n
  pub target : r.target < n
  pub attribute_kind : (node r.attribute).kind ≡ ref_attribute
  pub target_kind : (node r.target).kind ≡ element
  pub label : LabelRule start r.from r.to

-- [demand 3] "a start and tables that obey the start, size and row rules". [01:Instants and tables] "The start is a
-- number lent with the tables, 0 to 4,294,967,294."
pub record Obeys (L : Tables) : Type 0 where
  pub sizes : Sizes L
  pub start_rule : L.start ≢ Now
  pub node_rule : (i : ℕ) → i < L.nodes.count → NodeRule i (node_in L i)
  pub edge_rule : (i : ℕ) → i < L.edges.count → EdgeRule L.start L.nodes.count (node_in L) (edge_in L i)
  pub ref_rule : (k : ℕ) → k < L.refs.count → RefRule L.start L.nodes.count (node_in L) (ref_in L k)

module _ (L : Tables) where
  -- row i breaks its rule
  abbrev pub BadNode : ℕ → Type 0
  BadNode i = NodeRule i (node_in L i) → ⊥

  abbrev pub BadEdge : ℕ → Type 0
  BadEdge i = EdgeRule L.start L.nodes.count (node_in L) (edge_in L i) → ⊥

  abbrev pub BadRef : ℕ → Type 0
  BadRef i = RefRule L.start L.nodes.count (node_in L) (ref_in L i) → ⊥

  -- [01:What the calls answer] the lines 1 to 5 of the table; "Each is given exactly under its condition, the first in
  -- the order stated."
  pub data Gives : Answer → Type 0 where
    nodes_size : (NodesSize L.nodes → ⊥) → Gives (Size 0)
    edges_size : NodesSize L.nodes → (EdgesSize L.edges → ⊥) → Gives (Size 1)
    refs_size : NodesSize L.nodes → EdgesSize L.edges → (RefsSize L.refs → ⊥) → Gives (Size 2)
    start_now : Sizes L → L.start ≡ Now → Gives Start
    node : {k : ℕ} → Sizes L → L.start ≢ Now → Smallest BadNode L.nodes.count k → Gives (Node k)
    edge : {k : ℕ} → Sizes L → L.start ≢ Now → ((i : ℕ) → i < L.nodes.count → NodeRule i (node_in L i))
        → Smallest BadEdge L.edges.count k → Gives (Edge k)
    reference : {k : ℕ} → Sizes L → L.start ≢ Now → ((i : ℕ) → i < L.nodes.count → NodeRule i (node_in L i))
        → ((i : ℕ) → i < L.edges.count → EdgeRule L.start L.nodes.count (node_in L) (edge_in L i))
        → Smallest BadRef L.refs.count k → Gives (Reference k)
    nothing : Obeys L → Gives passed
