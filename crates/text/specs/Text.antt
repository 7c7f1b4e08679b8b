-- The text of tables, edition 1. Assumes nothing.
use Rattle.std.specs.Prelude.{cond, List, [], ◌∷◌, ◌++◌, ℕ, zero, suc, ◌≤◌, eqb, get_or}
use Prim.Native.String.{String}
use Rattle.ground.specs.Lists.{bytes, joined}
use Rattle.tables.specs.Tables.{Now, NodeRow, EdgeRow, RefRow, node_width, edge_width, ref_width, Table, Tables, node_in}
use Rattle.tables.specs.Tables.{edge_in, ref_in}
use Rattle.tables.specs.Rules.{least_nodes, most_nodes, most_edges, most_refs, Whole}
use Rattle.decimals.specs.Decimals.{dec}

-- [01:Instants and tables] "Tables are lent as 32-bit numbers."
abbrev pub Small : List ℕ → Type 0
Small vs = (i : ℕ) → get_or vs i 0 ≤ Now

-- just its rows of w numbers, lo to hi of them: a text's tables stay so also where a lent slice may hold more
pub record LendableTable (w lo hi : ℕ) (x : Table) : Type 0 where
  pub small : Small x.numbers
  pub whole : Whole w x
  pub least : lo ≤ x.count
  pub most : x.count ≤ hi

pub record Lendable (t : Tables) : Type 0 where
  pub start : t.start ≤ Now
  pub nodes : LendableTable node_width least_nodes most_nodes t.nodes
  pub edges : LendableTable edge_width 0 most_edges t.edges
  pub refs : LendableTable ref_width 0 most_refs t.refs

-- [01:The text] "Row numbers are joined by commas."
unfoldable pub commas : List (List ℕ) → List ℕ
commas [] = []
commas (x ∷ []) = x
commas (x ∷ (y ∷ xs)) = x ++ (bytes "," ++ commas (y ∷ xs))

-- [01:The text] "Lines `key=value`, each ended by one LF byte"
abbrev pub line : String → List (List ℕ) → List ℕ
line key xs = bytes key ++ (commas xs ++ bytes "\n")

-- [01:The text] "The fourth number of an edge or ref is `now` where it is 4294967295"
abbrev pub end : ℕ → List ℕ
end to = cond (eqb to Now) (bytes "now") (dec to)

abbrev pub node_line : NodeRow → List ℕ
node_line x = line "node=" (dec x.kind ∷ dec x.label ∷ dec x.value ∷ [])

abbrev pub edge_line : EdgeRow → List ℕ
edge_line x = line "edge=" (dec x.parent ∷ dec x.child ∷ dec x.from ∷ end x.to ∷ [])

abbrev pub ref_line : RefRow → List ℕ
ref_line x = line "ref=" (dec x.attribute ∷ dec x.target ∷ dec x.from ∷ end x.to ∷ [])

-- f 0, f 1, .. f (n - 1)
unfoldable pub listed : (ℕ → List ℕ) → ℕ → List (List ℕ)
listed f zero = []
listed f (suc n) = f 0 ∷ listed (λ i. f (suc i)) n

-- [01:The text] "in this order: `edition=1`, `start=`, `nodes=`, `edges=`, `refs=`, then all `node=` lines, `edge=`
-- lines, `ref=` lines, as many as counted."
abbrev pub text_lines : Tables → List (List ℕ)
text_lines t =
    line "edition=" (dec 1 ∷ [])
    ∷ line "start=" (dec t.start ∷ [])
    ∷ line "nodes=" (dec t.nodes.count ∷ [])
    ∷ line "edges=" (dec t.edges.count ∷ [])
    ∷ line "refs=" (dec t.refs.count ∷ [])
    ∷ (listed (λ i. node_line (node_in t i)) t.nodes.count
    ++ (listed (λ i. edge_line (edge_in t i)) t.edges.count ++ listed (λ i. ref_line (ref_in t i)) t.refs.count))

abbrev pub text_of : Tables → List ℕ
text_of t = joined (text_lines t)
