-- The tests of sizes and rules. proofs/RuleLaws.antt and proofs/GivesLaws.antt tie them to specs/Rules.antt.
--   size_rule_of              a table of so many rows and so many numbers has the right size; nodes_fit, edges_fit, refs_fit:
--                         each table has
--   node_rule_of              node row i is right. root_rule: its kind is that of its place; value_rule, other_rule: its label
--                         and value are those of kind 5, of the rest
--   may_hold_of               a parent of one kind may hold a child of another. holds_any: as the root or an element;
--                         holds_value: as an attribute
--   may_refer_of              an attribute of one kind may refer to a target of another
--   label_rule_of             the label of a row of either kind is right
--   may_join_of, join_rule     a row of either kind: two nodes that may be joined, and a label
--   bad_node_of, bad_row_of       row i breaks its rule
-- Assumes nothing.
use Rattle.std.specs.Prelude.{Bool, true, false, not, ◌&&◌, ◌||◌, List, ℕ, ◌/◌, ◌%◌, leb, ltb, eqb, length}
use Rattle.tables.specs.Tables.{Now, NodeRow, node_width, edge_width, ref_width, cell_at, Table}
use Rattle.tables.specs.Rows.{from_at, to_at}
use Rattle.tables.specs.Rules.{least_nodes, most_nodes, most_edges, most_refs, most_label, root, element}
use Rattle.tables.specs.Rules.{plain_attribute, id_attribute, ref_attribute, value}

unfoldable pub size_rule_of : ℕ → ℕ → ℕ → ℕ → ℕ → Bool
size_rule_of w lo hi count numbers =
    eqb (numbers % w) 0 && eqb (numbers / w) count && (leb lo count && leb count hi)

abbrev pub nodes_fit : Table → Bool
nodes_fit x = size_rule_of node_width least_nodes most_nodes x.count (length x.numbers)

abbrev pub edges_fit : Table → Bool
edges_fit x = size_rule_of edge_width 0 most_edges x.count (length x.numbers)

abbrev pub refs_fit : Table → Bool
refs_fit x = size_rule_of ref_width 0 most_refs x.count (length x.numbers)

abbrev pub root_rule : ℕ → NodeRow → Bool
root_rule i x = (eqb i 0 && eqb x.kind root) || (not (eqb i 0) && not (eqb x.kind root))

abbrev pub value_rule : NodeRow → Bool
value_rule x = eqb x.kind value && eqb x.label 0

abbrev pub other_rule : NodeRow → Bool
other_rule x = ltb x.kind value && (leb 1 x.label && leb x.label most_label) && eqb x.value 0

abbrev pub node_rule_of : ℕ → NodeRow → Bool
node_rule_of i x = root_rule i x && (value_rule x || other_rule x)

abbrev pub holds_any : ℕ → ℕ → Bool
holds_any p c = (eqb p root || eqb p element) && (leb element c && leb c value)

abbrev pub holds_value : ℕ → ℕ → Bool
holds_value p c = (eqb p plain_attribute || eqb p id_attribute) && eqb c value

abbrev pub may_hold_of : ℕ → ℕ → Bool
may_hold_of p c = holds_any p c || holds_value p c

abbrev pub label_rule_of : ℕ → ℕ → ℕ → Bool
label_rule_of start from to = leb start from && leb from to && not (eqb from Now)

abbrev pub may_refer_of : ℕ → ℕ → Bool
may_refer_of a t = eqb a ref_attribute && eqb t element

-- a row of either kind joins the nodes a and b of n: it refers, or it holds
abbrev pub may_join_of : Bool → ℕ → ℕ → Bool
may_join_of true = may_refer_of
may_join_of false = may_hold_of

abbrev pub join_rule : Bool → ℕ → ℕ → (ℕ → NodeRow) → ℕ → ℕ → ℕ → ℕ → Bool
join_rule refers start n node a b from to =
    ltb a n && ltb b n && (may_join_of refers (node a).kind (node b).kind && label_rule_of start from to)

-- row i breaks its rule
unfoldable pub bad_node_of : (ℕ → NodeRow) → ℕ → Bool
bad_node_of node i = not (node_rule_of i (node i))

-- of a table whose rows have w numbers, and refer or hold
unfoldable pub bad_row_of : Bool → ℕ → ℕ → (ℕ → NodeRow) → ℕ → List ℕ → ℕ → Bool
bad_row_of refers start n node w xs i =
    not (join_rule refers start n node (cell_at w xs i 0) (cell_at w xs i 1) (from_at w xs i) (to_at w xs i))
