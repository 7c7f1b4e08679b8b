-- The lists that a snapshot makes for itself, a number for each node.
--   Lists      the list holds a function's value for each of its places; Blank: it holds no_node everywhere
--   put_first_of   a number stored where no_node stands
--   Listable   what listing the referents asks for
--   Links      the first child of each node, and the next sibling of each node. A number that is no node ends a run
--   links      of two lists; link_to: with a node before the children of its parent that are linked already
--   link_from   the links once the nodes below a bound are linked, the last first; link_all: once all are
--   run        a node and its next siblings; kids_of: the children of a node by the links
--   Runs       each run of siblings goes on until its end
--   Tree       the links and the referents of the nodes below count; tree: of these lists; Grown: what is true of each
--              Tree of src/walk.rt
--   tree_by     the rows of a subtree by a tree
--   Walkable   what a walk asks for
--   Walked     a walk gives the number of rows and fills the front of an output
--   kids_by, rows_by   children and rows by a list of parents, one for each node
--   Showable   what showing the rows asks for
-- Assumes nothing.
use Rattle.std.specs.Prelude.{◌≡◌, cond, List, [], ◌∷◌, ◌++◌, ℕ, zero, suc, ◌*◌, ◌≤◌, ◌<◌, ltb, eqb}
use Rattle.std.specs.Prelude.{length, get_or, set, drop}
use Rattle.tables.specs.Tables.{no_node, ref_at, Table}
use Rattle.tables.specs.Rules.{most_nodes}
use Rattle.faults.specs.Leaves.{Referring}
use Rattle.snapshot.specs.Snapshot.{ShownRow, shown_width, shown_numbers}
use Rattle.snapshot.specs.Walk.{subtree}
use Rattle.snapshot.specs.Says.{below, referent_at}

abbrev pub Lists : (ℕ → ℕ) → List ℕ → Type 0
Lists f l = (n : ℕ) → n < length l → get_or l n 0 ≡ f n

abbrev pub Blank : List ℕ → Type 0
Blank = Lists (λ n. no_node)

unfoldable pub put_first_of : List ℕ → ℕ → ℕ → List ℕ
put_first_of l a v = cond (eqb (get_or l a 0) no_node) (set l a v) l

pub record Listable (refs : Table) (referents : List ℕ) : Type 0 where
  pub refers : Referring refs.count (ref_at refs.numbers) (length referents)
  pub few : length referents ≤ no_node
  pub blank : Blank referents

pub record Links : Type 0 where
  pub first : List ℕ
  pub next : List ℕ

abbrev pub links : List ℕ → List ℕ → Links
links first next = record { first = first; next = next }

-- c goes before the children of p that are linked already
abbrev pub link_to : ℕ → ℕ → Links → Links
link_to p c l = links (set l.first p c) (set l.next c (get_or l.first p 0))

-- a node whose parent is no node stays as it is
unfoldable pub link_from : List ℕ → ℕ → ℕ → Links → Links
link_from parents count zero l = l
link_from parents count (suc c) l =
    link_from parents count c (cond (ltb (get_or parents c 0) count) (link_to (get_or parents c 0) c l) l)

abbrev pub link_all : List ℕ → Links → Links
link_all parents = link_from parents (length parents) (length parents)

unfoldable pub run : List ℕ → ℕ → ℕ → ℕ → List ℕ
run next count zero c = []
run next count (suc most) c = cond (ltb c count) (c ∷ run next count most (get_or next c 0)) []

abbrev pub kids_of : List ℕ → List ℕ → ℕ → ℕ → List ℕ
kids_of first next count n = run next count count (get_or first n 0)

pub record Runs (first next : List ℕ) (count : ℕ) : Type 0 where
  pub firsts : count ≤ length first
  pub nexts : count ≤ length next
  pub goes : (c : ℕ) → c < count → run next count count c ≡ c ∷ run next count count (get_or next c 0)

pub record Tree : Type 0 where
  pub first : List ℕ
  pub next : List ℕ
  pub referents : List ℕ
  pub count : ℕ

abbrev pub tree : List ℕ → List ℕ → List ℕ → ℕ → Tree
tree first next referents count = record { first = first; next = next; referents = referents; count = count }

pub record Grown (x : Tree) : Type 0 where
  pub runs : Runs x.first x.next x.count
  pub listed : x.count ≤ length x.referents

abbrev pub tree_by : Tree → ℕ → ℕ → ℕ → List ShownRow
tree_by x = subtree (λ n. get_or x.referents n 0) (kids_of x.first x.next x.count)

-- one of the nodes, and room for the rows of its subtree
pub record Walkable (x : Tree) (node parent left : ℕ) (out : List ℕ) : Type 0 where
  pub node_below : node < x.count
  pub room : length (tree_by x left parent node) * shown_width ≤ length out

pub record Walked (rows : List ShownRow) (before : List ℕ) (r : ℕ) (after : List ℕ) : Type 0 where
  pub number : r ≡ length rows
  pub out : after ≡ shown_numbers rows ++ drop (r * shown_width) before

-- the children of a node, and the rows of the walk from the root, by a list of parents
abbrev pub kids_by : List ℕ → ℕ → List ℕ
kids_by parents p = below (λ c. eqb (get_or parents c 0) p) (length parents)

abbrev pub rows_by : List ℕ → Table → ℕ → List ShownRow
rows_by parents refs t =
    subtree (referent_at refs.count (ref_at refs.numbers) t) (kids_by parents) (length parents) no_node 0

-- the parents of the nodes, references that name these, and room for the rows
pub record Showable (parents : List ℕ) (refs : Table) (t : ℕ) (out : List ℕ) : Type 0 where
  pub some : 0 < length parents
  pub few : length parents ≤ most_nodes
  pub refers : Referring refs.count (ref_at refs.numbers) (length parents)
  pub room : length (rows_by parents refs t) * shown_width ≤ length out
