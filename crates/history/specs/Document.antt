-- Rizzolo and Vaisman's Temporal XML Document, of tables that obey the rules: r is node 0, t0 the start. [01] leaves
-- out condition 4 and half of 5, and reads 1 as OUTSIDE, 2 as OVERLAP and GAP, 3 as CYCLE, the half of 5 as LATE, 6 as
-- DANGLING: that all together are the same is proved. DOUBLE is no condition of the paper's. Assumes nothing.
use Rattle.std.specs.Prelude.{◌≡◌, ◌≢◌, ◌⊎◌, ◌↔◌, ℕ, ◌+◌, ◌≤◌, ◌<◌}
use mathlib.Core.List.{List, [], ◌∷◌, Memᴰ as Among}
use Rattle.tables.specs.Tables.{Now, During}
use Rattle.history.specs.Faults.{History, Into, NoneInto, Chain}
use Rattle.history.specs.Sound.{Touched}

module _ (H : History) where
  -- containment row i comes into n
  abbrev pub Incoming : ℕ → ℕ → Type 0
  Incoming n i = (i < H.edges) × ((H.edge i).child ≡ n)

  -- [003:Def 2] "The lifespan of a node n .. is the union of the temporal elements of all the containment edges
  -- incoming to the node. The lifespan of the root is the interval [t0, Now]."
  abbrev pub Lifespan : ℕ → ℕ → Type 0
  Lifespan n t =
      ((n ≡ 0) × During H.start Now t)
      ⊎ ((n ≢ 0) × ((i : ℕ) × Incoming n i × During (H.edge i).from (H.edge i).to t))

  -- the label [from, to] is contained in the lifespan of n
  abbrev pub InLifespan : ℕ → ℕ → ℕ → Type 0
  InLifespan from to n = (t : ℕ) → t ≤ Now → During from to t → Lifespan n t

  -- [003:3.2.1] "two temporal labels Tei and Tej are consecutive if Tej.FROM = Tei.TO + 1": in a list of rows, the
  -- label of each and that of the next
  abbrev pub Consecutive : List ℕ → Type 0
  Consecutive [] = Unit {0}
  Consecutive (i ∷ []) = Unit {0}
  Consecutive (i ∷ (j ∷ is)) = ((H.edge j).from ≡ (H.edge i).to + 1) × Consecutive (j ∷ is)

  -- the rows in force at t are a tree with the root: none comes into the root, one and no other into each other node
  -- that they touch, and no chain of one or more leads from a node to itself
  pub record RootedTree (t : ℕ) : Type 0 where
    pub root : NoneInto H.edges H.edge t 0
    pub one : (n : ℕ) → n ≢ 0 → Touched H.edges H.edge t n
        → (i : ℕ) × Into H.edges H.edge t n i × ((j : ℕ) → Into H.edges H.edge t n j → j ≡ i)
    pub acyclic : (n i : ℕ) (is : List ℕ) → Chain H.edges H.edge t n n (i ∷ is) → ⊥

  -- [003:Def 3] the conditions that a document graph with temporal labels satisfies
  pub record Document : Type 0 where
    -- 1. "The union of the temporal labels of the containment edges outgoing from a node is contained in the lifespan
    -- of the node."
    pub outgoing : (i : ℕ) → i < H.edges → InLifespan (H.edge i).from (H.edge i).to (H.edge i).parent
    -- 2. "The temporal labels of the containment edges incoming to a node are consecutive.": in a list of just these
    pub incoming : (n : ℕ) → (is : List ℕ) × ((i : ℕ) → Among i is ↔ Incoming n i) × Consecutive is
    -- 3. "For any time instant t, the sub-graph composed by all containment edges ec such that t ∈ Tec is a tree with
    -- root r. We call this subgraph a snapshot of the document at time t"
    pub tree : (t : ℕ) → t ≤ Now → RootedTree t
    -- 5. "For any containment edge ec(ni, nj, Tec), if nj is an attribute of type REF, such that there exists a
    -- reference edge er(nj, nk, Ter), then Tec = Ter holds.": the half that [01] keeps, with all edges into nj together
    pub attribute : (k : ℕ) → k < H.refs → InLifespan (H.ref k).from (H.ref k).to (H.ref k).attribute
    -- 6. "Let er(ni, nj, Ter) be a reference edge. Then, Ter ⊆ lifespan(nj) holds."
    pub target : (k : ℕ) → k < H.refs → InLifespan (H.ref k).from (H.ref k).to (H.ref k).target
