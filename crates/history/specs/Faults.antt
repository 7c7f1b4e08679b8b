-- A history, presence and chains, the faults at an instant, line for line, and the verdict of check. Assumes nothing.
use Rattle.std.specs.Prelude.{◌≡◌, ◌≢◌, ◌⊎◌, List, [], ◌∷◌, ℕ, ◌≤◌, ◌<◌}
use Rattle.answers.specs.declared.Fault.{Fault}
use Rattle.answers.specs.declared.Kind.{Kind}
use Rattle.answers.specs.declared.Kind.TheVariants as kind
use Rattle.answers.specs.Answers.{Answer}
use Rattle.answers.specs.Answers.{Faulty}
use Rattle.answers.specs.Numbers.{code_of, passed}
use Rattle.tables.specs.Tables.{Now, During, EdgeRow, RefRow, edge_at, ref_at, Tables}

-- A history: the start, how many nodes, containment rows and reference rows it has, and the rows
pub record History : Type 0 where
  pub start : ℕ
  pub nodes : ℕ
  pub edges : ℕ
  pub edge : ℕ → EdgeRow
  pub refs : ℕ
  pub ref : ℕ → RefRow

abbrev pub history_of : ℕ → ℕ → List ℕ → ℕ → List ℕ → ℕ → History
history_of start n es m rs k = record { start = start; nodes = n; edges = m; edge = edge_at es; refs = k; ref = ref_at rs }

-- the history that lent tables hold
abbrev pub held : Tables → History
held L =
    history_of L.start L.nodes.count L.edges.numbers L.edges.count L.refs.numbers L.refs.count

-- Of the m containment rows E, at the instant t:
module _ (m : ℕ) (E : ℕ → EdgeRow) (t : ℕ) where
  -- row i leads into n, and is in force
  pub record Into (n i : ℕ) : Type 0 where
    pub row : i < m
    pub into : (E i).child ≡ n
    pub force : During (E i).from (E i).to t

  -- row i leads out of n, and is in force
  pub record Out (n i : ℕ) : Type 0 where
    pub row : i < m
    pub out : (E i).parent ≡ n
    pub force : During (E i).from (E i).to t

  -- row i leads into n, and ended before t
  pub record Ended (n i : ℕ) : Type 0 where
    pub row : i < m
    pub into : (E i).child ≡ n
    pub past : (E i).to < t

  -- row i leads into n, and starts after t
  pub record Coming (n i : ℕ) : Type 0 where
    pub row : i < m
    pub into : (E i).child ≡ n
    pub ahead : t < (E i).from

  abbrev pub NoneInto : ℕ → Type 0
  NoneInto n = (i : ℕ) → Into n i → ⊥

  -- [01:Faults at an instant] "The root is present from the start on. Another node is present at t when some
  -- containment row into it is in force."
  abbrev pub Present : ℕ → ℕ → Type 0
  Present start n = ((n ≡ 0) × (start ≤ t)) ⊎ ((n ≢ 0) × ((i : ℕ) × Into n i))

  -- [01:Faults at an instant] "A chain may have no rows; that one leads from a node to itself, and so the root is
  -- reached. Two chains are different if they differ in any row's number, also where the same nodes or equal rows stand
  -- in them." So a chain from a to b is a list of row numbers; the row into b is listed first.
  abbrev pub Chain : ℕ → ℕ → List ℕ → Type 0
  Chain a b [] = a ≡ b
  Chain a b (i ∷ is) = Into b i × Chain a (E i).parent is

  -- [01:Faults at an instant] 11 OVERLAP "two or more containment rows into node n are in force"
  abbrev pub Overlap : ℕ → Type 0
  Overlap n = (i : ℕ) × (j : ℕ) × (i < j) × Into n i × Into n j

  -- [01:Faults at an instant] 12 GAP "n is not the root, no row into n is in force, one ended before t and one starts
  -- after t"
  abbrev pub Gap : ℕ → Type 0
  Gap n = (n ≢ 0) × NoneInto n × ((i : ℕ) × Ended n i) × ((j : ℕ) × Coming n j)

  -- [01:Faults at an instant] 13 OUTSIDE "n is not the root, a row out of n is in force and none into n"
  abbrev pub Outside : ℕ → Type 0
  Outside n = (n ≢ 0) × ((i : ℕ) × Out n i) × NoneInto n

  -- [01:Faults at an instant] 14 CYCLE "a chain of one or more containment rows, all in force, leads from n to n"
  abbrev pub Cycle : ℕ → Type 0
  Cycle n = (i : ℕ) × (is : List ℕ) × Chain n n (i ∷ is)

-- Of reference rows R, at the instant t:
module _ (R : ℕ → RefRow) (t : ℕ) where
  -- row k is from a, and in force
  abbrev pub RefersFrom : ℕ → ℕ → Type 0
  RefersFrom a k = ((R k).attribute ≡ a) × During (R k).from (R k).to t

  -- [02:Ask 1] 17 DOUBLE "two or more references from one attribute are in force at t, place the attribute's node
  -- number": m is how many rows there are
  abbrev pub Double : ℕ → ℕ → Type 0
  Double m a = (j : ℕ) × (k : ℕ) × (j < k) × (k < m) × RefersFrom a j × RefersFrom a k

module _ (H : History) (t : ℕ) where
  -- reference row k is in force
  abbrev pub Refers : ℕ → Type 0
  Refers k = (k < H.refs) × During (H.ref k).from (H.ref k).to t

  abbrev pub Here : ℕ → Type 0
  Here = Present H.edges H.edge t H.start

  -- [01:Faults at an instant] 15 LATE "a reference is in force and its attribute is not present"
  abbrev pub Late : ℕ → Type 0
  Late k = Refers k × (Here (H.ref k).attribute → ⊥)

  -- [01:Faults at an instant] 16 DANGLING "a reference is in force and its target is not present"
  abbrev pub Dangling : ℕ → Type 0
  Dangling k = Refers k × (Here (H.ref k).target → ⊥)

  -- a fault of a kind holds at t, at a place
  abbrev pub HoldsAt : Kind → ℕ → Type 0
  HoldsAt kind.Overlap = Overlap H.edges H.edge t
  HoldsAt kind.Gap = Gap H.edges H.edge t
  HoldsAt kind.Outside = Outside H.edges H.edge t
  HoldsAt kind.Cycle = Cycle H.edges H.edge t
  HoldsAt kind.Late = Late
  HoldsAt kind.Dangling = Dangling
  HoldsAt kind.Double = Double H.ref t H.refs

  abbrev pub Holds : Fault → Type 0
  Holds f = HoldsAt f.kind f.place

-- one fault stands before another: a smaller code, or the same code and a smaller place
abbrev pub Ahead : Fault → Fault → Type 0
Ahead g f =
    (code_of g.kind < code_of f.kind) ⊎ ((code_of g.kind ≡ code_of f.kind) × (g.place < f.place))

-- [01:Faults at an instant] of the faults with a property, that of "the smallest code, and there the smallest place"
pub record First (F : Fault → Type 0) (f : Fault) : Type 0 where
  pub holds : F f
  pub first : (g : Fault) → F g → Ahead g f → ⊥

abbrev pub Faultless : History → ℕ → Type 0
Faultless H t = (f : Fault) → Holds H t f → ⊥

-- [01:Faults at an instant] "Check answers with the earliest instant that has a fault, there the smallest code, and
-- there the smallest place."
pub record Earliest (H : History) (t : ℕ) (f : Fault) : Type 0 where
  pub instant : t ≤ Now
  pub fault : First (Holds H t) f
  pub earliest : (s : ℕ) → s < t → Faultless H s

-- [01:Faults at an instant] "An accepted history answers code 0, instant 0, place 0."
pub data Verdict (H : History) : Answer → Type 0 where
  accepted : ((t : ℕ) → t ≤ Now → Faultless H t) → Verdict H passed
  refused : {t : ℕ} {f : Fault} → Earliest H t f → Verdict H (Faulty t f)

-- [01:What the calls answer] Snapshot: "the fault at t of smallest code and place with GAP set aside"
abbrev pub GapAside : History → ℕ → Fault → Type 0
GapAside H t f = Holds H t f × (code_of f.kind ≢ code_of kind.Gap)
