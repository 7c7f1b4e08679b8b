-- What snapshot refuses, and what it shows. Assumes nothing.
use Rattle.std.specs.Prelude.{◌≡◌, true, List, [], ◌∷◌, ◌++◌, ℕ, ◌+◌, ◌*◌, ◌≤◌, ◌<◌, length}
use Rattle.ground.specs.Least.{Before, Smallest}
use Rattle.ground.specs.Lists.{front}
use Rattle.answers.specs.declared.Fault.{Fault}
use Rattle.answers.specs.Answers.{Answer}
use Rattle.answers.specs.Answers.{Done, Faulty, Room, Early}
use Rattle.answers.specs.Numbers.{refuses}
use Rattle.tables.specs.Tables.{no_node, Tables}
use Rattle.tables.specs.Rules.{Obeys, Gives}
use Rattle.history.specs.Faults.{History, held, Into, RefersFrom, First, GapAside}

-- [01:What the calls answer] "A row is node, parent, referent."
pub record ShownRow : Type 0 where
  pub node : ℕ
  pub parent : ℕ
  pub referent : ℕ

abbrev pub shown_width : ℕ
shown_width = 3

unfoldable pub shown_numbers : List ShownRow → List ℕ
shown_numbers [] = []
shown_numbers (x ∷ xs) = x.node ∷ x.parent ∷ x.referent ∷ shown_numbers xs

module _ (H : History) (t : ℕ) where
  -- a row from p to c is in force
  abbrev pub IsChild : ℕ → ℕ → Type 0
  IsChild p c = (i : ℕ) × Into H.edges H.edge t c i × ((H.edge i).parent ≡ p)

  -- [01:What the calls answer] "Referent is the target of the smallest reference row in force from that node, or
  -- 4,294,967,295 if there is none."
  pub data Referent (n : ℕ) : ℕ → Type 0 where
    target : {k : ℕ} → Smallest (RefersFrom H.ref t n) H.refs k → Referent n (H.ref k).target
    no_target : Before (RefersFrom H.ref t n) H.refs → Referent n no_node

  -- node k is a child of n, and its number is c or more
  abbrev pub ChildFrom : ℕ → ℕ → ℕ → Type 0
  ChildFrom n c k = (c ≤ k) × IsChild n k

  -- [01:What the calls answer] "a node is followed by the whole subtree of each child, children by rising node number;
  -- each subtree fills the rows directly after what is already written"
  mutual
    -- the rows of the subtree of n, which stands under p
    pub data Subtree : ℕ → ℕ → List ShownRow → Type 0 where
      row : {p n r : ℕ} {xs : List ShownRow} → Referent n r → Children n 0 xs
          → Subtree p n (record { node = n; parent = p; referent = r } ∷ xs)

    -- the rows of the subtrees of the children of n from node number c on
    pub data Children : ℕ → ℕ → List ShownRow → Type 0 where
      no_more : {n c : ℕ} → Before (ChildFrom n c) H.nodes → Children n c []
      next : {n c k : ℕ} {xs ys : List ShownRow} → Smallest (ChildFrom n c) H.nodes k → Subtree n k xs
          → Children n (k + 1) ys → Children n c (xs ++ ys)

  -- [01:What the calls answer] "Rows stand for the root and all nodes present at t."; "The root's parent is
  -- 4,294,967,295."
  abbrev pub ShownRows : List ShownRow → Type 0
  ShownRows = Subtree no_node 0

module _ (L : Tables) (t : ℕ) where
  -- no refusal before 21 applies
  pub record Ready : Type 0 where
    pub obeys : Obeys L
    pub begun : L.start ≤ t
    pub none : (f : Fault) → GapAside (held L) t f → ⊥

  -- [01:What the calls answer] Snapshot: "1 to 5 in order, 23, then the fault at t of smallest code and place with GAP
  -- set aside"
  pub data Unready : Answer → Type 0 where
    ruled_out : {a : Answer} → Gives L a → refuses a ≡ true → Unready a
    early : Obeys L → t < L.start → Unready (Early t)
    faulty : {f : Fault} → Obeys L → L.start ≤ t → First (GapAside (held L) t) f → Unready (Faulty t f)

  -- [01:What the calls answer] "21 (instant t, place: rows needed). Otherwise code 0, instant t, place k, and the first
  -- 3k numbers of the output hold k rows, the rest unchanged."; "No refusal writes to a lent table or buffer."
  pub data Snapshot (before : List ℕ) : Answer → List ℕ → Type 0 where
    unready : {a : Answer} → Unready a → Snapshot before a before
    short : {xs : List ShownRow} → Ready → ShownRows (held L) t xs → length before < length xs * shown_width
        → Snapshot before (Room t (length xs)) before
    shows : {xs : List ShownRow} → Ready → ShownRows (held L) t xs → length xs * shown_width ≤ length before
        → Snapshot before (Done t (length xs)) (front (shown_numbers xs) before)
