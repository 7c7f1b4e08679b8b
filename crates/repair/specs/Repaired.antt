-- What repair answers, and the ends that it gives. `edge` is the rows by number, m how many. Assumes nothing.
use Rattle.std.specs.Prelude.{◌≡◌, true, not, List, ℕ, ◌+◌, ◌≤◌, ◌<◌, eqb, length}
use Rattle.ground.specs.Least.{Any, Before, Smallest}
use Rattle.ground.specs.Sums.{count}
use Rattle.answers.specs.Answers.{Answer}
use Rattle.answers.specs.Answers.{Done, Tie}
use Rattle.answers.specs.Numbers.{refuses}
use Rattle.tables.specs.Tables.{EdgeRow, edge_at, Table, Tables, edge_in, with_end}
use Rattle.tables.specs.Rules.{Obeys, Gives}

-- [01:What the calls answer] row i "shares its child and its start with a smaller row"
abbrev pub SameStart : (ℕ → EdgeRow) → ℕ → ℕ → Type 0
SameStart edge i j = ((edge j).child ≡ (edge i).child) × ((edge j).from ≡ (edge i).from)

abbrev pub Tied : (ℕ → EdgeRow) → ℕ → Type 0
Tied edge i = Any (SameStart edge i) i

-- row i is one of the m rows into c
abbrev pub RowInto : (ℕ → EdgeRow) → ℕ → ℕ → ℕ → Type 0
RowInto edge m c i = (i < m) × ((edge i).child ≡ c)

-- [01:What the calls answer] "the next later start": after that of row i, among the rows into its child
pub record Next (edge : ℕ → EdgeRow) (m i s : ℕ) : Type 0 where
  pub later : (edge i).from < s
  pub start : (j : ℕ) × RowInto edge m (edge i).child j × ((edge j).from ≡ s)
  pub least : (j : ℕ) → RowInto edge m (edge i).child j → (edge i).from < (edge j).from → s ≤ (edge j).from

-- [01:What the calls answer] "the largest end that any of them had"
pub record Largest (edge : ℕ → EdgeRow) (m c e : ℕ) : Type 0 where
  pub end : (j : ℕ) × RowInto edge m c j × ((edge j).to ≡ e)
  pub most : (j : ℕ) → RowInto edge m c j → (edge j).to ≤ e

-- [01:What the calls answer] "Among the rows into one child, each ends one instant before the next later start, and
-- the row with the latest start ends at the largest end that any of them had."
pub record NewEnd (edge : ℕ → EdgeRow) (m i e : ℕ) : Type 0 where
  pub before_next : (s : ℕ) → Next edge m i s → e + 1 ≡ s
  pub latest : ((j : ℕ) → RowInto edge m (edge i).child j → (edge j).from ≤ (edge i).from)
      → Largest edge m (edge i).child e

-- [01:What the calls answer] "Otherwise only ends change."
abbrev pub OnlyEnds : (ℕ → EdgeRow) → (ℕ → EdgeRow) → Type 0
OnlyEnds before after = (i : ℕ) → after i ≡ with_end (before i) (after i).to

-- what a repair leaves in a table: every number of it is one of a row, and so determined, past the count's rows too
pub record Mended (x : Table) (left : List ℕ) : Type 0 where
  pub size : length left ≡ length x.numbers
  pub frame : OnlyEnds (edge_at x.numbers) (edge_at left)
  pub ends : (i : ℕ) → i < x.count → NewEnd (edge_at x.numbers) x.count i (edge_at left i).to
  pub rest : (i : ℕ) → x.count ≤ i → (edge_at left i).to ≡ (edge_at x.numbers i).to

-- [01:What the calls answer] "Place is the count of rows whose end differs from before."
abbrev pub changed : (ℕ → EdgeRow) → (ℕ → EdgeRow) → ℕ → ℕ
changed before after = count (λ i. not (eqb (before i).to (after i).to))

-- [01:What the calls answer] Repair: "1 to 4 in order, then 22 with place the smallest row that shares its child and
-- its start with a smaller row, and instant that start."; "No refusal writes to a lent table or buffer." Repair takes
-- no references: codes 1 to 4 are what the rules give where there are none.
pub data Repaired (L : Tables) : Answer → List ℕ → Type 0 where
  ruled_out : {a : Answer} → Gives L a → refuses a ≡ true → Repaired L a L.edges.numbers
  tie : {i : ℕ} → Obeys L → Smallest (Tied (edge_in L)) L.edges.count i
      → Repaired L (Tie (edge_in L i).from i) L.edges.numbers
  mended : {left : List ℕ} → Obeys L → Before (Tied (edge_in L)) L.edges.count → Mended L.edges left
      → Repaired L (Done 0 (changed (edge_in L) (edge_at left) L.edges.count)) left
