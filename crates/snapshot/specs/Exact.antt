-- What it means that rows are exactly what a history contains at an instant. Assumes nothing.
use Rattle.std.specs.Prelude.{◌≡◌, ◌⊎◌, List, [], ◌∷◌, ℕ, ◌+◌, ◌<◌, eqb}
use Rattle.ground.specs.Least.{Before}
use Rattle.ground.specs.Sums.{bit}
use Rattle.ground.specs.Among.{All}
use Rattle.tables.specs.Tables.{no_node}
use Rattle.history.specs.Faults.{History, RefersFrom, Here}
use Rattle.snapshot.specs.Snapshot.{ShownRow, IsChild}

-- how many rows stand for node n
unfoldable pub standing : ℕ → List ShownRow → ℕ
standing n [] = 0
standing n (x ∷ xs) = bit (eqb x.node n) + standing n xs

-- [02:Ask 1] the referent is the target of the one reference in force from n; where there is none, no node
pub data OneReferent (H : History) (t n : ℕ) : ℕ → Type 0 where
  one : {k : ℕ} → k < H.refs → RefersFrom H.ref t n k
      → ((j : ℕ) → j < H.refs → RefersFrom H.ref t n j → j ≡ k) → OneReferent H t n (H.ref k).target
  no_reference : Before (RefersFrom H.ref t n) H.refs → OneReferent H t n no_node

-- the root's parent is no node; another node stands under the parent of its row in force; the referent is right
pub record RowRight (H : History) (t : ℕ) (x : ShownRow) : Type 0 where
  pub under : ((x.node ≡ 0) × (x.parent ≡ no_node)) ⊎ IsChild H t x.parent x.node
  pub refers : OneReferent H t x.node x.referent

-- [demand 2] "A snapshot shows exactly what was contained at its instant."
pub record Exact (H : History) (t : ℕ) (xs : List ShownRow) : Type 0 where
  pub once : (n : ℕ) → Here H t n → standing n xs ≡ 1
  pub only : (n : ℕ) → (Here H t n → ⊥) → standing n xs ≡ 0
  pub right : All (RowRight H t) xs
