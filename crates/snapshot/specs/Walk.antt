-- The walk of a tree whose nodes each have a referent and a list of children, computed. proofs/ShownLaws.antt: of a
-- history it gives the rows that the words allow.
--   each         what a function gives at each node of a list, one after the other
--   shown_row     the row of a node under its parent; row_numbers: the numbers of a row
--   subtree      the rows of a node's subtree
-- Assumes nothing.
use Rattle.std.specs.Prelude.{List, [], ◌∷◌, ◌++◌, ℕ, zero, suc}
use Rattle.snapshot.specs.Snapshot.{ShownRow}

unfoldable pub each : (ℕ → List ShownRow) → List ℕ → List ShownRow
each f [] = []
each f (c ∷ cs) = f c ++ each f cs

abbrev pub row_numbers : ℕ → ℕ → ℕ → List ℕ
row_numbers node parent referent = node ∷ parent ∷ referent ∷ []

abbrev pub shown_row : (ℕ → ℕ) → ℕ → ℕ → ShownRow
shown_row referent parent n = record { node = n; parent = parent; referent = referent n }

-- `left` is the number of nodes not yet on the chain: it cuts nothing off where no chain goes round
module _ (referent : ℕ → ℕ) (kids : ℕ → List ℕ) where
  unfoldable pub subtree : ℕ → ℕ → ℕ → List ShownRow
  subtree zero parent n = []
  subtree (suc left) parent n = shown_row referent parent n ∷ each (λ c. subtree left n c) (kids n)
