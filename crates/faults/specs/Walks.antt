-- Walking up from a node by the slots.
--   above    one step up from node b: its slot, and no_node past the n nodes
--   climb    k steps up
--   Back     the walk up from c comes back to c
--   Means    what each of a test's two results shows
-- Assumes nothing.
use Rattle.std.specs.Prelude.{◌≡◌, Bool, true, false, cond, List, ℕ, zero, suc, ltb, get_or}
use Rattle.tables.specs.Tables.{no_node}

module _ (up : List ℕ) (n : ℕ) where
  unfoldable pub above : ℕ → ℕ
  above b = cond (ltb b n) (get_or up b 0) no_node

  unfoldable pub climb : ℕ → ℕ → ℕ
  climb zero b = b
  climb (suc k) b = climb k (above b)

  abbrev pub Back : ℕ → Type 0
  Back c = (k : ℕ) × (climb (suc k) c ≡ c)

pub record Means (r : Bool) (P Q : Type 0) : Type 0 where
  pub passed : r ≡ true → P
  pub failed : r ≡ false → Q
