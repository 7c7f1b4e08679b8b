-- How long nothing changes.
--   Starts, Ends     a label starts in t+1 to u, ends in t to u−1
--   Still            it does neither; Calm: no label of n does; RowsCalm: no row of either table does
--   Stops            a label starts at u+1 or ends at u
--   LargestInstant   the largest instant with a property
--   RowsUntil        how long no row of either table starts or ends; Until: of a history
-- Assumes nothing.
use Rattle.std.specs.Prelude.{◌≡◌, ◌⊎◌, ℕ, ◌+◌, ◌≤◌, ◌<◌}
use Rattle.tables.specs.Tables.{Now, EdgeRow, RefRow}
use Rattle.history.specs.Faults.{History}

module _ (t : ℕ) where
  abbrev pub Starts : ℕ → ℕ → Type 0
  Starts from u = (t < from) × (from ≤ u)

  abbrev pub Ends : ℕ → ℕ → Type 0
  Ends to u = (t ≤ to) × (to < u)

  abbrev pub Still : ℕ → ℕ → ℕ → Type 0
  Still from to u = (Starts from u → ⊥) × (Ends to u → ⊥)

  -- of n labels, by their starts and their ends
  abbrev pub Calm : ℕ → (ℕ → ℕ) → (ℕ → ℕ) → ℕ → Type 0
  Calm n from to u = (i : ℕ) → i < n → Still (from i) (to i) u

-- of the first m containment rows and the first k reference rows
abbrev pub RowsCalm : ℕ → (ℕ → EdgeRow) → ℕ → (ℕ → RefRow) → ℕ → ℕ → Type 0
RowsCalm m E k R t u = Calm t m (λ i. (E i).from) (λ i. (E i).to) u × Calm t k (λ j. (R j).from) (λ j. (R j).to) u

-- where a stretch without change stops: a label starts at u+1 or ends at u
abbrev pub Stops : ℕ → ℕ → ℕ → Type 0
Stops u from to = (from ≡ u + 1) ⊎ (to ≡ u)

pub record LargestInstant (P : ℕ → Type 0) (u : ℕ) : Type 0 where
  pub instant : u ≤ Now
  pub here : P u
  pub largest : (v : ℕ) → v ≤ Now → P v → v ≤ u

-- [02:Ask 11] "until: the largest instant u such that no containment or reference row starts in t+1 to u, and none ends
-- in t to u−1"
abbrev pub RowsUntil : ℕ → (ℕ → EdgeRow) → ℕ → (ℕ → RefRow) → ℕ → ℕ → Type 0
RowsUntil m E k R t = LargestInstant (RowsCalm m E k R t)

abbrev pub Until : History → ℕ → ℕ → Type 0
Until H = RowsUntil H.edges H.edge H.refs H.ref
