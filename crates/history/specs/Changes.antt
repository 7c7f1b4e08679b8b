-- Change instants.
--   Changes     the label [from, to] changes at c
--   RowsChange  some row of either table changes at c; Change: of a history
--   LastChange  c is the greatest change instant up to t
-- Assumes nothing.
use Rattle.std.specs.Prelude.{◌≡◌, ◌≢◌, ◌⊎◌, ℕ, ◌+◌, ◌≤◌, ◌<◌}
use Rattle.ground.specs.Least.{Any}
use Rattle.tables.specs.Tables.{Now, EdgeRow, RefRow}
use Rattle.history.specs.Faults.{History}

-- it starts there, or it is not current and ended just before
abbrev pub Changes : ℕ → ℕ → ℕ → Type 0
Changes from to c = (c ≡ from) ⊎ ((to ≢ Now) × (c ≡ to + 1))

-- of the first m containment rows and the first k reference rows
abbrev pub RowsChange : ℕ → (ℕ → EdgeRow) → ℕ → (ℕ → RefRow) → ℕ → Type 0
RowsChange m E k R c =
    Any (λ i. Changes (E i).from (E i).to c) m ⊎ Any (λ j. Changes (R j).from (R j).to c) k

abbrev pub Change : History → ℕ → Type 0
Change H = RowsChange H.edges H.edge H.refs H.ref

pub record LastChange (H : History) (t c : ℕ) : Type 0 where
  pub before : c ≤ t
  pub change : Change H c
  pub greatest : (s : ℕ) → c < s → s ≤ t → Change H s → ⊥
