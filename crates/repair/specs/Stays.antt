-- What repair is for: throughout a child's stay the row into it that started last is in force, alone. Assumes nothing.
use Rattle.std.specs.Prelude.{◌≡◌, ℕ, ◌≤◌}
use Rattle.tables.specs.Tables.{EdgeRow}
use Rattle.history.specs.Faults.{Into}
use Rattle.repair.specs.Repaired.{RowInto}

-- [01:What the calls answer] "from the child's first start to its last end": a row has started, one ends at t or later
pub record Stay (edge : ℕ → EdgeRow) (m c t : ℕ) : Type 0 where
  pub started : (i : ℕ) × RowInto edge m c i × ((edge i).from ≤ t)
  pub lasting : (i : ℕ) × RowInto edge m c i × (t ≤ (edge i).to)

-- [01:What the calls answer] "the row that started last": of the rows into c that started up to t
pub record Latest (edge : ℕ → EdgeRow) (m c t i : ℕ) : Type 0 where
  pub row : RowInto edge m c i
  pub started : (edge i).from ≤ t
  pub last : (j : ℕ) → RowInto edge m c j → (edge j).from ≤ t → (edge j).from ≤ (edge i).from

-- [01:What the calls answer] "the parent at each instant is that of the row that started last": exactly one row into c
-- is in force at t after the call; it is the latest, and has the parent that it had
pub record OneLatest (before after : ℕ → EdgeRow) (m c t : ℕ) : Type 0 where
  pub row : ℕ
  pub latest : Latest before m c t row
  pub parent : (after row).parent ≡ (before row).parent
  pub in_force : Into m after t c row
  pub only : (k : ℕ) → Into m after t c k → k ≡ row
