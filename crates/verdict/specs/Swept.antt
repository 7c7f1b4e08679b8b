-- How far the sweep has come.
--   Swept   it stands at t, and no instant before t has a fault
-- Assumes nothing.
use Rattle.std.specs.Prelude.{ℕ, ◌≤◌, ◌<◌}
use Rattle.tables.specs.Tables.{Now}
use Rattle.history.specs.Faults.{History, Faultless}

pub record Swept (H : History) (t : ℕ) : Type 0 where
  pub instant : t ≤ Now
  pub clean : (s : ℕ) → s < t → Faultless H s
