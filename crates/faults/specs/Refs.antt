-- What one pass over the reference rows at an instant keeps.
--   stray_at   row j is in force, and the node at one of its ends is absent
--   SoFar     a place below j at which a test passes
--   Flags     the flag of each node tells whether one of the first j rows is in force from it
--   Found     of the first j of k rows: the smallest place of each kind, with these flags
--   Finding   row j can be taken after the rows before it
--   Leasts    of all k rows: the smallest place of each kind. That these are the places of LATE, DANGLING and DOUBLE is
--             late_found, dangling_found, double_found in proofs/JudgeLaws.antt
-- Assumes nothing.
use Rattle.std.specs.Prelude.{◌≡◌, Bool, false, List, ℕ, ◌≤◌, ◌<◌, length, get_or}
use Rattle.ground.specs.Tests.{Tells}
use Rattle.ground.specs.Least.{Any}
use Rattle.ground.specs.Searches.{Finds}
use Rattle.ground.specs.Searches.{Passes, found}
use Rattle.tables.specs.Rows.{Side}
use Rattle.tables.specs.Rows.{Attribute, Target}
use Rattle.tables.specs.Tables.{RefRow}
use Rattle.history.specs.Faults.{RefersFrom, Double}
use Rattle.faults.specs.declared.refs.RefFaults.{RefFaults}
use Rattle.faults.specs.Leaves.{is_stray, Referring}

abbrev pub SoFar : (ℕ → Bool) → ℕ → ℕ → Type 0
SoFar p j i = (i < j) × Passes p i

abbrev pub Flags : (ℕ → RefRow) → ℕ → ℕ → List Bool → Type 0
Flags R t j flags = (a : ℕ) → a < length flags → Tells (get_or flags a false) (Any (RefersFrom R t a) j)

module _ (R : ℕ → RefRow) (k t : ℕ) (up : List ℕ) where
  abbrev pub stray_at : Side → ℕ → Bool
  stray_at side j = is_stray up t side (R j)

  pub record Found (j : ℕ) (r : RefFaults) (pointing : List Bool) : Type 0 where
    pub late : Finds (SoFar (stray_at Attribute) j) k r.late
    pub dangling : Finds (SoFar (stray_at Target) j) k r.dangling
    pub double : Finds (Double R t j) (length up) r.double
    pub flags : Flags R t j pointing

  pub record Finding (j : ℕ) (r : RefFaults) (pointing : List Bool) : Type 0 where
    pub refers : Referring k R (length up)
    pub flagged : length up ≤ length pointing
    pub row : j < k
    pub found : Found j r pointing

  pub record Leasts (r : RefFaults) : Type 0 where
    pub late : r.late ≡ found (stray_at Attribute) k
    pub dangling : r.dangling ≡ found (stray_at Target) k
    pub double : Finds (Double R t k) (length up) r.double
