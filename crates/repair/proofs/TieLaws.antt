-- Laws of ties: what the scan over pairs of rows shows, and that rows without a tie differ. Assumes nothing.
use mathlib.Core.Path.{◌≡◌, sym}
use mathlib.Core.Logic.{◌↔◌}
use mathlib.Core.Bool.{true, false}
use Prim.Native.Nat.{ℕ, ◌≤◌, ◌<◌}
use native.Mathlib.Omega.{arith}
use lib.Dec.{eqb}
use Rattle.ground.specs.Tests.{Tells}
use Rattle.ground.specs.Least.{Before}
use Rattle.ground.specs.Searches.{Passes}
use Rattle.ground.proofs.TestLaws.{tells_and, tells_eq, tells_fail, tells_fails}
use Rattle.ground.proofs.LeastLaws.{not_lt→le, any_tells}
use Rattle.tables.specs.Tables.{EdgeRow}
use Rattle.repair.specs.Repaired.{SameStart, Tied}
use Rattle.repair.specs.Ends.{same_start_of, tied}

module _ (edge : ℕ → EdgeRow) where
  same_start_tells : (i j : ℕ) → Tells (same_start_of (edge j) (edge i)) (SameStart edge i j)
  same_start_tells i j =
      tells_and (eqb (edge j).child (edge i).child) (eqb (edge j).from (edge i).from) (tells_eq _ _) (tells_eq _ _)

  pub tied_tells : (i : ℕ) → Tells (tied edge i) (Tied edge i)
  unfolding tied
  tied_tells i = any_tells (λ j. same_start_of (edge j) (edge i)) (SameStart edge i) (same_start_tells i) i

  -- the inner scan, where it found a smaller row, and where it looked at all
  pub tied_found : (i j : ℕ) → j < i → same_start_of (edge j) (edge i) ≡ true → tied edge i ≡ true
  tied_found i j h e = (tied_tells i).1 (j, h, (same_start_tells i j).0 e)

  pub tied_missed : (i : ℕ) {j : ℕ} → i ≤ j → Before (Passes (λ k. same_start_of (edge k) (edge i))) j
      → tied edge i ≡ false
  tied_missed i h b =
      tells_fails (tied edge i) (tied_tells i) (λ (k, l, s). b k (omega arith) ((same_start_tells i k).1 s))

  pub untied_tells : (m : ℕ) → ((i : ℕ) → i < m → tied edge i ≡ false) ↔ Before (Tied edge) m
  untied_tells m = (
    λ none i h. tells_fail (tied_tells i) (none i h),
    λ none i h. tells_fails (tied edge i) (tied_tells i) (none i h),
  )

  -- no two of m rows without a tie share their child and their start
  module _ (m : ℕ) (none : (i : ℕ) → i < m → tied edge i ≡ false) where
    not_below : (i j : ℕ) → i < m → SameStart edge i j → j < i → ⊥
    not_below i j h s l = (untied_tells m).0 none i h (j, l, s)

    pub untied : (i j : ℕ) → i < m → j < m → SameStart edge i j → i ≡ j
    untied i j hi hj s =
        omega (arith, not_lt→le (not_below i j hi s), not_lt→le (not_below j i hj (sym s.0, sym s.1)))
