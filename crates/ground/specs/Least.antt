-- The smallest number with a property, below a bound: every smallest row and node. Assumes nothing.
use Rattle.std.specs.Prelude.{ℕ, ◌≤◌, ◌<◌}

-- some number below n has P
abbrev pub Any : (ℕ → Type 0) → ℕ → Type 0
Any P n = (i : ℕ) × (i < n) × P i

-- no number below k has P
abbrev pub Before : (ℕ → Type 0) → ℕ → Type 0
Before P k = (i : ℕ) → i < k → P i → ⊥

-- k is the smallest number below n that has P, or n where there is none
pub record Least (P : ℕ → Type 0) (n k : ℕ) : Type 0 where
  pub within : k ≤ n
  pub before : Before P k
  pub here : k < n → P k

-- k is the smallest number below n that has P
abbrev pub Smallest : (ℕ → Type 0) → ℕ → ℕ → Type 0
Smallest P n k = Least P n k × (k < n)
