-- Searches, computed. proofs/LeastLaws.antt ties them to specs/Least.antt.
--   Passes p     the property that the test p tells
--   any p n      the test passes at some number below n
--   least p n    the smallest number below n at which the test passes, or n where there is none
--   found p n    that number, where there is one
--   Finds P n r  what a search for the smallest number below n that has P answers
--   nearer r b x   the smaller of what was found, r, and, where the test b passes, x
-- Assumes nothing.
use Rattle.std.specs.Prelude.{◌≡◌, Bool, true, false, ◌||◌, cond, ℕ, zero, suc, ltb, min, Option, Some, None}
use Rattle.std.specs.Option.{unwrap_or}
use Rattle.ground.specs.Least.{Before, Smallest}

abbrev pub Passes : (ℕ → Bool) → ℕ → Type 0
Passes p i = p i ≡ true

-- what a `let` binds waits: no test is made below one that passes
unfoldable pub any : (ℕ → Bool) → ℕ → Bool
any p zero = false
any p (suc n) = let rest = any p n in p n || rest

-- a search that has looked at n places stands at the first that it found, or at n
unfoldable pub least : (ℕ → Bool) → ℕ → ℕ
least p zero = zero
least p (suc n) = let k = least p n in cond (p k) k (suc k)

abbrev pub found : (ℕ → Bool) → ℕ → Option ℕ
found p n = cond (ltb (least p n) n) (Some (least p n)) None

abbrev pub nearer : Option ℕ → Bool → ℕ → Option ℕ
nearer r b x = cond b (Some (min (unwrap_or r x) x)) r

abbrev pub Finds : (ℕ → Type 0) → ℕ → Option ℕ → Type 0
Finds P n (Some k) = Smallest P n k
Finds P n None = Before P n
