-- Laws of sums over the numbers below a bound. Assumes nothing.
use mathlib.Core.Path.{◌≡◌, refl, ap, ap₂}
use mathlib.Core.Bool.{Bool, true, false}
use Prim.Native.Nat.{ℕ, zero, suc, ◌+◌, ◌≤◌, ◌<◌}
use native.Mathlib.Decide.{ℕ_discrete}
use native.Mathlib.Numerals.{add-one}
use native.Mathlib.Omega.{arith}
use Rattle.ground.specs.Sums.{sum, bit, count}

pub sum_more : (f : ℕ → ℕ) (n : ℕ) → sum f (n + 1) ≡ sum f n + f n
unfolding sum
sum_more f n = rw (add-one n)

pub sum_ext : (f g : ℕ → ℕ) (n : ℕ) → ((i : ℕ) → i < n → f i ≡ g i) → sum f n ≡ sum g n
unfolding sum
sum_ext f g zero h = refl
sum_ext f g (suc n) h = ap₂ ◌+◌ (sum_ext f g n (λ i l. h i (omega arith))) (h n (omega arith))

pub sum_add : (f g : ℕ → ℕ) (n : ℕ) → sum (λ i. f i + g i) n ≡ sum f n + sum g n
unfolding sum
sum_add f g zero = refl
sum_add f g (suc n) = omega (arith, sum_add f g n)

pub sum_zero : (f : ℕ → ℕ) (n : ℕ) → ((i : ℕ) → i < n → f i ≡ 0) → sum f n ≡ 0
unfolding sum
sum_zero f zero h = refl
sum_zero f (suc n) h = omega (arith, sum_zero f n (λ i l. h i (omega arith)), h n (omega arith))

-- only the term at x is not 0
pub sum_one : (f : ℕ → ℕ) (n x : ℕ) → x < n → ((i : ℕ) → i < n → (i ≡ x → ⊥) → f i ≡ 0) → sum f n ≡ f x
unfolding sum
sum_one f zero x l h = absurd (omega arith)
sum_one f (suc n) x l h = go (ℕ_discrete x n) (λ m. sum_one f n x m (λ i k. h i (omega arith)))
  where
    go : Dec (x ≡ n) → (x < n → sum f n ≡ f x) → sum f n + f n ≡ f x
    go (yes e) ih = omega (arith, sum_zero f n (λ i k. h i (omega arith) (omega arith)), ap f e)
    go (no d) ih = omega (arith, ih (omega arith), h n (omega arith) (omega arith))

-- a count is at most the bound
pub count_le : (p : ℕ → Bool) (n : ℕ) → count p n ≤ n
unfolding sum
count_le p zero = omega arith
count_le p (suc n) = omega (arith, count_le p n, bit_le (p n))
  where
    bit_le : (b : Bool) → bit b ≤ 1
    bit_le true = omega arith
    bit_le false = omega arith
