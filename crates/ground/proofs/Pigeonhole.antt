-- More pigeons than holes: two share one. Assumes nothing.
use mathlib.Core.Path.{◌≡◌, refl}
use mathlib.Core.Logic.{◌≢◌, ◌⊎◌, inl, inr, ⊎_elim}
use Prim.Native.Nat.{ℕ, zero, suc, ◌≤◌, ◌<◌}
use native.Mathlib.Decide.{ℕ_discrete}
use native.Mathlib.Omega.{arith}
use Rattle.ground.specs.Least.{Any}
use Rattle.ground.proofs.LeastLaws.{any_dec}

-- b where x is a, and x where it is not
swap : (a b x : ℕ) → (y : ℕ) × (((x ≡ a) × (y ≡ b)) ⊎ ((x ≢ a) × (y ≡ x)))
swap a b x = go (ℕ_discrete x a)
  where
    go : Dec (x ≡ a) → (y : ℕ) × (((x ≡ a) × (y ≡ b)) ⊎ ((x ≢ a) × (y ≡ x)))
    go (yes e) = (b, inl (e, refl))
    go (no e) = (x, inr (e, refl))

-- two of the numbers f 0 to f n are the same
abbrev pub Twice : (ℕ → ℕ) → ℕ → Type 0
Twice f n = (i : ℕ) × (j : ℕ) × (i < j) × (j ≤ n) × (f i ≡ f j)

pub pigeonhole : (n : ℕ) (f : ℕ → ℕ) → ((k : ℕ) → k ≤ n → f k < n) → Twice f n
pigeonhole zero f h = absurd (let g : f 0 < 0 = h 0 (omega arith) in omega arith)
pigeonhole (suc n) f h =
    go (any_dec (λ i. f i ≡ f (suc n)) (λ i. ℕ_discrete (f i) (f (suc n))) (suc n)) (pigeonhole n g)
  where
    -- the hole n is given up: who sat there sits where f (suc n) does
    g : ℕ → ℕ
    g k = (swap n (f (suc n)) (f k)).0

    g_cases : (k : ℕ) → ((f k ≡ n) × (g k ≡ f (suc n))) ⊎ ((f k ≢ n) × (g k ≡ f k))
    g_cases k = (swap n (f (suc n)) (f k)).1

    small : (k : ℕ) → k ≤ n → f k ≢ f (suc n) → g k < n
    small k a ne =
        ⊎_elim (λ w. omega (arith, h (suc n) (omega arith))) (λ w. omega (arith, h k (omega arith))) (g_cases k)

    back : (i j : ℕ) → f i ≢ f (suc n) → f j ≢ f (suc n) → g i ≡ g j → f i ≡ f j
    back i j ni nj e =
        ⊎_elim (λ u. ⊎_elim (λ v. omega arith) (λ v. omega arith) (g_cases j))
        (λ u. ⊎_elim (λ v. omega arith) (λ v. omega arith) (g_cases j))
        (g_cases i)

    go : Dec (Any (λ i. f i ≡ f (suc n)) (suc n)) → (((k : ℕ) → k ≤ n → g k < n) → Twice g n) → Twice f (suc n)
    go (yes s) r = (s.0, suc n, s.1, omega arith, s.2)
    go (no none) r =
        let ne : (k : ℕ) → k ≤ n → f k ≢ f (suc n) = λ k a e. none (k, omega arith, e) in
        let (i, j, a, b, e) = r (λ k a. small k a (ne k a)) in
        (i, j, a, omega arith, back i j (ne i (omega arith)) (ne j b) e)
