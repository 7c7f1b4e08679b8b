-- Laws of the decimal. All else goes by three of them: one digit (`dec_small`), one digit more at the end
-- (`dec_snoc`), and induction by dropping the last digit (`by_digits`). Assumes nothing.
use mathlib.Core.List.{List, [], ◌∷◌, ◌++◌}
use mathlib.Core.Path.{◌≡◌, refl, sym, ap, ◌∙◌}
use Prim.Native.Nat.{ℕ, zero, suc, ◌+◌, ◌-◌, ◌*◌, ◌/◌, ◌%◌, ◌^◌, ◌≤◌, ◌<◌}
use native.Mathlib.Omega.{arith}
use native.Mathlib.Nat.{not-suc-le-zero, pow-suc}
use lib.ListN.{length, length-append}
use borrow.Author.Tests.{lt-ltb, le-ltb}
use Rattle.ground.proofs.TestLaws.{by_lt}
use Rattle.decimals.specs.Decimals.{nought, dec_f, dec}
use Rattle.decimals.specs.Reads.{nine}

dec_f_small : (k n : ℕ) → n < 10 → dec_f k n ≡ (nought + n) ∷ []
unfolding dec_f
dec_f_small zero n h = refl
dec_f_small (suc k) n h = rw (lt-ltb n 10 h)

dec_f_snoc : (k n : ℕ) → 10 ≤ n → dec_f (suc k) n ≡ dec_f k (n / 10) ++ ((nought + n % 10) ∷ [])
unfolding dec_f
dec_f_snoc k n h = rw (le-ltb n 10 h)

dec_f_same : (k j n : ℕ) → n ≤ k → n ≤ j → dec_f k n ≡ dec_f j n
dec_f_same zero j n h l = dec_f_small zero n (omega arith) ∙ sym (dec_f_small j n (omega arith))
dec_f_same (suc k) zero n h l = dec_f_small (suc k) n (omega arith) ∙ sym (dec_f_small zero n (omega arith))
dec_f_same (suc k) (suc j) n h l =
    by_lt n 10
    (λ s. dec_f_small (suc k) n s ∙ sym (dec_f_small (suc j) n s))
    (λ b. dec_f_snoc k n b ∙ ap (λ (r : List ℕ). r ++ ((nought + n % 10) ∷ []))
    (dec_f_same k j (n / 10) (omega arith) (omega arith)) ∙ sym (dec_f_snoc j n b))

pub dec_small : (n : ℕ) → n < 10 → dec n ≡ (nought + n) ∷ []
unfolding dec
dec_small n h = dec_f_small n n h

dec_snoc' : (k n : ℕ) → n ≡ suc k → 10 ≤ n → dec n ≡ dec (n / 10) ++ ((nought + n % 10) ∷ [])
unfolding dec
dec_snoc' k n e h =
    ap (λ (j : ℕ). dec_f j n) e
    ∙ dec_f_snoc k n h
    ∙ ap (λ (r : List ℕ). r ++ ((nought + n % 10) ∷ [])) (dec_f_same k (n / 10) (n / 10) (omega arith) (omega arith))

pub dec_snoc : (n : ℕ) → 10 ≤ n → dec n ≡ dec (n / 10) ++ ((nought + n % 10) ∷ [])
dec_snoc zero h = absurd (not-suc-le-zero h)
dec_snoc (suc k) h = dec_snoc' k (suc k) refl h

-- the same from the front: v with the digit c after it
pub dec_more : (v c : ℕ) → 1 ≤ v → nought ≤ c → c ≤ nine → dec (v * 10 + (c - nought)) ≡ dec v ++ (c ∷ [])
dec_more v c h l u =
    let q : (v * 10 + (c - nought)) / 10 ≡ v = omega arith in
    let m : nought + (v * 10 + (c - nought)) % 10 ≡ c = omega arith in
    dec_snoc (v * 10 + (c - nought)) (omega arith) ∙ rw (q, m)

-- what holds of one digit, and of n where it holds of n without its last digit, holds of each n
by_digits' : (P : ℕ → Type 0) → ((n : ℕ) → n < 10 → P n) → ((n : ℕ) → 10 ≤ n → P (n / 10) → P n) → (k n : ℕ) → n ≤ k
    → P n
by_digits' P s b zero n h = s n (omega arith)
by_digits' P s b (suc k) n h = by_lt n 10 (s n) (λ l. b n l (by_digits' P s b k (n / 10) (omega arith)))

pub by_digits : (P : ℕ → Type 0) → ((n : ℕ) → n < 10 → P n) → ((n : ℕ) → 10 ≤ n → P (n / 10) → P n) → (n : ℕ) → P n
by_digits P s b n = by_digits' P s b n n (omega arith)

pub dec_length_snoc : (n : ℕ) → 10 ≤ n → length (dec n) ≡ length (dec (n / 10)) + 1
dec_length_snoc n h = ap length (dec_snoc n h) ∙ length-append (dec (n / 10)) ((nought + n % 10) ∷ [])

-- a decimal has at least one byte, and up to 4294967295 at most ten
pub dec_pos : (n : ℕ) → 1 ≤ length (dec n)
dec_pos =
    by_digits (λ (n : ℕ). 1 ≤ length (dec n)) (λ n h. omega (arith, ap length (dec_small n h)))
    (λ n h ih. omega (arith, dec_length_snoc n h))

dec_at_most : (k n : ℕ) → n < 10 ^ suc k → length (dec n) ≤ suc k
dec_at_most zero n h = omega (arith, ap length (dec_small n h))
dec_at_most (suc k) n h =
    by_lt n 10
    (λ s. omega (arith, ap length (dec_small n s)))
    (λ b. omega (arith, dec_length_snoc n b, dec_at_most k (n / 10) (omega (arith, pow-suc 10 (suc k)))))

-- a 32-bit number has at most ten digits
pub dec_ten : (n : ℕ) → n < 4294967296 → length (dec n) ≤ 10
dec_ten n h = dec_at_most 9 n (omega arith)
