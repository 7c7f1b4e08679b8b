-- The decimal of a number, as bytes. Assumes nothing.
use Rattle.std.specs.Prelude.{cond, List, [], ◌∷◌, ◌++◌, ℕ, zero, suc, ◌+◌, ◌/◌, ◌%◌, ltb}

-- the byte of the digit 0
abbrev pub nought : ℕ
nought = 48

-- the decimal of n, in at most k + 1 digits: n + 1 are enough. (What a `let` binds waits: no digit too many is made.)
unfoldable pub dec_f : ℕ → ℕ → List ℕ
dec_f zero n = (nought + n) ∷ []
dec_f (suc k) n =
    let front = dec_f k (n / 10) in cond (ltb n 10) ((nought + n) ∷ []) (front ++ ((nought + n % 10) ∷ []))

-- [01:The text] "Numbers are decimal, at most 4294967295, no sign, no leading zero except 0 itself."
unfoldable pub dec : ℕ → List ℕ
dec n = dec_f n n
