-- The number that stands in bytes, computed. proofs/ReadLaws.antt ties it to the decimals of specs/Decimals.antt.
--   nine             the byte of the digit 9
--   grows hi v c     the byte c is a digit, and v with that digit after it is at most hi
--   more hi v i xs   v with the digits at the beginning of xs after it, while that is at most hi
--   number v n       the number v was read, and n is the place after it
--   no_number p      none was: what stands there begins one up to place p
--   num hi i xs      the longest beginning of xs that is the decimal of a number at most hi: the number, and the
--                    place after it, where xs begins at place i; where there is none, xs does not begin one either:
--                    no_number i (proofs/ReadLaws.antt)
--   num_at hi s i     the same of what is left of s at place i
-- A digit too many is not read, and so neither is one after a leading zero: what must stand after a number does not
-- stand there. Assumes nothing.
use Rattle.std.specs.Prelude.{Bool, false, cond, List, [], ◌∷◌, ℕ, ◌+◌, ◌-◌, ◌*◌, leb, ltb, eqb, drop, Result, Ok, Err}
use Rattle.decimals.specs.declared.Number.{Number}
use Rattle.decimals.specs.declared.Wrong.{Wrong}
use Rattle.decimals.specs.Decimals.{nought}

abbrev pub number : ℕ → ℕ → Result Number Wrong
number v n = Ok (record { value = v; after = n })

abbrev pub no_number : ℕ → Result Number Wrong
no_number p = Err (record { at = p })

abbrev pub nine : ℕ
nine = 57

unfoldable pub grows : ℕ → ℕ → ℕ → Bool
grows hi v c = cond (ltb c nought) false (cond (ltb nine c) false (leb (v * 10 + (c - nought)) hi))

-- v has been read up to place i: the digits that follow are read while the number stays at most hi
unfoldable pub more : ℕ → ℕ → ℕ → List ℕ → Result Number Wrong
more hi v i [] = number v i
more hi v i (c ∷ xs) = let rest = more hi (v * 10 + (c - nought)) (i + 1) xs in cond (grows hi v c) rest (number v i)

unfoldable pub num : ℕ → ℕ → List ℕ → Result Number Wrong
num hi i [] = no_number i
num hi i (c ∷ xs) =
    cond (eqb c nought) (number 0 (i + 1)) (cond (grows hi 0 c) (more hi (c - nought) (i + 1) xs) (no_number i))

unfoldable pub num_at : ℕ → List ℕ → ℕ → Result Number Wrong
num_at hi s i = num hi i (drop i s)
