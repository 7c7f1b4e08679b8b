-- What stands in a list of numbers. Assumes nothing.
use Rattle.std.specs.Prelude.{◌≡◌, List, [], ◌∷◌, ◌++◌, ℕ, ◌+◌, length, drop}
use Prim.Native.Char.{code}
use Prim.Native.String.{String, [] as none, ◌∷◌ as ◌then◌}

-- the bytes of a quoted text
abbrev pub bytes : String → List ℕ
bytes none = []
bytes (c then s) = code c ∷ bytes s

-- one after the other
unfoldable pub joined : List (List ℕ) → List ℕ
joined [] = []
joined (x ∷ xs) = x ++ joined xs

-- old with the elements xs at its front, the rest as it was
abbrev pub front : List ℕ → List ℕ → List ℕ
front xs old = xs ++ drop (length xs) old

-- the elements x stand in s from place i up to place n
pub record Stands (s : List ℕ) (i : ℕ) (x : List ℕ) (n : ℕ) : Type 0 where
  pub here : drop i s ≡ x ++ drop n s
  pub after : n ≡ i + length x
