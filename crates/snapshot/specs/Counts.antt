-- What is counted of the nodes at an instant. proofs/Contained.antt: a snapshot has a row for the root and one for each
-- other node that is present.
--   is_other    a node other than the root is present
--   occurs     how often a number stands in a list
-- Assumes nothing.
use Rattle.std.specs.Prelude.{Bool, not, ◌&&◌, List, [], ◌∷◌, ℕ, ◌+◌, eqb}
use Rattle.ground.specs.Sums.{bit}
use Rattle.history.specs.Faults.{History}
use Rattle.history.specs.Computed.{is_here}

unfoldable pub occurs : ℕ → List ℕ → ℕ
occurs x [] = 0
occurs x (y ∷ ys) = bit (eqb y x) + occurs x ys

abbrev pub is_other : History → ℕ → ℕ → Bool
is_other H t n = not (eqb n 0) && is_here H t n
