-- A run of elements that is put into a list.
--   Put old i x new n   `new` is `old` with the elements x from place i up to place n, and with no other change
-- Assumes nothing.
use Rattle.std.specs.Prelude.{◌≡◌, List, ℕ, ◌+◌, length}
use Rattle.std.proofs.lemmas.List.Edits.{sets}

pub record Put (old : List ℕ) (i : ℕ) (x new : List ℕ) (n : ℕ) : Type 0 where
  pub held : new ≡ sets old i x
  pub after : n ≡ i + length x
