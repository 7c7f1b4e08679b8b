-- What a table is seen as: its numbers, and how many rows they are said to be. Assumes nothing.
use Rattle.std.specs.Prelude.{List, ℕ}

pub record Numbered : Type 0 where
  pub numbers : List ℕ
  pub count : ℕ
