-- The marks that the walks up leave on the nodes, a walk's being its start plus 1. Only the walk's own functions speak
-- of them.
--   RunsOut           the walk up from b leaves the nodes
--   NoBack, SomeBack  no node comes back to itself; one does
--   Done              after the walks from the nodes below start: whatever is marked has a walk up that ends
--   MarksStay         no mark is lost
--   Marked            what a whole walk from start gives
-- Assumes nothing.
use Rattle.std.specs.Prelude.{◌≡◌, List, ℕ, ◌+◌, ◌≤◌, ◌<◌, get_or}
use Rattle.ground.specs.Least.{Any, Before}
use Rattle.faults.specs.Walks.{climb, Back}

module _ (up : List ℕ) (n : ℕ) where
  abbrev pub RunsOut : ℕ → Type 0
  RunsOut b = (d : ℕ) × (n ≤ climb up n d b)

  abbrev pub NoBack : Type 0
  NoBack = Before (Back up n) n

  abbrev pub SomeBack : Type 0
  SomeBack = Any (Back up n) n

  abbrev pub Done : ℕ → List ℕ → Type 0
  Done start mark = (k : ℕ) → k < n → (get_or mark k 0 ≡ 0 → ⊥) → RunsOut k × (get_or mark k 0 ≤ start)

  abbrev pub MarksStay : List ℕ → List ℕ → Type 0
  MarksStay old mark = (k : ℕ) → k < n → (get_or old k 0 ≡ 0 → ⊥) → get_or mark k 0 ≡ 0 → ⊥

  pub record Marked (start : ℕ) (old mark : List ℕ) : Type 0 where
    pub done : Done (start + 1) mark
    pub kept : MarksStay old mark
    pub here : get_or mark start 0 ≡ 0 → ⊥
