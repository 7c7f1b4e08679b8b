-- What the judge of an instant knows, and what it answers.
--   Placed   a place that was found can be that of a fault
--   Seen     the slots are those of a history at t
--   Exact    and they are as many as its nodes
--   Clear    and no node has two rows into it
--   Shows    r is the answer with GAP set aside, and the slots are those at t
-- Assumes nothing.
use Rattle.std.specs.Prelude.{◌≡◌, List, ℕ, ◌≤◌, ◌<◌, length, Option, Some, None}
use Rattle.answers.specs.Answers.{Answer}
use Rattle.tables.specs.Tables.{no_node}
use Rattle.history.specs.Faults.{History, Overlap}
use Rattle.history.specs.Ruled.{Ruled}
use Rattle.history.specs.Computed.{shown_say}
use Rattle.faults.specs.Slots.{Slots}

abbrev pub Placed : Option ℕ → Type 0
Placed (Some p) = p < no_node
Placed None = Unit {0}

pub record Seen (H : History) (t : ℕ) (up : List ℕ) : Type 0 where
  pub ruled : Ruled H
  pub long : H.nodes ≤ length up
  pub slots : Slots H.edge t H.edges up

pub record Exact (H : History) (t : ℕ) (up : List ℕ) : Type 0 where
  pub seen : Seen H t up
  pub same : length up ≡ H.nodes

pub record Clear (H : History) (t : ℕ) (up : List ℕ) : Type 0 where
  pub exact : Exact H t up
  pub sole : (c : ℕ) → Overlap H.edges H.edge t c → ⊥

pub record Shows (H : History) (t : ℕ) (up : List ℕ) (r : Answer) : Type 0 where
  pub answer : r ≡ shown_say H t
  pub slots : Slots H.edge t H.edges up
