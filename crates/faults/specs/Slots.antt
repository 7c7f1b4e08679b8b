-- What one pass over the rows at an instant leaves: a number for each node, its slot.
--   Many       the number of a slot that stands for several rows
--   slots_with   the slots after one row more
--   Slot       what a slot says of the first i rows with a property: there is none, one (and its value), or several
--   Slots      every slot of a list says it of the rows that lead into its node, with their parents
--   BlankSlots slots that no row has changed, for the nodes of m rows
--   Fresh      slots for n nodes, and all of them no_node
-- Assumes nothing.
use Rattle.std.specs.Prelude.{◌≡◌, cond, List, ℕ, ◌≤◌, ◌<◌, eqb, length, get_or, set}
use Rattle.ground.specs.Least.{Before}
use Rattle.tables.specs.Labels.{during}
use Rattle.tables.specs.Tables.{EdgeRow, no_node}
use Rattle.tables.specs.Rules.{most_nodes}
use Rattle.history.specs.Places.{Leads, NodesBelow}

-- in a slot, no_node says that there is none, and this that there are several
abbrev pub Many : ℕ
Many = 4294967294

-- a row that is in force puts its parent into its child's slot, or Many where the slot is taken
abbrev pub slots_with : EdgeRow → ℕ → List ℕ → List ℕ
slots_with e t up =
    cond (during e.from e.to t) (set up e.child (cond (eqb (get_or up e.child 0) no_node) e.parent Many)) up

pub data Slot (L : ℕ → Type 0) (value : ℕ → ℕ) (i v : ℕ) : Type 0 where
  empty : v ≡ no_node → Before L i → Slot L value i v
  single : (j : ℕ) → j < i → L j → v ≡ value j → ((k : ℕ) → k < i → L k → k ≡ j) → Slot L value i v
  several : v ≡ Many → (j k : ℕ) → j < k → k < i → L j → L k → Slot L value i v

-- the pass counts its rows in the bound i, which grows by one a turn while what is said of row j stays the same
abbrev pub Slots : (ℕ → EdgeRow) → ℕ → ℕ → List ℕ → Type 0
Slots E t i up = (c : ℕ) → c < length up → Slot (Leads E t c) (λ j. (E j).parent) i (get_or up c 0)

pub record BlankSlots (m : ℕ) (E : ℕ → EdgeRow) (t : ℕ) (up : List ℕ) : Type 0 where
  pub nodes : NodesBelow m E (length up)
  pub few : length up ≤ most_nodes
  pub slots : Slots E t 0 up

pub record Fresh (n : ℕ) (up : List ℕ) : Type 0 where
  pub long : n ≤ length up
  pub few : length up ≤ most_nodes
  pub blank : (c : ℕ) → c < length up → get_or up c 0 ≡ no_node
