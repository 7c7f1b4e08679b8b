-- Rows and places of faults, as laws and code have them.
--   Leads        row i leads into n and is in force, of however many rows
--   NodesBelow   all node numbers of the rows are below n
--   Astray       a reference is in force, and the node at one of its ends is not present: LATE and DANGLING are this
--   places       how many places a fault of a kind can have
--   Names        an answer names the first fault with a property, or that there is none
-- Assumes nothing.
use Rattle.std.specs.Prelude.{◌≡◌, ℕ, ◌<◌}
use Rattle.answers.specs.declared.Fault.{Fault}
use Rattle.answers.specs.declared.Kind.{Kind}
use Rattle.answers.specs.declared.Kind.TheVariants.{Overlap, Gap, Outside, Cycle, Late, Dangling, Double}
use Rattle.answers.specs.Answers.{Answer}
use Rattle.answers.specs.Answers.{Faulty}
use Rattle.answers.specs.Numbers.{passed}
use Rattle.tables.specs.Rows.{Side}
use Rattle.tables.specs.Tables.{During, EdgeRow}
use Rattle.tables.specs.Rows.{side_of}
use Rattle.history.specs.Faults.{History, Refers, Here, First}

abbrev pub Leads : (ℕ → EdgeRow) → ℕ → ℕ → ℕ → Type 0
Leads E t n i = ((E i).child ≡ n) × During (E i).from (E i).to t

abbrev pub NodesBelow : ℕ → (ℕ → EdgeRow) → ℕ → Type 0
NodesBelow m E n = (i : ℕ) → i < m → ((E i).parent < n) × ((E i).child < n)

abbrev pub Astray : History → ℕ → Side → ℕ → Type 0
Astray H t side k = Refers H t k × (Here H t (side_of side (H.ref k)) → ⊥)

-- the table's last column: how many nodes, or reference rows, can be the place of a fault of a kind
abbrev pub places : History → Kind → ℕ
places H Overlap = H.nodes
places H Gap = H.nodes
places H Outside = H.nodes
places H Cycle = H.nodes
places H Late = H.refs
places H Dangling = H.refs
places H Double = H.nodes

pub data Names (F : Fault → Type 0) (t : ℕ) : Answer → Type 0 where
  none : ((f : Fault) → F f → ⊥) → Names F t passed
  first : {f : Fault} → First F f → Names F t (Faulty t f)
