-- What the call snapshot answers and writes, computed. proofs/SnapshotLaws.antt: this is the one outcome that the words
-- allow.
--   below        the numbers below a bound that pass a test, rising
--   is_child      a row from one node to another is in force; children_of: a node's children
--   value_at      the number of the smallest row that passes a test
--   referent_at   a node's referent
--   shown_rows    the rows of the root and of what it contains; rows_of: their numbers
--   instant_says, ready_says   the refusals but ROOM, of tables that obey their rules and of any
--   room_says     21 or the number of rows; snapshot_says: the refusals of what is not ready, then that
--   written      what the output holds after an answer
-- Assumes nothing.
use Rattle.std.specs.Prelude.{Bool, cond, ◌&&◌, List, [], ◌∷◌, ◌++◌, ℕ, zero, suc, ◌*◌, ltb, eqb, length}
use Rattle.ground.specs.Searches.{any, least}
use Rattle.ground.specs.Lists.{front}
use Rattle.answers.specs.Answers.{Answer}
use Rattle.answers.specs.Answers.{Done, Room, Early}
use Rattle.answers.specs.Numbers.{refuses}
use Rattle.answers.specs.Refusals.{when, ◌⨾◌}
use Rattle.tables.specs.Tables.{RefRow, no_node, Tables}
use Rattle.tables.specs.Says.{history_says}
use Rattle.history.specs.Faults.{History, held}
use Rattle.history.specs.Computed.{is_into, refers_from, shown_say}
use Rattle.snapshot.specs.Snapshot.{ShownRow, shown_width, shown_numbers}
use Rattle.snapshot.specs.Walk.{subtree}

unfoldable pub below : (ℕ → Bool) → ℕ → List ℕ
below p zero = []
below p (suc k) = below p k ++ cond (p k) (k ∷ []) []

-- the number v i of the smallest row i below m that passes, or no_node where none does
unfoldable pub value_at : (ℕ → Bool) → (ℕ → ℕ) → ℕ → ℕ
value_at p v m = cond (ltb (least p m) m) (v (least p m)) no_node

-- of k reference rows R
abbrev pub referent_at : ℕ → (ℕ → RefRow) → ℕ → ℕ → ℕ
referent_at k R t n = value_at (refers_from R t n) (λ i. (R i).target) k

module _ (H : History) (t : ℕ) where
  unfoldable pub is_child : ℕ → ℕ → Bool
  is_child p c = any (λ i. eqb (H.edge i).parent p && is_into H.edges H.edge t c i) H.edges

  abbrev pub children_of : ℕ → List ℕ
  children_of p = below (is_child p) H.nodes

  abbrev pub shown_rows : List ShownRow
  shown_rows = subtree (referent_at H.refs H.ref t) children_of H.nodes no_node 0

  abbrev pub rows_of : List ℕ
  rows_of = shown_numbers shown_rows

  unfoldable pub instant_says : Answer
  instant_says = when (ltb t H.start) (Early t) ⨾ shown_say H t

unfoldable pub ready_says : Tables → ℕ → Answer
ready_says L t = history_says L ⨾ instant_says (held L) t

-- for so many rows, and an output of `room` numbers
unfoldable pub room_says : ℕ → ℕ → ℕ → Answer
room_says t rows room = when (ltb room (rows * shown_width)) (Room t rows) ⨾ Done t rows

unfoldable pub snapshot_says : Tables → ℕ → ℕ → Answer
snapshot_says L t room = ready_says L t ⨾ room_says t (length (shown_rows (held L) t)) room

unfoldable pub written : Answer → List ℕ → List ℕ → List ℕ
written a rows out = cond (refuses a) out (front rows out)
