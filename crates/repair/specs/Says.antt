-- What repair answers, and what it leaves in the containment table, computed. proofs/RepairedLaws.antt ties them to the
-- words of specs/Repaired.antt.
--   tie_at                      the tie that row i names
--   settle_says, settle_leaves   of m rows that obey the rules: the tie, or the repair
--   repair_says, repair_leaves   of any tables
--   Settled, Outcome           an answer and a table afterwards that are these
-- Assumes nothing.
use Rattle.std.specs.Prelude.{◌≡◌, cond, List, ℕ}
use Rattle.answers.specs.Answers.{Answer}
use Rattle.answers.specs.Answers.{Done, Tie}
use Rattle.answers.specs.Numbers.{refuses}
use Rattle.answers.specs.Refusals.{◌⨾◌}
use Rattle.tables.specs.Tables.{edge_at, Tables}
use Rattle.tables.specs.Says.{smallest, history_says}
use Rattle.repair.specs.Repaired.{changed}
use Rattle.repair.specs.Ends.{tied, repaired}

abbrev pub tie_at : List ℕ → ℕ → Answer
tie_at es i = Tie (edge_at es i).from i

-- [01:What the calls answer] "22 with place the smallest row that shares its child and its start with a smaller row,
-- and instant that start"; "Place is the count of rows whose end differs from before."
unfoldable pub settle_says : List ℕ → ℕ → Answer
settle_says es m =
    smallest (tie_at es) (tied (edge_at es)) m
    ⨾ Done 0 (changed (edge_at es) (edge_at (repaired es m)) m)

-- [01:What the calls answer] Repair "takes start, nodes and the containment table: 1 to 4 in order, then 22"
unfoldable pub repair_says : Tables → Answer
repair_says L = history_says L ⨾ settle_says L.edges.numbers L.edges.count

-- [01:What the calls answer] "No refusal writes to a lent table or buffer."
unfoldable pub settle_leaves : List ℕ → ℕ → List ℕ
settle_leaves es m = cond (refuses (settle_says es m)) es (repaired es m)

unfoldable pub repair_leaves : Tables → List ℕ
repair_leaves L =
    cond (refuses (repair_says L)) L.edges.numbers (repaired L.edges.numbers L.edges.count)

pub record Settled (es : List ℕ) (m : ℕ) (r : Answer) (left : List ℕ) : Type 0 where
  pub answer : r ≡ settle_says es m
  pub table : left ≡ settle_leaves es m

pub record Outcome (L : Tables) (r : Answer) (left : List ℕ) : Type 0 where
  pub answer : r ≡ repair_says L
  pub table : left ≡ repair_leaves L
