-- The tests that the leaves make of slots, spans and reference rows. proofs/LeafLaws.antt ties each to its line of the
-- table.
--   is_many     the slot of node c stands for several rows
--   is_absent_of   c is not the root, and its slot stands for no row
--   is_gap_of      c is absent, its first start is before t and its last end after t
--   Parts      x is absent, and is the parent of one of the first i nodes
--   is_part_of   a slot is a node that is absent
--   is_stray    a reference is in force, and the node at one of its ends is absent
--   Referring  the nodes at the ends of k reference rows are below n
-- Assumes nothing.
use Rattle.std.specs.Prelude.{◌≡◌, Bool, true, not, ◌&&◌, List, ℕ, ◌<◌, ltb, eqb, length, get_or}
use Rattle.ground.specs.Least.{Any}
use Rattle.tables.specs.Rows.{Side}
use Rattle.tables.specs.Labels.{during}
use Rattle.tables.specs.Tables.{no_node, RefRow}
use Rattle.tables.specs.Rows.{side_of}
use Rattle.faults.specs.declared.spans.Span.{Span}
use Rattle.faults.specs.Slots.{Many}
use Rattle.faults.specs.Spans.{span_at}

abbrev pub is_many : List ℕ → ℕ → Bool
is_many up c = eqb (get_or up c 0) Many

-- the root is never absent
abbrev pub is_absent_of : List ℕ → ℕ → Bool
is_absent_of up c = not (eqb c 0) && eqb (get_or up c 0) no_node

abbrev pub is_gap_of : List ℕ → List Span → ℕ → ℕ → Bool
is_gap_of up spans t c = is_absent_of up c && (ltb (span_at spans c).first t && ltb t (span_at spans c).last)

-- x is absent and is the slot of one of the first i nodes
abbrev pub Parts : List ℕ → ℕ → ℕ → Type 0
Parts up i x = (is_absent_of up x ≡ true) × Any (λ c. get_or up c 0 ≡ x) i

abbrev pub is_part_of : List ℕ → ℕ → Bool
is_part_of up x = ltb x (length up) && is_absent_of up x

-- reference r is in force, and the node at one of its ends is absent
abbrev pub is_stray : List ℕ → ℕ → Side → RefRow → Bool
is_stray up t side r = during r.from r.to t && is_absent_of up (side_of side r)

abbrev pub Referring : ℕ → (ℕ → RefRow) → ℕ → Type 0
Referring k R n = (side : Side) (j : ℕ) → j < k → side_of side (R j) < n
