-- Parts of rows and changes of tables, as the code has them. With specs/Tables.antt and src/rows.rt all that knows how
-- many numbers a row has.
--   from_at, to_at                     the last two numbers of a row of either kind, its label
--   HasNodes, HasEdges, HasRefs      the table has so many whole rows, or more; HasRows: where rows have w numbers
--   Side, side_of                     the two ends of a reference: its attribute, and its target
--   set_end                           a table whose row i has another end
--   set_row                           a table whose row i has other numbers; set_edge_of: a containment table, and
--                                    edge_numbers, a containment row's numbers
-- Assumes nothing.
use Rattle.std.specs.Prelude.{List, [], ◌∷◌, ℕ, ◌+◌, ◌-◌, ◌*◌, ◌≤◌, length, set}
use Rattle.std.proofs.lemmas.List.Edits.{sets}
use Rattle.tables.specs.Tables.{EdgeRow, RefRow, node_width, edge_width, ref_width, cell_at}

-- [01:Instants and tables] a row of either kind ends with "from, to"
abbrev pub from_at : ℕ → List ℕ → ℕ → ℕ
from_at w xs i = cell_at w xs i (w - 2)

abbrev pub to_at : ℕ → List ℕ → ℕ → ℕ
to_at w xs i = cell_at w xs i (w - 1)

pub data Side : Type 0 where
  Attribute : Side
  Target : Side

abbrev pub side_of : Side → RefRow → ℕ
side_of Attribute r = r.attribute
side_of Target r = r.target

abbrev pub HasRows : ℕ → List ℕ → ℕ → Type 0
HasRows w xs m = m * w ≤ length xs

abbrev pub HasNodes : List ℕ → ℕ → Type 0
HasNodes = HasRows node_width

abbrev pub HasEdges : List ℕ → ℕ → Type 0
HasEdges = HasRows edge_width

abbrev pub HasRefs : List ℕ → ℕ → Type 0
HasRefs = HasRows ref_width

unfoldable pub set_end : List ℕ → ℕ → ℕ → List ℕ
set_end es i to = set es (i * edge_width + 3) to

unfoldable pub set_row : ℕ → List ℕ → ℕ → List ℕ → List ℕ
set_row w xs i ns = sets xs (i * w) ns

abbrev pub edge_numbers : EdgeRow → List ℕ
edge_numbers e = e.parent ∷ e.child ∷ e.from ∷ e.to ∷ []

abbrev pub set_edge_of : List ℕ → ℕ → EdgeRow → List ℕ
set_edge_of es i e = set_row edge_width es i (edge_numbers e)
