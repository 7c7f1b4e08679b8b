-- How long the text of tables within the sizes is, so that counts and places of it are 32-bit numbers. The bytes are
-- counted by forms; proofs/SizeLaws.antt (`text_length`): they are those of `text_of`.
--   head_bytes, row_bytes   how many bytes the first five lines have, and the rows
--   TablesFit L           the tables hold the rows that are counted, and these are few
--   RowsFit L at out      so do they, and there is room for their text from place at on
--   most_head, most_row_bytes, most_text   at most so many bytes in the first five lines, in the rows, in the text
--   Measured n most r     r is n, and at most `most`
-- Assumes nothing.
use Rattle.std.specs.Prelude.{List, ◌≡◌, ℕ, ◌+◌, ◌*◌, ◌≤◌, length}
use Rattle.tables.specs.Rows.{HasNodes, HasEdges, HasRefs}
use Rattle.tables.specs.Tables.{Tables}
use Rattle.tables.specs.Rules.{most_nodes, most_edges, most_refs}
use Rattle.lines.specs.Lines.{one_line, lines_text}
use Rattle.lines.specs.Sizes.{most_line}
use Rattle.text.specs.declared.forms.Counts.{Counts}
use Rattle.text.specs.Forms.{edition, edition_key, start_key, nodes_key, edges_key, refs_key, node_key, edge_key, ref_key}
use Rattle.text.specs.Forms.{node_form, edge_form, ref_form}

abbrev pub head_bytes : Counts → ℕ
head_bytes c =
    length (one_line edition_key edition)
    + length (one_line start_key c.start)
    + length (one_line nodes_key c.nodes)
    + length (one_line edges_key c.edges)
    + length (one_line refs_key c.refs)

abbrev pub row_bytes : Tables → ℕ
row_bytes t =
    length (lines_text node_key node_form t.nodes.count t.nodes.numbers)
    + length (lines_text edge_key edge_form t.edges.count t.edges.numbers)
    + length (lines_text ref_key ref_form t.refs.count t.refs.numbers)

pub record TablesFit (L : Tables) : Type 0 where
  pub nodes : HasNodes L.nodes.numbers L.nodes.count
  pub edges : HasEdges L.edges.numbers L.edges.count
  pub refs : HasRefs L.refs.numbers L.refs.count
  pub nodes_few : L.nodes.count ≤ most_nodes
  pub edges_few : L.edges.count ≤ most_edges
  pub refs_few : L.refs.count ≤ most_refs

pub record RowsFit (L : Tables) (at : ℕ) (out : List ℕ) : Type 0 where
  pub tables : TablesFit L
  pub room : at + row_bytes L ≤ length out

abbrev pub most_head : ℕ
most_head = 5 * most_line

abbrev pub most_row_bytes : ℕ
most_row_bytes = (most_nodes + most_edges + most_refs) * most_line

abbrev pub most_text : ℕ
most_text = most_head + most_row_bytes

pub record Measured (n most r : ℕ) : Type 0 where
  pub count : r ≡ n
  pub small : r ≤ most
