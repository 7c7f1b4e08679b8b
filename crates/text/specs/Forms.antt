-- The lines of the text by their keys and forms, as the code reads and writes them. proofs/TieLaws.antt: of tables
-- within the sizes they are the lines of specs/Text.antt.
--   edition            the number of the edition
--   edition_key, start_key, nodes_key, edges_key, refs_key   the keys of the first five lines
--   node_key, edge_key, ref_key                            the keys of the rows
--   node_form, edge_form, ref_form                         the forms of the rows
--   counted             the tables of which the first five lines say it
--   head_lines          the first five lines; row_lines: the lines of the rows; plan_lines: all of them
-- Assumes nothing.
use Rattle.std.specs.Prelude.{true, false, List, [], ◌∷◌, ◌++◌, ℕ}
use Rattle.ground.specs.Lists.{bytes}
use Rattle.tables.specs.Tables.{node_width, edge_width, ref_width, Tables, lent}
use Rattle.lines.specs.declared.form.Form.{Form}
use Rattle.lines.specs.Lines.{row_form, one_line, lines_of}
use Rattle.text.specs.declared.forms.Counts.{Counts}
use Rattle.text.specs.Answers.{counts_of}

-- [01:The text] "Lines `key=value` .. in this order: `edition=1`, `start=`, `nodes=`, `edges=`, `refs=`, then all
-- `node=` lines, `edge=` lines, `ref=` lines, as many as counted."
abbrev pub edition : ℕ
edition = 1

abbrev pub edition_key : List ℕ
edition_key = bytes "edition="

abbrev pub start_key : List ℕ
start_key = bytes "start="

abbrev pub nodes_key : List ℕ
nodes_key = bytes "nodes="

abbrev pub edges_key : List ℕ
edges_key = bytes "edges="

abbrev pub refs_key : List ℕ
refs_key = bytes "refs="

abbrev pub node_key : List ℕ
node_key = bytes "node="

abbrev pub edge_key : List ℕ
edge_key = bytes "edge="

abbrev pub ref_key : List ℕ
ref_key = bytes "ref="

-- [01:The text] "The fourth number of an edge or ref is `now` where it is 4294967295"
abbrev pub node_form : Form
node_form = row_form node_width false

abbrev pub edge_form : Form
edge_form = row_form edge_width true

abbrev pub ref_form : Form
ref_form = row_form ref_width true

abbrev pub counted : Counts → List ℕ → List ℕ → List ℕ → Tables
counted c ns es rs = lent c.start ns c.nodes es c.edges rs c.refs

abbrev pub head_lines : Counts → List (List ℕ)
head_lines c =
    one_line edition_key edition
    ∷ one_line start_key c.start
    ∷ one_line nodes_key c.nodes
    ∷ one_line edges_key c.edges
    ∷ one_line refs_key c.refs
    ∷ []

abbrev pub row_lines : Tables → List (List ℕ)
row_lines t =
    lines_of node_key node_form t.nodes.count t.nodes.numbers
    ++ (lines_of edge_key edge_form t.edges.count t.edges.numbers
    ++ lines_of ref_key ref_form t.refs.count t.refs.numbers)

abbrev pub plan_lines : Tables → List (List ℕ)
plan_lines t = head_lines (counts_of t) ++ row_lines t
