-- What a text holds, computed: the inner functions of read text are stated by it. The promise of the call
-- (Answers.antt) is not; proofs/RoundTrip.antt ties the two.
--   edition_form, start_form, nodes_form, edges_form, refs_form   the forms of the first five lines
--   only                 the number of a line of one
--   head_plan, rows_plan   the first five lines and the rows that they announce, as plans of lines; text_plan: both
--   whole s r            what was read, if it is all of s; end_at: the same of a reader that keeps no numbers
--   read_text s           the tables that the text s holds, or the place of the first line that is not what must stand
--                        there
--   head_of               what the reader of the first five lines answers
--   Headed, Scanned      the text's first lines were read and its rows found right, or it is refused
--   short_says            ROOM, for tables with room for n, e and f numbers where a, b and c are needed
--   Announced            the rows that were counted stand there, and have room in n, e and f
--   Held                 the tables n, e, f after those of t were stored at their fronts
-- Assumes nothing.
use Rattle.std.specs.Prelude.{true, cond, List, ◌≡◌, ℕ, eqb, ltb, length, get_or, Result, Ok, Err, MatchResult}
use Rattle.std.proofs.lemmas.List.Edits.{sets}
use Rattle.answers.specs.Answers.{Answer, Room}
use Rattle.answers.specs.Refusals.{when, ◌⨾◌}
use Rattle.tables.specs.Tables.{Now, Tables}
use Rattle.tables.specs.Rows.{HasNodes, HasEdges, HasRefs}
use Rattle.tables.specs.Rules.{least_nodes, most_nodes, most_edges, most_refs}
use Rattle.decimals.specs.declared.Wrong.{Wrong}
use Rattle.lines.specs.declared.form.Form.{Form}
use Rattle.lines.specs.Lines.{one_form_of}
use Rattle.lines.specs.Reads.{Got, got, wrong, and_then, is_got}
use Rattle.lines.specs.Plans.{Plan, stop, lines, plan_then, plan_at}
use Rattle.text.specs.declared.forms.Counts.{Counts}
use Rattle.text.specs.Forms.{counted, edition, edition_key, start_key, nodes_key, edges_key, refs_key, node_key}
use Rattle.text.specs.Forms.{edge_key, ref_key, node_form, edge_form, ref_form}

-- [01:The text] "Counts outside the sizes above make their line wrong."
abbrev pub edition_form : Form
edition_form = one_form_of edition edition

abbrev pub start_form : Form
start_form = one_form_of 0 Now

abbrev pub nodes_form : Form
nodes_form = one_form_of least_nodes most_nodes

abbrev pub edges_form : Form
edges_form = one_form_of 0 most_edges

abbrev pub refs_form : Form
refs_form = one_form_of 0 most_refs

-- the number of a line of one
abbrev pub only : List ℕ → ℕ
only vs = get_or vs 0 0

unfoldable pub head_plan : Plan Counts
head_plan =
    lines edition_key edition_form 1
    λ e. lines start_key start_form 1
    λ a. lines nodes_key nodes_form 1
    λ n. lines edges_key edges_form 1
    λ m. lines refs_key refs_form 1
    λ r. stop (record { start = only a; nodes = only n; edges = only m; refs = only r })

unfoldable pub rows_plan : Counts → Plan Tables
rows_plan c =
    lines node_key node_form c.nodes
    λ ns. lines edge_key edge_form c.edges
    λ es. lines ref_key ref_form c.refs
    λ rs. stop (counted c ns es rs)

abbrev pub text_plan : Plan Tables
text_plan = plan_then head_plan rows_plan

-- [01:The text] "extra text, counts"
abbrev pub whole : {A : Type 0} → List ℕ → Got A → Got A
whole s r = and_then r (λ a n. cond (eqb n (length s)) (got a n) (wrong n))

abbrev pub end_at : List ℕ → ℕ → Result ℕ Wrong
end_at s n = cond (eqb n (length s)) (Ok n) (Err (record { at = n }))

unfoldable pub read_text : List ℕ → Got Tables
read_text s = whole s (plan_at text_plan s 0)

unfoldable pub head_of : Got Counts → Result (Counts × ℕ) Wrong
head_of (got c n) = Ok (c, n)
head_of (wrong p) = Err (record { at = p })

-- the first lines say c and end at place at; the rows that they announce stand there, and nothing after them
pub record Headed (s : List ℕ) (c : Counts) (at : ℕ) : Type 0 where
  pub head : plan_at head_plan s 0 ≡ got c at
  pub rows : is_got (whole s (plan_at (rows_plan c) s at)) ≡ true

abbrev pub Scanned : List ℕ → Result (Counts × ℕ) Wrong → Type 0
Scanned s r = MatchResult r (λ h. Headed s h.0 h.1) (λ e. read_text s ≡ wrong e.at)

-- [01:What the calls answer] "21 (place 0, 1, 2: first table too short)"
unfoldable pub short_says : ℕ → ℕ → ℕ → ℕ → ℕ → ℕ → Answer
short_says a b c n e f = when (ltb n a) (Room 0 0) ⨾ when (ltb e b) (Room 0 1) ⨾ when (ltb f c) (Room 0 2)

pub record Announced (s : List ℕ) (at : ℕ) (c : Counts) (n e f : List ℕ) : Type 0 where
  pub good : is_got (plan_at (rows_plan c) s at) ≡ true
  pub nodes : HasNodes n c.nodes
  pub edges : HasEdges e c.edges
  pub refs : HasRefs f c.refs

pub record Held (t : Tables) (n e f n' e' f' : List ℕ) : Type 0 where
  pub nodes : n' ≡ sets n 0 t.nodes.numbers
  pub edges : e' ≡ sets e 0 t.edges.numbers
  pub refs : f' ≡ sets f 0 t.refs.numbers
