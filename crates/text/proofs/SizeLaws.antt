-- How long the text is: in parts, for the code that counts; and at most, so that a byte count and the place of a
-- refusal fit 32 bits. Assumes nothing.
use mathlib.Core.List.{List, ◌++◌}
use mathlib.Core.Path.{◌≡◌, ap, ◌∙◌}
use Prim.Native.Nat.{ℕ, ◌+◌, ◌≤◌}
use native.Mathlib.Omega.{arith}
use lib.ListN.{length, length-append}
use Rattle.tables.specs.Tables.{Table, Tables}
use Rattle.tables.specs.Rules.{Sizes}
use Rattle.lines.specs.declared.form.Form.{Form}
use Rattle.lines.specs.Lines.{lines_text}
use Rattle.lines.specs.Reads.{wrong}
use Rattle.lines.proofs.WriteLaws.{one_short, lines_short}
use Rattle.lines.proofs.PlanLaws.{joined_append, joined_take}
use Rattle.text.specs.declared.forms.Counts.{Counts}
use Rattle.text.specs.Text.{Lendable, text_lines, text_of}
use Rattle.text.specs.Forms.{edition, edition_key, start_key, nodes_key, edges_key, refs_key, node_key, edge_key, ref_key}
use Rattle.text.specs.Forms.{node_form, edge_form, ref_form, head_lines, row_lines}
use Rattle.text.specs.Answers.{counts_of}
use Rattle.text.specs.Reads.{read_text}
use Rattle.text.specs.Sizes.{head_bytes, row_bytes, most_text}
use Rattle.text.proofs.TieLaws.{text_plan_lem, sizes_of}
use Rattle.text.proofs.RoundTrip.{refused}
use Rattle.ground.specs.Lists.{joined}

-- ---- in parts

pub head_length : (c : Counts) → length (joined (head_lines c)) ≡ head_bytes c
unfolding joined
head_length c = simp length-append (omega arith)

-- the lines of a table
abbrev pub table_text : List ℕ → Form → Table → List ℕ
table_text k f x = lines_text k f x.count x.numbers

pub rows_text : (t : Tables) → joined (row_lines t)
    ≡ table_text node_key node_form t.nodes ++ (table_text edge_key edge_form t.edges ++ table_text ref_key ref_form
    t.refs)
rows_text t = simp joined_append

pub rows_length : (t : Tables) → length (joined (row_lines t)) ≡ row_bytes t
rows_length t = ap length (rows_text t) ∙ simp length-append (omega arith)

pub text_parts : (t : Tables) → Sizes t → text_of t ≡ joined (head_lines (counts_of t)) ++ joined (row_lines t)
text_parts t s = ap joined (text_plan_lem t s) ∙ joined_append (head_lines (counts_of t)) (row_lines t)

pub text_length : (t : Tables) → Sizes t → length (text_of t) ≡ head_bytes (counts_of t) + row_bytes t
text_length t s =
    omega (
      arith,
      ap length (text_parts t s) ∙ length-append (joined (head_lines (counts_of t))) (joined (row_lines t)),
      head_length (counts_of t),
      rows_length t,
    )

-- ---- at most

text_short : (t : Tables) → Lendable t → length (text_of t) ≤ most_text
text_short t o =
    let n = t.nodes.count in
    let m = t.edges.count in
    let r = t.refs.count in
    omega (
      arith,
      text_length t (sizes_of o),
      one_short edition_key edition (omega arith) (omega arith),
      one_short start_key t.start (omega arith) o.start,
      one_short nodes_key n (omega arith) (omega (arith, o.nodes.most)),
      one_short edges_key m (omega arith) (omega (arith, o.edges.most)),
      one_short refs_key r (omega arith) (omega (arith, o.refs.most)),
      lines_short node_key node_form n t.nodes.numbers (omega arith) (omega arith) o.nodes.small,
      lines_short edge_key edge_form m t.edges.numbers (omega arith) (omega arith) o.edges.small,
      lines_short ref_key ref_form r t.refs.numbers (omega arith) (omega arith) o.refs.small,
      o.nodes.most,
      o.edges.most,
      o.refs.most,
    )

pub place_short : (s : List ℕ) (p : ℕ) → read_text s ≡ wrong p → p ≤ most_text
place_short s p e =
    let (t, j, o, st) = (refused s p e).reached in
    omega (arith, st.after, joined_take j (text_lines t), text_short t o)
