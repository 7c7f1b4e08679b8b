-- Write text: its parts, and what it leaves, case by case. Assumes nothing.
use mathlib.Core.Bool.{true, false, false≢true}
use mathlib.Core.List.{List, append-nil}
use mathlib.Core.Path.{◌≡◌, sym, ap, subst, ◌∙◌}
use Prim.Native.Nat.{ℕ, ◌+◌, ◌≤◌, ◌<◌}
use native.Mathlib.Omega.{arith}
use lib.ListN.{length}
use lib.Seq.{length-sets}
use Rattle.ground.specs.Stores.{Put}
use Rattle.ground.specs.Lists.{joined}
use Rattle.ground.proofs.ListLaws.{sets_front, put_append}
use Rattle.ground.proofs.TestLaws.{by_test}
use Rattle.answers.specs.Answers.{Answer}
use Rattle.answers.specs.Answers.{Done, Size, TextRoom}
use Rattle.answers.specs.Numbers.{refuses}
use Rattle.tables.specs.Tables.{Table, Tables}
use Rattle.tables.specs.Rules.{Sizes, Gives}
use Rattle.tables.specs.Tests.{nodes_fit, edges_fit, refs_fit}
use Rattle.tables.specs.Says.{sizes_say}
use Rattle.tables.proofs.GivesLaws.{gives_says, sizes_pass, sizes_refuse}
use Rattle.lines.specs.Lines.{one_line}
use Rattle.text.specs.declared.forms.Counts.{Counts}
use Rattle.text.specs.Forms.{edition, edition_key, start_key, nodes_key, edges_key, refs_key, node_key, edge_key, ref_key}
use Rattle.text.specs.Forms.{node_form, edge_form, ref_form, head_lines, row_lines}
use Rattle.text.specs.Answers.{counts_of}
use Rattle.text.specs.Text.{text_of}
use Rattle.text.specs.Sizes.{Measured, TablesFit, RowsFit, head_bytes, row_bytes, most_head, most_row_bytes}
use Rattle.text.specs.Answers.{Written, out_of_size, short, wrote}
use Rattle.text.proofs.SizeLaws.{table_text, head_length, rows_text, text_parts, text_length}

-- ---- the parts

module _ (c : Counts) {o o₁ o₂ o₃ o₄ o₅ : List ℕ} {i i₁ i₂ i₃ i₄ i₅ : ℕ} where
  pub head_put : Put o i (one_line edition_key edition) o₁ i₁ → Put o₁ i₁ (one_line start_key c.start) o₂ i₂
      → Put o₂ i₂ (one_line nodes_key c.nodes) o₃ i₃ → Put o₃ i₃ (one_line edges_key c.edges) o₄ i₄
      → Put o₄ i₄ (one_line refs_key c.refs) o₅ i₅ → Put o i (joined (head_lines c)) o₅ i₅
  unfolding joined
  head_put a b n m k =
      simp append-nil (put_append a (put_append b (put_append n (put_append m k))))

-- the start stands in no row
abbrev tables : Table → Table → Table → Tables
tables x y z = record { start = 0; nodes = x; edges = y; refs = z }

module _ (x y z : Table) {o o₁ o₂ o₃ : List ℕ} {i i₁ i₂ i₃ : ℕ} where
  pub rows_put : Put o i (table_text node_key node_form x) o₁ i₁ → Put o₁ i₁ (table_text edge_key edge_form y) o₂ i₂
      → Put o₂ i₂ (table_text ref_key ref_form z) o₃ i₃ → Put o i (joined (row_lines (tables x y z))) o₃ i₃
  rows_put n m k = rw (rows_text (tables x y z)) (put_append n (put_append m k))

text_put : (t : Tables) → Sizes t → {o o₁ o₂ : List ℕ} {i i₁ i₂ : ℕ} → Put o i (joined (head_lines (counts_of t))) o₁ i₁
    → Put o₁ i₁ (joined (row_lines t)) o₂ i₂ → Put o i (text_of t) o₂ i₂
text_put t s a b = rw (text_parts t s) (put_append a b)

text_long : (t : Tables) → Sizes t → {h b : ℕ} → Measured (head_bytes (counts_of t)) most_head h
    → Measured (row_bytes t) most_row_bytes b → h + b ≡ length (text_of t)
text_long t s head rows = omega (arith, text_length t s, head.count, rows.count)

-- after the first lines, the rows have room
pub rows_ready : {t : Tables} {h b : ℕ} {out out₁ : List ℕ} {i : ℕ} → TablesFit t
    → Measured (head_bytes (counts_of t)) most_head h → Measured (row_bytes t) most_row_bytes b → h + b ≤ length out
    → Put out 0 (joined (head_lines (counts_of t))) out₁ i → RowsFit t i out₁
rows_ready {t} {out = out} fit head rows l p =
    record {
      tables = fit;
      room = omega (
        arith,
        head.count,
        rows.count,
        head_length (counts_of t),
        p.after,
        ap length p.held ∙ length-sets out 0 (joined (head_lines (counts_of t))),
      );
    }

-- ---- the sizes

abbrev pub sizes : Tables → Answer
sizes t = sizes_say t.nodes t.edges t.refs

size_named : (t : Tables) → refuses (sizes t) ≡ true → (p : ℕ) × (sizes t ≡ Size p)
unfolding sizes_say
size_named t e =
    by_test (nodes_fit t.nodes)
    (λ a. by_test (edges_fit t.edges)
    (λ b. by_test (refs_fit t.refs) (λ d. absurd (false≢true (simp (a, b, d) at e))) (λ d. (2, simp (a, b, d))))
    (λ b. (1, simp (a, b))))
    (λ a. (0, simp a))

module _ {t : Tables} {a : Answer} (says : a ≡ sizes t) where
  pub sizes_fit : refuses a ≡ false → TablesFit t
  sizes_fit e =
      let s = sizes_pass t (ap refuses (sym says) ∙ e) in
      record {
        nodes = omega (arith, s.nodes.whole);
        edges = omega (arith, s.edges.whole);
        refs = omega (arith, s.refs.whole);
        nodes_few = s.nodes.most;
        edges_few = s.edges.most;
        refs_few = s.refs.most;
      }

  -- ---- the cases

  pub written_size : {out : List ℕ} → refuses a ≡ true → Written t out a out
  written_size e =
      let r = ap refuses (sym says) ∙ e in
      let (p, q) = size_named t r in
      rw (says ∙ q) (out_of_size (subst (Gives t) (sym (sizes_refuse t r) ∙ q) (gives_says t)))

  module _ (e : refuses a ≡ false) {h b : ℕ} (head : Measured (head_bytes (counts_of t)) most_head h)
      (rows : Measured (row_bytes t) most_row_bytes b) where
    right : Sizes t
    right = sizes_pass t (ap refuses (sym says) ∙ e)

    pub written_short : {out : List ℕ} → length out < h + b → Written t out (TextRoom (h + b)) out
    written_short l = let long = text_long t right head rows in rw long (short right (omega arith))

    pub written_all : {out out₁ out₂ : List ℕ} {i n : ℕ} → h + b ≤ length out
        → Put out 0 (joined (head_lines (counts_of t))) out₁ i → Put out₁ i (joined (row_lines t)) out₂ n
        → Written t out (Done 0 (h + b)) out₂
    written_all {out} l p q =
        let long = text_long t right head rows in
        let room : length (text_of t) ≤ length out = omega arith in
        rw (long, (text_put t right p q).held ∙ sets_front out (text_of t) room) (wrote right room)
