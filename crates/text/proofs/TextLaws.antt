-- The lines that the plan of the text lays out are the lines of the text of tables within the sizes (`text_laid`,
-- `laid_text`). Assumes nothing.
use mathlib.Core.Bool.{Bool, true, false}
use mathlib.Core.List.{List, [], ◌∷◌, ◌++◌, append-nil}
use mathlib.Core.Path.{◌≡◌, refl, sym, ap, subst, subst⁻¹, ◌∙◌}
use Prim.Native.Nat.{ℕ, zero, suc, ◌+◌, ◌*◌, ◌≤◌}
use native.Mathlib.Nat.{zero-mul, suc-mul}
use native.Mathlib.Omega.{arith}
use lib.ListN.{length, drop, length-drop}
use lib.Seq.{get_or-drop}
use Rattle.tables.specs.Tables.{Now, node_width, edge_width, ref_width, Table, Tables}
use Rattle.tables.specs.Rules.{least_nodes, most_nodes, most_edges, most_refs, Whole}
use Rattle.lines.specs.Lines.{width_of, one_form_of, row_form, is_end_of, numbers_text, one_line, lines_of, NumberOk, NumbersOk}
use Rattle.lines.specs.Lines.{LinesOk}
use Rattle.lines.specs.Plans.{plan_then, LaysOut}
use Rattle.text.specs.declared.forms.Counts.{Counts}
use Rattle.text.specs.Text.{Small, LendableTable, Lendable, text_lines}
use Rattle.text.specs.Forms.{edition, edition_key, start_key, nodes_key, edges_key, refs_key, node_key, edge_key, ref_key}
use Rattle.text.specs.Forms.{node_form, edge_form, ref_form, row_lines, plan_lines}
use Rattle.text.specs.Answers.{counts_of}
use Rattle.text.specs.Reads.{only, head_plan, rows_plan, text_plan}
use Rattle.text.proofs.TieLaws.{text_plan_lem, sizes_of}

-- ---- a line of one number

record OneIs (k : List ℕ) (least most : ℕ) (vs : List ℕ) : Type 0 where
  line : lines_of k (one_form_of least most) 1 vs ≡ one_line k (only vs) ∷ []
  low : least ≤ only vs
  high : only vs ≤ most

one_is : (k : List ℕ) (least most : ℕ) (vs : List ℕ) → LinesOk (one_form_of least most) 1 vs → length vs ≡ 1
    → OneIs k least most vs
unfolding lines_of numbers_text
one_is k least most [] ok e = absurd (omega arith)
one_is k least most (v ∷ []) ok e = record { line = refl; low = ok.0.shown.0.0; high = ok.0.shown.0.1 }
one_is k least most (v ∷ u ∷ vs) ok e = absurd (omega arith)

-- ---- rows of 32-bit numbers

module _ (w : ℕ) (e : Bool) where
  number_ok : (b : Bool) (v : ℕ) → v ≤ Now → NumberOk (row_form w e) b v
  number_ok false v h = (omega arith, h)
  number_ok true v h = h

  number_small : (b : Bool) (v : ℕ) → NumberOk (row_form w e) b v → v ≤ Now
  number_small false v ok = ok.1
  number_small true v ok = ok

  numbers_ok : (j : ℕ) (vs : List ℕ) → j ≤ length vs → Small vs → NumbersOk (row_form w e) j vs
  numbers_ok zero vs l h = tt
  numbers_ok (suc j) [] l h = absurd (omega arith)
  numbers_ok (suc j) (v ∷ vs) l h =
      (number_ok (is_end_of (row_form w e) j) v (h 0), numbers_ok j vs (omega arith) (λ i. h (suc i)))

  numbers_small : (j : ℕ) (vs : List ℕ) → NumbersOk (row_form w e) j vs → Small (drop j vs) → Small vs
  numbers_small zero vs ok h i = h i
  numbers_small (suc j) [] ok h i = absurd ok
  numbers_small (suc j) (v ∷ vs) ok h zero = number_small (is_end_of (row_form w e) j) v ok.0
  numbers_small (suc j) (v ∷ vs) ok h (suc i) = numbers_small j vs ok.1 h i

  -- lines have all of a row's numbers
  all : width_of (row_form w e) ≡ w
  all = omega arith

  rows_ok : (m : ℕ) (vs : List ℕ) → m * w ≤ length vs → Small vs → LinesOk (row_form w e) m vs
  rows_ok zero vs l h = tt
  rows_ok (suc m) vs l h = (
    record { shown = numbers_ok w vs (omega (arith, suc-mul m w)) h; hidden = refl },
    rw all (rows_ok m (drop w vs) (omega (arith, suc-mul m w, length-drop w vs))
        (λ i. rw (get_or-drop w vs i 0) (h (w + i)))),
  )

  rows_small : (m : ℕ) (vs : List ℕ) → LinesOk (row_form w e) m vs → length vs ≡ m * w → Small vs
  rows_small zero [] ok l i = omega arith
  rows_small zero (v ∷ vs) ok l i = absurd (omega (arith, zero-mul w))
  rows_small (suc m) vs ok l i =
      numbers_small w vs ok.0.shown
      (rows_small m (drop w vs) (rw all at ok.1) (omega (arith, suc-mul m w, length-drop w vs))) i

table_ok : {w lo hi : ℕ} {x : Table} (e : Bool) → LendableTable w lo hi x
    → LinesOk (row_form w e) x.count x.numbers
table_ok {w} {x = x} e o = rows_ok w e x.count x.numbers (omega (arith, o.whole)) o.small

-- ---- the lines of the text

rows_laid : (t : Tables) → Lendable t → LaysOut (rows_plan (counts_of t)) t (row_lines t)
unfolding rows_plan
rows_laid t o =
    let ok₀ = table_ok false o.nodes in
    let ok₁ = table_ok true o.edges in
    let ok₂ = table_ok true o.refs in (
      t.nodes.numbers,
      _,
      ok₀,
      o.nodes.whole,
      (
        t.edges.numbers,
        _,
        ok₁,
        o.edges.whole,
        (t.refs.numbers, [], ok₂, o.refs.whole, (refl, refl), sym (append-nil _)),
        refl,
      ),
      refl,
    )

one_ok : {least most : ℕ} (v : ℕ) → least ≤ v → v ≤ most → LinesOk (one_form_of least most) 1 (v ∷ [])
one_ok v l h = (record { shown = ((l, h), tt); hidden = refl }, tt)

plan_laid : (t : Tables) → Lendable t → LaysOut text_plan t (plan_lines t)
unfolding plan_then head_plan lines_of numbers_text
plan_laid t o =
    let n = t.nodes.count in
    let m = t.edges.count in
    let r = t.refs.count in (
      edition ∷ [],
      _,
      one_ok edition (omega arith) (omega arith),
      refl,
      (
        t.start ∷ [],
        _,
        one_ok t.start (omega arith) o.start,
        refl,
        (
          n ∷ [],
          _,
          one_ok n o.nodes.least o.nodes.most,
          refl,
          (
            m ∷ [],
            _,
            one_ok m o.edges.least o.edges.most,
            refl,
            (r ∷ [], _, one_ok r o.refs.least o.refs.most, refl, rows_laid t o, refl),
            refl,
          ),
          refl,
        ),
        refl,
      ),
      refl,
    )

-- a first line of one number, and the rest
one_cons : {k : List ℕ} {least most : ℕ} {vs : List ℕ} {ls rest : List (List ℕ)} → OneIs k least most vs
    → ls ≡ lines_of k (one_form_of least most) 1 vs ++ rest
    → ls ≡ one_line k (only vs) ∷ rest
one_cons {rest = rest} o e = e ∙ ap (λ (r : List (List ℕ)). r ++ rest) o.line

-- the lines of rows that the counts c announce
record RowsAre (c : Counts) (t : Tables) (ls : List (List ℕ)) : Type 0 where
  start : t.start ≡ c.start
  nodes : t.nodes.count ≡ c.nodes
  edges : t.edges.count ≡ c.edges
  refs : t.refs.count ≡ c.refs
  nodes_small : Small t.nodes.numbers
  edges_small : Small t.edges.numbers
  refs_small : Small t.refs.numbers
  nodes_whole : Whole node_width t.nodes
  edges_whole : Whole edge_width t.edges
  refs_whole : Whole ref_width t.refs
  lines : ls ≡ row_lines t

rows_are : (c : Counts) (t : Tables) (ls : List (List ℕ)) → LaysOut (rows_plan c) t ls → RowsAre c t ls
unfolding rows_plan
rows_are c t ls (ns, l₁, ok₀, w₀, (es, l₂, ok₁, w₁, (rs, l₃, ok₂, w₂, (told, none), q₂), q₁), q₀) =
    let a₂ = q₂ ∙ ap (λ (r : List (List ℕ)). lines_of ref_key ref_form c.refs rs ++ r) none ∙ append-nil _ in
    let a₁ = q₁ ∙ ap (λ (r : List (List ℕ)). lines_of edge_key edge_form c.edges es ++ r) a₂ in
    subst (λ (u : Tables). RowsAre c u ls) told (record {
      start = refl;
      nodes = refl;
      edges = refl;
      refs = refl;
      nodes_small = rows_small node_width false c.nodes ns ok₀ w₀;
      edges_small = rows_small edge_width true c.edges es ok₁ w₁;
      refs_small = rows_small ref_width true c.refs rs ok₂ w₂;
      nodes_whole = w₀;
      edges_whole = w₁;
      refs_whole = w₂;
      lines = q₀ ∙ ap (λ (r : List (List ℕ)). lines_of node_key node_form c.nodes ns ++ r) a₁;
    })

laid_plan : (t : Tables) (ls : List (List ℕ)) → LaysOut text_plan t ls → (ls ≡ plan_lines t) × Lendable t
unfolding plan_then head_plan
laid_plan t ls (
  e,
  l₁,
  ok₀,
  w₀,
  (a, l₂, ok₁, w₁, (n, l₃, ok₂, w₂, (m, l₄, ok₃, w₃, (r, l₅, ok₄, w₄, rows, q₄), q₃), q₂), q₁),
  q₀,
) =
    let o₀ = one_is edition_key edition edition e ok₀ w₀ in
    let o₁ = one_is start_key 0 Now a ok₁ w₁ in
    let o₂ = one_is nodes_key least_nodes most_nodes n ok₂ w₂ in
    let o₃ = one_is edges_key 0 most_edges m ok₃ w₃ in
    let o₄ = one_is refs_key 0 most_refs r ok₄ w₄ in
    let c : Counts = record { start = only a; nodes = only n; edges = only m; refs = only r } in
    let are = rows_are c t l₅ rows in
    let e₀ : only e ≡ edition = omega (arith, o₀.low, o₀.high) in
    let h₀ = one_cons o₀ q₀ in
    let h₁ = one_cons o₁ q₁ in
    let h₂ = one_cons o₂ q₂ in
    let h₃ = one_cons o₃ q₃ in
    let h₄ = one_cons o₄ q₄ in (
      cc (are.start, are.nodes, are.edges, are.refs, are.lines),
      record {
        start = omega (arith, are.start, o₁.high);
        nodes =
            record {
              small = are.nodes_small;
              whole = are.nodes_whole;
              least = omega (arith, are.nodes, o₂.low);
              most = omega (arith, are.nodes, o₂.high);
            };
        edges =
            record {
              small = are.edges_small;
              whole = are.edges_whole;
              least = omega arith;
              most = omega (arith, are.edges, o₃.high);
            };
        refs =
            record {
              small = are.refs_small;
              whole = are.refs_whole;
              least = omega arith;
              most = omega (arith, are.refs, o₄.high);
            };
      },
    )

-- ---- the same of the lines of the text

pub text_laid : (t : Tables) → Lendable t → LaysOut text_plan t (text_lines t)
text_laid t o = subst⁻¹ (LaysOut text_plan t) (text_plan_lem t (sizes_of o)) (plan_laid t o)

pub laid_text : (t : Tables) (ls : List (List ℕ)) → LaysOut text_plan t ls → (ls ≡ text_lines t) × Lendable t
laid_text t ls p = let (q, o) = laid_plan t ls p in (q ∙ sym (text_plan_lem t (sizes_of o)), o)
