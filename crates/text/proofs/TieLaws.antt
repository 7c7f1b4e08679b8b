-- The lines that the code reads and writes by their forms are the lines of the text, for tables within the sizes
-- (`text_plan_lem`). Assumes nothing.
use mathlib.Core.Bool.{Bool, true, false}
use mathlib.Core.List.{List, [], ◌∷◌, ◌++◌, append_assoc}
use mathlib.Core.Path.{◌≡◌, refl, sym, ap, ap₂, ◌∙◌}
use Prim.Native.Nat.{ℕ, zero, suc, ◌+◌, ◌*◌, ◌≤◌, ◌<◌}
use native.Mathlib.Nat.{add-zero, zero-add, zero-mul, suc-mul, mul-le-mul_right}
use native.Mathlib.Omega.{arith}
use lib.ListN.{length, get_or, drop}
use lib.Seq.{drop-drop}
use Rattle.ground.specs.Lists.{bytes}
use Rattle.ground.proofs.ListLaws.{drop_step}
use Rattle.tables.specs.Tables.{Table, Tables, node_at, edge_at, ref_at}
use Rattle.tables.specs.Rules.{SizeRule, Sizes}
use Rattle.tables.specs.Rows.{HasRows, HasNodes, HasEdges, HasRefs}
use Rattle.lines.specs.declared.form.Form.{Form}
use Rattle.lines.specs.Lines.{width_of, row_form, is_end_of, number_text, numbers_text, line_text, lines_of}
use Rattle.text.specs.Text.{LendableTable, Lendable, commas, node_line, edge_line, ref_line, listed, text_lines}
use Rattle.text.specs.Forms.{node_key, edge_key, ref_key, node_form, edge_form, ref_form, plan_lines}

-- ---- a line

-- the words of w numbers of a row that begins at index i, from its number k on
abbrev words_of : Form → List ℕ → ℕ → ℕ → ℕ → List (List ℕ)
words_of f vs i zero k = []
words_of f vs i (suc w) k = number_text (is_end_of f w) (get_or vs (i + k) 0) ∷ words_of f vs i w (suc k)

words_joined : (f : Form) (vs : List ℕ) (i w k : ℕ) → i + k + w < length vs
    → numbers_text f (suc w) (drop (i + k) vs) ≡ commas (words_of f vs i (suc w) k) ++ bytes "\n"
unfolding numbers_text commas
words_joined f vs i zero k h = rw (drop_step vs (i + k) (omega arith))
words_joined f vs i (suc w) k h =
    let x = number_text (is_end_of f (suc w)) (get_or vs (i + k) 0) in
    let e : i + k + 1 ≡ i + suc k = omega arith in
    let rest = words_joined f vs i w (suc k) (omega arith) in
    rw (drop_step vs (i + k) (omega arith), e, rest)
    (sym (append_assoc x (bytes "," ++ commas (words_of f vs i (suc w) (suc k))) (bytes "\n")))

-- row n of rows of w numbers
module _ (key : List ℕ) (w : ℕ) (e : Bool) (vs : List ℕ) where
  abbrev form : Form
  form = row_form (suc w) e

  row_line : (n : ℕ) → n * suc w + suc w ≤ length vs
      → line_text key form (drop (n * suc w) vs)
      ≡ key ++ (commas (words_of form vs (n * suc w) (suc w) 0) ++ bytes "\n")
  row_line n h =
      let i = n * suc w in
      ap (λ (j : ℕ). line_text key form (drop j vs)) (sym (add-zero i))
      ∙ ap (λ (x : List ℕ). key ++ x) (words_joined form vs i w 0 (omega arith))

  -- ---- lines

  lines_listed : (g : ℕ → List ℕ) (m i : ℕ) → ((n : ℕ) → n < m → line_text key form (drop ((i + n) * suc w) vs) ≡ g n)
      → lines_of key form m (drop (i * suc w) vs) ≡ listed g m
  unfolding lines_of listed
  lines_listed g zero i h = refl
  lines_listed g (suc m) i h =
      let here = rw (add-zero i) at (h 0 (omega arith)) in
      let next : i * suc w + width_of form ≡ suc i * suc w = omega (arith, suc-mul i (suc w)) in
      let rest = lines_listed (λ n. g (suc n)) m (suc i) (λ n l. rw (turn n) at (h (suc n) (omega arith))) in
      ap₂ (λ (x : List ℕ) (xs : List (List ℕ)). x ∷ xs) here
      (ap (lines_of key form m) (drop-drop (width_of form) (i * suc w) vs ∙ rw next) ∙ rest)
    where
      turn : (n : ℕ) → i + suc n ≡ suc i + n
      turn n = omega arith

  rows_listed : (g : ℕ → List ℕ)
      → ((n : ℕ) → key ++ (commas (words_of form vs (n * suc w) (suc w) 0) ++ bytes "\n") ≡ g n)
      → (m : ℕ) → HasRows (suc w) vs m → lines_of key form m vs ≡ listed g m
  rows_listed g same m h =
      rw (zero-mul (suc w)) at
      (lines_listed g m 0 (λ n l. rw (zero-add n) (row_line n (omega (arith, held n l)) ∙ same n)))
    where
      held : (n : ℕ) → n < m → n * suc w + suc w ≤ m * suc w
      held n l = omega (arith, suc-mul n (suc w), mul-le-mul_right (suc w) l)

-- ---- the text

nodes_listed : (vs : List ℕ) (m : ℕ) → HasNodes vs m
    → lines_of node_key node_form m vs ≡ listed (λ i. node_line (node_at vs i)) m
unfolding node_at number_text commas
nodes_listed vs m h = rows_listed node_key 2 false vs _ (λ n. refl) m h

edges_listed : (vs : List ℕ) (m : ℕ) → HasEdges vs m
    → lines_of edge_key edge_form m vs ≡ listed (λ i. edge_line (edge_at vs i)) m
unfolding edge_at number_text commas
edges_listed vs m h = rows_listed edge_key 3 true vs _ (λ n. refl) m h

refs_listed : (vs : List ℕ) (m : ℕ) → HasRefs vs m
    → lines_of ref_key ref_form m vs ≡ listed (λ i. ref_line (ref_at vs i)) m
unfolding ref_at number_text commas
refs_listed vs m h = rows_listed ref_key 3 true vs _ (λ n. refl) m h

pub text_plan_lem : (t : Tables) → Sizes t → text_lines t ≡ plan_lines t
unfolding numbers_text number_text commas
text_plan_lem t s =
    rw (
      nodes_listed t.nodes.numbers t.nodes.count (omega (arith, s.nodes.whole)),
      edges_listed t.edges.numbers t.edges.count (omega (arith, s.edges.whole)),
      refs_listed t.refs.numbers t.refs.count (omega (arith, s.refs.whole)),
    )

-- tables that a text holds are within the sizes
size_of : {w lo hi : ℕ} {x : Table} → LendableTable w lo hi x → SizeRule w lo hi x
size_of o = record { whole = o.whole; least = o.least; most = o.most }

pub sizes_of : {t : Tables} → Lendable t → Sizes t
sizes_of o = record { nodes = size_of o.nodes; edges = size_of o.edges; refs = size_of o.refs }
