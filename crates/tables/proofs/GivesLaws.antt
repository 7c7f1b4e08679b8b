-- The tests of sizes and rows tell what breaks a rule. The answer of the rules is the one that `Gives` allows; and
-- tables are not refused exactly if they obey the rules. Assumes nothing.
use mathlib.Core.Path.{◌≡◌, refl, sym, ap, ◌∙◌, subst}
use mathlib.Core.Logic.Iff
use mathlib.Core.Logic.{◌≢◌, ◌↔◌, ⊎_elim}
use mathlib.Core.Bool.{Bool, true, false, not, false≢true}
use Rattle.std.specs.Prelude.{Some, None}
use Prim.Native.Nat.{ℕ, ◌/◌, ◌%◌, ◌<◌}
use native.Mathlib.Decide.{ℕ_discrete}
use native.Mathlib.Nat.{div-add-mod', mul-div_cancel, mul-mod_left}
use native.Mathlib.Omega.{arith}
use lib.ListN.{length}
use borrow.Author.Tests.{not-false, eq-eqb, ne_eqb, lt-ltb, le-ltb}
use Rattle.ground.specs.Tests.{Tells}
use Rattle.ground.specs.Least.{Least, Smallest}
use Rattle.ground.specs.Searches.{least, found}
use Rattle.ground.proofs.TestLaws.{tells_and, tells_not, tells_le, tells_eq, tells_fails, tells_dec}
use Rattle.ground.proofs.LeastLaws.{least_unique, least_tells, all_or_least, search_missed}
use Rattle.answers.specs.Answers.{Answer}
use Rattle.answers.specs.Answers.{Start, Size, Node, Edge, Reference}
use Rattle.answers.specs.Numbers.{refuses, passed}
use Rattle.answers.specs.Refusals.{when}
use Rattle.answers.proofs.AnswerLaws.{both_pass, when_passes}
use Rattle.tables.specs.Tables.{Now, node_width, edge_width, ref_width, edge_at, ref_at, Table, Tables, node_in, edge_in}
use Rattle.tables.specs.Tables.{ref_in}
use Rattle.tables.specs.Rules.{least_nodes, most_nodes, most_edges, most_refs, SizeRule, NodesSize, EdgesSize}
use Rattle.tables.specs.Rules.{RefsSize, Sizes, NodeRule, EdgeRule, RefRule, Obeys, BadNode, BadEdge, BadRef}
use Rattle.tables.specs.Rules.{Gives, nodes_size, edges_size, refs_size, start_now, node, edge, reference}
use Rattle.tables.specs.Rules.{nothing}
use Rattle.tables.specs.Tests.{size_rule_of, nodes_fit, edges_fit, refs_fit, bad_node_of, bad_row_of}
use Rattle.tables.specs.Says.{sizes_say, rows_say, history_says}
use Rattle.tables.proofs.RuleLaws.{node_tells, edge_tells, ref_tells}

pub size_tells : (w least most : ℕ) (x : Table) → 0 < w
    → Tells (size_rule_of w least most x.count (length x.numbers)) (SizeRule w least most x)
unfolding size_rule_of
size_tells w least most x h =
    let numbers = length x.numbers in
    Iff.trans
    (tells_and _ _ (tells_and _ _ (tells_eq (numbers % w) 0) (tells_eq (numbers / w) x.count))
    (tells_and _ _ (tells_le least x.count) (tells_le x.count most))) (
      λ ((a, b), (c, d)).
          record { whole = sym (div-add-mod' numbers w) ∙ rw (a, b) (omega arith); least = c; most = d },
      λ r. (
        (
          ap (λ y. y % w) r.whole ∙ mul-mod_left x.count w,
          ap (λ y. y / w) r.whole ∙ mul-div_cancel x.count h,
        ),
        (r.least, r.most),
      ),
    )

-- the smallest bad row, by whatever means it was found; and where none is bad
module _ (bad : ℕ → Bool) (P : ℕ → Type 0) (tells : (i : ℕ) → Tells (bad i) (P i)) (n : ℕ) where
  smallest_is : {k : ℕ} → Least P n k → k ≡ least bad n
  smallest_is l = least_unique P l (least_tells bad P n (λ i h. tells i))

  found_is : {k : ℕ} → Smallest P n k → found bad n ≡ Some k
  found_is (l, h) = let e = smallest_is l in rw (← e, lt-ltb _ _ h)

  none_bad : ((i : ℕ) → i < n → P i → ⊥) → found bad n ≡ None
  none_bad f = rw (← at, le-ltb n n (omega arith))
    where
      at : n ≡ least bad n
      at = search_missed bad {k = n} (omega arith) (λ i h t. f i h ((tells i).0 t))

module _ (L : Tables) where
  n_tells : Tells (nodes_fit L.nodes) (NodesSize L.nodes)
  n_tells = size_tells node_width least_nodes most_nodes L.nodes (omega arith)

  m_tells : Tells (edges_fit L.edges) (EdgesSize L.edges)
  m_tells = size_tells edge_width 0 most_edges L.edges (omega arith)

  k_tells : Tells (refs_fit L.refs) (RefsSize L.refs)
  k_tells = size_tells ref_width 0 most_refs L.refs (omega arith)

  abbrev bad_edge : ℕ → Bool
  bad_edge = bad_row_of false L.start L.nodes.count (node_in L) edge_width L.edges.numbers

  abbrev bad_ref : ℕ → Bool
  bad_ref = bad_row_of true L.start L.nodes.count (node_in L) ref_width L.refs.numbers

  node_bad : (i : ℕ) → Tells (bad_node_of (node_in L) i) (BadNode L i)
  unfolding bad_node_of
  node_bad i = tells_not _ (node_tells i (node_in L i))

  edge_bad : (i : ℕ) → Tells (bad_edge i) (BadEdge L i)
  unfolding bad_row_of edge_at
  edge_bad i = tells_not _ (edge_tells L.start L.nodes.count (node_in L) (edge_in L i))

  ref_bad : (i : ℕ) → Tells (bad_ref i) (BadRef L i)
  unfolding bad_row_of ref_at
  ref_bad i = tells_not _ (ref_tells L.start L.nodes.count (node_in L) (ref_in L i))

  -- rows that obey their rules: the refusal that names them is passed over
  abbrev NodesObey : Type 0
  NodesObey = (i : ℕ) → i < L.nodes.count → NodeRule i (node_in L i)

  abbrev EdgesObey : Type 0
  EdgesObey = (i : ℕ) → i < L.edges.count → EdgeRule L.start L.nodes.count (node_in L) (edge_in L i)

  nodes_right : NodesObey → found (bad_node_of (node_in L)) L.nodes.count ≡ None
  nodes_right f = none_bad (bad_node_of (node_in L)) (BadNode L) node_bad L.nodes.count (λ i h x. x (f i h))

  edges_right : EdgesObey → found bad_edge L.edges.count ≡ None
  edges_right f = none_bad bad_edge (BadEdge L) edge_bad L.edges.count (λ i h x. x (f i h))

  -- each answer in its turn
  sized : Sizes L → rows_say L ≡ history_says L
  unfolding history_says sizes_say
  sized s = simp (n_tells.1 s.nodes, m_tells.1 s.edges, k_tells.1 s.refs)

  start_is : L.start ≡ Now → Start ≡ rows_say L
  unfolding rows_say
  start_is e = simp (eq-eqb L.start Now e)

  module _ (ne : L.start ≢ Now) where
    node_is : {k : ℕ} → Smallest (BadNode L) L.nodes.count k → Node k ≡ rows_say L
    unfolding rows_say
    node_is x =
        simp (ne_eqb L.start Now ne, found_is (bad_node_of (node_in L)) (BadNode L) node_bad L.nodes.count x)

    module _ (nodes : NodesObey) where
      edge_is : {k : ℕ} → Smallest (BadEdge L) L.edges.count k → Edge k ≡ rows_say L
      unfolding rows_say
      edge_is x =
          simp (
            ne_eqb L.start Now ne,
            nodes_right nodes,
            found_is bad_edge (BadEdge L) edge_bad L.edges.count x,
          )

      module _ (edges : EdgesObey) where
        reference_is : {k : ℕ} → Smallest (BadRef L) L.refs.count k → Reference k ≡ rows_say L
        unfolding rows_say
        reference_is x =
            simp (
              ne_eqb L.start Now ne,
              nodes_right nodes,
              edges_right edges,
              found_is bad_ref (BadRef L) ref_bad L.refs.count x,
            )

  nothing_is : Obeys L → passed ≡ rows_say L
  unfolding rows_say
  nothing_is o =
      simp (
        ne_eqb L.start Now o.start_rule,
        nodes_right o.node_rule,
        edges_right o.edge_rule,
        none_bad bad_ref (BadRef L) ref_bad L.refs.count (λ i h x. x (o.ref_rule i h)),
      )

  pub gives_is : {a : Answer} → Gives L a → a ≡ history_says L
  unfolding history_says sizes_say
  gives_is (nodes_size f) = simp (tells_fails _ n_tells f)
  gives_is (edges_size n f) = simp (n_tells.1 n, tells_fails _ m_tells f)
  gives_is (refs_size n m f) = simp (n_tells.1 n, m_tells.1 m, tells_fails _ k_tells f)
  gives_is (start_now s e) = start_is e ∙ sized s
  gives_is (node s ne x) = node_is ne x ∙ sized s
  gives_is (edge s ne f x) = edge_is ne f x ∙ sized s
  gives_is (reference s ne f g x) = reference_is ne f g x ∙ sized s
  gives_is (nothing o) = nothing_is o ∙ sized o.sizes

  -- one of them applies
  Given : Type 0
  Given = (a : Answer) × Gives L a

  some_ref : Sizes L → L.start ≢ Now → NodesObey → EdgesObey → Given
  unfolding Given
  some_ref s ne f g =
      ⊎_elim
      (λ all. (
        passed,
        nothing (record { sizes = s; start_rule = ne; node_rule = f; edge_rule = g; ref_rule = all }),
      ))
      (λ (k, x). (Reference k, reference s ne f g x))
      (all_or_least (λ i. RefRule L.start L.nodes.count (node_in L) (ref_in L i))
      (λ i. tells_dec _ (ref_tells L.start L.nodes.count (node_in L) (ref_in L i))) L.refs.count)

  some_edge : Sizes L → L.start ≢ Now → NodesObey → Given
  unfolding Given
  some_edge s ne f =
      ⊎_elim
      (some_ref s ne f)
      (λ (k, x). (Edge k, edge s ne f x))
      (all_or_least (λ i. EdgeRule L.start L.nodes.count (node_in L) (edge_in L i))
      (λ i. tells_dec _ (edge_tells L.start L.nodes.count (node_in L) (edge_in L i))) L.edges.count)

  some_start : Sizes L → Dec (L.start ≡ Now) → Given
  unfolding Given
  some_start s (yes e) = (Start, start_now s e)
  some_start s (no ne) =
      ⊎_elim
      (some_edge s ne)
      (λ (k, x). (Node k, node s ne x))
      (all_or_least (λ i. NodeRule i (node_in L i)) (λ i. tells_dec _ (node_tells i (node_in L i))) L.nodes.count)

  some_size : Dec (NodesSize L.nodes) → Dec (EdgesSize L.edges) → Dec (RefsSize L.refs) → Given
  unfolding Given
  some_size (no f) d e = (Size 0, nodes_size f)
  some_size (yes n) (no f) e = (Size 1, edges_size n f)
  some_size (yes n) (yes m) (no f) = (Size 2, refs_size n m f)
  some_size (yes n) (yes m) (yes k) = some_start (record { nodes = n; edges = m; refs = k }) (ℕ_discrete L.start Now)

  pub gives_says : Gives L (history_says L)
  unfolding Given
  gives_says =
      let (a, g) = some_size (tells_dec _ n_tells) (tells_dec _ m_tells) (tells_dec _ k_tells) in
      subst (Gives L) (gives_is g) g

  -- tables are not refused exactly if they obey the rules
  passes : {a : Answer} → Gives L a → refuses a ≡ false → Obeys L
  passes (nodes_size f) e = absurd (false≢true (sym e))
  passes (edges_size n f) e = absurd (false≢true (sym e))
  passes (refs_size n m f) e = absurd (false≢true (sym e))
  passes (start_now s x) e = absurd (false≢true (sym e))
  passes (node s ne x) e = absurd (false≢true (sym e))
  passes (edge s ne f x) e = absurd (false≢true (sym e))
  passes (reference s ne f g x) e = absurd (false≢true (sym e))
  passes (nothing o) e = o

  pub obeys_tells : (refuses (history_says L) ≡ false) ↔ Obeys L
  obeys_tells = (passes gives_says, λ o. ap (λ a. refuses a) (sym (gives_is (nothing o))))

  -- the sizes alone: tables whose sizes are passed over have them, and a refusal of them is that of the rules
  pub sizes_pass : refuses (sizes_say L.nodes L.edges L.refs) ≡ false → Sizes L
  unfolding sizes_say
  sizes_pass e =
      let (a, r) = both_pass (when (not (nodes_fit L.nodes)) (Size 0)) _ e in
      let (b, c) = both_pass (when (not (edges_fit L.edges)) (Size 1)) (when (not (refs_fit L.refs)) (Size 2)) r in
      record {
        nodes = n_tells.0 (not-false _ (when_passes (not (nodes_fit L.nodes)) (Size 0) refl a));
        edges = m_tells.0 (not-false _ (when_passes (not (edges_fit L.edges)) (Size 1) refl b));
        refs = k_tells.0 (not-false _ (when_passes (not (refs_fit L.refs)) (Size 2) refl c));
      }

  pub sizes_refuse : refuses (sizes_say L.nodes L.edges L.refs) ≡ true
      → sizes_say L.nodes L.edges L.refs ≡ history_says L
  unfolding history_says
  sizes_refuse t = rw t
