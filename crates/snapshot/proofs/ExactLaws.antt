-- The rows of the walk from the root are exactly what the history contains; and how many rows that is.
-- Assumes nothing.
use mathlib.Core.Path.{◌≡◌, refl, sym, ap, ap₂, ◌∙◌}
use mathlib.Core.Logic.Iff
use mathlib.Core.Logic.{◌≢◌, inl, inr, ⊎_elim}
use mathlib.Core.List.{List, [], ◌∷◌}
use Prim.Native.Nat.{ℕ, zero, suc, ◌+◌, ◌≤◌, ◌<◌}
use native.Mathlib.Decide.{ℕ_discrete}
use native.Mathlib.Omega.{arith}
use lib.Dec.{eqb}
use lib.ListN.{length}
use borrow.Author.Tests.{eq-eqb, ne_eqb}
use Rattle.ground.specs.Tests.{Tells}
use Rattle.ground.specs.Sums.{bit, count}
use Rattle.ground.proofs.TestLaws.{tells_and, tells_not, tells_eq, tells_fails}
use Rattle.ground.proofs.SumLaws.{sum_ext, sum_add, sum_one}
use Rattle.tables.specs.Tables.{no_node}
use Rattle.history.specs.Faults.{History, Into, NoneInto, Chain, Here}
use Rattle.history.specs.Sound.{OneReference}
use Rattle.history.specs.Ruled.{Ruled}
use Rattle.history.proofs.Chains.{into_node}
use Rattle.history.proofs.ComputedLaws.{present_tells}
use Rattle.history.proofs.RuledLaws.{ruled_below}
use Rattle.history.proofs.SoundLaws.{here_dec}
use Rattle.history.proofs.Tree.{Tree, same_row, some_chain}
use Rattle.snapshot.specs.Snapshot.{ShownRow, Referent, target, no_target}
use Rattle.snapshot.specs.Exact.{standing, OneReferent, one, no_reference, RowRight, Exact}
use Rattle.snapshot.specs.Walk.{subtree}
use Rattle.snapshot.specs.Says.{referent_at, shown_rows, children_of}
use Rattle.snapshot.specs.Counts.{occurs, is_other}
use Rattle.snapshot.proofs.CountLaws.{last_row, no_row, walk_all, all_map, standing_sum}
use Rattle.snapshot.proofs.ChildLaws.{tells_same, child_tells, child_below, child_occurs, children_all}
use Rattle.snapshot.proofs.ShownLaws.{referent_shown, chain_short}

-- where at most one reference is in force from each node, the smallest is the only one
module _ (H : History) (t : ℕ) (single : OneReference H t) where
  referent_one : {n r : ℕ} → Referent H t n r → OneReferent H t n r
  referent_one (target {k = k} (l, h)) =
      let x = l.here h in
      one h x (λ j g y. single j k (g, y.1) (h, x.1) (y.0 ∙ sym x.0))
  referent_one (no_target f) = no_reference f

  one_shown : (n : ℕ) → OneReferent H t n (referent_at H.refs H.ref t n)
  one_shown n = referent_one (referent_shown H t n)

module _ (H : History) (t : ℕ) (ruled : Ruled H) (tree : Tree H.edges H.edge t) where
  root : NoneInto H.edges H.edge t 0
  root i p = (ruled.edge_fits i p.row).not_root p.into

  abbrev kids : ℕ → List ℕ
  kids = children_of H t

  abbrev ρ : ℕ → ℕ
  ρ = referent_at H.refs H.ref t

  abbrev walk : ℕ → ℕ → List ShownRow
  walk l p = subtree ρ kids l p 0

  -- a node with no row in force into it is no child; another is a child of the parent of its row alone
  unheld : (x : ℕ) → NoneInto H.edges H.edge t x → (n : ℕ) → occurs x (kids n) ≡ 0
  unheld x none n =
      child_occurs H t ruled n x ∙ ap bit (tells_fails _ (child_tells H t n x) (λ (i, p, e). none i p))

  held_once : (x i : ℕ) → Into H.edges H.edge t x i → (n : ℕ)
      → occurs x (kids n) ≡ bit (eqb n (H.edge i).parent)
  held_once x i p n =
      child_occurs H t ruled n x
      ∙ ap bit (tells_same _ _ (child_tells H t n x) (Iff.trans (tells_eq n (H.edge i).parent) (
        λ e. (i, p, sym e),
        λ (j, q, e). sym e ∙ ap (λ k. (H.edge k).parent) (same_row _ _ t tree.no_overlap x j i q p),
      )))

  absent : (x l p : ℕ) → x ≢ 0 → NoneInto H.edges H.edge t x → standing x (walk l p) ≡ 0
  unfolding standing subtree
  absent x zero p ne none = refl
  absent x (suc l) p ne none = no_row ρ kids x (unheld x none) l p 0 ∙ ap bit (ne_eqb 0 x (λ e. ne (sym e)))

  -- a node to which a chain leads from the root stands once in a walk that goes deep enough
  reached : (is : List ℕ) (x l p : ℕ) → Chain H.edges H.edge t 0 x is → length is < l
      → standing x (walk l p) ≡ 1
  reached is x zero p c h = absurd (omega arith)
  reached [] x (suc l) p c h = rw (← c) (no_row ρ kids 0 (unheld 0 root) l p 0)
  reached (i ∷ is) x (suc l) p (q, c) h =
      let ne : 0 ≢ x = λ e. root i (into_node _ _ t x 0 i (sym e) q) in
      omega (
        arith,
        last_row ρ kids x (H.edge i).parent (held_once x i q) l p 0,
        ap bit (ne_eqb 0 x ne),
        reached is (H.edge i).parent l p c (omega arith),
      )

  once : (n : ℕ) → Here H t n → standing n (shown_rows H t) ≡ 1
  once n (inl (e, s)) = reached [] n H.nodes no_node (sym e) ruled.root
  once n (inr (ne, (i, p))) =
      let (is, c) =
      some_chain _ _ t H.nodes (ruled_below H ruled) tree.no_outside tree.no_cycle n (inl (i, p)) in
      reached is n H.nodes no_node c (chain_short H t ruled tree 0 n is c).0

  module _ (begun : H.start ≤ t) where
    only : (n : ℕ) → (Here H t n → ⊥) → standing n (shown_rows H t) ≡ 0
    only n away =
        absent n H.nodes no_node (λ e. away (inl (e, begun)))
        (λ i p. away (inr (λ e. root i (into_node _ _ t n 0 i e p), (i, p))))

    pub rows_exact : OneReference H t → Exact H t (shown_rows H t)
    rows_exact single =
        record {
          once = once;
          only = only;
          right =
              walk_all ρ kids (RowRight H t) (λ n. children_all H t n _ (λ c x.
              record { under = inr x; refers = one_shown H t single c }))
              H.nodes no_node 0 (record { under = inl (refl, refl); refers = one_shown H t single 0 });
        }

-- rows that are exact are the root's and one for each other node that is present
module _ (H : History) (t : ℕ) (ruled : Ruled H) (begun : H.start ≤ t) {xs : List ShownRow} (x : Exact H t xs) where
  right_below : (y : ShownRow) → RowRight H t y → y.node < H.nodes
  right_below y r =
      ⊎_elim (λ e. omega (arith, e.0, ruled.root)) (child_below H t ruled y.parent y.node) r.under

  here_bit : (n : ℕ) → standing n xs ≡ bit (eqb n 0) + bit (is_other H t n)
  here_bit n = go (ℕ_discrete n 0) (here_dec H t n)
    where
      tells : Tells (is_other H t n) ((n ≢ 0) × Here H t n)
      tells = tells_and _ _ (tells_not _ (tells_eq n 0)) (present_tells H.edges H.edge t H.start n)

      go : Dec (n ≡ 0) → Dec (Here H t n) → standing n xs ≡ bit (eqb n 0) + bit (is_other H t n)
      go (yes e) d = x.once n (inl (e, begun)) ∙ rw (eq-eqb n 0 e)
      go (no f) (yes h) = x.once n h ∙ ap₂ (λ a b. bit a + bit b) (sym (ne_eqb n 0 f)) (sym (tells.1 (f, h)))
      go (no f) (no h) =
          x.only n h ∙ ap₂ (λ a b. bit a + bit b) (sym (ne_eqb n 0 f)) (sym (tells_fails _ tells (λ x. h x.1)))

  pub exact_number : length xs ≡ 1 + count (is_other H t) H.nodes
  exact_number =
      omega (
        arith,
        standing_sum H.nodes xs (all_map right_below xs x.right),
        sum_ext (λ n. standing n xs) (λ n. bit (eqb n 0) + bit (is_other H t n)) H.nodes (λ n h. here_bit n),
        sum_add (λ n. bit (eqb n 0)) (λ n. bit (is_other H t n)) H.nodes,
        sum_one (λ n. bit (eqb n 0)) H.nodes 0 ruled.root (λ n h d. ap bit (ne_eqb n 0 d)),
      )
