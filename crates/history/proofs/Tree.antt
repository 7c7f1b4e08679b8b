-- The rows in force at an instant are a tree from the root exactly if each node that they touch is reached from the
-- root by exactly one chain.
-- Assumes nothing.
use mathlib.Core.Path.{◌≡◌, refl, sym, ap, ap₂, ◌∙◌}
use mathlib.Core.Logic.{◌≢◌, ◌⊎◌, inl, inr, ◌↔◌}
use mathlib.Core.List.{List, [], ◌∷◌, ◌++◌}
use Prim.Native.Nat.{ℕ, zero, suc, ◌<◌}
use native.Mathlib.Decide.{ℕ_discrete, dec_lt}
use native.Mathlib.Omega.{arith}
use lib.ListN.{length, length-append}
use Rattle.tables.specs.Tables.{EdgeRow}
use Rattle.history.specs.Faults.{Into, NoneInto, Chain, Overlap, Outside, Cycle}
use Rattle.history.specs.Sound.{Touched, OneChain}
use Rattle.history.specs.Places.{NodesBelow}
use Rattle.history.proofs.Chains.{join, to_node, into_node, parent_touched, into_dec, few_rows}

-- none of OVERLAP, OUTSIDE and CYCLE
pub record Tree (m : ℕ) (E : ℕ → EdgeRow) (t : ℕ) : Type 0 where
  pub no_overlap : (n : ℕ) → Overlap m E t n → ⊥
  pub no_outside : (n : ℕ) → Outside m E t n → ⊥
  pub no_cycle : (n : ℕ) → Cycle m E t n → ⊥

module _ (m : ℕ) (E : ℕ → EdgeRow) (t : ℕ) where
  -- where no two rows in force lead into one node, the way up is fixed
  module _ (over : (n : ℕ) → Overlap m E t n → ⊥) where
    pub same_row : (n i j : ℕ) → Into m E t n i → Into m E t n j → i ≡ j
    same_row n i j p q = go (dec_lt i j) (dec_lt j i)
      where
        go : Dec (i < j) → Dec (j < i) → i ≡ j
        go (yes h) d = absurd (over n (i, j, omega arith, p, q))
        go (no f) (yes h) = absurd (over n (j, i, omega arith, q, p))
        go (no f) (no g) = omega arith

    -- two chains of the same number of rows to one node are the same
    pub one_way_up : (a b n : ℕ) (is js : List ℕ) → length is ≡ length js → Chain m E t a n is → Chain m E t b n js
        → is ≡ js
    one_way_up a b n [] [] l p q = refl
    one_way_up a b n [] (j ∷ js) l p q = absurd (omega arith)
    one_way_up a b n (i ∷ is) [] l p q = absurd (omega arith)
    one_way_up a b n (i ∷ is) (j ∷ js) l p q =
        let e : i ≡ j = same_row n i j p.0 q.0 in
        ap₂ ◌∷◌ e
        (one_way_up a b (E i).parent is js (omega arith) p.1
        (to_node m E t b (E j).parent (E i).parent js (ap (λ k. (E k).parent) (sym e)) q.1))

  -- where besides none leads into the root, a node has at most one chain from the root
  module _ (root : NoneInto m E t 0) (over : (n : ℕ) → Overlap m E t n → ⊥) where
    pub one_chain : (n : ℕ) (is js : List ℕ) → Chain m E t 0 n is → Chain m E t 0 n js → js ≡ is
    one_chain n [] [] p q = refl
    one_chain n [] (j ∷ js) p q = absurd (root j (into_node m E t n 0 j (sym p) q.0))
    one_chain n (i ∷ is) [] p q = absurd (root i (into_node m E t n 0 i (sym q) p.0))
    one_chain n (i ∷ is) (j ∷ js) p q =
        let e : j ≡ i = same_row over n j i q.0 p.0 in
        ap₂ ◌∷◌ e (one_chain (E i).parent is js p.1
        (to_node m E t 0 (E j).parent (E i).parent js (ap (λ k. (E k).parent) e) q.1))

  -- where a row out of a node other than the root comes with a row into it, a node touched has a row into it
  module _ (outs : (n : ℕ) → Outside m E t n → ⊥) where
    pub up_row : (n : ℕ) → n ≢ 0 → Touched m E t n → (i : ℕ) × Into m E t n i
    up_row n ne (inl s) = s
    up_row n ne (inr o) = go (into_dec m E t n)
      where
        go : Dec ((i : ℕ) × Into m E t n i) → (i : ℕ) × Into m E t n i
        go (yes s) = s
        go (no f) = absurd (outs n (ne, o, λ i p. f (i, p)))

  -- and where besides no chain goes round, it has a chain from the root
  module _ (N : ℕ) (b : NodesBelow m E N) (outs : (n : ℕ) → Outside m E t n → ⊥) where
    touched_below : (n : ℕ) → Touched m E t n → n < N
    touched_below n (inl s) = omega (arith, (b s.0 s.1.row).1, s.1.into)
    touched_below n (inr s) = omega (arith, (b s.0 s.1.row).0, s.1.out)

    -- k rows up from a node, or to the root
    Walk : ℕ → ℕ → Type 0
    Walk k n = ((is : List ℕ) × Chain m E t 0 n is) ⊎ ((a : ℕ) × (is : List ℕ) × Chain m E t a n is × (length is ≡ k))

    longer : (k n i : ℕ) → Into m E t n i → Walk k (E i).parent → Walk (suc k) n
    unfolding Walk
    longer k n i p (inl w) = inl (i ∷ w.0, (p, w.1))
    longer k n i p (inr w) = inr (w.0, i ∷ w.1, (p, w.2), ap suc w.3)

    walk : (k n : ℕ) → Touched m E t n → Walk k n
    unfolding Walk
    walk zero n h = inr (n, [], refl, refl)
    walk (suc k) n h = go (ℕ_discrete n 0) (walk k)
      where
        go : Dec (n ≡ 0) → ((p : ℕ) → Touched m E t p → Walk k p) → Walk (suc k) n
        go (yes e) w = inl ([], sym e)
        go (no ne) w =
            let (i, p) = up_row outs n ne h in
            longer k n i p (w (E i).parent (parent_touched m E t n i p))

    pub some_chain : ((n : ℕ) → Cycle m E t n → ⊥) → (n : ℕ) → Touched m E t n → (is : List ℕ) × Chain m E t 0 n is
    unfolding Walk
    some_chain cyc n h = go (walk N n h)
      where
        go : Walk N n → (is : List ℕ) × Chain m E t 0 n is
        go (inl w) = w
        go (inr w) =
            absurd (omega (arith, w.3, few_rows m E t N b cyc w.0 n w.1 (touched_below n h) w.2))

  pub tree_reached : (N : ℕ) → NodesBelow m E N → Tree m E t → (n : ℕ) → Touched m E t n → OneChain m E t 0 n
  tree_reached N b w n h =
      ((reach n h).0, (reach n h).1, λ js q. one_chain root w.no_overlap n (reach n h).0 js (reach n h).1 q)
    where
      reach : (n : ℕ) → Touched m E t n → (is : List ℕ) × Chain m E t 0 n is
      reach = some_chain N b w.no_outside w.no_cycle

      -- a row into the root would close a cycle
      root : NoneInto m E t 0
      root i p =
          w.no_cycle 0 (
            i,
            (reach (E i).parent (parent_touched m E t 0 i p)).0,
            (p, (reach (E i).parent (parent_touched m E t 0 i p)).1),
          )

  module _ (one : (n : ℕ) → Touched m E t n → OneChain m E t 0 n) where
    same : (n : ℕ) (is js : List ℕ) → Touched m E t n → Chain m E t 0 n is → Chain m E t 0 n js → is ≡ js
    same n is js h p q = (one n h).2 is p ∙ sym ((one n h).2 js q)

    overlap_free : (n : ℕ) → Overlap m E t n → ⊥
    overlap_free n (i, j, h, p, q) =
        let (is, c, _) = one (E i).parent (parent_touched m E t n i p) in
        let (js, d, _) = one (E j).parent (parent_touched m E t n j q) in
        let e : i ≡ j = cc (same n (i ∷ is) (j ∷ js) (inl (i, p)) (p, c) (q, d)) in
        omega arith

    outside_free : (n : ℕ) → Outside m E t n → ⊥
    outside_free n (ne, o, none) = go (one n (inr o)).0 (one n (inr o)).1
      where
        go : (is : List ℕ) → Chain m E t 0 n is → ⊥
        go [] p = ne (sym p)
        go (i ∷ is) p = none i p.0

    cycle_free : (n : ℕ) → Cycle m E t n → ⊥
    cycle_free n (i, is, p) =
        let h : Touched m E t n = inl (i, p.0) in
        let (rs, q, _) = one n h in
        omega (
          arith,
          simp length-append at
              (ap length (same n ((i ∷ is) ++ rs) rs h (join m E t 0 n n (i ∷ is) rs p q) q)),
        )

    pub reached_tree : Tree m E t
    reached_tree = record { no_overlap = overlap_free; no_outside = outside_free; no_cycle = cycle_free }

pub tree : (m : ℕ) (E : ℕ → EdgeRow) (t N : ℕ) → NodesBelow m E N
    → Tree m E t ↔ ((n : ℕ) → Touched m E t n → OneChain m E t 0 n)
tree m E t N b = (tree_reached m E t N b, reached_tree m E t)
