-- Chains: how they are joined and cut, and how long they are. Assumes nothing.
use mathlib.Core.Path.{◌≡◌, refl, sym, ◌∙◌, subst}
use mathlib.Core.Logic.Dec
use mathlib.Core.Logic.{◌≢◌, inr, ⊎_elim}
use mathlib.Core.List.{List, [], ◌∷◌, ◌++◌}
use Prim.Native.Nat.{ℕ, zero, suc, ◌≤◌, ◌<◌}
use native.Mathlib.Decide.{ℕ_discrete, dec_lt, dec_le, map_dec}
use native.Mathlib.Omega.{arith}
use lib.ListN.{length, take, drop, length-append, length-take, length-drop}
use Rattle.ground.proofs.LeastLaws.{not_le→lt, any_dec}
use Rattle.ground.proofs.Pigeonhole.{pigeonhole}
use Rattle.tables.specs.Tables.{During, EdgeRow}
use Rattle.history.specs.Faults.{Into, Present, Chain, Cycle}
use Rattle.history.specs.Sound.{Touched}
use Rattle.history.specs.Places.{NodesBelow}

module _ (m : ℕ) (E : ℕ → EdgeRow) (t : ℕ) where
  -- chains are joined at a node
  pub join : (a b c : ℕ) (is js : List ℕ) → Chain m E t b c is → Chain m E t a b js → Chain m E t a c (is ++ js)
  join a b c [] js p q = subst (λ (x : ℕ). Chain m E t a x js) p q
  join a b c (i ∷ is) js p q = (p.0, join a b (E i).parent is js p.1 q)

  -- a chain's end as another number
  pub to_node : (a b c : ℕ) (is : List ℕ) → b ≡ c → Chain m E t a b is → Chain m E t a c is
  to_node a b c is e p = subst (λ (x : ℕ). Chain m E t a x is) e p

  pub into_node : (n k i : ℕ) → n ≡ k → Into m E t n i → Into m E t k i
  into_node n k i e p = record { row = p.row; into = p.into ∙ e; force = p.force }

  pub parent_touched : (n i : ℕ) → Into m E t n i → Touched m E t (E i).parent
  parent_touched n i p = inr (i, record { row = p.row; out = refl; force = p.force })

  pub into_dec : (n : ℕ) → Dec ((i : ℕ) × Into m E t n i)
  into_dec n =
      map_dec (λ s. (s.0, record { row = s.1; into = s.2.0; force = s.2.1 }))
      (λ s. (s.0, s.1.row, (s.1.into, s.1.force)))
      (any_dec (λ i. ((E i).child ≡ n) × During (E i).from (E i).to t)
      (λ i. Dec.and (ℕ_discrete (E i).child n) (Dec.and (dec_le (E i).from t) (dec_le t (E i).to))) m)

  -- the k-th node of a chain, counted from its end; past its start, the start
  node : ℕ → List ℕ → ℕ → ℕ
  node n [] k = n
  node n (i ∷ is) zero = n
  node n (i ∷ is) (suc k) = node (E i).parent is k

  part : (a n : ℕ) (is : List ℕ) (k : ℕ) → Chain m E t a n is → Chain m E t (node n is k) n (take k is)
  unfolding node
  part a n [] zero p = refl
  part a n [] (suc k) p = refl
  part a n (i ∷ is) zero p = refl
  part a n (i ∷ is) (suc k) p = (p.0, part a (E i).parent is k p.1)

  -- the stretch between the nodes i and j of a chain is a chain of one row or more
  stretch : (a n : ℕ) (is : List ℕ) (i j : ℕ) → i < j → j ≤ length is → Chain m E t a n is
      → (r : ℕ) × (rs : List ℕ) × Chain m E t (node n is j) (node n is i) (r ∷ rs)
  unfolding node
  stretch a n [] i j h l p = absurd (omega arith)
  stretch a n (r ∷ rs) zero zero h l p = absurd (omega arith)
  stretch a n (r ∷ rs) zero (suc j) h l p = (r, take j rs, (p.0, part a (E r).parent rs j p.1))
  stretch a n (r ∷ rs) (suc i) zero h l p = absurd (omega arith)
  stretch a n (r ∷ rs) (suc i) (suc j) h l p = stretch a (E r).parent rs i j (omega arith) (omega arith) p.1

  module _ (N : ℕ) (b : NodesBelow m E N) where
    node_below : (a n : ℕ) (is : List ℕ) (k : ℕ) → n < N → Chain m E t a n is → node n is k < N
    unfolding node
    node_below a n [] k h p = h
    node_below a n (i ∷ is) zero h p = h
    node_below a n (i ∷ is) (suc k) h p = node_below a (E i).parent is k (b i p.0.row).0 p.1

    -- a chain of N rows or more goes round
    long_cycle : (a n : ℕ) (is : List ℕ) → n < N → N ≤ length is → Chain m E t a n is → (c : ℕ) × Cycle m E t c
    long_cycle a n is h l p =
        let (i, j, ij, jN, e) = pigeonhole N (node n is) (λ k _. node_below a n is k h p) in
        let (r, rs, q) = stretch a n is i j ij (omega arith) p in
        (node n is j, (r, rs, to_node (node n is j) (node n is i) (node n is j) (r ∷ rs) e q))

    -- so where none goes round, each has fewer than N rows
    pub few_rows : ((c : ℕ) → Cycle m E t c → ⊥) → (a n : ℕ) (is : List ℕ) → n < N → Chain m E t a n is
        → length is < N
    few_rows cyc a n is h p = not_le→lt (λ l. let (c, y) = long_cycle a n is h l p in cyc c y)

  -- what is left of a chain above its k-th node
  rest : (a n : ℕ) (is : List ℕ) (k : ℕ) → Chain m E t a n is → Chain m E t a (node n is k) (drop k is)
  unfolding node
  rest a n [] zero p = p
  rest a n [] (suc k) p = p
  rest a n (i ∷ is) zero p = p
  rest a n (i ∷ is) (suc k) p = rest a (E i).parent is k p.1

  -- a chain can be cut to fewer than N rows
  module _ (N : ℕ) (b : NodesBelow m E N) where
    cut : (a n : ℕ) (is : List ℕ) → n < N → N ≤ length is → Chain m E t a n is
        → (js : List ℕ) × (length js < length is) × Chain m E t a n js
    cut a n is h l p =
        let (i, j, ij, jN, e) = pigeonhole N (node n is) (λ k _. node_below N b a n is k h p) in (
          take i is ++ drop j is,
          simp (length-append, length-take, length-drop) (omega arith),
          join a (node n is i) n (take i is) (drop j is) (part a n is i p)
              (to_node a (node n is j) (node n is i) (drop j is) (sym e) (rest a n is j p)),
        )

    -- a chain of fewer than N rows from a to n
    Short : ℕ → ℕ → Type 0
    Short a n = (js : List ℕ) × (length js < N) × Chain m E t a n js

    by_length : (k a n : ℕ) (is : List ℕ) → n < N → length is ≤ k → Chain m E t a n is → Short a n
    unfolding Short
    by_length zero a n is h l p = (is, omega arith, p)
    by_length (suc k) a n is h l p = go (dec_lt (length is) N) (by_length k a n)
      where
        go : Dec (length is < N) → ((js : List ℕ) → n < N → length js ≤ k → Chain m E t a n js → Short a n) → Short a n
        go (yes g) f = (is, g, p)
        go (no g) f =
            let (js, s, q) = cut a n is h (omega arith) p in
            f js h (omega arith) q

    pub shorten : (a n : ℕ) (is : List ℕ) → n < N → Chain m E t a n is
        → (js : List ℕ) × (length js < N) × Chain m E t a n js
    unfolding Short
    shorten a n is h p = by_length (length is) a n is h (omega arith) p

  -- [01:Instants and tables] "A parent equal to its child breaks no row rule; it is a cycle."
  pub own_parent : (n i : ℕ) → Into m E t n i → (E i).parent ≡ n → Cycle m E t n
  own_parent n i p e = (i, [], (p, sym e))

  -- [01:Instants and tables] "a node with no containment row is allowed and is never present" (node 0 is the root)
  pub never_present : (start n : ℕ) → n ≢ 0 → ((i : ℕ) → i < m → (E i).child ≢ n) → Present m E t start n → ⊥
  never_present start n ne none = ⊎_elim (λ p. ne p.0) (λ p. none p.1.0 p.1.1.row p.1.1.into)
