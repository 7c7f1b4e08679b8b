-- Laws of the links: a run of run, and that the links of all nodes give each node's children, rising.
-- Assumes nothing.
use mathlib.Core.Path.{◌≡◌, refl, sym, ap, ◌∙◌}
use mathlib.Core.Logic.{◌≢◌}
use mathlib.Core.Bool.{cond}
use mathlib.Core.List.{List, [], ◌∷◌, ◌++◌, append_assoc, append-nil}
use Prim.Native.Nat.{ℕ, zero, suc, ◌+◌, ◌-◌, ◌≤◌, ◌<◌}
use native.Mathlib.Decide.{ℕ_discrete}
use native.Mathlib.Omega.{arith}
use lib.Dec.{ltb, eqb}
use lib.ListN.{length, get_or, set, length-set}
use lib.Seq.{get_or-set_same, get_or-set_other}
use borrow.Author.Tests.{lt-ltb, le-ltb, ltb-true, ltb-false, eq-eqb, ne_eqb}
use Rattle.ground.proofs.TestLaws.{by_test}
use Rattle.tables.specs.Tables.{no_node}
use Rattle.snapshot.specs.Says.{below}
use Rattle.snapshot.specs.Lists.{Blank, Links, link_to, link_from, run, kids_of, Runs}

pub run_stop : (next : List ℕ) (count most c : ℕ) → count ≤ c → run next count most c ≡ []
unfolding run
run_stop next count zero c h = refl
run_stop next count (suc most) c h = rw (le-ltb c count h)

run_cons : (next : List ℕ) (count most c : ℕ) → c < count
    → run next count (suc most) c ≡ c ∷ run next count most (get_or next c 0)
unfolding run
run_cons next count most c h = rw (lt-ltb c count h)

-- where each next sibling is a larger number
module _ (count : ℕ) (next : List ℕ) (rising : (i : ℕ) → i < count → i < get_or next i 0) where
  -- any two numbers of steps that reach the end give the same run
  run_enough : (f g c : ℕ) → count ≤ f + c → count ≤ g + c → run next count f c ≡ run next count g c
  run_enough zero g c a b =
      run_stop next count zero c (omega arith) ∙ sym (run_stop next count g c (omega arith))
  run_enough (suc f) zero c a b =
      run_stop next count (suc f) c (omega arith) ∙ sym (run_stop next count zero c (omega arith))
  run_enough (suc f) (suc g) c a b =
      by_test (ltb c count)
      (λ e.
      let l = ltb-true c count e in
      let h = rising c l in
      run_cons next count f c l ∙ ap (λ r. c ∷ r) (run_enough f g (get_or next c 0) (omega arith) (omega arith))
      ∙ sym (run_cons next count g c l))
      (λ e.
      let h = ltb-false c count e in
      run_stop next count (suc f) c h ∙ sym (run_stop next count (suc g) c h))

  -- the first of a run, and the run after it
  run_step : (c : ℕ) → c < count → run next count count c ≡ c ∷ run next count count (get_or next c 0)
  run_step c l = run_enough count (suc count) c (omega arith) (omega arith) ∙ run_cons next count count c l

  -- a store before the run leaves it
  run_frame : (i v most c : ℕ) → i < c → run (set next i v) count most c ≡ run next count most c
  unfolding run
  run_frame i v zero c l = refl
  run_frame i v (suc most) c l =
      by_test (ltb c count)
      (λ e.
      let h = rising c (ltb-true c count e) in
      rw (e, get_or-set_other next i c v 0 (omega arith))
      (ap (λ r. c ∷ r) (run_frame i v most (get_or next c 0) (omega arith))))
      (λ e. rw e)

-- one turn: the node before c is linked, or its parent is no node
pub link_turn : (parents : List ℕ) (count c : ℕ) (l : Links) → 0 < c
    → link_from parents count c l
    ≡ link_from parents count (c - 1)
    (cond (ltb (get_or parents (c - 1) 0) count) (link_to (get_or parents (c - 1) 0) (c - 1) l) l)
unfolding link_from
link_turn parents count zero l h = absurd (omega arith)
link_turn parents count (suc c) l h = let q : suc c - 1 ≡ c = omega arith in rw q refl

-- the children of n before node c, by a list of parents
abbrev kids_to : List ℕ → ℕ → ℕ → List ℕ
kids_to parents c n = below (λ i. eqb (get_or parents i 0) n) c

-- the nodes from c on are linked
record Linking (parents : List ℕ) (l : Links) (count c : ℕ) : Type 0 where
  within : c ≤ count
  firsts : count ≤ length l.first
  nexts : count ≤ length l.next
  rising : (i : ℕ) → i < count → i < get_or l.next i 0
  heads : (n : ℕ) → n < count → c ≤ get_or l.first n 0
  shows : (n : ℕ) → n < count
      → kids_to parents count n ≡ kids_to parents c n ++ kids_of l.first l.next count n

module _ (parents : List ℕ) (count : ℕ) where
  link_start : (l : Links) → count < no_node → count ≤ length l.first → count ≤ length l.next → Blank l.first
      → Blank l.next
      → Linking parents l count count
  link_start l small f n bf bn =
      record {
        within = omega arith;
        firsts = f;
        nexts = n;
        rising = λ i h. rw (bn i (omega arith)) (omega arith);
        heads = λ i h. rw (bf i (omega arith)) (omega arith);
        shows = λ i h. rw (bf i (omega arith), run_stop l.next count count no_node (omega arith), append-nil);
      }

  module _ (c : ℕ) (l : Links) (k : Linking parents l count (suc c)) where
    -- a node whose parent is no node
    link_skip : count ≤ get_or parents c 0 → Linking parents l count c
    unfolding below
    link_skip h =
        record {
          within = omega (arith, k.within);
          firsts = k.firsts;
          nexts = k.nexts;
          rising = k.rising;
          heads = λ n g. omega (arith, k.heads n g);
          shows = λ n g. k.shows n g ∙ simp (ne_eqb (get_or parents c 0) n (omega arith), append-nil);
        }

    -- a node goes before its later siblings
    module _ (p : ℕ) (e : p ≡ get_or parents c 0) (lp : p < count) where
      abbrev first' : List ℕ
      first' = (link_to p c l).first

      abbrev next' : List ℕ
      next' = (link_to p c l).next

      first_at : get_or first' p 0 ≡ c
      first_at = get_or-set_same l.first p c 0 (omega (arith, k.firsts))

      next_at : get_or next' c 0 ≡ get_or l.first p 0
      next_at = get_or-set_same l.next c (get_or l.first p 0) 0 (omega (arith, k.within, k.nexts))

      risen : (i : ℕ) → i < count → i < get_or next' i 0
      risen i g = go (ℕ_discrete i c)
        where
          go : Dec (i ≡ c) → i < get_or next' i 0
          go (yes q) = rw (q, next_at) (k.heads p lp)
          go (no d) = rw (get_or-set_other l.next c i (get_or l.first p 0) 0 d) (k.rising i g)

      headed : (n : ℕ) → n < count → c ≤ get_or first' n 0
      headed n g = go (ℕ_discrete n p)
        where
          go : Dec (n ≡ p) → c ≤ get_or first' n 0
          go (yes q) = rw (q, first_at) (omega arith)
          go (no d) = rw (get_or-set_other l.first p n c 0 d) (omega (arith, k.heads n g))

      later : (n : ℕ) → n < count → run next' count count (get_or l.first n 0) ≡ kids_of l.first l.next count n
      later n g =
          run_frame count l.next k.rising c (get_or l.first p 0) count (get_or l.first n 0) (k.heads n g)

      abbrev Shows : ℕ → Type 0
      Shows n =
          kids_to parents (suc c) n ++ kids_of l.first l.next count n
          ≡ kids_to parents c n ++ kids_of first' next' count n

      -- the children of p, of which c is one, and those of another node
      shows_parent : Shows p
      unfolding below
      shows_parent =
          let head : run next' count count c ≡ c ∷ kids_of l.first l.next count p
          = run_step count next' risen c (omega (arith, k.within))
          ∙ ap (λ j. c ∷ run next' count count j) next_at
          ∙ ap (λ r. c ∷ r) (later p lp) in
          rw (eq-eqb (get_or parents c 0) p (sym e), first_at, head, append_assoc)

      shows_other : (n : ℕ) → n < count → n ≢ p → Shows n
      unfolding below
      shows_other n g d =
          let f : get_or parents c 0 ≢ n = λ x. d (sym x ∙ sym e) in
          rw (ne_eqb (get_or parents c 0) n f, append-nil, get_or-set_other l.first p n c 0 d, later n g)

      shows_all : (n : ℕ) → n < count → Shows n
      shows_all n g = go (ℕ_discrete n p)
        where
          go : Dec (n ≡ p) → Shows n
          go (yes q) = rw q shows_parent
          go (no d) = shows_other n g d

      link_put : Linking parents (link_to p c l) count c
      link_put =
          record {
            within = omega (arith, k.within);
            firsts = rw length-set k.firsts;
            nexts = rw length-set k.nexts;
            rising = risen;
            heads = headed;
            shows = λ n g. k.shows n g ∙ shows_all n g;
          }

    link_step : Linking parents (cond (ltb (get_or parents c 0) count) (link_to (get_or parents c 0) c l) l) count c
    link_step =
        by_test (ltb (get_or parents c 0) count)
        (λ e. rw e (link_put (get_or parents c 0) refl (ltb-true (get_or parents c 0) count e)))
        (λ e. rw e (link_skip (ltb-false (get_or parents c 0) count e)))

  link_all : (c : ℕ) (l : Links) → Linking parents l count c → Linking parents (link_from parents count c l) count 0
  unfolding link_from
  link_all zero l k = k
  link_all (suc c) l k = link_all c _ (link_step c l k)

  -- lists that hold no node, once all are linked: each node's children are there, rising
  module _ (l r : Links) (e : r ≡ link_from parents count count l) (small : count < no_node) where
    module _ (f : count ≤ length l.first) (n : count ≤ length l.next) (bf : Blank l.first)
        (bn : Blank l.next) where
      linked : Linking parents r count 0
      linked = rw e (link_all count l (link_start l small f n bf bn))

      pub link_runs : Runs r.first r.next count
      link_runs =
          record { firsts = linked.firsts; nexts = linked.nexts; goes = run_step count r.next linked.rising }

      pub link_shows : (x : ℕ) → x < count
          → kids_of r.first r.next count x ≡ kids_to parents count x
      unfolding below
      link_shows x h = sym (linked.shows x h)
