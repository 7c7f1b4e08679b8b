-- The rows that the words allow are one list, and the walk of a history without a fault but GAP gives it.
-- Assumes nothing.
use mathlib.Core.Path.{◌≡◌, refl, ap, ap₂}
use mathlib.Core.List.{List, [], ◌∷◌, ◌++◌, append_assoc, append-nil}
use Prim.Native.Nat.{ℕ, zero, suc, ◌+◌, ◌≤◌, ◌<◌}
use native.Mathlib.Decide.{ℕ_discrete}
use native.Mathlib.Numerals.{add-one}
use native.Mathlib.Omega.{arith}
use lib.ListN.{length}
use borrow.Author.Tests.{lt-ltb, le-ltb}
use Rattle.ground.specs.Least.{Before, Smallest}
use Rattle.ground.specs.Searches.{least}
use Rattle.ground.proofs.TestLaws.{by_test, by_lt, tells_fail}
use Rattle.ground.proofs.LeastLaws.{least_unique, least_tells, least_found, least_none, least_same}
use Rattle.tables.specs.Tables.{no_node}
use Rattle.history.specs.Faults.{History, Chain, RefersFrom}
use Rattle.history.specs.Ruled.{Ruled}
use Rattle.history.specs.Computed.{refers_from}
use Rattle.history.proofs.Chains.{few_rows}
use Rattle.history.proofs.ComputedLaws.{refers_from_tells}
use Rattle.history.proofs.RuledLaws.{ruled_below}
use Rattle.history.proofs.Tree.{Tree}
use Rattle.snapshot.specs.Snapshot.{ShownRow, IsChild, Referent, target, no_target, ChildFrom}
use Rattle.snapshot.specs.Snapshot.{Subtree, row, Children, no_more, next, ShownRows}
use Rattle.snapshot.specs.Walk.{each, subtree}
use Rattle.snapshot.specs.Says.{below, value_at, referent_at, is_child, children_of, shown_rows}
use Rattle.snapshot.proofs.WalkLaws.{each_append}
use Rattle.snapshot.proofs.ChildLaws.{child_tells, child_below}

module _ (H : History) (t : ℕ) where
  -- one list
  pub referent_unique : {n r s : ℕ} → Referent H t n r → Referent H t n s → r ≡ s
  referent_unique (target x) (target y) = ap (λ k. (H.ref k).target) (least_unique _ x.0 y.0)
  referent_unique (target {k = k} x) (no_target f) = absurd (f k x.1 (x.0.here x.1))
  referent_unique (no_target f) (target {k = k} y) = absurd (f k y.1 (y.0.here y.1))
  referent_unique (no_target f) (no_target g) = refl

  abbrev OnlySubtree : ℕ → ℕ → List ShownRow → Type 0
  OnlySubtree p n xs = (ys : List ShownRow) → Subtree H t p n ys → xs ≡ ys

  abbrev OnlyChildren : ℕ → ℕ → List ShownRow → Type 0
  OnlyChildren n c xs = (ys : List ShownRow) → Children H t n c ys → xs ≡ ys

  row_only : {p n r : ℕ} {xs ys : List ShownRow} → Referent H t n r → OnlyChildren n 0 xs → Subtree H t p n ys
      → record { node = n; parent = p; referent = r } ∷ xs ≡ ys
  row_only {p} {n} r same (row s cs) =
      ap₂ (λ v l. record { node = n; parent = p; referent = v } ∷ l) (referent_unique r s) (same _ cs)

  no_more_only : {n c : ℕ} {ys : List ShownRow} → Before (ChildFrom H t n c) H.nodes → Children H t n c ys → [] ≡ ys
  no_more_only f (no_more g) = refl
  no_more_only f (next {k = k} s x cs) = absurd (f k s.1 (s.0.here s.1))

  next_only : {n c k : ℕ} {xs ys zs : List ShownRow} → Smallest (ChildFrom H t n c) H.nodes k → OnlySubtree n k xs
      → OnlyChildren n (k + 1) ys → Children H t n c zs → xs ++ ys ≡ zs
  next_only {k = k} s this rest (no_more f) = absurd (f k s.1 (s.0.here s.1))
  next_only s this rest (next {xs = vs} {ys = ws} u x cs) =
      let e = least_unique _ s.0 u.0 in
      ap₂ ◌++◌ (this vs (rw e x)) (rest ws (rw e cs))

  pub subtree_unique : {p n : ℕ} {xs ys : List ShownRow} → Subtree H t p n xs → Subtree H t p n ys → xs ≡ ys
  subtree_unique x =
      elim x as (λ p n xs x. OnlySubtree p n xs) (λ n c xs x. OnlyChildren n c xs) [
        | row r (cs → same) ↦ λ ys. row_only r same
        | no_more f ↦ λ ys. no_more_only f
        | next s (x → this) (cs → rest) ↦ λ ys. next_only s this rest
      ] _

  -- the computed referent
  pub referent_shown : (n : ℕ) → Referent H t n (referent_at H.refs H.ref t n)
  unfolding value_at
  referent_shown n =
      let k = least (refers_from H.ref t n) H.refs in
      let l = least_tells _ (RefersFrom H.ref t n) H.refs (λ i h. refers_from_tells H.ref t n i) in
      by_lt k H.refs (λ h. rw (lt-ltb k H.refs h) (target (l, h)))
      (λ h. rw (le-ltb k H.refs h) (no_target (least_none (RefersFrom H.ref t n) l h)))

  -- the children from c on are c, where it is one, and those after c
  later : {n c : ℕ} → (IsChild H t n c → ⊥) → (k : ℕ) → ChildFrom H t n c k → ChildFrom H t n (suc c) k
  later {n} {c} f k (h, x) = go (ℕ_discrete c k)
    where
      go : Dec (c ≡ k) → ChildFrom H t n (suc c) k
      go (yes e) = absurd (f (rw e x))
      go (no d) = (omega arith, x)

  sooner : {n c : ℕ} (k : ℕ) → ChildFrom H t n (suc c) k → ChildFrom H t n c k
  sooner k (h, x) = (omega arith, x)

  skip_child : {n c : ℕ} {xs : List ShownRow} → (IsChild H t n c → ⊥) → Children H t n (suc c) xs → Children H t n c xs
  skip_child f (no_more g) = no_more (λ k h x. g k h (later f k x))
  skip_child f (next (l, h) x cs) = next (least_same (λ k g. sooner k) (λ k g. later f k) l, h) x cs

  take_child : {n c : ℕ} {xs ys : List ShownRow} → c < H.nodes → IsChild H t n c → Subtree H t n c xs
      → Children H t n (suc c) ys → Children H t n c (xs ++ ys)
  take_child {n} {c} {ys = ys} h x s cs =
      next {ys = ys} (least_found (ChildFrom H t n c) h (λ i g y. omega arith) (omega arith, x), h) s (rw add-one cs)

  module _ (n : ℕ) (f : ℕ → List ShownRow) (trees : (c : ℕ) → IsChild H t n c → Subtree H t n c (f c)) where
    below_children : (k : ℕ) → k ≤ H.nodes → {ys : List ShownRow} → Children H t n k ys
        → Children H t n 0 (each f (below (is_child H t n) k) ++ ys)
    unfolding below each
    below_children zero h cs = cs
    below_children (suc k) h cs =
        by_test (is_child H t n k)
        (λ e.
        let x = (child_tells H t n k).0 e in
        rw (e, each_append, append-nil, append_assoc) (below_children k (omega arith) (take_child h x (trees k x) cs)))
        (λ e. rw (e, append-nil) (below_children k (omega arith) (skip_child (tells_fail (child_tells H t n k) e) cs)))

    none_after : Children H t n H.nodes []
    none_after = no_more {n = n} {c = H.nodes} (λ k h x. omega arith)

    all_children : Children H t n 0 (each f (children_of H t n))
    all_children = rw append-nil at (below_children H.nodes (omega arith) none_after)

  module _ (ruled : Ruled H) (tree : Tree H.edges H.edge t) where
    -- [02:Ask 8] "A snapshot is a tree of at most 1,024 nodes, so no chain can pass 1,023 rows." So a walk that may go
    -- as many levels down as there are nodes leaves out none
    pub chain_short : (a n : ℕ) (is : List ℕ) → Chain H.edges H.edge t a n is
        → (length is < H.nodes) × (length is ≤ 1023)
    chain_short a n [] c = (ruled.root, omega arith)
    chain_short a n (i ∷ is) (p, c) =
        let below = child_below H t ruled (H.edge i).parent n (i, p, refl) in
        let few = few_rows _ _ t H.nodes (ruled_below H ruled) tree.no_cycle a n (i ∷ is) below (p, c) in
        (few, omega (arith, ruled.few_nodes))

    subtree_shown : (l a n : ℕ) (is : List ℕ) (p : ℕ) → Chain H.edges H.edge t a n is
        → H.nodes ≤ length is + l
        → Subtree H t p n (subtree (referent_at H.refs H.ref t) (children_of H t) l p n)
    unfolding subtree
    subtree_shown zero a n is p c g = absurd (omega (arith, (chain_short a n is c).0))
    subtree_shown (suc l) a n is p c g =
        row (referent_shown n) (all_children n _ (λ k (i, q, e).
        subtree_shown l a k (i ∷ is) n (q, rw e c) (omega arith)))

    pub rows_shown : ShownRows H t (shown_rows H t)
    rows_shown = subtree_shown H.nodes 0 0 [] no_node refl (omega arith)
