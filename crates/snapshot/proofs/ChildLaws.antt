-- A node's children by rising number are each of its children, once. Assumes nothing.
use mathlib.Core.Path.{◌≡◌, refl, sym, ◌∙◌}
use mathlib.Core.Logic.Iff
use mathlib.Core.Logic.{◌≢◌}
use mathlib.Core.Bool.{Bool, true, false, cond, ◌&&◌, and-false}
use mathlib.Core.List.{List, [], ◌∷◌, ◌++◌}
use Prim.Native.Nat.{ℕ, zero, suc, ◌+◌, ◌<◌}
use native.Mathlib.Decide.{ℕ_discrete}
use native.Mathlib.Omega.{arith}
use lib.Dec.{eqb}
use borrow.Author.Tests.{eq-eqb, ne_eqb}
use Rattle.ground.specs.Tests.{Tells}
use Rattle.ground.specs.Sums.{sum, bit}
use Rattle.ground.specs.Among.{All}
use Rattle.ground.proofs.TestLaws.{by_test, tells_and, tells_eq}
use Rattle.ground.proofs.LeastLaws.{any_tells}
use Rattle.ground.proofs.SumLaws.{sum_zero, sum_one}
use Rattle.history.specs.Faults.{History}
use Rattle.history.specs.Ruled.{Ruled}
use Rattle.history.specs.Places.{Leads}
use Rattle.history.proofs.ComputedLaws.{leads_tells, leads_into, into_leads}
use Rattle.history.proofs.RuledLaws.{ruled_below}
use Rattle.snapshot.specs.Snapshot.{IsChild}
use Rattle.snapshot.specs.Says.{below, is_child, children_of}
use Rattle.snapshot.specs.Counts.{occurs}
use Rattle.snapshot.proofs.CountLaws.{all_append}

-- two tests that tell the same are equal
pub tells_same : (a b : Bool) {P : Type 0} → Tells a P → Tells b P → a ≡ b
tells_same true b e f = sym (f.1 (e.0 refl))
tells_same false true e f = e.1 (f.0 refl)
tells_same false false e f = refl

occurs_append : (x : ℕ) (xs ys : List ℕ) → occurs x (xs ++ ys) ≡ occurs x xs + occurs x ys
unfolding occurs
occurs_append x [] ys = omega arith
occurs_append x (z ∷ zs) ys = omega (arith, occurs_append x zs ys)

occurs_if : (b : Bool) (x k : ℕ) → occurs x (cond b (k ∷ []) []) ≡ bit (b && eqb k x)
unfolding occurs
occurs_if true x k = omega arith
occurs_if false x k = refl

module _ (p : ℕ → Bool) where
  occurs_below : (x k : ℕ) → occurs x (below p k) ≡ sum (λ i. bit (p i && eqb i x)) k
  unfolding occurs below sum
  occurs_below x zero = refl
  occurs_below x (suc k) = rw occurs_append (omega (arith, occurs_below x k, occurs_if (p k) x k))

  -- another number is not counted, and x is where it passes
  other : (x i : ℕ) → i ≢ x → bit (p i && eqb i x) ≡ 0
  other x i d = rw (ne_eqb i x d, and-false (p i))

  below_occurs : (x k : ℕ) → (p x ≡ true → x < k) → occurs x (below p k) ≡ bit (p x)
  below_occurs x k inside =
      occurs_below x k
      ∙ by_test (p x) (λ e. sum_one _ k x (inside e) (λ i g. other x i) ∙ rw (e, eq-eqb x x refl)) (λ e.
      sum_zero _ k (λ i g. fails e i (ℕ_discrete i x)) ∙ rw e)
    where
      fails : p x ≡ false → (i : ℕ) → Dec (i ≡ x) → bit (p i && eqb i x) ≡ 0
      fails e i (yes q) = rw (q, e)
      fails e i (no d) = other x i d

  pub below_all : (P : ℕ → Type 0) (k : ℕ) → ((c : ℕ) → c < k → p c ≡ true → P c) → All P (below p k)
  unfolding below
  below_all P zero f = tt
  below_all P (suc k) f =
      all_append P (below p k) (cond (p k) (k ∷ []) []) (below_all P k (λ c h. f c (omega arith)))
      (by_test (p k) (λ e. rw e (f k (omega arith) e, tt)) (λ e. rw e tt))

pub below_ext : (p q : ℕ → Bool) (k : ℕ) → ((c : ℕ) → c < k → p c ≡ q c) → below p k ≡ below q k
unfolding below
below_ext p q zero h = refl
below_ext p q (suc k) h = rw (below_ext p q k (λ c g. h c (omega arith)), h k (omega arith))

module _ (H : History) (t : ℕ) where
  pub child_tells : (p c : ℕ) → Tells (is_child H t p c) (IsChild H t p c)
  unfolding is_child
  child_tells p c =
      Iff.trans
      (any_tells _ (λ i. ((H.edge i).parent ≡ p) × Leads H.edge t c i)
      (λ i. tells_and _ _ (tells_eq (H.edge i).parent p) (leads_tells H.edges H.edge t c i)) H.edges) (
        λ (i, h, (q, l)). (i, leads_into H.edges H.edge t c i h l, q),
        λ (i, x, q). (i, x.row, (q, into_leads H.edges H.edge t c i x)),
      )

  pub child_below : Ruled H → (p c : ℕ) → IsChild H t p c → c < H.nodes
  child_below r p c (i, x, _) = omega (arith, (ruled_below H r i x.row).1, x.into)

  pub child_occurs : Ruled H → (p c : ℕ) → occurs c (children_of H t p) ≡ bit (is_child H t p c)
  child_occurs r p c = below_occurs (is_child H t p) c H.nodes (λ e. child_below r p c ((child_tells p c).0 e))

  pub children_all : (p : ℕ) (P : ℕ → Type 0) → ((c : ℕ) → IsChild H t p c → P c) → All P (children_of H t p)
  children_all p P f = below_all (is_child H t p) P H.nodes (λ c h e. f c ((child_tells p c).0 e))
