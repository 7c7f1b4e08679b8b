-- Walking up by the slots: a walk that has left the nodes stays away, and one that comes back does so within n steps.
-- Assumes nothing.
use mathlib.Core.Path.{◌≡◌, refl, sym, ap, ◌∙◌, subst}
use mathlib.Core.Bool.{true, false, true≢false, false≢true}
use mathlib.Core.List.{List}
use Prim.Native.Nat.{ℕ, zero, suc, ◌+◌, ◌-◌, ◌≤◌, ◌<◌}
use native.Mathlib.Nat.{zero-add, suc-add}
use native.Mathlib.Decide.{dec_le}
use native.Mathlib.Omega.{arith}
use lib.ListN.{get_or}
use borrow.Author.Count.{below_more}
use borrow.Author.Tests.{lt-ltb, le-ltb}
use Rattle.ground.proofs.Pigeonhole.{pigeonhole}
use Rattle.tables.specs.Tables.{no_node}
use Rattle.faults.specs.Walks.{above, climb, Back, Means}
use Rattle.faults.specs.Marks.{RunsOut}

pub means_true : {P Q : Type 0} → P → Means true P Q
means_true p = record { passed = λ e. p; failed = λ e. absurd (true≢false e) }

pub means_false : {P Q : Type 0} → Q → Means false P Q
means_false q = record { passed = λ e. absurd (false≢true e); failed = λ e. q }

module _ (up : List ℕ) (n : ℕ) where
  pub above_in : (b : ℕ) → b < n → above up n b ≡ get_or up b 0
  unfolding above
  above_in b l = simp (lt-ltb b n l)

  pub above_out : (b : ℕ) → n ≤ b → above up n b ≡ no_node
  unfolding above
  above_out b l = simp (le-ltb b n l)

  pub climb_none : (b : ℕ) → climb up n 0 b ≡ b
  unfolding climb
  climb_none b = refl

  pub climb_suc : (k b : ℕ) → climb up n (suc k) b ≡ climb up n k (above up n b)
  unfolding climb
  climb_suc k b = refl

  pub climb_add : (j k b : ℕ) → climb up n (j + k) b ≡ climb up n k (climb up n j b)
  unfolding climb
  climb_add zero k b = rw zero-add
  climb_add (suc j) k b = rw suc-add (climb_add j k (above up n b))

  pub climb_one : (b : ℕ) → climb up n 1 b ≡ above up n b
  unfolding climb
  climb_one b = refl

  -- the last step taken apart
  pub climb_next : (k b : ℕ) → climb up n (suc k) b ≡ above up n (climb up n k b)
  climb_next k b = ap (λ x. climb up n x b) e ∙ climb_add k 1 b ∙ climb_one (climb up n k b)
    where
      e : suc k ≡ k + 1
      e = omega arith

  module _ (few : n ≤ no_node) where
    climb_out : (k b : ℕ) → n ≤ b → n ≤ climb up n k b
    unfolding climb
    climb_out zero b l = l
    climb_out (suc k) b l = climb_out k (above up n b) (rw (above_out b l) few)

    -- a walk that has left the nodes stays away
    pub climb_stays : (j k b : ℕ) → j ≤ k → n ≤ climb up n j b → n ≤ climb up n k b
    climb_stays j k b l o =
        subst (λ x. n ≤ climb up n x b) e (rw (climb_add j (k - j) b) (climb_out (k - j) (climb up n j b) o))
      where
        e : j + (k - j) ≡ k
        e = omega arith

    -- a walk that comes back in more than n steps passes a node twice: the way between is cut out
    module _ (c : ℕ) (l : c < n) where
      inside : (k : ℕ) → climb up n (suc k) c ≡ c → n ≤ k → (i : ℕ) → i ≤ n → climb up n i c < n
      inside k e lo i li = go (dec_le n (climb up n i c))
        where
          go : Dec (n ≤ climb up n i c) → climb up n i c < n
          go (yes o) = absurd (omega (arith, climb_stays i (suc k) c (omega arith) o))
          go (no o) = omega arith

      shorter : (k : ℕ) → climb up n (suc k) c ≡ c → n ≤ k → (j : ℕ) × (j < k) × (climb up n (suc j) c ≡ c)
      shorter k e lo =
          let (a, b, ab, bn, q) = pigeonhole n (λ i. climb up n i c) (inside k e lo) in
          let rest : ℕ = suc k - b in
          let p : suc (k - (b - a)) ≡ a + rest = omega arith in
          let r : b + rest ≡ suc k = omega arith in (
            k - (b - a),
            omega arith,
            ap (λ x. climb up n x c) p ∙ climb_add a rest c ∙ ap (climb up n rest) q ∙ sym
                (climb_add b rest c) ∙ ap (λ x. climb up n x c) r ∙ e,
          )

      within : (fuel k : ℕ) → k < fuel → climb up n (suc k) c ≡ c → (j : ℕ) × (j < n) × (climb up n (suc j) c ≡ c)
      within zero k lk e = absurd (omega arith)
      within (suc fuel) k lk e = go (dec_le n k) (within fuel)
        where
          go : Dec (n ≤ k)
              → ((j : ℕ) → j < fuel → climb up n (suc j) c ≡ c → (i : ℕ) × (i < n) × (climb up n (suc i) c ≡ c))
              → (j : ℕ) × (j < n) × (climb up n (suc j) c ≡ c)
          go (no o) ih = (k, omega arith, e)
          go (yes lo) ih = let (j, h, q) = shorter k e lo in ih j (omega arith) q

      back_soon : Back up n c → (j : ℕ) × (j < n) × (climb up n (suc j) c ≡ c)
      back_soon (k, e) = within (suc k) k (omega arith) e

      far : Back up n c → (d : ℕ) → (e : ℕ) × (d ≤ e) × (climb up n e c ≡ c)
      far b zero = (0, omega arith, climb_none c)
      far b (suc d) =
          let (e, h, q) = far b d in
          (e + suc b.0, omega arith, climb_add e (suc b.0) c ∙ ap (climb up n (suc b.0)) q ∙ b.1)

      -- a node whose walk leaves the nodes does not come back
      pub ends_no_back : RunsOut up n c → Back up n c → ⊥
      ends_no_back (d, o) b = let (e, h, q) = far b d in omega (arith, climb_stays d e c h o)

  -- within the loop that walks up from c: it has come to x in k + 1 steps, and was not at c before
  pub record Climbing (c x k : ℕ) : Type 0 where
    pub within : k ≤ n
    pub at : x ≡ climb up n (suc k) c
    pub never : (j : ℕ) → j < k → climb up n (suc j) c ≡ c → ⊥

  pub climbing_starts : {c : ℕ} → c < n → Climbing c (get_or up c 0) 0
  climbing_starts {c} l =
      record { within = omega arith; at = sym (climb_one c ∙ above_in c l); never = λ j h. absurd (omega arith) }

  module _ {c x k : ℕ} (w : Climbing c x k) where
    pub climbing_on : k < n → x < n → (x ≡ c → ⊥) → Climbing c (get_or up x 0) (k + 1)
    climbing_on h l ne =
        let q : suc (suc k) ≡ suc (k + 1) = omega arith in
        record {
          within = omega arith;
          at = sym (above_in x l) ∙ ap (above up n) w.at ∙ sym (climb_next (suc k) c) ∙ ap (λ y. climb up n y c) q;
          never = below_more _ _ w.never (λ e. ne (w.at ∙ e));
        }

    module _ (few : n ≤ no_node) (l : c < n) where
      -- it has left the nodes, or it is n steps long
      pub climbing_left : n ≤ x → Back up n c → ⊥
      climbing_left o (j, e) = go (dec_le k j)
        where
          go : Dec (k ≤ j) → ⊥
          go (yes g) = omega (arith, climb_stays few (suc k) (suc j) c (omega arith) (rw w.at at o))
          go (no g) = w.never j (omega arith) e

      pub climbing_ends : n ≤ k → Back up n c → ⊥
      climbing_ends g b = let (j, h, e) = back_soon few c l b in w.never j (omega arith) e
