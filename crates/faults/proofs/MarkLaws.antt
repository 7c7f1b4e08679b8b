-- The marks of a walk up: at its start, after a step, at its end. Assumes nothing.
use mathlib.Core.Path.{◌≡◌, sym, ap, ◌∙◌}
use mathlib.Core.Logic.{◌⊎◌, inl, inr}
use mathlib.Core.List.{List, [], ◌∷◌}
use Prim.Native.Nat.{ℕ, zero, suc, ◌+◌, ◌≤◌, ◌<◌}
use native.Mathlib.Decide.{ℕ_discrete}
use native.Mathlib.Omega.{arith}
use lib.ListN.{length, get_or, set, replicate, get_or-replicate, length-replicate, length-set}
use lib.Seq.{get_or-set_same, get_or-set_other}
use Rattle.tables.specs.Tables.{no_node}
use Rattle.tables.specs.Rules.{most_nodes}
use Rattle.faults.specs.Walks.{above, climb}
use Rattle.faults.specs.Marks.{RunsOut, NoBack, Done, MarksStay, Marked}
use Rattle.faults.proofs.WalkLaws.{above_in, climb_add, climb_one, climb_next, ends_no_back}

-- how many elements are 0: it falls with each mark
unfoldable pub zeros : List ℕ → ℕ
zeros [] = 0
zeros (zero ∷ xs) = suc (zeros xs)
zeros (suc x ∷ xs) = zeros xs

pub zeros_set : (l : List ℕ) (i v : ℕ) → i < length l → get_or l i 0 ≡ 0 → 0 < v → zeros (set l i v) < zeros l
unfolding zeros
zeros_set [] i v l e p = absurd (omega arith)
zeros_set (zero ∷ xs) zero zero l e p = absurd (omega arith)
zeros_set (zero ∷ xs) zero (suc v) l e p = omega arith
zeros_set (suc x ∷ xs) zero v l e p = absurd (omega arith)
zeros_set (zero ∷ xs) (suc i) v l e p = omega (arith, zeros_set xs i v (omega arith) e p)
zeros_set (suc x ∷ xs) (suc i) v l e p = zeros_set xs i v (omega arith) e p

module _ (up : List ℕ) (n : ℕ) where
  -- the walk up from k comes to x in one step or more
  abbrev Reaches : ℕ → ℕ → Type 0
  Reaches k x = (d : ℕ) × (climb up n (suc d) k ≡ x)

  reaches_one : (k : ℕ) → Reaches k (above up n k)
  reaches_one k = (0, climb_one up n k)

  reaches_next : (k x : ℕ) → Reaches k x → Reaches k (above up n x)
  reaches_next k x (d, e) = (suc d, climb_next up n (suc d) k ∙ ap (above up n) e)

  reaches_ends : (k x : ℕ) → Reaches k x → RunsOut up n x → RunsOut up n k
  reaches_ends k x (d, e) (f, o) = (suc d + f, rw (climb_add up n (suc d) f k, e) o)

  -- within a walk from start that has come to x. The marks of this walk are start + 1
  pub record Walking (start : ℕ) (old mark : List ℕ) (x : ℕ) : Type 0 where
    pub long : length mark ≡ length old
    pub others : (k : ℕ) → k < n → (get_or mark k 0 ≡ 0 → ⊥) → (get_or mark k 0 ≡ start + 1 → ⊥)
        → RunsOut up n k × (get_or mark k 0 ≤ start)
    pub ours : (k : ℕ) → k < n → get_or mark k 0 ≡ start + 1 → Reaches k x
    pub kept : MarksStay up n old mark
    pub from : (x ≡ start) ⊎ (get_or mark start 0 ≡ 0 → ⊥)

  -- the loop holds the walk's mark in stamp
  pub record Stamping (start stamp : ℕ) (old mark : List ℕ) (x : ℕ) : Type 0 where
    pub stamped : stamp ≡ start + 1
    pub walking : Walking start old mark x

  module _ {start : ℕ} {old : List ℕ} where
    -- x is not marked: it is marked, and the walk goes on above it
    module _ {mark : List ℕ} {x : ℕ} (w : Walking start old mark x) (lx : x < n) (lm : n ≤ length mark) where
      same : get_or (set mark x (start + 1)) x 0 ≡ start + 1
      same = get_or-set_same mark x (start + 1) 0 (omega arith)

      at_x : (k : ℕ) → k ≡ x → get_or (set mark x (start + 1)) k 0 ≡ start + 1
      at_x k e = ap (λ y. get_or (set mark x (start + 1)) y 0) e ∙ same

      other : (k : ℕ) → (k ≡ x → ⊥) → get_or (set mark x (start + 1)) k 0 ≡ get_or mark k 0
      other k ne = get_or-set_other mark x k (start + 1) 0 ne

      steps_others : (k : ℕ) → k < n → (get_or (set mark x (start + 1)) k 0 ≡ 0 → ⊥)
          → (get_or (set mark x (start + 1)) k 0 ≡ start + 1 → ⊥) → Dec (k ≡ x)
          → RunsOut up n k × (get_or (set mark x (start + 1)) k 0 ≤ start)
      steps_others k l z o (yes e) = absurd (o (at_x k e))
      steps_others k l z o (no e) =
          let (a, b) = w.others k l (λ q. z (other k e ∙ q)) (λ q. o (other k e ∙ q)) in
          (a, omega (arith, other k e))

      steps_ours : (k : ℕ) → k < n → get_or (set mark x (start + 1)) k 0 ≡ start + 1 → Dec (k ≡ x)
          → Reaches k (above up n x)
      steps_ours k l q (yes e) = rw (← e) (reaches_one k)
      steps_ours k l q (no e) = reaches_next k x (w.ours k l (sym (other k e) ∙ q))

      steps_kept : (k : ℕ) → k < n → (get_or old k 0 ≡ 0 → ⊥) → Dec (k ≡ x)
          → get_or (set mark x (start + 1)) k 0 ≡ 0 → ⊥
      steps_kept k l z (yes e) q = omega (arith, at_x k e)
      steps_kept k l z (no e) q = w.kept k l z (sym (other k e) ∙ q)

      steps_from : Dec (start ≡ x) → (x ≡ start) ⊎ (get_or mark start 0 ≡ 0 → ⊥)
          → get_or (set mark x (start + 1)) start 0 ≡ 0 → ⊥
      steps_from (yes e) f q = omega (arith, at_x start e)
      steps_from (no e) (inl g) q = e (sym g)
      steps_from (no e) (inr g) q = g (sym (other start e) ∙ q)

      pub walk_steps : Walking start old (set mark x (start + 1)) (get_or up x 0)
      walk_steps =
          rw (← above_in up n x lx)
          (record {
            long = length-set mark x (start + 1) ∙ w.long;
            others = λ k l z o. steps_others k l z o (ℕ_discrete k x);
            ours = λ k l e. steps_ours k l e (ℕ_discrete k x);
            kept = λ k l z. steps_kept k l z (ℕ_discrete k x);
            from = inr (steps_from (ℕ_discrete start x) w.from);
          })

    -- the walk has come to x, whose walk is known to end
    pub walk_ends : {mark : List ℕ} {x : ℕ} → Walking start old mark x → RunsOut up n x
        → (x ≡ start → get_or mark x 0 ≡ 0 → ⊥) → Marked up n start old mark
    walk_ends {mark} {x} w e f =
        record {
          done = λ k l z. all k l z (ℕ_discrete (get_or mark k 0)
              (start + 1));
          kept = w.kept;
          here = here w.from;
        }
      where
        all : (k : ℕ) → k < n → (get_or mark k 0 ≡ 0 → ⊥) → Dec (get_or mark k 0 ≡ start + 1)
            → RunsOut up n k × (get_or mark k 0 ≤ start + 1)
        all k l z (yes q) = (reaches_ends k x (w.ours k l q) e, omega arith)
        all k l z (no q) = let (a, b) = w.others k l z q in (a, omega arith)

        here : (x ≡ start) ⊎ (get_or mark start 0 ≡ 0 → ⊥) → get_or mark start 0 ≡ 0 → ⊥
        here (inl g) q = f g (ap (λ y. get_or mark y 0) g ∙ q)
        here (inr g) q = g q

  -- between two walks: those from the nodes below start have been made
  pub record Settling (start : ℕ) (mark : List ℕ) : Type 0 where
    pub within : start ≤ n
    pub long : length mark ≡ most_nodes
    pub done : Done up n start mark
    pub marked : (k : ℕ) → k < start → get_or mark k 0 ≡ 0 → ⊥

  pub settling_starts : n ≤ most_nodes → Settling 0 (replicate most_nodes 0)
  settling_starts few =
      record {
        within = omega arith;
        long = length-replicate {A = ℕ} most_nodes 0;
        done = λ k l z. absurd (z (get_or-replicate most_nodes k 0 0 (omega arith)));
        marked = λ k l. absurd (omega arith);
      }

  module _ {start : ℕ} {old : List ℕ} (s : Settling start old) where
    pub settling_ends : n ≤ no_node → n ≤ start → NoBack up n
    settling_ends few h k l = ends_no_back up n few k l (s.done k l (s.marked k (omega arith))).0
