-- Tables whose ends were stored row after row: the laws of `with_ends`. Assumes nothing.
use mathlib.Core.Path.{◌≡◌, refl, sym, ap, ◌∙◌}
use mathlib.Core.List.{List}
use Prim.Native.Nat.{ℕ, zero, suc, ◌+◌, ◌≤◌, ◌<◌}
use native.Mathlib.Decide.{ℕ_discrete, dec_lt}
use native.Mathlib.Numerals.{add-one}
use native.Mathlib.Omega.{arith}
use lib.ListN.{length}
use Rattle.tables.specs.Tables.{EdgeRow, edge_at, with_end}
use Rattle.tables.specs.Rows.{HasEdges, set_end}
use Rattle.tables.proofs.RowLaws.{end_same, end_other, end_length, end_twice, end_comm}
use Rattle.repair.specs.Ends.{with_ends}
use Rattle.repair.specs.Repaired.{OnlyEnds}

-- a row whose end was stored differs in its end alone
end_own : (e d : EdgeRow) (v : ℕ) → d ≡ with_end e v → d ≡ with_end e d.to
end_own e d v q = q ∙ ap (λ (x : EdgeRow). with_end e x.to) (sym q)

module _ (es : List ℕ) (f : ℕ → ℕ) where
  pub ends_length : (k : ℕ) → length (with_ends es f k) ≡ length es
  unfolding with_ends
  ends_length zero = refl
  ends_length (suc k) = end_length (with_ends es f k) k (f k) ∙ ends_length k

  pub ends_more : (k : ℕ) → set_end (with_ends es f k) k (f k) ≡ with_ends es f (k + 1)
  unfolding with_ends
  ends_more k = rw add-one

  -- the rows that are not stored yet, and those that are
  pub ends_rest : (k i : ℕ) → k ≤ i → edge_at (with_ends es f k) i ≡ edge_at es i
  unfolding with_ends
  ends_rest zero i h = refl
  ends_rest (suc k) i h = end_other (with_ends es f k) k i (f k) (omega arith) ∙ ends_rest k i (omega arith)

  pub ends_done : (k i : ℕ) → HasEdges es k → i < k → edge_at (with_ends es f k) i ≡ with_end (edge_at es i) (f i)
  unfolding with_ends
  ends_done zero i has h = absurd (omega arith)
  ends_done (suc k) i has h = go (ℕ_discrete i k) (ends_done k i (omega arith))
    where
      last : List ℕ
      last = set_end (with_ends es f k) k (f k)

      here : edge_at last k ≡ with_end (edge_at es k) (f k)
      here =
          end_same (with_ends es f k) k (f k) (omega (arith, ends_length k))
          ∙ ap (λ e. with_end e (f k)) (ends_rest k k (omega arith))

      go : Dec (i ≡ k) → (i < k → edge_at (with_ends es f k) i ≡ with_end (edge_at es i) (f i))
          → edge_at last i ≡ with_end (edge_at es i) (f i)
      go (yes e) done = rw e here
      go (no ne) done = end_other (with_ends es f k) k i (f k) ne ∙ done (omega arith)

  pub ends_frame : (k : ℕ) → HasEdges es k → OnlyEnds (edge_at es) (edge_at (with_ends es f k))
  ends_frame k has i = go (dec_lt i k)
    where
      after : EdgeRow
      after = edge_at (with_ends es f k) i

      go : Dec (i < k) → after ≡ with_end (edge_at es i) after.to
      go (yes h) = end_own (edge_at es i) after (f i) (ends_done k i has h)
      go (no h) = end_own (edge_at es i) after (edge_at es i).to (ends_rest k i (omega arith))

-- ends that agree make the same table
pub ends_same : (es : List ℕ) (f g : ℕ → ℕ) (k : ℕ) → ((i : ℕ) → i < k → f i ≡ g i) → with_ends es f k ≡ with_ends es g k
unfolding with_ends
ends_same es f g zero h = refl
ends_same es f g (suc k) h = cc (ends_same es f g k (λ i l. h i (omega arith)), h k (omega arith))

-- a store past the rows may be made before them; so of two runs of stores the later stays
ends_past : (es : List ℕ) (g : ℕ → ℕ) (k j v : ℕ) → k ≤ j → with_ends (set_end es j v) g k ≡ set_end (with_ends es g k) j v
unfolding with_ends
ends_past es g zero j v h = refl
ends_past es g (suc k) j v h =
    ap (λ (l : List ℕ). set_end l k (g k)) (ends_past es g k j v (omega arith))
    ∙ end_comm (with_ends es g k) j k v (g k) (omega arith)

pub ends_twice : (es : List ℕ) (f g : ℕ → ℕ) (k : ℕ) → with_ends (with_ends es f k) g k ≡ with_ends es g k
unfolding with_ends
ends_twice es f g zero = refl
ends_twice es f g (suc k) =
    ap (λ (l : List ℕ). set_end l k (g k)) (ends_past (with_ends es f k) g k k (f k) (omega arith))
    ∙ end_twice (with_ends (with_ends es f k) g k) k (f k) (g k)
    ∙ ap (λ (l : List ℕ). set_end l k (g k)) (ends_twice es f g k)
