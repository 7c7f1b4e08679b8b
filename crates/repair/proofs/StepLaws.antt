-- The steps that find and write ends, and what they come to with the new ends. Assumes nothing.
use mathlib.Core.Path.{◌≡◌, refl, sym, ap, ◌∙◌}
use mathlib.Core.Bool.{not}
use mathlib.Core.List.{List}
use Prim.Native.Nat.{ℕ, ◌+◌, ◌≤◌, ◌<◌}
use native.Mathlib.Omega.{arith}
use lib.Dec.{eqb}
use borrow.Author.Tests.{eq-eqb, ne_eqb}
use Rattle.ground.specs.Sums.{sum, bit}
use Rattle.ground.proofs.SumLaws.{sum_more, sum_ext, count_le}
use Rattle.tables.specs.declared.label.End.{End}
use Rattle.tables.specs.Tables.{EdgeRow, edge_at, with_end}
use Rattle.tables.specs.Labels.{instant_of, end_of}
use Rattle.tables.specs.Rows.{HasEdges, set_end}
use Rattle.tables.proofs.LabelLaws.{end_to}
use Rattle.repair.specs.Ends.{new_end_of, with_ends, repaired}
use Rattle.repair.specs.Repaired.{changed}
use Rattle.repair.specs.Steps.{changes, EndsStored}
use Rattle.repair.proofs.StoreLaws.{ends_more, ends_rest, ends_done, ends_same}

-- the writing loop at its beginning
pub stored_none : (es : List ℕ) (f : ℕ → ℕ) → EndsStored es f 0 0 es
unfolding changes sum with_ends
stored_none es f = record { number = refl; table = refl }

-- and after a turn: the rows below i were written, row i was not, and it had another end, or had not
module _ (es : List ℕ) (f : ℕ → ℕ) (i : ℕ) {cur left : List ℕ} {v : End} {a old : ℕ}
    (x : EndsStored es f i old cur) (ea : a ≡ (edge_at cur i).to) (ev : v ≡ end_of (f i))
    (el : left ≡ set_end cur i (instant_of v)) where
  had : a ≡ (edge_at es i).to
  had = ea ∙ rw (x.table, ends_rest es f i i (omega arith))

  more : left ≡ with_ends es f (i + 1)
  more = cc (ends_more es f i, x.table, end_to v (f i) ev)

  pub stored_hit : {new : ℕ} → (a ≡ f i → ⊥) → new ≡ old + 1 → EndsStored es f (i + 1) new left
  unfolding changes
  stored_hit h e = record { number = simp (sum_more, ← had, ne_eqb a (f i) h, ← x.number) e; table = more }

  pub stored_miss : {new : ℕ} → a ≡ f i → new ≡ old → EndsStored es f (i + 1) new left
  unfolding changes
  stored_miss h e =
      record { number = simp (sum_more, ← had, eq-eqb a (f i) h, ← x.number) (omega arith); table = more }

pub stored_le : {es : List ℕ} {f : ℕ → ℕ} {m n : ℕ} {left : List ℕ} → EndsStored es f m n left → n ≤ m
unfolding changes
stored_le {es} {f} {m} x = omega (arith, x.number, count_le (λ i. not (eqb (edge_at es i).to (f i))) m)

-- ends that agree are written alike
pub stored_same : (es : List ℕ) (f g : ℕ → ℕ) (m : ℕ) {n : ℕ} {left : List ℕ}
    → ((i : ℕ) → i < m → f i ≡ g i) → EndsStored es f m n left → EndsStored es g m n left
unfolding changes
stored_same es f g m same x =
    record {
      number = x.number ∙ sum_ext _ _ m (λ i h. ap (λ v. bit (not (eqb (edge_at es i).to v))) (same i h));
      table = x.table ∙ ends_same es f g m same;
    }

module _ (es : List ℕ) (m : ℕ) (has : HasEdges es m) where
  pub repaired_row : (i : ℕ) → i < m → edge_at (repaired es m) i ≡ with_end (edge_at es i) (new_end_of (edge_at es) m i)
  unfolding repaired
  repaired_row i h = ends_done es (new_end_of (edge_at es) m) m i has h

  -- the rows that get another end are those whose end differs
  pub changes_differ : changes (edge_at es) (new_end_of (edge_at es) m) m ≡ changed (edge_at es) (edge_at (repaired es m)) m
  unfolding changes
  changes_differ =
      sum_ext _ _ m (λ i h. ap (λ (x : EdgeRow). bit (not (eqb (edge_at es i).to x.to))) (sym (repaired_row i h)))
