-- The outcomes of repair, each by what the code has in hand where it answers so. Assumes nothing.
use mathlib.Core.Path.{◌≡◌, refl, ap, ◌∙◌}
use mathlib.Core.Bool.{true, false, not}
use mathlib.Core.List.{List}
use Prim.Native.Nat.{ℕ}
use borrow.Author.Tests.{eq-eqb}
use Rattle.std.specs.Prelude.{Some, None}
use Rattle.ground.specs.Searches.{found}
use Rattle.ground.specs.Sums.{bit}
use Rattle.ground.proofs.SumLaws.{sum_zero}
use Rattle.answers.specs.Answers.{Answer}
use Rattle.answers.specs.Answers.{Done}
use Rattle.answers.specs.Numbers.{refuses}
use Rattle.tables.specs.Tables.{EdgeRow, edge_at, Tables}
use Rattle.tables.specs.Rows.{HasEdges}
use Rattle.tables.specs.Says.{history_says}
use Rattle.repair.specs.Ends.{tied, new_end_of, repaired}
use Rattle.repair.specs.Repaired.{changed}
use Rattle.repair.specs.Steps.{EndsStored}
use Rattle.repair.specs.Says.{tie_at, settle_says, settle_leaves, repair_says, repair_leaves, Settled, Outcome}
use Rattle.repair.proofs.StepLaws.{changes_differ}

-- the first tie is a row, or there is none
module _ (es : List ℕ) (m : ℕ) where
  pub on_tie : {row : ℕ} → Some row ≡ found (tied (edge_at es)) m → Settled es m (tie_at es row) es
  unfolding settle_says settle_leaves
  on_tie er = record { answer = rw (← er) refl; table = rw (← er) refl }

  module _ (none : None ≡ found (tied (edge_at es)) m) where
    pub on_repaired : {left : List ℕ} → left ≡ repaired es m
        → Settled es m (Done 0 (changed (edge_at es) (edge_at left) m)) left
    unfolding settle_says settle_leaves
    on_repaired el = record { answer = rw (← none, el) refl; table = rw (← none) el }

    pub on_mend : {n : ℕ} {left : List ℕ} → HasEdges es m → EndsStored es (new_end_of (edge_at es) m) m n left
        → Settled es m (Done 0 n) left
    unfolding settle_says settle_leaves repaired
    on_mend has x =
        record {
          answer = rw (← none) (ap (Done 0) (x.number ∙ changes_differ es m has));
          table = rw (← none) x.table;
        }

-- the tables break a rule, or obey them
module _ (L : Tables) {r : Answer} (er : r ≡ history_says L) where
  pub on_refusal : refuses r ≡ true → Outcome L r L.edges.numbers
  unfolding repair_says repair_leaves
  on_refusal t = record { answer = simp (← er, t); table = simp (← er, t) }

  pub on_rows : {q : Answer} {left : List ℕ} → refuses r ≡ false → Settled L.edges.numbers L.edges.count q left
      → Outcome L q left
  unfolding repair_says repair_leaves settle_leaves
  on_rows f x = record { answer = simp (← er, f) x.answer; table = simp (← er, f) x.table }

-- no row of a table differs from itself
pub changed_none : (edge : ℕ → EdgeRow) (m : ℕ) → changed edge edge m ≡ 0
changed_none edge m = sum_zero _ m (λ i h. ap (λ b. bit (not b)) (eq-eqb (edge i).to (edge i).to refl))
