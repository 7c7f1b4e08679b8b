-- The computed answer and the computed table are those that the words allow. Assumes nothing.
use mathlib.Core.Path.{◌≡◌, refl, sym, ap, ◌∙◌}
use mathlib.Core.List.{List}
use Prim.Native.Nat.{ℕ}
use Rattle.std.specs.Prelude.{Option, Some, None}
use Rattle.ground.specs.Least.{Before, Smallest}
use Rattle.ground.specs.Searches.{Finds}
use Rattle.ground.specs.Searches.{found}
use Rattle.ground.proofs.TestLaws.{by_test, by_lt}
use Rattle.ground.proofs.LeastLaws.{finds_tells, found_some, found_none}
use Rattle.answers.specs.Answers.{Answer}
use Rattle.answers.specs.Numbers.{refuses}
use Rattle.tables.specs.Tables.{edge_at, with_end, Table, Tables, edge_in}
use Rattle.tables.specs.Rows.{HasEdges}
use Rattle.tables.specs.Says.{history_says}
use Rattle.tables.specs.Rules.{Obeys}
use Rattle.tables.proofs.RowLaws.{rows_same}
use Rattle.tables.proofs.GivesLaws.{gives_is, gives_says, obeys_tells}
use Rattle.history.proofs.RuledLaws.{obeys_lent}
use Rattle.repair.specs.Repaired.{Tied, Mended, Repaired, ruled_out, tie, mended}
use Rattle.repair.specs.Ends.{tied, repaired}
use Rattle.repair.specs.Says.{Outcome}
use Rattle.repair.proofs.TieLaws.{tied_tells}
use Rattle.repair.proofs.SaysLaws.{on_tie, on_repaired, on_refusal, on_rows}
use Rattle.repair.proofs.NewEndLaws.{new_end_unique}
use Rattle.repair.proofs.LeftLaws.{left_length, left_frame, left_new, left_rest}

-- the table that is computed is mended, and is the only one
module _ (x : Table) where
  mended_repaired : HasEdges x.numbers x.count → Mended x (repaired x.numbers x.count)
  mended_repaired has =
      record {
        size = left_length x.numbers x.count has;
        frame = left_frame x.numbers x.count has;
        ends = left_new x.numbers x.count has;
        rest = left_rest x.numbers x.count has;
      }

  module _ {a b : List ℕ} (p : Mended x a) (q : Mended x b) where
    same_end : (i : ℕ) → (edge_at a i).to ≡ (edge_at b i).to
    same_end i =
        by_lt i x.count
        (λ h. new_end_unique (edge_at x.numbers) x.count i (p.ends i h) (q.ends i h))
        (λ h. p.rest i h ∙ sym (q.rest i h))

    same_row : (i : ℕ) → edge_at a i ≡ edge_at b i
    same_row i = p.frame i ∙ ap (with_end (edge_at x.numbers i)) (same_end i) ∙ sym (q.frame i)

    pub mended_unique : a ≡ b
    mended_unique = rows_same a b (p.size ∙ sym q.size) same_row

module _ (L : Tables) where
  abbrev rows : ℕ
  rows = L.edges.count

  first_tied : Finds (Tied (edge_in L)) rows (found (tied (edge_in L)) rows)
  first_tied = finds_tells _ _ rows (λ i h. tied_tells (edge_in L) i)

  pub obeys_mended : Obeys L → Mended L.edges (repaired L.edges.numbers rows)
  obeys_mended o = mended_repaired L.edges (obeys_lent L o).edge_rows

  -- the search for a tied row finds the smallest, and none where there is none
  tied_first : {i : ℕ} → Smallest (Tied (edge_in L)) rows i → Some i ≡ found (tied (edge_in L)) rows
  tied_first {i} (l, h) =
      let tells = tied_tells (edge_in L) in
      found_some (tied (edge_in L)) h (λ k g t. l.before k g ((tells k).0 t)) ((tells i).1 (l.here h))

  none_first : Before (Tied (edge_in L)) rows → None ≡ found (tied (edge_in L)) rows
  none_first none = found_none (tied (edge_in L)) (λ k g t. none k g ((tied_tells (edge_in L) k).0 t))

  -- the words allow an outcome: by the answer of the rules, and by the first tie
  repaired_exists : (r : Answer) × (left : List ℕ) × Repaired L r left
  repaired_exists =
      by_test (refuses (history_says L))
      (λ t. (history_says L, L.edges.numbers, ruled_out (gives_says L) t))
      (λ f. ruled ((obeys_tells L).0 f) (found (tied (edge_in L)) rows) first_tied)
    where
      ruled : Obeys L → (r : Option ℕ) → Finds (Tied (edge_in L)) rows r
          → (r : Answer) × (left : List ℕ) × Repaired L r left
      ruled o (Some i) smallest = (_, _, tie o smallest)
      ruled o None none = (_, _, mended o none (obeys_mended o))

-- what they allow is what is computed, and the other way round
pub outcome_of : {L : Tables} {r : Answer} {left : List ℕ} → Repaired L r left → Outcome L r left
outcome_of {L} (ruled_out g t) = on_refusal L (gives_is L g) t
outcome_of {L} (tie o smallest) =
    on_rows L refl ((obeys_tells L).1 o) (on_tie L.edges.numbers (rows L) (tied_first L smallest))
outcome_of {L} (mended o none x) =
    on_rows L refl ((obeys_tells L).1 o)
    (on_repaired L.edges.numbers (rows L) (none_first L none) (mended_unique L.edges x (obeys_mended L o)))

pub repaired_of : {L : Tables} {r : Answer} {left : List ℕ} → Outcome L r left → Repaired L r left
repaired_of {L} x =
    let (q, last, y) = repaired_exists L in
    let o = outcome_of y in
    rw (x.answer, x.table, ← o.answer, ← o.table) y
