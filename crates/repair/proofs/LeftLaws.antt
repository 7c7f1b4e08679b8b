-- The table that a repair of m rows leaves: what stays, what is in force, and that a second repair changes nothing.
-- Assumes nothing.
use mathlib.Core.Path.{◌≡◌, refl, sym, ap, subst, ◌∙◌}
use mathlib.Core.Bool.{false}
use mathlib.Core.List.{List}
use Prim.Native.Nat.{ℕ, ◌≤◌, ◌<◌}
use native.Mathlib.Omega.{arith}
use lib.ListN.{length}
use Rattle.tables.specs.Tables.{EdgeRow, edge_at}
use Rattle.tables.specs.Rows.{HasEdges}
use Rattle.history.specs.Faults.{Overlap, Gap}
use Rattle.repair.specs.Repaired.{Largest, NewEnd, OnlyEnds}
use Rattle.repair.specs.Ends.{tied, new_end_of, repaired}
use Rattle.repair.specs.Stays.{Stay, OneLatest}
use Rattle.repair.proofs.TieLaws.{untied}
use Rattle.repair.proofs.StoreLaws.{ends_length, ends_rest, ends_frame, ends_same, ends_twice}
use Rattle.repair.proofs.BoundLaws.{same_from, row_after, tied_same}
use Rattle.repair.proofs.StepLaws.{repaired_row}
use Rattle.repair.proofs.NewEndLaws.{last_sound, from_le_new, new_end_sound, largest_end_unique}
use Rattle.repair.proofs.StayLaws.{NewEnds, one_latest, last_stays, new_again}

module _ (es : List ℕ) (m : ℕ) (has : HasEdges es m) where
  abbrev before : ℕ → EdgeRow
  before = edge_at es

  abbrev after : ℕ → EdgeRow
  after = edge_at (repaired es m)

  pub left_length : length (repaired es m) ≡ length es
  unfolding repaired
  left_length = ends_length es (new_end_of before m) m

  pub left_frame : OnlyEnds before after
  unfolding repaired
  left_frame = ends_frame es (new_end_of before m) m has

  left_ends : NewEnds before after m
  left_ends = record { frame = left_frame; ends = λ i h. ap (λ (x : EdgeRow). x.to) (repaired_row es m has i h) }

  pub left_new : (i : ℕ) → i < m → NewEnd before m i (after i).to
  left_new i h = rw (left_ends.ends i h) (new_end_sound before m i h)

  -- the rows past them stay
  pub left_rest : (i : ℕ) → m ≤ i → (after i).to ≡ (before i).to
  unfolding repaired
  left_rest i h = ap (λ (x : EdgeRow). x.to) (ends_rest es (new_end_of before m) m i h)

  -- where no row ends before it starts, none does afterwards, the last ends stay, and a second repair changes nothing
  module _ (right : (i : ℕ) → i < m → (before i).from ≤ (before i).to) where
    pub left_right : (i : ℕ) → i < m → (after i).from ≤ (after i).to
    left_right i h =
        let reached = from_le_new before m (before i).child i (h, refl) right in
        omega (arith, same_from before after left_frame i, left_ends.ends i h)

    pub left_last : (c e : ℕ) → Largest before m c e → Largest after m c e
    left_last c e x =
        let (j, r, q) = x.end in
        let same = last_stays before after m left_ends c right ∙ largest_end_unique (last_sound before m c j r) x in
        subst (Largest after m c) same (last_sound after m c j (row_after before after left_frame m c j r))

    pub left_again : repaired (repaired es m) m ≡ repaired es m
    unfolding repaired
    left_again =
        ends_twice es (new_end_of before m) (new_end_of after m) m
        ∙ ends_same es (new_end_of after m) (new_end_of before m) m (λ i h. new_again before after m left_ends right i)

    left_own : NewEnds after after m
    left_own =
        record {
          frame = λ i. refl;
          ends = λ i h. left_ends.ends i h ∙ sym (new_again before after m left_ends right i);
        }

    -- and where no two rows tie, one row is in force throughout a stay, of the rows before as of those after
    module _ (none : (i : ℕ) → i < m → tied before i ≡ false) where
      pub left_untied : (i : ℕ) → i < m → tied after i ≡ false
      left_untied i h = tied_same before after left_frame i ∙ none i h

      pub left_one : (c t : ℕ) → Stay before m c t → OneLatest before after m c t
      left_one c = one_latest before after m left_ends c (untied before m none)

      own_one : (c t : ℕ) → Stay after m c t → OneLatest after after m c t
      own_one c = one_latest after after m left_own c (untied after m left_untied)

      pub left_no_overlap : (t c : ℕ) → Overlap m after t c → ⊥
      left_no_overlap t c (i, j, h, a, b) = let one = own_one c t stay in omega (arith, one.only i a, one.only j b)
        where
          stay : Stay after m c t
          stay = record { started = (i, (a.row, a.into), a.force.0); lasting = (i, (a.row, a.into), a.force.1) }

      pub left_no_gap : (t c : ℕ) → Gap m after t c → ⊥
      left_no_gap t c (inner, none, (i, a), (j, b)) = let one = own_one c t stay in none one.row one.in_force
        where
          stay : Stay after m c t
          stay =
              record {
                started = (i, (a.row, a.into), omega (arith, a.past, left_right i a.row));
                lasting = (j, (b.row, b.into), omega (arith, b.ahead, left_right j b.row));
              }
