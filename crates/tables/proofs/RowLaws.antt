-- Containment rows after a store of an end and of a whole row, and that its rows make a table. With the accessors'
-- proofs the only laws that open a row's form. Assumes nothing.
use mathlib.Core.Path.{◌≡◌, ap, sym, subst, ◌∙◌}
use mathlib.Core.Logic.{◌≢◌, ◌⊎◌, inl, inr}
use mathlib.Core.List.{List}
use Prim.Native.Nat.{ℕ, zero, suc, ◌+◌, ◌*◌, ◌/◌, ◌%◌, ◌≤◌, ◌<◌}
use native.Mathlib.Decide.{ℕ_discrete, dec_lt}
use native.Mathlib.Nat.{div-add-mod', suc-mul, mul-le-mul_right}
use native.Mathlib.Omega.{arith}
use lib.ListN.{length, get_or, length-set}
use lib.Seq.{get_or-set_same, get_or-set_other, set-set, set_comm, ext_get_or, length-sets}
use Rattle.ground.proofs.ListLaws.{sets_outside, sets_inside}
use Rattle.tables.specs.Tables.{EdgeRow, edge_width, cell_at, edge_at, with_end}
use Rattle.tables.specs.Rows.{HasEdges, set_end, set_row, edge_numbers, set_edge_of}

edge_path : (a b : EdgeRow) → a.parent ≡ b.parent → a.child ≡ b.child → a.from ≡ b.from → a.to ≡ b.to → a ≡ b
edge_path a b p c f t = λ k. record { parent = p k; child = c k; from = f k; to = t k }

pub end_same : (es : List ℕ) (i v : ℕ) → HasEdges es (suc i) → edge_at (set_end es i v) i ≡ with_end (edge_at es i) v
unfolding edge_at set_end
end_same es i v h =
    edge_path _ _
    (get_or-set_other es (i * edge_width + 3) (i * edge_width + 0) v 0 (omega arith))
    (get_or-set_other es (i * edge_width + 3) (i * edge_width + 1) v 0 (omega arith))
    (get_or-set_other es (i * edge_width + 3) (i * edge_width + 2) v 0 (omega arith))
    (get_or-set_same es (i * edge_width + 3) v 0 (omega arith))

pub end_other : (es : List ℕ) (i j v : ℕ) → j ≢ i → edge_at (set_end es i v) j ≡ edge_at es j
unfolding edge_at set_end
end_other es i j v h =
    edge_path _ _
    (get_or-set_other es (i * edge_width + 3) (j * edge_width + 0) v 0 (omega arith))
    (get_or-set_other es (i * edge_width + 3) (j * edge_width + 1) v 0 (omega arith))
    (get_or-set_other es (i * edge_width + 3) (j * edge_width + 2) v 0 (omega arith))
    (get_or-set_other es (i * edge_width + 3) (j * edge_width + 3) v 0 (omega arith))

pub end_length : (es : List ℕ) (i v : ℕ) → length (set_end es i v) ≡ length es
unfolding set_end
end_length es i v = length-set es (i * edge_width + 3) v

-- of two stores to one row the later stays, and stores to two rows may be made in either order
pub end_twice : (es : List ℕ) (i v w : ℕ) → set_end (set_end es i v) i w ≡ set_end es i w
unfolding set_end
end_twice es i v w = set-set es (i * edge_width + 3) v w

pub end_comm : (es : List ℕ) (i j v w : ℕ) → i ≢ j → set_end (set_end es i v) j w ≡ set_end (set_end es j w) i v
unfolding set_end
end_comm es i j v w h = set_comm es (i * edge_width + 3) (j * edge_width + 3) v w (omega arith)

-- two tables of one length that have the same rows are the same
module _ (a b : List ℕ) where
  number_same : (i k : ℕ) → k < edge_width → edge_at a i ≡ edge_at b i
      → cell_at edge_width a i k ≡ cell_at edge_width b i k
  unfolding edge_at
  number_same i zero h e = ap (λ (x : EdgeRow). x.parent) e
  number_same i (suc zero) h e = ap (λ (x : EdgeRow). x.child) e
  number_same i (suc (suc zero)) h e = ap (λ (x : EdgeRow). x.from) e
  number_same i (suc (suc (suc zero))) h e = ap (λ (x : EdgeRow). x.to) e
  number_same i (suc (suc (suc (suc k)))) h e = absurd (omega arith)

  pub rows_same : length a ≡ length b → ((i : ℕ) → edge_at a i ≡ edge_at b i) → a ≡ b
  rows_same l same = ext_get_or 0 a b l at
    where
      at : (j : ℕ) → j < length a → get_or a j 0 ≡ get_or b j 0
      at j h =
          subst (λ k. get_or a k 0 ≡ get_or b k 0) (div-add-mod' j edge_width)
          (number_same (j / edge_width) (j % edge_width) (omega arith) (same (j / edge_width)))

-- a store of a whole row of at most w numbers: the numbers of that row, and of another
module _ (w : ℕ) (xs : List ℕ) (i : ℕ) (ns : List ℕ) where
  row_number : (k : ℕ) → k < length ns → i * w + length ns ≤ length xs
      → cell_at w (set_row w xs i ns) i k ≡ get_or ns k 0
  unfolding set_row
  row_number k h f = sets_inside xs (i * w) k ns h f

  other_number : (j k : ℕ) → j ≢ i → k < w → length ns ≤ w → cell_at w (set_row w xs i ns) j k ≡ cell_at w xs j k
  unfolding set_row
  other_number j k ne h f = sets_outside xs (i * w) (j * w + k) ns (apart (dec_lt j i))
    where
      apart : Dec (j < i) → (j * w + k < i * w) ⊎ (i * w + length ns ≤ j * w + k)
      apart (yes l) = inl (omega (arith, suc-mul j w, mul-le-mul_right w l))
      apart (no l) =
          let g : suc i ≤ j = omega arith in
          inr (omega (arith, suc-mul i w, mul-le-mul_right w g))

  pub row_length : length (set_row w xs i ns) ≡ length xs
  unfolding set_row
  row_length = length-sets xs (i * w) ns

-- a containment row after a store of a whole row, and another
module _ (es : List ℕ) (i : ℕ) (e : EdgeRow) where
  pub set_same : HasEdges es (suc i) → edge_at (set_edge_of es i e) i ≡ e
  unfolding edge_at
  set_same h =
      edge_path _ _
      (row_number edge_width es i (edge_numbers e) 0 (omega arith) (omega arith))
      (row_number edge_width es i (edge_numbers e) 1 (omega arith) (omega arith))
      (row_number edge_width es i (edge_numbers e) 2 (omega arith) (omega arith))
      (row_number edge_width es i (edge_numbers e) 3 (omega arith) (omega arith))

  pub set_other : (j : ℕ) → j ≢ i → edge_at (set_edge_of es i e) j ≡ edge_at es j
  unfolding edge_at
  set_other j ne =
      edge_path _ _
      (other_number edge_width es i (edge_numbers e) j 0 ne (omega arith) (omega arith))
      (other_number edge_width es i (edge_numbers e) j 1 ne (omega arith) (omega arith))
      (other_number edge_width es i (edge_numbers e) j 2 ne (omega arith) (omega arith))
      (other_number edge_width es i (edge_numbers e) j 3 ne (omega arith) (omega arith))

  pub set_length : length (set_edge_of es i e) ≡ length es
  set_length = row_length edge_width es i (edge_numbers e)

-- of two stores to one row the later stays, and a row that is stored again is put back
pub set_twice : (es : List ℕ) (i : ℕ) (d e : EdgeRow) → HasEdges es (suc i)
    → set_edge_of (set_edge_of es i d) i e ≡ set_edge_of es i e
set_twice es i d e h =
    rows_same _ _ (set_length (set_edge_of es i d) i e ∙ set_length es i d ∙ sym (set_length es i e))
    (λ j. at j (ℕ_discrete j i))
  where
    at : (j : ℕ) → Dec (j ≡ i) → edge_at (set_edge_of (set_edge_of es i d) i e) j ≡ edge_at (set_edge_of es i e) j
    at j (yes q) = rw q (set_same (set_edge_of es i d) i e (rw (set_length es i d) h) ∙ sym (set_same es i e h))
    at j (no q) = set_other (set_edge_of es i d) i e j q ∙ set_other es i d j q ∙ sym (set_other es i e j q)

pub set_back : (es : List ℕ) (i : ℕ) (e : EdgeRow) → HasEdges es (suc i) → set_edge_of (set_edge_of es i e) i (edge_at es i) ≡ es
set_back es i e h = set_twice es i e (edge_at es i) h ∙ rows_same _ _ (set_length es i _) (λ j. at j (ℕ_discrete j i))
  where
    at : (j : ℕ) → Dec (j ≡ i) → edge_at (set_edge_of es i (edge_at es i)) j ≡ edge_at es j
    at j (yes q) = rw q (set_same es i (edge_at es i) h)
    at j (no q) = set_other es i (edge_at es i) j q
