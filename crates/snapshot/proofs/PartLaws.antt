-- The walk of a node while its children are walked, and the part of the output that is lent on to each.
-- Assumes nothing.
use mathlib.Core.Path.{◌≡◌, refl, sym, ap, ap₂, subst, ◌∙◌}
use mathlib.Core.List.{List, [], ◌∷◌, ◌++◌, append_assoc, append-nil}
use Prim.Native.Nat.{ℕ, ◌+◌, ◌-◌, ◌*◌, ◌≤◌, ◌<◌}
use native.Mathlib.Nat.{le_of_eq}
use native.Mathlib.Omega.{arith}
use lib.ListN.{length, get_or, take, drop, length-append, length-drop, drop_of_length-le}
use lib.Seq.{take_all, take_at, drop_at, drop-drop, drop-append-add}
use Rattle.snapshot.specs.Snapshot.{ShownRow, shown_width, shown_numbers}
use Rattle.snapshot.specs.Walk.{each, row_numbers, shown_row, subtree}
use Rattle.snapshot.specs.Lists.{Tree, Grown, run, kids_of, tree_by, Walked}
use Rattle.snapshot.proofs.LinkLaws.{run_stop}
use Rattle.snapshot.proofs.WalkLaws.{numbers_append, numbers_length, peel}

-- a part from `at` to the end, and what lies behind it
pub part_all : (at : ℕ) (l : List ℕ) → take (length l - at) (drop at l) ≡ drop at l
part_all at l = take_all (length l - at) (drop at l) (le_of_eq (length-drop at l))

part_rest : (at : ℕ) (l : List ℕ) → drop (length l - at) (drop at l) ≡ []
part_rest at l = drop_of_length-le (drop at l) (le_of_eq (length-drop at l))

-- the part that was lent on comes back filled
part_filled : (xs ys : List ShownRow) (at k r : ℕ) (out₀ out last : List ℕ) → k ≡ length xs → at ≡ k * shown_width
    → out ≡ shown_numbers xs ++ drop (k * shown_width) out₀
    → last ≡ shown_numbers ys ++ drop (r * shown_width) (drop at out)
    → take at out ++ last ≡ shown_numbers (xs ++ ys) ++ drop ((k + r) * shown_width) out₀
part_filled xs ys at k r out₀ out last hk ha ho hl =
    let l : length (shown_numbers xs) ≡ at = omega (arith, numbers_length xs) in
    let rest = drop (k * shown_width) out₀ in
    let t : take at out ≡ shown_numbers xs = rw ho (take_at (shown_numbers xs) rest at l) in
    let d : drop at out ≡ rest = rw ho (drop_at (shown_numbers xs) rest at l) in
    let e : (k + r) * shown_width ≡ k * shown_width + r * shown_width = omega arith in
    rw (t, hl, d, drop-drop, numbers_append, e, append_assoc)

-- past the row at the front, the output is as it was
after_front : (row : List ℕ) (k : ℕ) (l : List ℕ) → length row ≡ shown_width → 0 < k
    → drop (k * shown_width) (row ++ drop shown_width l) ≡ drop (k * shown_width) l
after_front row k l h p =
    let more = k * shown_width - shown_width in
    let e : k * shown_width ≡ length row + more = omega arith in
    let f : k * shown_width ≡ shown_width + more = omega arith in
    ap (λ j. drop j (row ++ drop shown_width l)) e ∙ drop-append-add row (drop shown_width l) more
    ∙ drop-drop more shown_width l ∙ ap (λ j. drop j l) (sym f)

-- the referent and the children of a node of a tree
abbrev ρ : Tree → ℕ → ℕ
ρ x n = get_or x.referents n 0

abbrev kids : Tree → ℕ → List ℕ
kids x = kids_of x.first x.next x.count

-- k rows of the walk of n are written, and the children `rest` are still to come
pub record Part (x : Tree) (left p n : ℕ) (out₀ out : List ℕ) (k : ℕ) (rest : List ℕ) : Type 0 where
  pub some : 0 < left
  pub fits : length (tree_by x left p n) * shown_width ≤ length out₀
  pub done : List ShownRow
  pub splits : tree_by x left p n ≡ done ++ each (tree_by x (left - 1) n) rest
  pub rows : k ≡ length done
  pub holds : out ≡ shown_numbers done ++ drop (k * shown_width) out₀

-- child c and its next siblings
abbrev pub siblings : Tree → ℕ → List ℕ
siblings x c = run x.next x.count x.count c

-- a walk writes the row of its node
pub part_some : (x : Tree) (left p n : ℕ) → 0 < left → 0 < length (tree_by x left p n)
part_some x left p n h = omega (arith, ap length (peel (ρ x) (kids x) left p n h))

-- with no node left, nothing is written
pub part_none : (x : Tree) (left p n : ℕ) (out : List ℕ) → left ≡ 0 → Walked (tree_by x left p n) out 0 out
unfolding subtree shown_numbers
part_none x left p n out e = rw e (record { number = refl; out = refl })

module _ {x : Tree} {left p n : ℕ} {out₀ : List ℕ} where
  pub part_start : (back : List ℕ) → 0 < left → length (tree_by x left p n) * shown_width ≤ length out₀
      → out₀ ≡ row_numbers n p (ρ x n) ++ back
      → Part x left p n out₀ out₀ 1 (kids x n)
  unfolding shown_numbers each
  part_start back h f e =
      let first = shown_row (ρ x) p n ∷ [] in
      let splits = peel (ρ x) (kids x) left p n h in
      record { some = h; fits = f; done = first; splits = splits; rows = refl; holds = rw e }

  module _ {out : List ℕ} {k : ℕ} where
    pub part_long : {rest : List ℕ} → Part x left p n out₀ out k rest
        → (k * shown_width ≤ length out₀) × (length out ≡ length out₀)
    part_long a =
        let d = a.done in
        let all = simp length-append at (ap length a.splits) in
        let b : k * shown_width ≤ length out₀ = omega (arith, a.fits, a.rows, all) in
        (b, omega (arith, a.rows, simp (length-append, length-drop) at (ap length a.holds), numbers_length d))

    -- c is the next child
    module _ {c : ℕ} {rest : List ℕ} (a : Part x left p n out₀ out k (c ∷ rest)) where
      abbrev under : List ShownRow
      under = tree_by x (left - 1) n c

      pub part_room : (k + length under) * shown_width ≤ length out
      unfolding each
      part_room =
          let all = simp length-append at (ap length a.splits) in
          omega (arith, a.fits, a.rows, (part_long a).1, all)

      pub part_fill : (r : ℕ) (last : List ℕ) → r ≡ length under
          → last
          ≡ shown_numbers under
          ++ drop (r * shown_width) (take (length out - k * shown_width) (drop (k * shown_width) out))
          → Part x left p n out₀
          (take (k * shown_width) out ++ (last ++ drop (length out - k * shown_width) (drop (k * shown_width) out)))
          (k + r) rest
      unfolding each
      part_fill r last hr hl =
          rw (part_rest, append-nil) (record {
            some = a.some;
            fits = a.fits;
            done = a.done ++ under;
            splits = rw append_assoc a.splits;
            rows = omega (arith, a.rows, length-append a.done under);
            holds =
                part_filled a.done under (k * shown_width) k r out₀ out last a.rows refl a.holds
                (rw part_all at hl);
          })

    -- c is a child, of a tree that is seen as x, or there is none left
    module _ {y : Tree} (seen : y ≡ x) {c : ℕ} (a : Part x left p n out₀ out k (siblings x c)) where
      pub part_next : Grown y → c < y.count → Part x left p n out₀ out k (c ∷ siblings x (get_or x.next c 0))
      part_next g h = rw ((subst Grown seen g).runs.goes c (omega (arith, ap (λ t. t.count) seen))) at a

      pub part_last : y.count ≤ c → Part x left p n out₀ out k []
      part_last h = rw (run_stop x.next x.count x.count c (omega (arith, ap (λ t. t.count) seen))) at a

    -- no child is left. `entry` is the output before the row of n was put
    pub part_end : (entry : List ℕ) → Part x left p n out₀ out k []
        → out₀ ≡ row_numbers n p (ρ x n) ++ drop shown_width entry
        → Walked (tree_by x left p n) entry k out
    unfolding each
    part_end entry a e =
        let w : a.done ≡ tree_by x left p n = sym (a.splits ∙ append-nil a.done) in
        let more : 0 < k = omega (arith, a.rows, ap length w, part_some x left p n a.some) in
        let d : drop (k * shown_width) out₀ ≡ drop (k * shown_width) entry
        = ap (drop (k * shown_width)) e ∙ after_front (row_numbers n p (ρ x n)) k entry refl more in
        record { number = a.rows ∙ ap length w; out = a.holds ∙ ap₂ (λ x y. shown_numbers x ++ y) w d }
