-- In a history without a fault but GAP, the slots of the nodes give the count and the children of the snapshot.
-- Assumes nothing.
use mathlib.Core.Path.{◌≡◌, refl, sym, ap, ◌∙◌}
use mathlib.Core.Logic.Iff
use mathlib.Core.Logic.{◌≢◌, inl, inr}
use mathlib.Core.Bool.{Bool}
use mathlib.Core.List.{List}
use Prim.Native.Nat.{ℕ, zero, suc, ◌+◌, ◌≤◌, ◌<◌}
use native.Mathlib.Numerals.{add-one}
use native.Mathlib.Omega.{arith}
use lib.Dec.{ltb, eqb}
use lib.ListN.{length, get_or, take}
use lib.Seq.{take_all}
use Rattle.std.specs.List.{count_by}
use Rattle.std.proofs.lemmas.List.Sums.{count_by_more_yes, count_by_more_no}
use Rattle.ground.specs.Sums.{sum, bit, count}
use Rattle.ground.proofs.TestLaws.{by_test, tells_and, tells_not, tells_eq, tells_lt}
use Rattle.ground.proofs.SumLaws.{sum_ext}
use Rattle.tables.specs.Tables.{no_node}
use Rattle.history.specs.Faults.{History, Into, Here}
use Rattle.history.specs.Sound.{OneReference}
use Rattle.history.proofs.ComputedLaws.{present_tells}
use Rattle.history.proofs.RuledLaws.{ruled_below}
use Rattle.history.proofs.Tree.{Tree}
use Rattle.faults.proofs.WalkLaws.{above_in}
use Rattle.faults.proofs.LeafLaws.{slot_row, row_slot}
use Rattle.faults.proofs.JudgeLaws.{view}
use Rattle.faults.specs.Judged.{Seen, Exact}
use Rattle.snapshot.specs.Walk.{subtree}
use Rattle.snapshot.specs.Says.{is_child, children_of, referent_at, shown_rows}
use Rattle.snapshot.specs.Lists.{kids_by}
use Rattle.snapshot.specs.Counts.{is_other}
use Rattle.snapshot.proofs.WalkLaws.{subtree_ext}
use Rattle.snapshot.proofs.ChildLaws.{tells_same, below_all, below_ext, child_tells}
use Rattle.snapshot.proofs.ExactLaws.{rows_exact, exact_number}

-- how many elements of a list pass, counted by their places
counted_by : (q : ℕ → Bool) (xs : List ℕ) (i : ℕ) → i ≤ length xs
    → count_by q (take i xs) ≡ count (λ c. q (get_or xs c 0)) i
unfolding sum
counted_by q xs zero h = refl
counted_by q xs (suc i) h =
    let before = counted_by q xs i (omega arith) in
    by_test (q (get_or xs i 0))
    (λ e. omega (arith, rw (add-one i) at (count_by_more_yes q xs i 0 (omega arith) e), ap bit e))
    (λ e. omega (arith, rw (add-one i) at (count_by_more_no q xs i 0 (omega arith) e), ap bit e))

-- the parents, by the slots of the nodes
module _ (H : History) (t : ℕ) (tree : Tree H.edges H.edge t) {parents : List ℕ} (seen : Seen H t parents) where
  parent_is : (c i : ℕ) → c < H.nodes → Into H.edges H.edge t c i → get_or parents c 0 ≡ (H.edge i).parent
  parent_is c i h p = slot_row (view seen) tree.no_overlap c i h p

  -- where a node stands, a row in force leads into the child
  some_row : (c : ℕ) → c < H.nodes → get_or parents c 0 < H.nodes → (i : ℕ) × Into H.edges H.edge t c i
  some_row c h g =
      let (i, p, _) = row_slot (view seen) tree.no_overlap c h (rw (above_in parents H.nodes c h) g) in
      (i, p)

  child_same : (n c : ℕ) → n < H.nodes → c < H.nodes → eqb (get_or parents c 0) n ≡ is_child H t n c
  child_same n c hn hc =
      tells_same _ _ (Iff.trans (tells_eq (get_or parents c 0) n) (
        λ e. let (i, p) = some_row c hc (omega arith) in (i, p, sym (parent_is c i hc p) ∙ e),
        λ (i, p, e). parent_is c i hc p ∙ e,
      )) (child_tells H t n c)

  other_same : (c : ℕ) → c < H.nodes → ltb (get_or parents c 0) H.nodes ≡ is_other H t c
  other_same c hc =
      tells_same _ _ (Iff.trans (tells_lt (get_or parents c 0) H.nodes) (
        λ g.
            let (i, p) = some_row c hc g in
            let ne : c ≢ 0 = λ e. (seen.ruled.edge_fits i p.row).not_root (p.into ∙ e) in
            (ne, inr (ne, (i, p))),
        λ (ne, h). under ne h,
      )) (tells_and _ _ (tells_not _ (tells_eq c 0)) (present_tells H.edges H.edge t H.start c))
    where
      under : c ≢ 0 → Here H t c → get_or parents c 0 < H.nodes
      under ne (inl (e, _)) = absurd (ne e)
      under ne (inr (_, (i, p))) = omega (arith, parent_is c i hc p, (ruled_below H seen.ruled i p.row).0)

  pub counted : H.start ≤ t → OneReference H t
      → 1 + count (λ c. ltb (get_or parents c 0) H.nodes) H.nodes ≡ length (shown_rows H t)
  counted begun single =
      ap (λ k. 1 + k) (sum_ext _ _ H.nodes (λ c h. ap bit (other_same c h)))
      ∙ sym (exact_number H t seen.ruled begun (rows_exact H t seen.ruled tree begun single))

-- the same by the slots of just the nodes
module _ (H : History) (t : ℕ) (tree : Tree H.edges H.edge t) {parents : List ℕ} (x : Exact H t parents) where
  pub all_counted : H.start ≤ t → OneReference H t
      → 1 + count_by (λ p. ltb p (length parents)) parents ≡ length (shown_rows H t)
  all_counted begun single =
      let by_place = counted_by (λ p. ltb p (length parents)) parents (length parents) (omega arith) in
      let all = take_all (length parents) parents (omega arith) in
      rw x.same (omega (arith, rw (all, x.same) at by_place)) ∙ counted H t tree x.seen begun single

  -- the walk by the slots is that of the snapshot
  pub walked : subtree (referent_at H.refs H.ref t) (kids_by parents) (length parents) no_node 0 ≡ shown_rows H t
  walked =
      rw x.same (subtree_ext (λ x. x < H.nodes) _ _ (λ n h. refl) (kids_by parents) (children_of H t)
      (λ n h. rw x.same (below_ext _ _ H.nodes (λ c g. child_same H t tree x.seen n c h g))) (λ n h. below_all _ _ H.nodes (λ c g e. g))
      H.nodes no_node 0 x.seen.ruled.root)
