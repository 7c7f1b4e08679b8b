-- What the promise of the call snapshot comes to.
--   contained         a successful answer is of a tree, and shows exactly what was contained (specs/Exact.antt)
--   refused_frame     a refused call leaves the output as it was
--   rows_needed       how many rows are needed: one for the root and one for each other node that is present
--   snapshot_unique   two outcomes that the promise allows coincide
-- Assumes nothing.
use mathlib.Core.Path.{◌≡◌, refl, sym, ap, ◌∙◌}
use mathlib.Core.Bool.{true, false, true≢false, false≢true}
use mathlib.Core.List.{List}
use Prim.Native.Nat.{ℕ, ◌+◌}
use lib.ListN.{length}
use Rattle.ground.specs.Lists.{front}
use Rattle.ground.specs.Sums.{count}
use Rattle.answers.specs.Answers.{Answer}
use Rattle.answers.specs.Answers.{Done}
use Rattle.answers.specs.Numbers.{refuses}
use Rattle.tables.specs.Tables.{Tables}
use Rattle.history.specs.Faults.{History, held}
use Rattle.history.specs.Document.{RootedTree}
use Rattle.history.proofs.DocumentLaws.{rooted_tree}
use Rattle.snapshot.specs.Snapshot.{ShownRow, shown_numbers, ShownRows, Ready, Snapshot, unready, short, shows}
use Rattle.snapshot.specs.Exact.{Exact}
use Rattle.snapshot.specs.Says.{rows_of, written}
use Rattle.snapshot.specs.Counts.{is_other}
use Rattle.snapshot.proofs.ReadyLaws.{ready_ruled, ready_tree, ready_single, unready_refuses}
use Rattle.snapshot.proofs.ExactLaws.{rows_exact, exact_number}
use Rattle.snapshot.proofs.SnapshotLaws.{shown_is, snapshot_is}

module _ (L : Tables) (t : ℕ) where
  abbrev H : History
  H = held L

  -- [demand 2] "A snapshot shows exactly what was contained at its instant."
  pub shown_exact : Ready L t → {xs : List ShownRow} → ShownRows H t xs → Exact H t xs
  shown_exact r x =
      rw (shown_is L t r x) (rows_exact H t (ready_ruled L t r) (ready_tree L t r) r.begun (ready_single L t r))

  -- the rows that are needed, and those that are shown, are the root's and one for each other node that is present
  pub rows_needed : Ready L t → {xs : List ShownRow} → ShownRows H t xs
      → length xs ≡ 1 + count (is_other H t) H.nodes
  rows_needed r x = exact_number H t (ready_ruled L t r) r.begun (shown_exact r x)

  module _ {before : List ℕ} where
    pub contained : {r : Answer} {after : List ℕ} → Snapshot L t before r after → refuses r ≡ false
        → RootedTree H t × ((xs : List ShownRow) × ShownRows H t xs × Exact H t xs × (r ≡ Done t (length xs))
        × (after ≡ front (shown_numbers xs) before))
    contained (unready u) f = absurd (false≢true (sym f ∙ unready_refuses L t u))
    contained (short k x h) f = absurd (true≢false f)
    contained (shows {xs = xs} k x h) f =
        (rooted_tree H (ready_ruled L t k) t (ready_tree L t k), (xs, x, shown_exact k x, refl, refl))

    pub refused_frame : {r : Answer} {after : List ℕ} → Snapshot L t before r after → refuses r ≡ true → after ≡ before
    refused_frame (unready u) e = refl
    refused_frame (short k x h) e = refl
    refused_frame (shows k x h) e = absurd (false≢true e)

    pub snapshot_unique : {r q : Answer} {after last : List ℕ} → Snapshot L t before r after
        → Snapshot L t before q last → (r ≡ q) × (after ≡ last)
    snapshot_unique x y =
        let (e, o) = snapshot_is L t before x in
        let (f, p) = snapshot_is L t before y in
        (e ∙ sym f, o ∙ ap (λ a. written a (rows_of H t) before) (e ∙ sym f) ∙ sym p)
