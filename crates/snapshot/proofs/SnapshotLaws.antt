-- The computed outcome is the one that the words allow; and what the call gives where it refuses, where the output is
-- too short, and where it is not. Assumes nothing.
use mathlib.Core.Path.{◌≡◌, refl, sym, ap, ◌∙◌}
use mathlib.Core.Bool.{true}
use mathlib.Core.List.{List}
use Prim.Native.Nat.{ℕ, ◌+◌, ◌*◌, ◌≤◌, ◌<◌}
use native.Mathlib.Omega.{arith}
use lib.Dec.{ltb}
use lib.ListN.{length, take}
use Rattle.std.specs.List.{count_by}
use borrow.Author.Tests.{lt-ltb, le-ltb}
use Rattle.ground.specs.Lists.{front}
use Rattle.ground.proofs.TestLaws.{by_lt}
use Rattle.answers.specs.Answers.{Answer}
use Rattle.answers.specs.Answers.{Done, Room}
use Rattle.answers.specs.Numbers.{refuses}
use Rattle.tables.specs.Tables.{Tables}
use Rattle.history.specs.declared.ruled.History.{History as Taken}
use Rattle.history.specs.Faults.{History, held}
use Rattle.faults.proofs.JudgeLaws.{ruled_referring}
use Rattle.snapshot.specs.Snapshot.{ShownRow, shown_width, shown_numbers, ShownRows, Ready, Unready, Snapshot, unready}
use Rattle.snapshot.specs.Snapshot.{short, shows}
use Rattle.snapshot.specs.Says.{shown_rows, rows_of, ready_says, room_says, snapshot_says, written}
use Rattle.snapshot.specs.Readied.{Readiness, refused, is_ready, Showing}
use Rattle.snapshot.specs.Lists.{rows_by, Showable}
use Rattle.snapshot.proofs.ShownLaws.{subtree_unique, rows_shown}
use Rattle.snapshot.proofs.ReadyLaws.{ready_ruled, ready_tree, readiness_is, readiness_exists, unready_refuses}
use Rattle.snapshot.proofs.ReadyLaws.{ready_all_counted, ready_rows, ready_long}

room_short : (t k room : ℕ) → room < k * shown_width → room_says t k room ≡ Room t k
unfolding room_says
room_short t k room h = rw (lt-ltb room (k * shown_width) h)

room_done : (t k room : ℕ) → k * shown_width ≤ room → room_says t k room ≡ Done t k
unfolding room_says
room_done t k room h = rw (le-ltb room (k * shown_width) h)

written_none : (a : Answer) (rows before : List ℕ) → refuses a ≡ true → written a rows before ≡ before
unfolding written
written_none a rows before e = rw e

module _ (L : Tables) (t : ℕ) where
  abbrev H : History
  H = held L

  -- the rows of what is ready are those that are computed
  pub ready_shown : Ready L t → ShownRows H t (shown_rows H t)
  ready_shown r = rows_shown H t (ready_ruled L t r) (ready_tree L t r)

  pub shown_is : Ready L t → {xs : List ShownRow} → ShownRows H t xs → xs ≡ shown_rows H t
  shown_is r x = subtree_unique H t x (ready_shown r)

  module _ (before : List ℕ) where
    abbrev Gives : Answer → List ℕ → Type 0
    Gives = Snapshot L t before

    abbrev says : Answer
    says = snapshot_says L t (length before)

    says_unready : refuses (ready_says L t) ≡ true → says ≡ ready_says L t
    unfolding snapshot_says
    says_unready e = rw e

    says_ready : Ready L t → says ≡ room_says t (length (shown_rows H t)) (length before)
    unfolding snapshot_says
    says_ready r = rw (← readiness_is L t (is_ready r))

    -- what the words allow is computed
    pub snapshot_is : {r : Answer} {after : List ℕ} → Gives r after
        → (r ≡ says) × (after ≡ written r (rows_of H t) before)
    unfolding written
    snapshot_is (unready {a = a} u) =
        let q = readiness_is L t (refused u) in
        let e = unready_refuses L t u in
        (q ∙ sym (says_unready (ap refuses (sym q) ∙ e)), sym (written_none a (rows_of H t) before e))
    snapshot_is (short r x h) =
        let e = shown_is r x in
        (rw e (sym (says_ready r ∙ room_short t _ _ (rw e at h))), refl)
    snapshot_is (shows r x h) =
        let e = shown_is r x in
        (rw e (sym (says_ready r ∙ room_done t _ _ (rw e at h))), ap (λ xs. front (shown_numbers xs) before) e)

    snapshot_exists : {a : Answer} → Readiness L t a → (r : Answer) × (after : List ℕ) × Gives r after
    snapshot_exists (refused u) = (_, before, unready u)
    snapshot_exists (is_ready r) =
        let xs = shown_rows H t in
        by_lt (length before) (length xs * shown_width)
        (λ h. (Room t (length xs), before, short r (ready_shown r) h))
        (λ h. (Done t (length xs), front (shown_numbers xs) before, shows r (ready_shown r) h))

    -- and what is computed is allowed
    pub says_snapshot : Gives says (written says (rows_of H t) before)
    says_snapshot =
        let (r, after, x) = snapshot_exists (readiness_exists L t).1 in
        let (e, o) = snapshot_is x in
        rw (← e, ← o) x

    -- the call's promise, by what the code has in hand where it answers so: a refusal
    pub on_unready : {a : Answer} → Unready L t a → Gives a before
    on_unready = unready

    -- the history can be shown, and its rows are counted by the parents
    module _ {h : Taken} {up : List ℕ} (x : Showing L t h up) {k : ℕ}
        (counted : k ≡ 1 + count_by (λ p. ltb p (length (take h.nodes up))) (take h.nodes up)) where
      needed : k ≡ length (shown_rows H t)
      needed = counted ∙ ready_all_counted L t x

      pub on_short : length before < k * shown_width → Gives (Room t k) before
      on_short l = rw needed (short x.ready (ready_shown x.ready) (rw needed at l))

      module _ (fits : k * shown_width ≤ length before) where
        pub rows_showable : Showable (take h.nodes up) h.refs t before
        rows_showable =
            let long = ready_long L t x in
            record {
              some = omega (arith, h.ruled.root);
              few = omega (arith, h.ruled.few_nodes);
              refers = rw long (ruled_referring h.ruled);
              room = omega (arith, needed, ap length (ready_rows L t x));
            }

        pub on_rows : {after : List ℕ} → after ≡ front (shown_numbers (rows_by (take h.nodes up) h.refs t)) before
            → Gives (Done t k) after
        on_rows o =
            let shown = ap (λ xs. front (shown_numbers xs) before) (ready_rows L t x) in
            rw (needed, o ∙ shown) (shows x.ready (ready_shown x.ready) (rw needed at fits))
