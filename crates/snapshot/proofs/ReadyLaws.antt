-- Readiness has one answer, the one that is computed, and refuses exactly what is not ready. Assumes nothing.
use mathlib.Core.Path.{◌≡◌, refl, sym, ap, subst, ◌∙◌}
use mathlib.Core.Logic.{◌↔◌}
use mathlib.Core.Bool.{true, false, false≢true}
use mathlib.Core.List.{List}
use Prim.Native.Nat.{ℕ, ◌+◌, ◌≤◌, ◌<◌}
use native.Mathlib.Omega.{arith}
use lib.Dec.{ltb}
use lib.ListN.{length, get_or, take}
use Rattle.std.specs.List.{count_by}
use borrow.Author.Tests.{lt-ltb, le-ltb}
use Rattle.ground.specs.Sums.{count}
use Rattle.ground.proofs.TestLaws.{by_test, by_lt}
use Rattle.std.specs.Prelude.{Ok, Err}
use Rattle.answers.specs.declared.Fault.{Fault}
use Rattle.answers.specs.declared.Outcome.{Outcome}
use Rattle.answers.specs.declared.Refusal.{Refusal}
use Rattle.answers.specs.declared.Kind.TheVariants as kind
use Rattle.answers.specs.Answers.{Answer}
use Rattle.answers.specs.Answers.{Early}
use Rattle.answers.specs.Numbers.{refuses, passed}
use Rattle.answers.specs.Refusals.{fault}
use Rattle.tables.specs.Tables.{no_node, Tables}
use Rattle.tables.specs.Rules.{Obeys}
use Rattle.tables.specs.Says.{history_says}
use Rattle.tables.proofs.GivesLaws.{gives_is, gives_says, obeys_tells}
use Rattle.history.specs.declared.ruled.History.{History as Held}
use Rattle.history.specs.Taken.{held_in, Taken}
use Rattle.history.specs.Faults.{History, held, GapAside}
use Rattle.history.specs.Sound.{OneReference}
use Rattle.history.specs.Ruled.{Ruled}
use Rattle.history.specs.Places.{Names, none, first}
use Rattle.history.specs.Computed.{shown_say}
use Rattle.history.proofs.SayLaws.{shown_named}
use Rattle.history.proofs.RuledLaws.{obeys_ruled}
use Rattle.history.proofs.SoundLaws.{undoubled_one}
use Rattle.history.proofs.Tree.{Tree}
use Rattle.history.proofs.VerdictLaws.{names_unique}
use Rattle.faults.specs.Judged.{Seen, Exact, Shows}
use Rattle.snapshot.specs.Snapshot.{Ready, Unready, ruled_out, early, faulty}
use Rattle.snapshot.specs.Says.{referent_at, shown_rows, instant_says, ready_says}
use Rattle.snapshot.specs.Readied.{Readiness, refused, is_ready, Showing}
use Rattle.snapshot.specs.Walk.{subtree}
use Rattle.snapshot.specs.Lists.{kids_by, rows_by}
use Rattle.faults.proofs.JudgeLaws.{exactly}
use Rattle.snapshot.proofs.RowLaws.{counted, all_counted, walked}

-- what is computed at an instant: before the start, and where a fault is named or none
module _ (H : History) (t : ℕ) where
  none_tree : ((f : Fault) → GapAside H t f → ⊥) → Tree H.edges H.edge t
  none_tree never =
      record {
        no_overlap = λ n x. never (fault kind.Overlap n) (x, omega arith);
        no_outside = λ n x. never (fault kind.Outside n) (x, omega arith);
        no_cycle = λ n x. never (fault kind.Cycle n) (x, omega arith);
      }

  none_single : ((f : Fault) → GapAside H t f → ⊥) → OneReference H t
  none_single never = undoubled_one H t (λ a x. never (fault kind.Double a) (x, omega arith))

  early_says : t < H.start → instant_says H t ≡ Early t
  unfolding instant_says
  early_says h = rw (lt-ltb t H.start h)

  begun_says : H.start ≤ t → instant_says H t ≡ shown_say H t
  unfolding instant_says
  begun_says h = rw (le-ltb t H.start h)

module _ (L : Tables) (t : ℕ) where
  abbrev H : History
  H = held L

  abbrev Is : Answer → Type 0
  Is = Readiness L t

  abbrev Known : Type 0
  Known = Ready L t

  pub ready_ruled : Known → Ruled H
  ready_ruled r = obeys_ruled L r.obeys

  pub ready_tree : Known → Tree H.edges H.edge t
  ready_tree r = none_tree H t r.none

  pub ready_single : Known → OneReference H t
  ready_single r = none_single H t r.none

  says_refused : refuses (history_says L) ≡ true → ready_says L t ≡ history_says L
  unfolding ready_says
  says_refused e = rw e

  says_obeyed : Obeys L → ready_says L t ≡ instant_says H t
  unfolding ready_says
  says_obeyed o = rw ((obeys_tells L).1 o)

  says_ready : (r : Known) → ready_says L t ≡ passed
  says_ready r =
      says_obeyed r.obeys ∙ begun_says H t r.begun
      ∙ names_unique (GapAside H t) t (shown_named H t (ready_ruled r)) (none r.none)

  pub readiness_is : {a : Answer} → Is a → a ≡ ready_says L t
  readiness_is (refused (ruled_out g e)) =
      let q = gives_is L g in
      q ∙ sym (says_refused (ap refuses (sym q) ∙ e))
  readiness_is (refused (early o h)) = sym (says_obeyed o ∙ early_says H t h)
  readiness_is (refused (faulty o b x)) =
      names_unique (GapAside H t) t (first x) (shown_named H t (obeys_ruled L o))
      ∙ sym (says_obeyed o ∙ begun_says H t b)
  readiness_is (is_ready r) = sym (says_ready r)

  -- the answers: where a rule is broken, before the start, and what the judge names
  ruled_out_says : refuses (history_says L) ≡ true → Unready L t (history_says L)
  ruled_out_says e = ruled_out (gives_says L) e

  shown_readiness : Obeys L → L.start ≤ t → {a : Answer} → Names (GapAside H t) t a → Is a
  shown_readiness o b (none n) = is_ready (record { obeys = o; begun = b; none = n })
  shown_readiness o b (first x) = refused (faulty o b x)

  pub readiness_exists : (a : Answer) × Is a
  readiness_exists =
      by_test (refuses (history_says L))
      (λ e. (history_says L, refused (ruled_out_says e)))
      (λ e.
      let o = (obeys_tells L).0 e in
      by_lt t L.start
      (λ h. (Early t, refused (early o h)))
      (λ h. (shown_say H t, shown_readiness o h (shown_named H t (obeys_ruled L o)))))

  pub unready_refuses : {a : Answer} → Unready L t a → refuses a ≡ true
  unready_refuses (ruled_out g e) = e
  unready_refuses (early o h) = refl
  unready_refuses (faulty {f = f} o b x) = refl

  readiness_ready : {a : Answer} → Is a → refuses a ≡ false → Known
  readiness_ready (refused u) e = absurd (false≢true (sym e ∙ unready_refuses u))
  readiness_ready (is_ready r) e = r

  pub ready_tells : {a : Answer} → Is a → (refuses a ≡ false) ↔ Known
  ready_tells x = (readiness_ready x, λ r. ap refuses (readiness_is x ∙ says_ready r))

  pub readiness_unready : {a : Answer} → Is a → refuses a ≡ true → Unready L t a
  readiness_unready (refused u) e = u
  readiness_unready (is_ready r) e = absurd (false≢true e)

  -- what the code has in hand where it answers so: the rules refuse
  pub rules_refuse : {e : Refusal} → history_says L ≡ Err e → Unready L t (Err e)
  rules_refuse q = subst (Unready L t) q (ruled_out_says (ap refuses q))

  -- they do not, and the tables are a history: the instant is before its start, the judge refuses, or neither
  module _ (h : Held) (o : Taken L (Ok h)) where
    pub too_early : t < h.start → Unready L t (Early t)
    too_early l = early o.0 (omega (arith, ap (λ H. H.start) o.1))

    module _ (b : h.start ≤ t) (up : List ℕ) where
      judged : (a : Answer) → Shows (held_in h) t up a → Is a
      judged a x =
          let begun : L.start ≤ t = omega (arith, ap (λ H. H.start) o.1) in
          let says : a ≡ shown_say H t = x.answer ∙ ap (λ H. shown_say H t) o.1 in
          shown_readiness o.0 begun (subst (Names (GapAside H t) t) (sym says) (shown_named H t (obeys_ruled L o.0)))

      pub judge_refuses : {e : Refusal} → Shows (held_in h) t up (Err e) → Unready L t (Err e)
      judge_refuses x = readiness_unready (judged _ x) refl

      pub judge_shows : {done : Outcome} → h.nodes ≤ length up → Shows (held_in h) t up (Ok done) → Showing L t h up
      judge_shows l x =
          let seen : Seen (held_in h) t up = record { ruled = h.ruled; long = l; slots = x.slots } in
          record { ready = (ready_tells (judged _ x)).0 refl; holds = o.1; seen = rw o.1 at seen }

  -- the slots of the nodes count the rows and show them
  module _ {h : Held} {up : List ℕ} (x : Showing L t h up) where
    abbrev parents : List ℕ
    parents = take h.nodes up

    nodes : h.nodes ≡ H.nodes
    nodes = ap (λ H. H.nodes) x.holds

    exact : Exact H t parents
    exact = rw nodes (exactly up x.seen.ruled x.seen.long x.seen.slots)

    pub ready_counted : 1 + count (λ c. ltb (get_or up c 0) H.nodes) H.nodes ≡ length (shown_rows H t)
    ready_counted = counted H t (ready_tree x.ready) x.seen x.ready.begun (ready_single x.ready)

    pub ready_all_counted : 1 + count_by (λ p. ltb p (length parents)) parents ≡ length (shown_rows H t)
    ready_all_counted = all_counted H t (ready_tree x.ready) exact x.ready.begun (ready_single x.ready)

    pub ready_rows : rows_by parents h.refs t ≡ shown_rows H t
    ready_rows =
        ap (λ H. subtree (referent_at H.refs H.ref t) (kids_by parents) (length parents) no_node 0) x.holds
        ∙ walked H t (ready_tree x.ready) exact

    pub ready_long : length parents ≡ h.nodes
    ready_long = exact.same ∙ sym nodes
