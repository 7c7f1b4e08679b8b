-- Each leaf finds what the computed table has at its line. A new kind of fault is one law of its leaf. Assumes nothing.
use mathlib.Core.Path.{◌≡◌, refl, sym, ap, ◌∙◌}
use mathlib.Core.Logic.Iff
use mathlib.Core.Logic.{◌≢◌, inl, inr, ⊎_elim}
use mathlib.Core.Bool.{Bool, true≢false}
use mathlib.Core.List.{List}
use Prim.Native.Nat.{ℕ, ◌≤◌, ◌<◌}
use native.Mathlib.Omega.{arith}
use lib.ListN.{length, take}
use lib.Dec.{eqb}
use Rattle.std.proofs.lemmas.List.{length-take-le}
use Rattle.std.specs.List.{position}
use Rattle.std.specs.Prelude.{Option, Some, None, Ok, Err}
use Rattle.ground.specs.Tests.{Tells}
use Rattle.ground.specs.Least.{Before}
use Rattle.ground.specs.Searches.{Finds}
use Rattle.ground.specs.Searches.{found}
use Rattle.ground.proofs.TestLaws.{tells_and}
use Rattle.ground.proofs.LeastLaws.{finds_unique, finds_tells, finds_same, position_found}
use Rattle.answers.specs.declared.Kind.{Kind}
use Rattle.answers.specs.declared.Outcome.{Outcome}
use Rattle.answers.specs.declared.Refusal.{Refusal}
use Rattle.answers.specs.Answers.{Answer, Faulty}
use Rattle.answers.specs.Numbers.{refuses}
use Rattle.answers.specs.Refusals.{fault}
use Rattle.tables.specs.Says.{named}
use Rattle.answers.specs.declared.Kind.TheVariants as kind
use Rattle.tables.specs.Rows.{Side}
use Rattle.tables.specs.Rows.{Attribute, Target}
use Rattle.tables.specs.Tables.{Now, ref_at}
use Rattle.tables.specs.Rows.{side_of}
use Rattle.tables.proofs.LabelLaws.{during_tells}
use Rattle.history.specs.Faults.{History, Overlap, Double, Here, HoldsAt}
use Rattle.history.specs.Ruled.{Ruled, LentRows}
use Rattle.history.specs.Places.{Astray, places}
use Rattle.history.specs.Computed.{holds}
use Rattle.history.proofs.RuledLaws.{ruled_below, ruled_side}
use Rattle.history.proofs.LineLaws.{lawful}
use Rattle.faults.specs.declared.spans.Span.{Span}
use Rattle.faults.specs.Slots.{Many, Slots}
use Rattle.faults.specs.Spans.{Bounds}
use Rattle.faults.specs.Walks.{Back}
use Rattle.faults.specs.Leaves.{is_many, is_gap_of, Parts, is_stray, Referring}
use Rattle.faults.specs.Judged.{Seen, Exact, Clear}
use Rattle.faults.proofs.SlotLaws.{slots_take}
use Rattle.faults.proofs.LeafLaws.{View, many_tells, absent_tells, gap_tells, parts_outside, outside_parts}
use Rattle.faults.proofs.LeafLaws.{back_cycle, cycle_back}

-- the smallest place of a line of the table, computed
abbrev pub line : History → ℕ → Kind → Option ℕ
line H t k = found (holds H t k) (places H k)

-- the ends of a history's references are nodes
pub ruled_referring : {H : History} → Ruled H → Referring H.refs H.ref H.nodes
ruled_referring r = ruled_side _ r

pub lent_referring : {start n m k : ℕ} {es rs : List ℕ} → LentRows start n es m rs k → Referring k (ref_at rs) n
lent_referring l = ruled_referring l.ruled

-- an answer that passes names no place
named_none : (answer : ℕ → Refusal) (r : Option ℕ) {done : Outcome} → named (λ p. Err (answer p)) r ≡ Ok done → r ≡ None
named_none answer None e = refl
named_none answer (Some p) e = absurd (true≢false (ap (λ a. refuses a) e))

-- the least place of a line, by whatever means it was found
line_is : {H : History} (t : ℕ) → Ruled H → (k : Kind) {r : Option ℕ} → Finds (HoldsAt H t k) (places H k) r
    → r ≡ line H t k
line_is {H} t ruled k l =
    finds_unique (HoldsAt H t k) (places H k) l
    (finds_tells (holds H t k) (HoldsAt H t k) (places H k) (λ q h. (lawful H k).tells ruled t q))

pub double_found : {H : History} (t : ℕ) → Ruled H → {r : Option ℕ} → Finds (Double H.ref t H.refs) H.nodes r
    → r ≡ line H t kind.Double
double_found t ruled l = line_is t ruled kind.Double l

module _ {H : History} {t : ℕ} {up : List ℕ} (s : Seen H t up) where
  pub view : View H.edges H.edge t H.nodes up
  view = record { below = ruled_below H s.ruled; few = s.ruled.few_nodes; long = s.long; slots = s.slots }

  -- the least place of a line, by a test
  test_is : (k : Kind) (test : ℕ → Bool) → ((q : ℕ) → q < places H k → Tells (test q) (HoldsAt H t k q))
      → found test (places H k) ≡ line H t k
  test_is k test tells = line_is t s.ruled k (finds_tells test (HoldsAt H t k) (places H k) tells)

  -- LATE and DANGLING: where a reference is in force, a node is absent by its slot exactly if it is not present
  stray_tells : (side : Side) (k : ℕ) → k < H.refs → Tells (is_stray up t side (H.ref k)) (Astray H t side k)
  stray_tells side k h =
      Iff.trans
      (tells_and _ _ (during_tells (H.ref k).from (H.ref k).to t)
      (absent_tells view (side_of side (H.ref k)) (ruled_side H s.ruled side k h))) (
        λ (f, (ne, away)). ((h, f), ⊎_elim (λ p. ne p.0) (λ p. away p.1.0 p.1.1)),
        λ ((g, f), away). (f, (ne f away, λ i p. away (inr (ne f away, (i, p))))),
      )
    where
      ne : ((H.ref k).from ≤ t) × (t ≤ (H.ref k).to) → (Here H t (side_of side (H.ref k)) → ⊥)
          → side_of side (H.ref k) ≢ 0
      ne f away e = away (inl (e, omega (arith, (s.ruled.ref_fits k h).begins)))

-- the first slots, as many as there are nodes
pub exactly : {H : History} {t : ℕ} (up : List ℕ) → Ruled H → H.nodes ≤ length up → Slots H.edge t H.edges up
    → Exact H t (take H.nodes up)
exactly {H} up r h s =
    let e : length (take H.nodes up) ≡ H.nodes = length-take-le H.nodes up h in
    record { seen = record { ruled = r; long = omega arith; slots = slots_take up H.nodes s }; same = e }

-- what the leaves up to GAP find
module _ {H : History} {t : ℕ} {up : List ℕ} (x : Exact H t up) where
  overlap_line : found (is_many up) H.nodes ≡ line H t kind.Overlap
  overlap_line = test_is x.seen kind.Overlap (is_many up) (many_tells (view x.seen))

  pub overlap_found : {r : Option ℕ} → r ≡ position (λ v. eqb v Many) up
      → r ≡ line H t kind.Overlap
  overlap_found e = e ∙ position_found (λ v. eqb v Many) up ∙ rw x.same overlap_line

  pub gap_found : t ≤ Now → {spans : List Span} → Bounds H.edges H.edge H.nodes spans
      → {r : Option ℕ} → r ≡ found (is_gap_of up spans t) (length up)
      → r ≡ line H t kind.Gap
  gap_found now {spans} b e =
      rw x.same at e ∙ test_is x.seen kind.Gap (is_gap_of up spans t)
      (λ q h. gap_tells (view x.seen) now (λ j l. (x.seen.ruled.edge_fits j l).ends) q h spans
      (b.each q (omega (arith, b.long))))

  -- a search that found no OVERLAP has shown that there is none
  pub clear : {a : Answer} {done : Outcome} {r : Option ℕ} → r ≡ position (λ v. eqb v Many) up
      → a ≡ named (λ p. Faulty t (fault kind.Overlap p)) r → a ≡ Ok done → Clear H t up
  clear {r = r} e f g =
      record { exact = x; sole = λ c p. none c ((lawful H kind.Overlap).below x.seen.ruled t c p) p }
    where
      none : Before (Overlap H.edges H.edge t) H.nodes
      none =
          let q : found (is_many up) H.nodes ≡ None
          = overlap_line ∙ sym (overlap_found e) ∙ named_none _ r (sym f ∙ g) in
          rw q at (finds_tells (is_many up) (Overlap H.edges H.edge t) H.nodes (many_tells (view x.seen)))

-- what each leaf after GAP finds
module _ {H : History} {t : ℕ} {up : List ℕ} (c : Clear H t up) {r : Option ℕ} where
  pub outside_found : Finds (Parts up (length up)) (length up) r → r ≡ line H t kind.Outside
  outside_found l =
      line_is t c.exact.seen.ruled kind.Outside
      (finds_same r (parts_outside (view c.exact.seen)) (λ q h. outside_parts (view c.exact.seen) c.sole q)
      (rw c.exact.same at l))

  pub cycle_found : Finds (Back up (length up)) (length up) r → r ≡ line H t kind.Cycle
  cycle_found l =
      line_is t c.exact.seen.ruled kind.Cycle
      (finds_same r (back_cycle (view c.exact.seen) c.sole) (cycle_back (view c.exact.seen) c.sole)
      (rw c.exact.same at l))

  pub late_found : r ≡ found (λ j. is_stray up t Attribute (H.ref j)) H.refs
      → r ≡ line H t kind.Late
  late_found e = e ∙ test_is c.exact.seen kind.Late _ (stray_tells c.exact.seen Attribute)

  pub dangling_found : r ≡ found (λ j. is_stray up t Target (H.ref j)) H.refs
      → r ≡ line H t kind.Dangling
  dangling_found e = e ∙ test_is c.exact.seen kind.Dangling _ (stray_tells c.exact.seen Target)
