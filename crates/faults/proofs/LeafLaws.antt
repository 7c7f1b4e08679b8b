-- What the slots, the spans and the walks tell of the rows: each leaf's test tells its line of the table. Assumes
-- nothing.
use mathlib.Core.Path.{◌≡◌, refl, sym, ap, ◌∙◌}
use mathlib.Core.Logic.Iff
use mathlib.Core.Logic.{◌≢◌, ⊎_elim, ◌↔◌}
use mathlib.Core.List.{List, [], ◌∷◌}
use Prim.Native.Nat.{ℕ, zero, suc, ◌≤◌, ◌<◌}
use native.Mathlib.Decide.{dec_le}
use native.Mathlib.Omega.{arith}
use lib.ListN.{length, get_or}
use Rattle.ground.specs.Tests.{Tells}
use Rattle.ground.proofs.TestLaws.{tells_and, tells_not, tells_lt, tells_eq}
use Rattle.tables.specs.Tables.{Now, no_node, EdgeRow}
use Rattle.tables.specs.Rules.{most_nodes}
use Rattle.history.specs.Faults.{Into, Out, Ended, Coming, NoneInto, Chain, Overlap, Gap, Outside, Cycle}
use Rattle.history.specs.Places.{Leads, NodesBelow}
use Rattle.history.proofs.ComputedLaws.{leads_into, into_leads}
use Rattle.faults.specs.declared.spans.Span.{Span}
use Rattle.faults.specs.Slots.{Many, Slot, empty, single, several, Slots}
use Rattle.faults.specs.Spans.{span_at, Spanned}
use Rattle.faults.specs.Walks.{above, climb, Back}
use Rattle.faults.specs.Leaves.{is_many, is_absent_of, is_gap_of, Parts}
use Rattle.faults.proofs.WalkLaws.{above_in, climb_none, climb_suc, climb_stays}

-- the slots of n nodes after all m rows: what the leaves see of an instant
pub record View (m : ℕ) (E : ℕ → EdgeRow) (t n : ℕ) (up : List ℕ) : Type 0 where
  pub below : NodesBelow m E n
  pub few : n ≤ most_nodes
  pub long : n ≤ length up
  pub slots : Slots E t m up

module _ {m : ℕ} {E : ℕ → EdgeRow} {t n : ℕ} {up : List ℕ} (v : View m E t n up) where
  small : (j : ℕ) → j < m → (E j).parent < Many
  small j h = omega (arith, (v.below j h).0, v.few)

  -- what a slot says
  none_into : (c : ℕ) → c < length up → get_or up c 0 ≡ no_node → NoneInto m E t c
  none_into c l e = go (v.slots c l)
    where
      go : Slot (Leads E t c) (λ j. (E j).parent) m (get_or up c 0) → NoneInto m E t c
      go (empty q f) = λ j p. f j p.row (into_leads m E t c j p)
      go (single j h x q u) = absurd (omega (arith, small j h))
      go (several q j k h l x y) = absurd (omega arith)

  into_none : (c : ℕ) → c < length up → NoneInto m E t c → get_or up c 0 ≡ no_node
  into_none c l f = go (v.slots c l)
    where
      go : Slot (Leads E t c) (λ j. (E j).parent) m (get_or up c 0) → get_or up c 0 ≡ no_node
      go (empty q g) = q
      go (single j h x q u) = absurd (f j (leads_into m E t c j h x))
      go (several q j k h l x y) = absurd (f k (leads_into m E t c k l y))

  many_into : (c : ℕ) → c < length up → get_or up c 0 ≡ Many → Overlap m E t c
  many_into c l e = go (v.slots c l)
    where
      go : Slot (Leads E t c) (λ j. (E j).parent) m (get_or up c 0) → Overlap m E t c
      go (empty q f) = absurd (omega arith)
      go (single j h x q u) = absurd (omega (arith, small j h))
      go (several q j k h l x y) = (j, k, h, leads_into m E t c j (omega arith) x, leads_into m E t c k l y)

  into_many : (c : ℕ) → c < length up → Overlap m E t c → get_or up c 0 ≡ Many
  into_many c l (i, j, h, p, q) = go (v.slots c l)
    where
      go : Slot (Leads E t c) (λ j. (E j).parent) m (get_or up c 0) → get_or up c 0 ≡ Many
      go (empty e f) = absurd (f i p.row (into_leads m E t c i p))
      go (single k g x e u) =
          absurd (omega (arith, u i p.row (into_leads m E t c i p), u j q.row (into_leads m E t c j q)))
      go (several e k k' g g' x y) = e

  pub many_tells : (c : ℕ) → c < n → Tells (is_many up c) (Overlap m E t c)
  many_tells c l = Iff.trans (tells_eq (get_or up c 0) Many) (many_into c (omega arith), into_many c (omega arith))

  pub absent_tells : (c : ℕ) → c < n → Tells (is_absent_of up c) ((c ≢ 0) × NoneInto m E t c)
  absent_tells c l =
      Iff.trans (tells_and _ _ (tells_not _ (tells_eq c 0)) (tells_eq (get_or up c 0) no_node))
      (λ x. (x.0, none_into c (omega arith) x.1), λ x. (x.0, into_none c (omega arith) x.1))

  -- GAP: of an absent node, a row ended exactly if the first start is before t, and one comes exactly if the last end
  -- is after t
  module _ (now : t ≤ Now) (ordered : (j : ℕ) → j < m → (E j).from ≤ (E j).to) (c : ℕ)
      (span : Span) (stay : Spanned E c m span) (away : NoneInto m E t c) where
    ended_row : (j : ℕ) → j < m → (E j).child ≡ c → (E j).from < t → (E j).to < t
    ended_row j h e l = go (dec_le t (E j).to)
      where
        go : Dec (t ≤ (E j).to) → (E j).to < t
        go (yes g) = absurd (away j (leads_into m E t c j h (e, (omega arith, g))))
        go (no g) = omega arith

    coming_row : (j : ℕ) → j < m → (E j).child ≡ c → t < (E j).to → t < (E j).from
    coming_row j h e l = go (dec_le (E j).from t)
      where
        go : Dec ((E j).from ≤ t) → t < (E j).from
        go (yes g) = absurd (away j (leads_into m E t c j h (e, (g, omega arith))))
        go (no g) = omega arith

    first_ended : (span.first < t) ↔ ((i : ℕ) × Ended m E t c i)
    first_ended = (
      λ l. ⊎_elim (λ q. absurd (omega arith))
          (λ (j, h, (e, q)). (j, record { row = h; into = e; past = ended_row j h e (omega arith) })) stay.starts,
      λ (i, p). omega (arith, stay.none_sooner i p.row p.into, ordered i p.row, p.past),
    )

    last_coming : (t < span.last) ↔ ((i : ℕ) × Coming m E t c i)
    last_coming = (
      λ l. ⊎_elim (λ q. absurd (omega arith))
          (λ (j, h, (e, q)). (j, record { row = h; into = e; ahead = coming_row j h e (omega arith) })) stay.ends,
      λ (i, p). omega (arith, stay.none_later i p.row p.into, ordered i p.row, p.ahead),
    )

  pub gap_tells : t ≤ Now → ((j : ℕ) → j < m → (E j).from ≤ (E j).to) → (c : ℕ) → c < n → (spans : List Span)
      → Spanned E c m (span_at spans c) → Tells (is_gap_of up spans t c) (Gap m E t c)
  gap_tells now ordered c l spans stay =
      Iff.trans (tells_and _ _ (absent_tells c l)
      (tells_and _ _ (tells_lt (span_at spans c).first t) (tells_lt t (span_at spans c).last))) (
        λ ((ne, away), (f, g)).
            (ne, away, (first_ended now ordered c _ stay away).0 f, (last_coming now ordered c _ stay away).0 g),
        λ (ne, away, f, g). (
          (ne, away),
          ((first_ended now ordered c _ stay away).1 f, (last_coming now ordered c _ stay away).1 g),
        ),
      )

  -- OUTSIDE: an absent node that is a slot has a row out of it
  part_out : (c x : ℕ) → c < n → x < n → get_or up c 0 ≡ x → (i : ℕ) × Out m E t x i
  part_out c x l h e = go (v.slots c (omega (arith, v.long)))
    where
      go : Slot (Leads E t c) (λ j. (E j).parent) m (get_or up c 0) → (i : ℕ) × Out m E t x i
      go (empty q f) = absurd (omega arith)
      go (single j g y q u) = (j, record { row = g; out = sym q ∙ e; force = y.1 })
      go (several q j k g g' y z) = absurd (omega arith)

  pub parts_outside : (x : ℕ) → x < n → Parts up n x → Outside m E t x
  parts_outside x l (a, (c, h, e)) = let (ne, away) = (absent_tells x l).0 a in (ne, part_out c x h l e, away)

  -- where no two rows lead into one node, a node's slot is the parent of its row
  module _ (sole : (c : ℕ) → Overlap m E t c → ⊥) where
    pub slot_row : (c j : ℕ) → c < n → Into m E t c j → get_or up c 0 ≡ (E j).parent
    slot_row c j l p = go (v.slots c (omega (arith, v.long)))
      where
        go : Slot (Leads E t c) (λ j. (E j).parent) m (get_or up c 0) → get_or up c 0 ≡ (E j).parent
        go (empty q f) = absurd (f j p.row (into_leads m E t c j p))
        go (single k g x q u) = q ∙ ap (λ y. (E y).parent) (sym (u j p.row (into_leads m E t c j p)))
        go (several q k k' g g' x y) =
            absurd (sole c (k, k', g, leads_into m E t c k (omega arith) x, leads_into m E t c k' g' y))

    pub outside_parts : (x : ℕ) → Outside m E t x → Parts up n x
    outside_parts x (ne, (i, o), away) =
        let l : x < n = omega (arith, (v.below i o.row).0, o.out) in
        let c : (E i).child < n = (v.below i o.row).1 in (
          (absent_tells x l).1 (ne, away),
          (
            (E i).child,
            c,
            slot_row (E i).child i c
                (record { row = o.row; into = refl; force = o.force }) ∙ o.out,
          ),
        )

    pub row_slot : (c : ℕ) → c < n → above up n c < n → (j : ℕ) × Into m E t c j × (above up n c ≡ (E j).parent)
    row_slot c l h = go (v.slots c (omega (arith, v.long)))
      where
        at : above up n c ≡ get_or up c 0
        at = above_in up n c l

        go : Slot (Leads E t c) (λ j. (E j).parent) m (get_or up c 0)
            → (j : ℕ) × Into m E t c j × (above up n c ≡ (E j).parent)
        go (empty q f) = absurd (omega (arith, at))
        go (single j g x q u) = (j, leads_into m E t c j g x, at ∙ q)
        go (several q j k g g' x y) = absurd (omega (arith, at))

    -- CYCLE: a chain is a walk up, and the other way round
    pub chain_climb : (a c : ℕ) (is : List ℕ) → c < n → Chain m E t a c is → climb up n (length is) c ≡ a
    chain_climb a c [] l p = climb_none up n c ∙ sym p
    chain_climb a c (i ∷ is) l p =
        climb_suc up n (length is) c ∙ ap (climb up n (length is)) (above_in up n c l ∙ slot_row c i l p.0)
        ∙ chain_climb a (E i).parent is (v.below i p.0.row).0 p.1

    pub climb_chain : (k a c : ℕ) → a < n → c < n → climb up n k c ≡ a
        → (is : List ℕ) × Chain m E t a c is × (length is ≡ k)
    climb_chain zero a c la lc e = ([], sym e ∙ climb_none up n c, refl)
    climb_chain (suc k) a c la lc e = go (dec_le n (above up n c)) (climb_chain k a)
      where
        up_one : climb up n k (above up n c) ≡ a
        up_one = sym (climb_suc up n k c) ∙ e

        go : Dec (n ≤ above up n c)
            → ((d : ℕ) → a < n → d < n → climb up n k d ≡ a → (is : List ℕ) × Chain m E t a d is × (length is ≡ k))
            → (is : List ℕ) × Chain m E t a c is × (length is ≡ suc k)
        go (yes o) ih =
            absurd (omega (
              arith,
              up_one,
              climb_stays up n (omega arith) 0 k (above up n c) (omega arith)
                  (rw (climb_none up n (above up n c)) o),
            ))
        go (no o) ih =
            let (j, p, q) = row_slot c lc (omega arith) in
            let (is, x, r) = ih (E j).parent la (v.below j p.row).0 (rw q at up_one) in
            (j ∷ is, (p, x), ap suc r)

    pub back_cycle : (c : ℕ) → c < n → Back up n c → Cycle m E t c
    back_cycle c l (k, e) = go (climb_chain (suc k) c c l l e)
      where
        take : (is : List ℕ) → Chain m E t c c is → length is ≡ suc k → Cycle m E t c
        take [] p q = absurd (omega arith)
        take (i ∷ is) p q = (i, is, p)

        go : (is : List ℕ) × Chain m E t c c is × (length is ≡ suc k) → Cycle m E t c
        go (is, p, q) = take is p q

    pub cycle_back : (c : ℕ) → c < n → Cycle m E t c → Back up n c
    cycle_back c l (i, is, p) = (length is, chain_climb c c (i ∷ is) l p)
