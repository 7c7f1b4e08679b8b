-- A slot after one more row, and the slots after a store. Assumes nothing.
use mathlib.Core.Path.{◌≡◌, refl, sym, subst}
use mathlib.Core.Logic.{◌⊎◌, ⊎_elim}
use mathlib.Core.Bool.{true, cond}
use mathlib.Core.List.{List}
use Prim.Native.Nat.{ℕ, ◌+◌, ◌≤◌, ◌<◌}
use native.Mathlib.Decide.{ℕ_discrete}
use native.Mathlib.Nat.{eq-or-lt_of_le}
use native.Mathlib.Omega.{arith}
use lib.Dec.{eqb}
use borrow.Author.Tests.{eqb-true, eqb-false}
use Rattle.std.proofs.lemmas.List.{get_or-take, length-take}
use lib.ListN.{length, get_or, set, take, replicate, length-set, get_or-replicate, length-replicate}
use lib.Seq.{get_or-set_same, get_or-set_other}
use Rattle.ground.proofs.LeastLaws.{before_more}
use Rattle.ground.proofs.TestLaws.{by_test, tells_fail}
use Rattle.tables.specs.Tables.{During, no_node, EdgeRow}
use Rattle.tables.specs.Labels.{during}
use Rattle.tables.specs.Rules.{most_nodes}
use Rattle.tables.proofs.LabelLaws.{during_tells}
use Rattle.history.specs.Faults.{History}
use Rattle.history.specs.Ruled.{Ruled}
use Rattle.history.specs.Places.{Leads, NodesBelow}
use Rattle.faults.specs.Slots.{Many, slots_with, Slot, empty, single, several, Slots, BlankSlots, Fresh}

module _ (L : ℕ → Type 0) (value : ℕ → ℕ) (i v : ℕ) where
  last_or : (k : ℕ) → k < i + 1 → (k ≡ i) ⊎ (k < i)
  last_or k h = eq-or-lt_of_le (omega arith)

  -- row i has not the property
  pub slot_skip : (L i → ⊥) → Slot L value i v → Slot L value (i + 1) v
  slot_skip f (empty e b) = empty e (before_more L i b f)
  slot_skip f (single j h x e u) =
      single j (omega arith) x e (λ k l y. ⊎_elim (λ q. absurd (f (subst L q y))) (λ g. u k g y) (last_or k l))
  slot_skip f (several e j k h l x y) = several e j k h (omega arith) x y

  -- row i has it, and it is the first, or one more
  module _ (small : (j : ℕ) → j < i → value j < Many) (here : L i) where
    pub slot_first : v ≡ no_node → Slot L value i v → Slot L value (i + 1) (value i)
    slot_first e (empty q b) =
        single i (omega arith) here refl (λ k l y. ⊎_elim (λ q. q) (λ g. absurd (b k g y)) (last_or k l))
    slot_first e (single j h x q u) = absurd (omega (arith, small j h))
    slot_first e (several q j k h l x y) = absurd (omega arith)

    pub slot_more : (v ≡ no_node → ⊥) → Slot L value i v → Slot L value (i + 1) Many
    slot_more f (empty q b) = absurd (f q)
    slot_more f (single j h x q u) = several refl j i h (omega arith) x here
    slot_more f (several q j k h l x y) = several refl j k h (omega arith) x y

module _ (E : ℕ → EdgeRow) (t i : ℕ) (up : List ℕ) where
  -- row i is not in force
  pub slots_skip : (During (E i).from (E i).to t → ⊥) → Slots E t i up → Slots E t (i + 1) up
  slots_skip f s c h = slot_skip (Leads E t c) (λ j. (E j).parent) i (get_or up c 0) (λ x. f x.1) (s c h)

  -- row i is in force: its child's slot is stored anew
  pub slots_set : (v : ℕ) → (E i).child < length up → Slot (Leads E t (E i).child) (λ j. (E j).parent) (i + 1) v
      → Slots E t i up
      → Slots E t (i + 1) (set up (E i).child v)
  slots_set v l x s c h = go (ℕ_discrete c (E i).child)
    where
      inside : c < length up
      inside = omega (arith, length-set up (E i).child v)

      go : Dec (c ≡ (E i).child) → Slot (Leads E t c) (λ j. (E j).parent) (i + 1) (get_or (set up (E i).child v) c 0)
      go (yes e) = rw (e, get_or-set_same up (E i).child v 0 l) x
      go (no e) =
          rw (get_or-set_other up (E i).child c v 0 e)
          (slot_skip (Leads E t c) (λ j. (E j).parent) i (get_or up c 0) (λ y. e (sym y.0)) (s c inside))

-- row i in force, after the rows before it: what its child's slot says then
slot_with : (E : ℕ → EdgeRow) (t i : ℕ) (v : ℕ) → ((j : ℕ) → j < i → (E j).parent < Many)
    → Leads E t (E i).child i → Slot (Leads E t (E i).child) (λ j. (E j).parent) i v
    → Slot (Leads E t (E i).child) (λ j. (E j).parent) (i + 1) (cond (eqb v no_node) (E i).parent Many)
slot_with E t i v small here s =
    by_test (eqb v no_node) (λ e. rw e (slot_first _ (λ j. (E j).parent) i v small here (eqb-true _ _ e) s))
    (λ e. rw e (slot_more _ (λ j. (E j).parent) i v small here (eqb-false _ _ e) s))

-- the slots after row i, in a pass that began with the slots up₀
pub slots_next : {E : ℕ → EdgeRow} {m t i : ℕ} {up₀ : List ℕ} (up : List ℕ) → BlankSlots m E t up₀
    → length up ≡ length up₀ → i < m → Slots E t i up → Slots E t (i + 1) (slots_with (E i) t up)
slots_next {E} {t = t} {i} up b same h s =
    by_test (during (E i).from (E i).to t) (λ f. rw f (slots_set E t i up _ inside (after f) s))
    (λ f. rw f (slots_skip E t i up (tells_fail (during_tells _ _ t) f) s))
  where
    inside : (E i).child < length up
    inside = omega (arith, b.nodes i h)

    after : during (E i).from (E i).to t ≡ true
        → Slot (Leads E t (E i).child) (λ j. (E j).parent) (i + 1)
        (cond (eqb (get_or up (E i).child 0) no_node) (E i).parent Many)
    after f =
        slot_with E t i _ (λ j l. omega (arith, b.nodes j (omega arith), b.few)) (refl, (during_tells _ _ t).0 f)
        (s (E i).child inside)

-- slots that are all no_node are those of no row
pub fresh : {n : ℕ} → n ≤ most_nodes → Fresh n (replicate most_nodes no_node)
fresh h =
    record {
      long = omega (arith, length-replicate most_nodes no_node);
      few = omega (arith, length-replicate most_nodes no_node);
      blank = λ c l. get_or-replicate most_nodes c no_node 0 (omega (arith, length-replicate most_nodes no_node));
    }

-- the nodes of a history's rows are below any number that is no smaller than their count
pub ruled_within : {H : History} → Ruled H → (w : ℕ) → H.nodes ≤ w → NodesBelow H.edges H.edge w
ruled_within r w h i g = let e = r.edge_fits i g in (omega (arith, e.parent), omega (arith, e.child))

pub ruled_blank : {H : History} {up : List ℕ} → Ruled H → Fresh H.nodes up → (t : ℕ) → BlankSlots H.edges H.edge t up
ruled_blank r f t =
    record {
      nodes = ruled_within r _ f.long;
      few = f.few;
      slots = λ c h. empty (f.blank c h) (λ j g. absurd (omega arith));
    }

-- the slots of the first n nodes
pub slots_take : {E : ℕ → EdgeRow} {t i : ℕ} (up : List ℕ) (n : ℕ) → Slots E t i up → Slots E t i (take n up)
slots_take up n s c h =
    rw (get_or-take n up c 0 (omega (arith, length-take n up)))
    (s c (omega (arith, length-take n up)))
