-- What each line of the table obeys, a clause of `lawful` for each kind; and what follows for every fault. Assumes
-- nothing.
use mathlib.Core.Path.{refl, subst}
use mathlib.Core.Logic.{inl, inr}
use Prim.Native.Nat.{ℕ, suc, ◌≤◌, ◌<◌}
use native.Mathlib.Nat.{le_antisymm}
use native.Mathlib.Omega.{arith}
use Rattle.ground.specs.Tests.{Tells}
use Rattle.ground.proofs.LeastLaws.{not_lt→le}
use Rattle.answers.specs.declared.Kind.{Kind}
use Rattle.answers.specs.declared.Kind.TheVariants.{Overlap, Gap, Outside, Cycle, Late, Dangling, Double}
use Rattle.answers.specs.declared.Fault.{Fault}
use Rattle.tables.specs.Rows.{Side}
use Rattle.tables.specs.Rows.{Attribute, Target}
use Rattle.tables.specs.Tables.{Now}
use Rattle.tables.specs.Rows.{side_of}
use Rattle.history.specs.Faults.{History, HoldsAt, Holds, Faultless, Earliest}
use Rattle.history.specs.Ruled.{Ruled}
use Rattle.history.specs.Places.{Astray, places}
use Rattle.history.specs.Changes.{Change, LastChange}
use Rattle.history.specs.Computed.{holds}
use Rattle.history.proofs.RuledLaws.{ruled_below}
use Rattle.history.proofs.ChangeLaws.{AllUnchanged, calm_unchanged, into_s, into_t, chain_s, present_t}
use Rattle.history.proofs.ChangeLaws.{last_change}
use Rattle.history.proofs.ComputedLaws.{overlap_tells, gap_tells, outside_tells, cycle_tells, astray_tells}
use Rattle.history.proofs.ComputedLaws.{double_tells}

module _ (H : History) where
  -- the test tells the line; its places are below their number; where labels stand at s as at t, so does the fault;
  -- and it comes with a change up to its instant
  pub record Lawful (k : Kind) : Type 0 where
    pub tells : Ruled H → (t p : ℕ) → Tells (holds H t k p) (HoldsAt H t k p)
    pub below : Ruled H → (t p : ℕ) → HoldsAt H t k p → p < places H k
    pub back : (t s : ℕ) → AllUnchanged H t s → (p : ℕ) → HoldsAt H t k p → HoldsAt H s k p
    pub change : (t p : ℕ) → t ≤ Now → HoldsAt H t k p → (s : ℕ) × (s ≤ t) × Change H s

  -- LATE and DANGLING
  module _ (side : Side) where
    astray_back : (t s : ℕ) → AllUnchanged H t s → (k : ℕ) → Astray H t side k → Astray H s side k
    astray_back t s l k ((r, x), none) =
        ((r, (l.refs k r).force x), λ p. none (present_t H t s l (side_of side (H.ref k)) p))

    astray_change : (t k : ℕ) → t ≤ Now → Astray H t side k → (s : ℕ) × (s ≤ t) × Change H s
    astray_change t k now ((r, x), none) = ((H.ref k).from, x.0, inr (k, r, inl refl))

  pub lawful : (k : Kind) → Lawful k
  lawful Overlap =
      record {
        tells = λ r t. overlap_tells H.edges H.edge t;
        below = λ r t n (i, j, h, a, b). omega (arith, (r.edge_fits i a.row).child, a.into);
        back = λ t s l n (i, j, h, a, b). (i, j, h, into_s H t s l n i a, into_s H t s l n j b);
        change = λ t n now (i, j, h, a, b). ((H.edge i).from, a.force.0, inl (i, a.row, inl refl));
      }
  lawful Gap =
      record {
        tells = λ r t. gap_tells H.edges H.edge t;
        below = λ r t n (ne, away, (i, a), b). omega (arith, (r.edge_fits i a.row).child, a.into);
        back = λ t s l n (ne, none, (i, a), (j, b)). (
          ne,
          λ k x. none k (into_t H t s l n k x),
          (i, record { row = a.row; into = a.into; past = (l.edges i a.row).past a.past }),
          (j, record { row = b.row; into = b.into; ahead = (l.edges j b.row).ahead b.ahead }),
        );
        change = λ t n now (ne, none, (i, a), b).
            (suc (H.edge i).to, a.past, inl (i, a.row, inr (omega (arith, a.past), omega arith)));
      }
  lawful Outside =
      record {
        tells = λ r t. outside_tells H.edges H.edge t;
        below = λ r t n (ne, (i, a), away). omega (arith, (r.edge_fits i a.row).parent, a.out);
        back = λ t s l n (ne, (i, o), none). (
          ne,
          (i, record { row = o.row; out = o.out; force = (l.edges i o.row).force o.force }),
          λ k x. none k (into_t H t s l n k x),
        );
        change = λ t n now (ne, (i, o), none). ((H.edge i).from, o.force.0, inl (i, o.row, inl refl));
      }
  lawful Cycle =
      record {
        tells = λ r t. cycle_tells H.edges H.edge t H.nodes (ruled_below H r);
        below = λ r t n (i, is, a). omega (arith, (r.edge_fits i a.0.row).child, a.0.into);
        back = λ t s l n (i, is, q).
            (i, is, (into_s H t s l n i q.0, chain_s H t s l n (H.edge i).parent is q.1));
        change = λ t n now (i, is, q). ((H.edge i).from, q.0.force.0, inl (i, q.0.row, inl refl));
      }
  lawful Late =
      record {
        tells = λ r t. astray_tells H t Attribute;
        below = λ r t k x. x.0.0;
        back = astray_back Attribute;
        change = astray_change Attribute;
      }
  lawful Dangling =
      record {
        tells = λ r t. astray_tells H t Target;
        below = λ r t k x. x.0.0;
        back = astray_back Target;
        change = astray_change Target;
      }
  lawful Double =
      record {
        tells = λ r t a. double_tells H.ref t a H.refs;
        below = λ r t a (j, k, g, h, x, y). omega (arith, (r.ref_fits k h).attribute, y.0);
        back = λ t s l a (j, k, g, h, x, y). (
          j,
          k,
          g,
          h,
          (x.0, (l.refs j (omega arith)).force x.1),
          (y.0, (l.refs k h).force y.1),
        );
        change = λ t a now (j, k, g, h, x, y). ((H.ref k).from, y.1.0, inr (k, h, inl refl));
      }

  -- where nothing changes after t up to s, what is a fault at s is the same fault at t
  pub fault_back : (t s : ℕ) → s ≤ Now → t ≤ s → ((c : ℕ) → t < c → c ≤ s → Change H c → ⊥) → (f : Fault)
      → Holds H s f → Holds H t f
  fault_back t s now l calm f x = (lawful f.kind).back s t (calm_unchanged H s t now l calm) f.place x

  -- so a fault is also there at the greatest change instant up to its own
  pub fault_last : (t : ℕ) (f : Fault) → t ≤ Now → Holds H t f → (c : ℕ) × LastChange H t c × Holds H c f
  fault_last t f now x =
      let (s, h, y) = (lawful f.kind).change t f.place now x in
      let (c, l) = last_change H t s h y in
      (c, l, fault_back c t now l.before l.greatest f x)

  -- the earliest faulty instant is a change instant
  pub earliest_change : (t : ℕ) (f : Fault) → Earliest H t f → Change H t
  earliest_change t f e =
      let (s, l, x) = fault_last t f e.instant e.fault.holds in
      subst (Change H) (le_antisymm l.before (not_lt→le (λ h. e.earliest s h f x))) l.change

  -- where no change instant before u has a fault, no instant before u has: what a search over the change instants shows
  pub change_enough : (u : ℕ) → u ≤ suc Now → ((s : ℕ) → s < u → Change H s → Faultless H s) → (t : ℕ)
      → t < u → Faultless H t
  change_enough u now none t h f x =
      let (s, l, y) = fault_last t f (omega arith) x in
      none s (omega (arith, l.before)) l.change f y

  -- nothing changes before the start, and so there is no fault
  change_begun : Ruled H → (s : ℕ) → Change H s → H.start ≤ s
  change_begun r s (inl (i, h, inl e)) = omega (arith, (r.edge_fits i h).begins)
  change_begun r s (inl (i, h, inr (ne, e))) = omega (arith, (r.edge_fits i h).begins, (r.edge_fits i h).ends)
  change_begun r s (inr (k, h, inl e)) = omega (arith, (r.ref_fits k h).begins)
  change_begun r s (inr (k, h, inr (ne, e))) = omega (arith, (r.ref_fits k h).begins, (r.ref_fits k h).ends)

  pub start_faultless : Ruled H → H.start ≤ Now → (t : ℕ) → t < H.start → Faultless H t
  start_faultless r now t h f x =
      let (s, l, y) = (lawful f.kind).change t f.place (omega arith) x in
      omega (arith, change_begun r s y)
