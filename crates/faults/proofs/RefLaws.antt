-- The pass over the references: what it has found after one row more, and after all. Assumes nothing.
use mathlib.Core.Path.{◌≡◌, subst, sym, ◌∙◌}
use mathlib.Core.Logic.Iff
use mathlib.Core.Logic.{◌⊎◌, inl, inr, ⊎_elim}
use mathlib.Core.Bool.{Bool, true, false, false≢true}
use mathlib.Core.List.{List}
use Prim.Native.Nat.{ℕ, ◌+◌, ◌<◌}
use native.Mathlib.Decide.{ℕ_discrete}
use native.Mathlib.Nat.{eq-or-lt_of_le}
use native.Mathlib.Numerals.{add-one}
use native.Mathlib.Omega.{arith}
use lib.ListN.{length, get_or, set, replicate, length-set, get_or-replicate, length-replicate}
use lib.Seq.{get_or-set_same, get_or-set_other}
use Rattle.std.specs.Prelude.{Option, None}
use Rattle.ground.specs.Tests.{Tells}
use Rattle.ground.specs.Least.{Any}
use Rattle.ground.specs.Searches.{Finds}
use Rattle.ground.specs.Searches.{Passes, found, nearer}
use Rattle.ground.proofs.TestLaws.{tells_fail}
use Rattle.ground.proofs.LeastLaws.{finds_nearer, finds_same, finds_unique, finds_tells, any_suc}
use Rattle.tables.specs.Rows.{Attribute, Target}
use Rattle.tables.specs.Tables.{During, RefRow}
use Rattle.tables.specs.Labels.{during}
use Rattle.tables.specs.Rules.{most_nodes}
use Rattle.tables.proofs.LabelLaws.{during_tells}
use Rattle.history.specs.Faults.{RefersFrom, Double}
use Rattle.faults.specs.declared.refs.RefFaults.{RefFaults}
use Rattle.faults.specs.Leaves.{is_absent_of}
use Rattle.faults.specs.Refs.{stray_at, SoFar, Flags, Found, Finding, Leasts}

module _ (p : ℕ → Bool) where
  so_far_or : (j i : ℕ) → SoFar p (j + 1) i → SoFar p j i ⊎ ((i ≡ j) × (p j ≡ true))
  so_far_or j i (h, e) = ⊎_elim (λ q. inr (q, subst (Passes p) q e)) (λ g. inl (g, e)) (eq-or-lt_of_le (omega arith))

  or_so_far : (j i : ℕ) → SoFar p j i ⊎ ((i ≡ j) × (p j ≡ true)) → SoFar p (j + 1) i
  or_so_far j i (inl (h, e)) = (omega arith, e)
  or_so_far j i (inr (q, e)) = (omega arith, subst (Passes p) (sym q) e)

  -- one place more; no place yet, and all places
  so_far_more : {k j : ℕ} (r : Option ℕ) → j < k → Finds (SoFar p j) k r → Finds (SoFar p (j + 1)) k (nearer r (p j) j)
  so_far_more {j = j} r h l =
      finds_same _ (λ i g. or_so_far j i) (λ i g. so_far_or j i) (finds_nearer (SoFar p j) r (p j) (λ e. h) l)

  so_far_none : {k : ℕ} → Finds (SoFar p 0) k None
  so_far_none i h s = omega (arith, s.0)

  so_far_all : (k : ℕ) (r : Option ℕ) → Finds (SoFar p k) k r → r ≡ found p k
  so_far_all k r l =
      finds_unique (Passes p) k (finds_same r (λ i g s. s.1) (λ i g e. (g, e)) l)
      (finds_tells p (Passes p) k (λ i h. Iff.rfl))

-- row j of reference rows R
module _ (R : ℕ → RefRow) (t : ℕ) {j : ℕ} where
  -- a DOUBLE of the first j + 1 rows is one of the first j, or row j is its second
  double_or : (a : ℕ) → Double R t (j + 1) a → Double R t j a ⊎ (RefersFrom R t a j × Any (RefersFrom R t a) j)
  double_or a (i, k, g, h, x, y) =
      ⊎_elim (λ e. inr (subst (RefersFrom R t a) e y, (i, omega arith, x))) (λ l. inl (i, k, g, l, x, y))
      (eq-or-lt_of_le (omega arith))

  double_wider : (a : ℕ) → Double R t j a → Double R t (j + 1) a
  double_wider a (i, k, g, h, x, y) = (i, k, g, omega arith, x, y)

  -- the flag of a node from which row j is not in force still tells
  flag_stays : (a : ℕ) {b : Bool} → (RefersFrom R t a j → ⊥) → Tells b (Any (RefersFrom R t a) j)
      → Tells b (Any (RefersFrom R t a) (j + 1))
  flag_stays a f tells = (
    λ e. let (i, h, x) = tells.0 e in (i, omega arith, x),
    λ s. tells.1 (⊎_elim (λ x. absurd (f x)) (λ r. r) ((any_suc _ j).1 (rw add-one at s))),
  )

  -- row j is not in force
  module _ (off : During (R j).from (R j).to t → ⊥) where
    double_skip : (n : ℕ) (r : Option ℕ) → Finds (Double R t j) n r → Finds (Double R t (j + 1)) n r
    double_skip n r =
        finds_same r (λ a g. double_wider a) (λ a g d. ⊎_elim (λ x. x) (λ w. absurd (off w.0.1)) (double_or a d))

    flags_skip : (flags : List Bool) → Flags R t j flags → Flags R t (j + 1) flags
    flags_skip flags f a h = flag_stays a (λ x. off x.1) (f a h)

  -- it is, and a flag says whether one before it is from the same node
  module _ (on : During (R j).from (R j).to t) where
    double_more : {n : ℕ} (r : Option ℕ) (b : Bool) → Tells b (Any (RefersFrom R t (R j).attribute) j)
        → (R j).attribute < n
        → Finds (Double R t j) n r → Finds (Double R t (j + 1)) n (nearer r b (R j).attribute)
    double_more r b tells h l =
        finds_same _ (λ a g. there a) (λ a g. back a) (finds_nearer (Double R t j) r b (λ e. h) l)
      where
        there : (a : ℕ) → Double R t j a ⊎ ((a ≡ (R j).attribute) × (b ≡ true)) → Double R t (j + 1) a
        there a (inl d) = double_wider a d
        there a (inr (e, q)) =
            let (i, g, x) = tells.0 q in
            (i, j, g, omega arith, (x.0 ∙ sym e, x.1), (sym e, on))

        back : (a : ℕ) → Double R t (j + 1) a → Double R t j a ⊎ ((a ≡ (R j).attribute) × (b ≡ true))
        back a d =
            ⊎_elim inl (λ (x, (i, g, y)). inr (sym x.0, tells.1 (i, g, (y.0 ∙ sym x.0, y.1)))) (double_or a d)

    flags_set : (flags : List Bool) → (R j).attribute < length flags → Flags R t j flags
        → Flags R t (j + 1) (set flags (R j).attribute true)
    flags_set flags l f a h = go (ℕ_discrete a (R j).attribute)
      where
        go : Dec (a ≡ (R j).attribute)
            → Tells (get_or (set flags (R j).attribute true) a false) (Any (RefersFrom R t a) (j + 1))
        go (yes e) =
            (λ q. (j, omega arith, (sym e, on)), λ s. rw e (get_or-set_same flags (R j).attribute true false l))
        go (no e) =
            rw (get_or-set_other flags (R j).attribute a true false e)
            (flag_stays a (λ x. e (sym x.0)) (f a (omega (arith, length-set flags (R j).attribute true))))

module _ {R : ℕ → RefRow} {k t : ℕ} {up : List ℕ} where
  pub found_none : Found R k t up 0 (record { late = None; dangling = None; double = None })
      (replicate most_nodes false)
  found_none =
      record {
        late = so_far_none _;
        dangling = so_far_none _;
        double = λ a h d. omega (arith, d.3);
        flags = λ a h. (
          λ e. absurd (false≢true (sym (unset a (omega (arith, length-replicate most_nodes false))) ∙ e)),
          λ s. absurd (omega (arith, s.1)),
        );
      }
    where
      unset : (a : ℕ) → a < most_nodes → get_or (replicate most_nodes false) a false ≡ false
      unset a h = get_or-replicate most_nodes a false false h

  pub found_all : {r : RefFaults} {flags : List Bool} → Found R k t up k r flags → Leasts R k t up r
  found_all f = record { late = so_far_all _ k _ f.late; dangling = so_far_all _ k _ f.dangling; double = f.double }

  module _ {j : ℕ} {r : RefFaults} {flags : List Bool} (f : Finding R k t up j r flags) where
    pub row_ends : ((R j).attribute < length up) × ((R j).target < length up)
    row_ends = (f.refers Attribute j f.row, f.refers Target j f.row)

    -- row j is not in force
    pub found_skip : during (R j).from (R j).to t ≡ false → Found R k t up (j + 1) r flags
    found_skip e =
        let off = tells_fail (during_tells _ _ t) e in
        record {
          late = rw e at (so_far_more (stray_at R k t up Attribute) _ f.row f.found.late);
          dangling = rw e at (so_far_more (stray_at R k t up Target) _ f.row f.found.dangling);
          double = double_skip R t off _ _ f.found.double;
          flags = flags_skip R t off flags f.found.flags;
        }

    -- it is: its ends may be absent, and one before it may be from the same node
    pub found_more : during (R j).from (R j).to t ≡ true
        → Found R k t up (j + 1) (record {
          late = nearer r.late (is_absent_of up (R j).attribute) j;
          dangling = nearer r.dangling (is_absent_of up (R j).target) j;
          double = nearer r.double (get_or flags (R j).attribute false) (R j).attribute;
        }) (set flags (R j).attribute true)
    found_more e =
        let on = (during_tells _ _ t).0 e in
        let far : (R j).attribute < length flags = omega (arith, f.flagged, row_ends) in
        record {
          late = rw e at (so_far_more (stray_at R k t up Attribute) _ f.row f.found.late);
          dangling = rw e at (so_far_more (stray_at R k t up Target) _ f.row f.found.dangling);
          double = double_more R t on _ _ (f.found.flags _ far) row_ends.0 f.found.double;
          flags = flags_set R t on flags far f.found.flags;
        }
