-- Stays under new ends: of the rows into a child the latest is in force, and no other. Assumes nothing.
use mathlib.Core.Path.{◌≡◌, refl, sym, ap, ◌∙◌}
use mathlib.Core.Logic.{⊎_elim}
use Prim.Native.Nat.{ℕ, suc, ◌≤◌, ◌<◌}
use native.Mathlib.Omega.{arith}
use Rattle.ground.proofs.LeastLaws.{not_lt→le, Greatest, greatest_exists}
use Rattle.tables.specs.Tables.{EdgeRow}
use Rattle.history.specs.Faults.{Into}
use Rattle.repair.specs.Repaired.{SameStart, RowInto, OnlyEnds}
use Rattle.repair.specs.Ends.{last_end, new_end_of}
use Rattle.repair.specs.Stays.{Stay, Latest, OneLatest}
use Rattle.repair.proofs.BoundLaws.{SomeRow, some_row_dec, last_upper, same_child, same_from, row_before}
use Rattle.repair.proofs.BoundLaws.{row_after, next_same, last_same}
use Rattle.repair.proofs.NewEndLaws.{new_alone, alone_new, new_le_last}

-- where a row into c started up to t, one of those started last
module _ (edge : ℕ → EdgeRow) (m c t : ℕ) where
  abbrev IsStart : ℕ → Type 0
  IsStart = SomeRow edge c (λ x. x.from) m

  latest_at : (s : ℕ) → Greatest IsStart (suc t) s → (i : ℕ) × Latest edge m c t i
  latest_at s (b, (i, r, p), above) = (
    i,
    record {
      row = (r, p.0);
      started = omega (arith, p.1);
      last = λ k (h, q) g. not_lt→le (λ x. above (edge k).from (omega (arith, p.1)) (omega arith) (k, h, (q, refl)));
    },
  )

  latest_exists : (j : ℕ) → RowInto edge m c j → (edge j).from ≤ t → (i : ℕ) × Latest edge m c t i
  latest_exists j (h, q) l =
      ⊎_elim
      (λ (s, g). latest_at s g)
      (λ none. absurd (none (edge j).from (omega arith) (j, h, (q, refl))))
      (greatest_exists IsStart (some_row_dec edge c (λ x. x.from) m) (suc t))

-- rows e that become d: only ends change, and the m rows have their new ends
pub record NewEnds (e d : ℕ → EdgeRow) (m : ℕ) : Type 0 where
  pub frame : OnlyEnds e d
  pub ends : (i : ℕ) → i < m → (d i).to ≡ new_end_of e m i

module _ (e d : ℕ → EdgeRow) (m : ℕ) (x : NewEnds e d m) (c : ℕ) where
  in_force_latest : (t i : ℕ) → Into m d t c i → Latest e m c t i
  in_force_latest t i f =
      let r = row_before e d x.frame m c i (f.row, f.into) in
      let reached : t ≤ new_end_of e m i = omega (arith, f.force.1, x.ends i r.0) in
      record {
        row = r;
        started = omega (arith, f.force.0, same_from e d x.frame i);
        last = λ j q h. not_lt→le (λ l. let g = new_alone e m c i r t reached j q l in omega arith);
      }

  latest_in_force : (t i : ℕ) → t ≤ last_end e c m → Latest e m c t i → Into m d t c i
  latest_in_force t i h l =
      let (row, into) = row_after e d x.frame m c i l.row in
      let reached = alone_new e m c i l.row t h clear in
      record {
        row = row;
        into = into;
        force = (omega (arith, same_from e d x.frame i, l.started), omega (arith, x.ends i row));
      }
    where
      clear : (j : ℕ) → RowInto e m c j → (e i).from < (e j).from → t < (e j).from
      clear j q g = not_lt→le (λ b. let k = l.last j q (omega arith) in omega arith)

  pub one_latest : ((i j : ℕ) → i < m → j < m → SameStart e i j → i ≡ j) → (t : ℕ) → Stay e m c t → OneLatest e d m c t
  one_latest untied t s =
      let (j, q, h) = s.started in
      let (k, p, g) = s.lasting in
      let (i, l) = latest_exists e m c t j q h in
      record {
        row = i;
        latest = l;
        parent = ap (λ (y : EdgeRow). y.parent) (x.frame i);
        in_force = latest_in_force t i (omega (arith, last_upper e c m k p)) l;
        only = λ n f. same n i (in_force_latest t n f) l;
      }
    where
      same : (a b : ℕ) → Latest e m c t a → Latest e m c t b → a ≡ b
      same a b u v =
          let ba = u.last b v.row v.started in
          let ab = v.last a u.row u.started in
          untied a b u.row.0 v.row.0 (v.row.1 ∙ sym u.row.1, omega arith)

  pub last_stays : ((i : ℕ) → i < m → (e i).from ≤ (e i).to) → last_end d c m ≡ last_end e c m
  last_stays right = last_same e d x.frame c m down up
    where
      down : (i : ℕ) → RowInto e m c i → (d i).to ≤ last_end e c m
      down i r = omega (arith, x.ends i r.0, new_le_last e m c i r right)

      up : (i : ℕ) → RowInto e m c i → (e i).to ≤ last_end d c m
      up i r =
          let own = last_upper e c m i r in
          let (k, l) = latest_exists e m c (last_end e c m) i r (omega (arith, right i r.0)) in
          let f = latest_in_force (last_end e c m) k (omega arith) l in
          omega (arith, f.force.1, last_upper d c m k (f.row, f.into))

-- the new ends of rows that have theirs are the same
pub new_again : (e d : ℕ → EdgeRow) (m : ℕ) → NewEnds e d m → ((i : ℕ) → i < m → (e i).from ≤ (e i).to)
    → (i : ℕ) → new_end_of d m i ≡ new_end_of e m i
unfolding new_end_of
new_again e d m x right i =
    simp (
      same_child e d x.frame i,
      same_from e d x.frame i,
      next_same e d x.frame,
      last_stays e d m x (e i).child right,
    )
