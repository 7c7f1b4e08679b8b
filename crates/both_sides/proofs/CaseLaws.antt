-- What a comparison tells.
--   differs         where two things differ, `false` says so
--   report_counted  what a report counts
--   check_counted, snapshot_counted, repair_counted   a call's outcome is compared with what is stated: since its
--                   promise allows one outcome alone, it allows what is stated exactly where the two are the same
-- Assumes nothing.
use native.Mathlib.Omega.{arith}
use mathlib.Core.Path.{◌≡◌, refl, sym, subst}
use mathlib.Core.Bool.{Bool, true, false, cond, false≢true}
use mathlib.Core.Logic.{◌↔◌}
use mathlib.Core.List.{List}
use Prim.Native.Nat.{ℕ}
use Rattle.tables.specs.Tables.{Tables}
use Rattle.verdict.specs.Checked.{Checked}
use Rattle.snapshot.specs.Snapshot.{Snapshot}
use Rattle.repair.specs.Repaired.{Repaired}
use Rattle.answers.specs.declared.Answered.{Answered}
use Rattle.bindlewort.specs.Given.{Told, Given, Leaves}
use Rattle.bindlewort.proofs.Demands.{check_unique, snapshot_unique, repair_unique}
use Rattle.both_sides.specs.Cases.{Counted}

pub differs : {A : Type 0} → (A → ⊥) → (false ≡ true) ↔ A
differs other = (λ e. absurd (false≢true e), λ a. absurd (other a))

counted : {P : Type 0} (t : Bool) → (t ≡ true) ↔ P → Counted P (cond t 1 0)
counted true w = record { most = omega arith; one = (λ e. w.0 refl, λ p. refl) }
counted false w =
    record { most = omega arith; one = (λ e. absurd (omega arith), λ p. absurd (false≢true (w.1 p))) }

pub report_counted : {P : Type 0} {t : Bool} {r : ℕ} → r ≡ cond t 1 0 → (t ≡ true) ↔ P → Counted P r
report_counted {P} {t} e w = subst (Counted P) (sym e) (counted t w)

pub counts_one : {P : Type 0} {r : ℕ} → r ≡ 1 → P → Counted P r
counts_one e p = record { most = omega arith; one = (λ _. p, λ _. e) }

-- a promise G that allows one outcome alone
module _ {A : Type 0} (G : Answered → A → Type 0)
    (outcome : (a b : Answered) (u v : A) → G a u → G b v → (a ≡ b) × (u ≡ v)) where
  allowed : {a b : Answered} {u v : A} → G a u → ((a ≡ b) × (u ≡ v)) ↔ G b v
  allowed {a} {b} {u} {v} g = (λ (p, l). subst (λ x. G x v) p (subst (G a) l g), outcome a b u v g)

  case_counted : {a b : Answered} {u v : A} {t : Bool} {r : ℕ} → G a u → (t ≡ true) ↔ ((a ≡ b) × (u ≡ v))
      → r ≡ cond t 1 0
      → Counted (G b v) r
  case_counted g w e = let k = allowed g in report_counted e (λ z. k.0 (w.0 z), λ z. w.1 (k.1 z))

module _ {L : Tables} {a b : Answered} {k : Bool} {r : ℕ} (counts : r ≡ cond k 1 0) where
  pub check_counted : Given Told (Checked L) a → (k ≡ true) ↔ (a ≡ b) → Counted (Given Told (Checked L) b) r
  check_counted g w =
      case_counted (λ (x : Answered) (u : Unit {0}). Given Told (Checked L) x)
      (λ x y u v p q. (check_unique L x p y q, refl)) {u = tt} {v = tt} g
      (λ e. (w.0 e, refl), λ e. w.1 e.0) counts

  pub snapshot_counted : {before u v : List ℕ} {t : ℕ} → Leaves (Snapshot L t before) a u
      → (k ≡ true) ↔ ((a ≡ b) × (u ≡ v)) → Counted (Leaves (Snapshot L t before) b v) r
  snapshot_counted {before} {t} g w =
      case_counted (Leaves (Snapshot L t before)) (λ x y u v p q. snapshot_unique L t before x u p y v q) g w counts

  pub repair_counted : {u v : List ℕ} → Leaves (Repaired L) a u → (k ≡ true) ↔ ((a ≡ b) × (u ≡ v))
      → Counted (Leaves (Repaired L) b v) r
  repair_counted g w = case_counted (Leaves (Repaired L)) (λ x y u v p q. repair_unique L x u p y v q) g w counts
