-- Two verdicts coincide; the agreement with the paper, and demand 3, for the whole of a history. Assumes nothing.
use mathlib.Core.Path.{◌≡◌, refl, sym, ap, ap₂, subst}
use mathlib.Core.Logic.{◌↔◌}
use Prim.Native.Nat.{ℕ, ◌≤◌, ◌<◌}
use native.Mathlib.Decide.{ℕ_discrete}
use native.Mathlib.Nat.{le_antisymm}
use Rattle.ground.proofs.LeastLaws.{not_lt→le}
use Rattle.answers.specs.declared.Fault.{Fault}
use Rattle.answers.specs.Answers.{Answer}
use Rattle.answers.specs.Answers.{Faulty}
use Rattle.answers.specs.declared.Kind.TheVariants as kind
use Rattle.answers.specs.Numbers.{code_of, passed}
use Rattle.answers.specs.Refusals.{fault}
use Rattle.answers.proofs.KindLaws.{code_unique}
use Rattle.tables.specs.Tables.{Now}
use Rattle.history.specs.Faults.{History, HoldsAt, Holds, First, Faultless, Earliest, Verdict, accepted, refused}
use Rattle.history.specs.Ruled.{Ruled}
use Rattle.history.specs.Sound.{OneReference, AllSound, FirstUnsound}
use Rattle.history.specs.Document.{Document}
use Rattle.history.specs.Places.{Names, none, first}
use Rattle.history.proofs.OrderLaws.{first_unique}
use Rattle.history.proofs.SoundLaws.{undoubled_one, one_undoubled, sound}
use Rattle.history.proofs.DocumentLaws.{NoneButDouble, document}

-- two verdicts for one history coincide, and so do two answers that name the first fault at an instant
module _ (H : History) where
  same_instant : (t s : ℕ) (f g : Fault) → Earliest H t f → Earliest H s g → t ≤ s
  same_instant t s f g a b = not_lt→le (λ h. a.earliest s h g b.fault.holds)

  same : (t s : ℕ) (f g : Fault) → Earliest H t f → Earliest H s g → Faulty t f ≡ Faulty s g
  same t s f g a b =
      let e : t ≡ s = le_antisymm (same_instant t s f g a b) (same_instant s t g f b a) in
      ap₂ Faulty e (first_unique (Holds H t) f g a.fault (subst (λ x. First (Holds H x) g) (sym e) b.fault))

  pub verdict_unique : {x y : Answer} → Verdict H x → Verdict H y → x ≡ y
  verdict_unique (accepted n) (accepted k) = refl
  verdict_unique (accepted n) (refused {f = f} b) = absurd (n _ b.instant f b.fault.holds)
  verdict_unique (refused {f = f} a) (accepted k) = absurd (k _ a.instant f a.fault.holds)
  verdict_unique (refused a) (refused b) = same _ _ _ _ a b

pub names_unique : (F : Fault → Type 0) (t : ℕ) {x y : Answer} → Names F t x → Names F t y → x ≡ y
names_unique F t (none n) (none k) = refl
names_unique F t (none n) (first b) = absurd (n _ b.holds)
names_unique F t (first a) (none k) = absurd (k _ a.holds)
names_unique F t (first a) (first b) = ap (Faulty t) (first_unique F _ _ a b)

-- accepted exactly if the history is a Temporal XML Document with at most one reference in force per attribute; demand
-- 3: exactly if the sentence holds at every instant; otherwise the earliest instant at which it fails
module _ (H : History) (r : Ruled H) where
  faultless_of : Verdict H passed → (t : ℕ) → t ≤ Now → Faultless H t
  faultless_of (accepted n) = n

  -- no fault but DOUBLE, and no DOUBLE
  but_double_faultless : (t : ℕ) → NoneButDouble H t → OneReference H t → Faultless H t
  but_double_faultless t never one f x = go (ℕ_discrete (code_of f.kind) (code_of kind.Double))
    where
      go : Dec (code_of f.kind ≡ code_of kind.Double) → ⊥
      go (yes e) =
          let is-double = code_unique f.kind kind.Double e in
          one_undoubled H t one f.place (subst (λ k. HoldsAt H t k f.place) is-double x)
      go (no other) = never f other x

  pub accepted_document : ((i : ℕ) → i < H.edges → (H.edge i).to ≤ Now)
      → Verdict H passed ↔ (Document H × ((t : ℕ) → t ≤ Now → OneReference H t))
  accepted_document bound =
      let d = document H r bound in (
        λ v.
            let never = faultless_of v in
            let single : (t : ℕ) → t ≤ Now → OneReference H t =
            λ t now. undoubled_one H t (λ a. never t now (fault kind.Double a)) in
            (d.1 (λ t now f other. never t now f), single),
        λ (x, one). accepted (λ t now. but_double_faultless t (d.0 x t now) (one t now)),
      )

  pub accepted_sound : Verdict H passed ↔ AllSound H
  accepted_sound = (λ v t h. (sound H t r).0 (faultless_of v t h), λ s. accepted (λ t h. (sound H t r).1 (s t h)))

  pub earliest_of : {t : ℕ} {f : Fault} → Verdict H (Faulty t f) → Earliest H t f
  earliest_of (refused e) = e

  pub refused_unsound : {t : ℕ} {f : Fault} → Verdict H (Faulty t f) → FirstUnsound H t f
  refused_unsound {t} {f} v =
      let e = earliest_of v in
      (e.instant, λ s. (sound H t r).1 s f e.fault.holds, λ s h. (sound H s r).0 (e.earliest s h), e.fault)
