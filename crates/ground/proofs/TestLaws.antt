-- Laws of `Tells`: a test made of tests tells what it is made of. And cases on a test. Assumes nothing.
use mathlib.Core.Path.{◌≡◌, refl, sym, ◌∙◌}
use mathlib.Core.Logic.{◌⊎◌, inl, inr, ⊎_elim}
use mathlib.Core.Bool.{Bool, true, false, not, ◌&&◌, ◌||◌, false≢true}
use Prim.Native.Nat.{ℕ, ◌≤◌, ◌<◌}
use lib.Dec.{leb, ltb, eqb}
use borrow.Author.Tests.{ltb-true, ltb-false, leb-true, eqb-true, lt-ltb, le-leb, eq-eqb}
use Rattle.ground.specs.Tests.{Tells}

pub by_test : (b : Bool) {A : Type 0} → (b ≡ true → A) → (b ≡ false → A) → A
by_test true f g = f refl
by_test false f g = g refl

pub by_lt : (m n : ℕ) {A : Type 0} → (m < n → A) → (n ≤ m → A) → A
by_lt m n f g = by_test (ltb m n) (λ e. f (ltb-true m n e)) (λ e. g (ltb-false m n e))

pub both : (a b : Bool) → a && b ≡ true → (a ≡ true) × (b ≡ true)
both true b e = (refl, e)
both false b e = absurd (false≢true e)

pub tells_and : (a b : Bool) {P Q : Type 0} → Tells a P → Tells b Q → Tells (a && b) (P × Q)
tells_and true b e f = (λ t. (e.0 refl, f.0 t), λ x. f.1 x.1)
tells_and false b e f = (λ t. absurd (false≢true t), λ x. e.1 x.0)

pub tells_or : (a b : Bool) {P Q : Type 0} → Tells a P → Tells b Q → Tells (a || b) (P ⊎ Q)
tells_or true b e f = (λ t. inl (e.0 refl), λ x. refl)
tells_or false b e f = (λ t. inr (f.0 t), ⊎_elim (λ p. absurd (false≢true (e.1 p))) (λ q. f.1 q))

pub tells_not : (a : Bool) {P : Type 0} → Tells a P → Tells (not a) (P → ⊥)
tells_not true e = (λ t p. false≢true t, λ f. absurd (f (e.0 refl)))
tells_not false e = (λ t p. false≢true (e.1 p), λ f. refl)

pub tells_le : (a b : ℕ) → Tells (leb a b) (a ≤ b)
tells_le a b = (leb-true a b, le-leb a b)

pub tells_lt : (a b : ℕ) → Tells (ltb a b) (a < b)
tells_lt a b = (ltb-true a b, lt-ltb a b)

pub tells_eq : (a b : ℕ) → Tells (eqb a b) (a ≡ b)
tells_eq a b = (eqb-true a b, eq-eqb a b)

-- a test that fails tells that P does not hold, and the other way round
pub tells_fail : {b : Bool} {P : Type 0} → Tells b P → b ≡ false → P → ⊥
tells_fail e f p = false≢true (sym f ∙ e.1 p)

pub tells_fails : (b : Bool) {P : Type 0} → Tells b P → (P → ⊥) → b ≡ false
tells_fails true e f = absurd (f (e.0 refl))
tells_fails false e f = refl

pub tells_dec : (b : Bool) {P : Type 0} → Tells b P → Dec P
tells_dec true e = yes (e.0 refl)
tells_dec false e = no (λ p. false≢true (e.1 p))
