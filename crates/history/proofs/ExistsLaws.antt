-- The computed answers are allowed: so a verdict always exists, and it is the computed one. Assumes nothing.
use mathlib.Core.Path.{◌≡◌, refl, sym, ap, ◌∙◌}
use mathlib.Core.Logic.{inl, inr, ⊎_elim}
use mathlib.Core.Bool.{Bool, true, false, cond, false≢true}
use mathlib.Core.List.Memᴰ
use mathlib.Core.List.{List, [], ◌∷◌, Memᴰ}
use Prim.Native.Nat.{ℕ, zero, suc, ◌+◌, ◌≤◌, ◌<◌, min}
use native.Mathlib.Decide.{dec_le}
use native.Mathlib.Omega.{arith}
use lib.Dec.{leb}
use borrow.Author.Tests.{leb-true, leb-false, le-leb}
use Rattle.ground.proofs.TestLaws.{by_test}
use Rattle.ground.proofs.LeastLaws.{below_suc}
use Rattle.answers.specs.declared.Fault.{Fault}
use Rattle.answers.specs.Answers.{Answer}
use Rattle.answers.specs.Numbers.{refuses}
use Rattle.tables.specs.Tables.{Now}
use Rattle.history.specs.Faults.{History, Holds, Faultless, Verdict, accepted, refused}
use Rattle.history.specs.Ruled.{Ruled}
use Rattle.history.specs.Places.{Names, none, first}
use Rattle.history.specs.Changes.{Changes, Change}
use Rattle.history.specs.Computed.{turns, instants, faulty, soonest, said_at, verdict}
use Rattle.history.proofs.LineLaws.{change_enough}
use Rattle.history.proofs.SayLaws.{faults_named}

-- the soonest of a list's numbers at which a test passes
module _ (p : ℕ → Bool) where
  soonest_before : (xs : List ℕ) (x : ℕ) → Memᴰ x xs → p x ≡ true → soonest p xs ≤ x
  soonest_before [] x m e = absurd (Memᴰ.not-nil m)
  soonest_before (y ∷ ys) x m e =
      by_test (p y)
      (λ t. rw t (⊎_elim (λ q. omega arith) (λ k. omega (arith, soonest_before ys x k e)) (Memᴰ.cases_cons m)))
      (λ f. rw f (⊎_elim (λ q. absurd (false≢true (sym f ∙ ap p (sym q) ∙ e))) (λ k. soonest_before ys x k e)
      (Memᴰ.cases_cons m)))

  soonest_passes : (xs : List ℕ) → soonest p xs ≤ Now → p (soonest p xs) ≡ true
  soonest_passes [] h = absurd (omega arith)
  soonest_passes (y ∷ ys) h = go (p y) refl (dec_le y (soonest p ys)) (soonest_passes ys) h
    where
      go : (b : Bool) → p y ≡ b → Dec (y ≤ soonest p ys) → (soonest p ys ≤ Now → p (soonest p ys) ≡ true)
          → cond b (min y (soonest p ys)) (soonest p ys) ≤ Now → p (cond b (min y (soonest p ys)) (soonest p ys)) ≡ true
      go true e (yes l) rest h = let q : min y (soonest p ys) ≡ y = omega arith in rw q e
      go true e (no l) rest h = let q : min y (soonest p ys) ≡ soonest p ys = omega arith in rw q (rest (omega arith))
      go false e d rest h = rest h

-- each change is listed
starts_listed : (from to : ℕ → ℕ) (n i : ℕ) → i < n → Memᴰ (from i) (turns from to n)
starts_listed from to zero = λ i h. absurd (omega arith)
starts_listed from to (suc n) =
    below_suc (λ i. Memᴰ (from i) (turns from to (suc n))) n
    (λ i h. Memᴰ.tail (Memᴰ.tail (starts_listed from to n i h)))
    (Memᴰ.head refl)

ends_listed : (from to : ℕ → ℕ) (n i : ℕ) → i < n → Memᴰ (to i + 1) (turns from to n)
ends_listed from to zero = λ i h. absurd (omega arith)
ends_listed from to (suc n) =
    below_suc (λ i. Memᴰ (to i + 1) (turns from to (suc n))) n
    (λ i h. Memᴰ.tail (Memᴰ.tail (ends_listed from to n i h)))
    (Memᴰ.tail (Memᴰ.head refl))

turn_listed : (from to : ℕ → ℕ) (n i c : ℕ) → i < n → Changes (from i) (to i) c → Memᴰ c (turns from to n)
turn_listed from to n i c h (inl e) = Memᴰ.cast e (starts_listed from to n i h)
turn_listed from to n i c h (inr (x, e)) = Memᴰ.cast e (ends_listed from to n i h)

change_listed : (H : History) (c : ℕ) → Change H c → Memᴰ c (instants H)
change_listed H c (inl (i, h, x)) =
    Memᴰ.append_left _ (turn_listed (λ i. (H.edge i).from) (λ i. (H.edge i).to) H.edges i c h x)
change_listed H c (inr (k, h, x)) =
    Memᴰ.append_right (turns (λ i. (H.edge i).from) (λ i. (H.edge i).to) H.edges)
    (turn_listed (λ k. (H.ref k).from) (λ k. (H.ref k).to) H.refs k c h x)

-- an answer that names the first fault refuses where there is one
names_refuses : (F : Fault → Type 0) (t : ℕ) {a : Answer} → Names F t a → (f : Fault) → F f → refuses a ≡ true
names_refuses F t (none n) f x = absurd (n f x)
names_refuses F t (first {f = g} y) f x = refl

module _ (H : History) (r : Ruled H) where
  -- before the soonest faulty change instant there is no fault
  clean_before : (t : ℕ) → t ≤ suc Now → t ≤ soonest (faulty H) (instants H) → (s : ℕ) → s < t → Faultless H s
  clean_before t now h =
      change_enough H t now (λ s l c f x. omega
      (arith, soonest_before (faulty H) (instants H) s (change_listed H s c) (at s (omega arith) f x)))
    where
      at : (s : ℕ) → s ≤ Now → (f : Fault) → Holds H s f → faulty H s ≡ true
      at s l f x = rw (le-leb s Now l) (names_refuses (Holds H s) s (faults_named H s r) f x)

  verdict_at : (t : ℕ) {a : Answer} → t ≤ Now → ((s : ℕ) → s < t → Faultless H s) → Names (Holds H t) t a
      → refuses a ≡ true → Verdict H a
  verdict_at t now clean (none n) e = absurd (false≢true e)
  verdict_at t now clean (first x) e = refused (record { instant = now; fault = x; earliest = clean })

  -- the computed verdict is allowed: a verdict always exists
  pub verdict_exists : Verdict H (verdict H)
  unfolding verdict
  verdict_exists = by_test (leb t Now) there past
    where
      t : ℕ
      t = soonest (faulty H) (instants H)

      there : leb t Now ≡ true → Verdict H (said_at H t)
      there e =
          let now : t ≤ Now = leb-true t Now e in
          let f : faulty H t ≡ true = soonest_passes (faulty H) (instants H) now in
          rw e (verdict_at t now (clean_before t (omega arith) (omega arith)) (faults_named H t r) (rw e at f))

      past : leb t Now ≡ false → Verdict H (said_at H t)
      past e =
          let now : Now < t = leb-false t Now e in
          rw e (accepted (λ s h. clean_before (suc Now) (omega arith) (omega arith) s (omega arith)))
