-- Lists under stores, and a part that stands at a place. What `lib.ListN` and `lib.Seq` have is not said again. Assumes
-- nothing.
use mathlib.Core.Path.{◌≡◌, refl, sym, ap, ap₂, ◌∙◌}
use mathlib.Core.List.{List, [], ◌∷◌, ◌++◌, append_assoc, append-nil}
use mathlib.Core.Logic.{◌⊎◌, inl, inr, ⊎_elim}
use Prim.Native.Nat.{ℕ, zero, suc, ◌+◌, ◌≤◌, ◌<◌}
use native.Mathlib.Decide.{ℕ_discrete}
use native.Mathlib.Nat.{add-zero}
use native.Mathlib.Numerals.{add-one}
use native.Mathlib.Omega.{arith}
use lib.ListN.{length, get_or, set, drop, length-set, length-append, length-drop, get_or-eq_default}
use lib.Seq.{sets, sets-eq, get_or-set_same, get_or-set_other, set_comm, get_or-drop, drop-cons, drop-drop, drop-append_seam}
use lib.Seq.{drop-length}
use Rattle.ground.specs.Lists.{Stands, front}
use Rattle.ground.specs.Stores.{Put}
use Rattle.ground.proofs.TestLaws.{by_lt}

-- what holds of every place and number below i, and of i and the number stored there, holds below i + 1:
-- a loop that stores at its counter
pub set_below : (P : ℕ → ℕ → Type 0) (l : List ℕ) (i v : ℕ) → i < length l → ((k : ℕ) → k < i → P k (get_or l k 0))
    → P i v
    → (k : ℕ) → k < i + 1 → P k (get_or (set l i v) k 0)
set_below P l i v li all here k lk = go (ℕ_discrete k i)
  where
    go : Dec (k ≡ i) → P k (get_or (set l i v) k 0)
    go (yes e) = rw (e, get_or-set_same l i v 0 li) here
    go (no e) = rw (get_or-set_other l i k v 0 e) (all k (omega arith))

-- an element before a run of stores, and one after it, stays; one of the run is what was stored
pub sets_outside : (l : List ℕ) (i j : ℕ) (a : List ℕ) → (j < i) ⊎ (i + length a ≤ j)
    → get_or (sets l i a) j 0 ≡ get_or l j 0
sets_outside l i j [] h = refl
sets_outside l i j (x ∷ a) h =
    sets_outside (set l i x) (suc i) j a (⊎_elim (λ b. inl (omega arith)) (λ b. inr (omega arith)) h)
    ∙ get_or-set_other l i j x 0 (⊎_elim (λ b e. omega arith) (λ b e. omega arith) h)

pub sets_inside : (l : List ℕ) (i k : ℕ) (a : List ℕ) → k < length a → i + length a ≤ length l
    → get_or (sets l i a) (i + k) 0 ≡ get_or a k 0
sets_inside l i k [] h f = absurd (omega arith)
sets_inside l i zero (x ∷ a) h f =
    let e : i + 0 ≡ i = omega arith in
    rw e (sets_outside (set l i x) (suc i) i a (inl (omega arith)) ∙ get_or-set_same l i x 0 (omega arith))
sets_inside l i (suc k) (x ∷ a) h f =
    let e : i + suc k ≡ suc i + k = omega arith in
    rw e (sets_inside (set l i x) (suc i) k a (omega arith) (rw (length-set l i x) (omega arith)))

-- one run of stores after another is one run
pub sets_append : (l : List ℕ) (i : ℕ) (a b : List ℕ) → sets l i (a ++ b) ≡ sets (sets l i a) (i + length a) b
sets_append l i [] b = ap (λ (k : ℕ). sets l k b) (omega arith)
sets_append l i (x ∷ a) b =
    sets_append (set l i x) (suc i) a b ∙ ap (λ (k : ℕ). sets (sets (set l i x) (suc i) a) k b) (omega arith)

-- a store past a run may be made before it
pub sets_set : (l : List ℕ) (i : ℕ) (a : List ℕ) (j c : ℕ) → i + length a ≤ j
    → sets (set l j c) i a ≡ set (sets l i a) j c
sets_set l i [] j c h = refl
sets_set l i (x ∷ a) j c h =
    ap (λ (r : List ℕ). sets r (suc i) a) (set_comm l j i c x (omega arith))
    ∙ sets_set (set l i x) (suc i) a j c (omega arith)

-- so a run may be stored from its last element on
pub sets_last : (l : List ℕ) (i : ℕ) (a : List ℕ) (c : ℕ) → sets (set l (i + length a) c) i a ≡ sets l i (a ++ (c ∷ []))
sets_last l i a c = sets_set l i a (i + length a) c (omega arith) ∙ sym (sets_append l i a (c ∷ []))

-- a run that is stored at the front, and what stays
pub sets_front : (l a : List ℕ) → length a ≤ length l → sets l 0 a ≡ front a l
sets_front l a h =
    let e : 0 + length a ≡ length a = omega arith in
    sets-eq a l 0 (omega arith) ∙ ap (λ (n : ℕ). a ++ drop n l) e

pub put_nil : (old : List ℕ) (i : ℕ) → Put old i [] old i
put_nil old i = record { held = refl; after = omega arith }

-- one run after another, as two stores make it
pub put_append : {old mid new x y : List ℕ} {i m n : ℕ} → Put old i x mid m → Put mid m y new n
    → Put old i (x ++ y) new n
put_append {old} {mid} {new} {x} {y} {i} {m} {n} p q =
    record {
      held = q.held ∙ ap₂ (λ (o : List ℕ) (k : ℕ). sets o k y) p.held p.after ∙ sym (sets_append old i x y);
      after = omega (arith, length-append x y);
    }

pub stands_nil : (s : List ℕ) (i : ℕ) → Stands s i [] i
stands_nil s i = record { here = refl; after = omega arith }

pub stands_append : {s : List ℕ} {i n m : ℕ} {x y : List ℕ} → Stands s i x n → Stands s n y m → Stands s i (x ++ y) m
stands_append {s} {i} {n} {m} {x} {y} p q =
    record {
      here = p.here ∙ ap (λ (r : List ℕ). x ++ r) q.here ∙ sym (append_assoc x y (drop m s));
      after = omega (arith, length-append x y);
    }

-- what stands is within the list
pub stands_within : {s : List ℕ} {i n : ℕ} {x : List ℕ} → i ≤ length s → Stands s i x n → n ≤ length s
stands_within {s} {i} {n} {x} h p = omega (arith, simp (length-append, length-drop) at (ap length p.here))

-- what stands from the first place to the last is all of the list
pub stands_whole : (s x : List ℕ) (n : ℕ) → Stands s 0 x n → n ≡ length s → s ≡ x
stands_whole s x n p e =
    p.here ∙ ap (λ (k : ℕ). x ++ drop k s) e ∙ ap (λ (r : List ℕ). x ++ r) (drop-length s) ∙ append-nil x

-- from what is left of a list at a place: its first element, and what is left further on
pub head_at : (s : List ℕ) (i b : ℕ) (ys : List ℕ) → drop i s ≡ b ∷ ys → get_or s i 0 ≡ b
head_at s i b ys e =
    ap (λ (k : ℕ). get_or s k 0) (sym (add-zero i)) ∙ sym (get_or-drop i s 0 0) ∙ ap (λ (r : List ℕ). get_or r 0 0) e

pub rest_at : (s : List ℕ) (i : ℕ) (x ys : List ℕ) → drop i s ≡ x ++ ys → drop (i + length x) s ≡ ys
rest_at s i x ys e = sym (drop-drop (length x) i s) ∙ ap (drop (length x)) e ∙ drop-append_seam x ys

-- what is left of a list at a place within it: one element, and the rest
pub drop_step : (s : List ℕ) (i : ℕ) → i < length s → drop i s ≡ get_or s i 0 ∷ drop (i + 1) s
drop_step s i h = drop-cons s i 0 h ∙ rw add-one

-- where an element is not 0, its place is within the list
pub within : (s : List ℕ) (i : ℕ) → 1 ≤ get_or s i 0 → i < length s
within s i h = by_lt i (length s) (λ l. l) (λ l. absurd (omega (arith, get_or-eq_default s 0 l)))

pub stands_one : (s : List ℕ) (i b : ℕ) → get_or s i 0 ≡ b → 1 ≤ b → Stands s i (b ∷ []) (i + 1)
stands_one s i b e h =
    record { here = drop_step s i (within s i (omega arith)) ∙ ap (λ (a : ℕ). a ∷ drop (i + 1) s) e; after = refl }
