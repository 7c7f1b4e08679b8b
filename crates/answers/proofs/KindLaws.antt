-- Every kind of fault is listed, with a code of its own: what is computed over the list holds of every kind.
--   every    a test passes at every kind of a list
--   is_in     a kind is in a list, by its code
--   rises    the codes of a list rise
-- Assumes nothing.
use mathlib.Core.Path.{◌≡◌, refl, sym, ap, ◌∙◌, subst}
use mathlib.Core.Logic.{◌⊎◌, inl, inr, ⊎_elim}
use mathlib.Core.Bool.{Bool, true, cond, ◌&&◌, false≢true}
use mathlib.Core.List.{List, [], ◌∷◌, map}
use Prim.Native.Nat.{ℕ, ◌<◌}
use lib.Dec.{eqb, ltb}
use borrow.Author.Tests.{eqb-true, ltb-true, eq-eqb}
use Rattle.ground.specs.Among.{is_among}
use Rattle.ground.proofs.TestLaws.{by_test, both}
use Rattle.answers.specs.declared.Kind.{Kind}
use Rattle.answers.specs.declared.Kind.TheVariants.{Overlap, Gap, Outside, Cycle, Late, Dangling, Double}
use Rattle.answers.specs.Numbers.{code_of}
use Rattle.answers.specs.Kinds.{kinds}

-- the first kind of a list that has a code, or k
abbrev find : ℕ → Kind → List Kind → Kind
find c k [] = k
find c k (j ∷ js) = cond (eqb (code_of j) c) j (find c k js)

abbrev pub kind_of : ℕ → Kind
kind_of c = find c Overlap kinds

-- each kind is listed, and its code is its own: the laws below it are computed and have no clause for each kind
pub kind_back : (k : Kind) → kind_of (code_of k) ≡ k
kind_back Overlap = refl
kind_back Gap = refl
kind_back Outside = refl
kind_back Cycle = refl
kind_back Late = refl
kind_back Dangling = refl
kind_back Double = refl

pub code_unique : (j k : Kind) → code_of j ≡ code_of k → j ≡ k
code_unique j k e = sym (kind_back j) ∙ ap kind_of e ∙ kind_back k

-- a test passes at every kind of a list
abbrev pub every : (Kind → Bool) → List Kind → Bool
every p [] = true
every p (k ∷ ks) = p k && every p ks

find_passes : (p : Kind → Bool) (c : ℕ) (k : Kind) (ks : List Kind) → p k ≡ true → every p ks ≡ true
    → p (find c k ks) ≡ true
find_passes p c k [] e f = e
find_passes p c k (j ∷ js) e f =
    let (t, g) = both (p j) (every p js) f in
    by_test (eqb (code_of j) c) (λ q. rw q t) (λ q. rw q (find_passes p c k js e g))

-- a test that passes at every kind that is listed passes at every kind
pub every_kind : (p : Kind → Bool) → every p kinds ≡ true → (k : Kind) → p k ≡ true
every_kind p f k =
    subst (λ j. p j ≡ true) (kind_back k) (find_passes p (code_of k) Overlap kinds (both (p Overlap) _ f).0 f)

abbrev pub is_in : Kind → List Kind → Bool
is_in k ks = is_among (map code_of ks) (code_of k)

pub kind_listed : (k : Kind) → is_in k kinds ≡ true
kind_listed = every_kind (λ k. is_in k kinds) refl

pub in_here : (k : Kind) (ks : List Kind) → is_in k (k ∷ ks) ≡ true
in_here k ks = rw (eq-eqb (code_of k) (code_of k) refl)

pub in_more : (k j : Kind) (js : List Kind) → is_in k js ≡ true → is_in k (j ∷ js) ≡ true
in_more k j js e = by_test (eqb (code_of j) (code_of k)) (λ t. rw t) (λ f. rw f e)

pub in_cases : (k j : Kind) (js : List Kind) → is_in k (j ∷ js) ≡ true → (code_of j ≡ code_of k) ⊎ (is_in k js ≡ true)
in_cases k j js e =
    by_test (eqb (code_of j) (code_of k)) (λ t. inl (eqb-true (code_of j) (code_of k) t)) (λ f. inr (rw f at e))

-- a test that passes at every kind of a list passes at each that is in it
pub every_in : (p : Kind → Bool) (ks : List Kind) (k : Kind) → every p ks ≡ true → is_in k ks ≡ true → p k ≡ true
every_in p [] k e i = absurd (false≢true i)
every_in p (j ∷ js) k e i =
    let (t, f) = both (p j) (every p js) e in
    ⊎_elim (λ q. subst (λ x. p x ≡ true) (code_unique j k q) t) (every_in p js k f) (in_cases k j js i)

abbrev pub rises : List Kind → Bool
rises [] = true
rises (k ∷ ks) = every (λ j. ltb (code_of k) (code_of j)) ks && rises ks

pub rises_first : (k : Kind) (ks : List Kind) → rises (k ∷ ks) ≡ true → (j : Kind) → is_in j ks ≡ true
    → code_of k < code_of j
rises_first k ks e j i =
    ltb-true (code_of k) (code_of j) (every_in (λ j. ltb (code_of k) (code_of j)) ks j (both _ (rises ks) e).0 i)

pub rises_rest : (k : Kind) (ks : List Kind) → rises (k ∷ ks) ≡ true → rises ks ≡ true
rises_rest k ks e = (both (every (λ j. ltb (code_of k) (code_of j)) ks) (rises ks) e).1
