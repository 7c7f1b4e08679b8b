-- Laws of the smallest number: it is the only one, how a search finds it, and that the computed one is it. Assumes
-- nothing.
use mathlib.Core.Path.{◌≡◌, refl, sym, ap, subst, ◌∙◌}
use mathlib.Core.Logic.Dec
use mathlib.Core.Logic.Iff
use mathlib.Core.Logic.{◌⊎◌, inl, inr, ⊎_elim, ◌↔◌}
use mathlib.Core.Bool.{Bool, true, false, cond, false≢true}
use mathlib.Core.List.{List}
use Prim.Native.Nat.{ℕ, zero, suc, ◌+◌, ◌≤◌, ◌<◌, min}
use native.Mathlib.Decide.{ℕ_discrete, dec_lt}
use native.Mathlib.Omega.{arith}
use borrow.Author.Tests.{lt-ltb, le-ltb}
use denote.Param.Members.{Mut}
use denote.Ref.{Bor}
use Rattle.std.specs.Prelude.{Option, Some, None}
use Rattle.std.specs.declared.ops.Range.{Range}
use Rattle.std.specs.Fn.{CalledAt}
use Rattle.std.specs.Iterator.{YieldsThen}
use Rattle.std.specs.List.{FoldsTo}
use Rattle.std.specs.Option.{MatchOption}
use Rattle.std.specs.Bool.{⊤}
use Rattle.std.proofs.iter.Yields.{nat_range_steps}
use Rattle.std.proofs.lemmas.Iterator.{first_from_Range}
use Rattle.std.proofs.lemmas.List.Sums.{position_or_len_is}
use Rattle.std.specs.List.{position}
use lib.ListN.{length, get_or}
use Rattle.ground.specs.Tests.{Tells}
use Rattle.ground.specs.Least.{Any, Before, Least, Smallest}
use Rattle.ground.specs.Searches.{Finds}
use Rattle.ground.specs.Searches.{Passes, any, least, found, nearer}
use Rattle.ground.proofs.TestLaws.{by_lt, tells_or, tells_fails}

pub not_lt→le : {m n : ℕ} → (m < n → ⊥) → n ≤ m
not_lt→le {m} {n} f = omega arith

pub not_le→lt : {m n : ℕ} → (m ≤ n → ⊥) → n < m
not_le→lt {m} {n} f = omega arith

-- what holds below n, and at n, holds below n + 1
pub below_suc : (P : ℕ → Type 0) (n : ℕ) → ((i : ℕ) → i < n → P i) → P n → (i : ℕ) → i < suc n → P i
below_suc P n f p i h = go (ℕ_discrete i n)
  where
    go : Dec (i ≡ n) → P i
    go (yes e) = subst P (sym e) p
    go (no e) = f i (omega arith)

-- what goes from each number to the one before it goes down to 0
pub descend : (P : ℕ → Type 0) → ((n : ℕ) → P (suc n) → P n) → (n : ℕ) → P n → P 0
descend P step zero p = p
descend P step (suc n) p = descend P step n (step n p)

module _ (P : ℕ → Type 0) where
  -- the invariant of a search: at its start, and after a turn that did not find
  pub before_none : Before P 0
  before_none i h = absurd (omega arith)

  pub before_suc : (n : ℕ) → Before P n → (P n → ⊥) → Before P (suc n)
  before_suc n = below_suc (λ i. P i → ⊥) n

  pub before_more : (n : ℕ) → Before P n → (P n → ⊥) → Before P (n + 1)
  before_more n b f i h = before_suc n b f i (omega arith)

  -- a search that found, and one that looked at all
  pub least_found : {n k : ℕ} → k < n → Before P k → P k → Least P n k
  least_found h b p = record { within = omega arith; before = b; here = λ _. p }

  pub least_missed : {n : ℕ} → Before P n → Least P n n
  least_missed {n} b = record { within = omega arith; before = b; here = λ h. absurd (omega arith) }

  pub least_none : {n k : ℕ} → Least P n k → n ≤ k → Before P n
  least_none {n} {k} l h i g = l.before i (omega arith)

  least_le : {n j k : ℕ} → Least P n j → Least P n k → j ≤ k
  least_le {n} {j} {k} a b = not_lt→le (λ h. a.before k h (b.here (omega (arith, a.within))))

  pub least_unique : {n j k : ℕ} → Least P n j → Least P n k → j ≡ k
  least_unique a b = omega (arith, least_le a b, least_le b a)

  -- the smallest can be found where the property can be decided
  pub least_exists : ((i : ℕ) → Dec (P i)) → (n : ℕ) → (k : ℕ) × Least P n k
  least_exists d zero = (0, least_missed before_none)
  least_exists d (suc n) = let (k, l) = least_exists d n in go k l (dec_lt k n) (d n)
    where
      go : (k : ℕ) → Least P n k → Dec (k < n) → Dec (P n) → (j : ℕ) × Least P (suc n) j
      go k l (yes h) q = (k, least_found (omega arith) l.before (l.here h))
      go k l (no h) (yes p) = (n, least_found (omega arith) (least_none l (omega arith)) p)
      go k l (no h) (no f) = (suc n, least_missed (before_suc n (least_none l (omega arith)) f))

-- whether some number below n has the property can be decided too
pub any_dec : (P : ℕ → Type 0) → ((i : ℕ) → Dec (P i)) → (n : ℕ) → Dec (Any P n)
any_dec P d n = let (k, l) = least_exists P d n in go k l (dec_lt k n)
  where
    go : (k : ℕ) → Least P n k → Dec (k < n) → Dec (Any P n)
    go k l (yes h) = yes (k, h, l.here h)
    go k l (no h) = no (λ s. least_none P l (omega arith) s.0 s.1 s.2)

-- a property that can be decided holds at all numbers below n, or there is a smallest at which it does not
pub all_or_least : (P : ℕ → Type 0) → ((i : ℕ) → Dec (P i)) → (n : ℕ)
    → ((i : ℕ) → i < n → P i) ⊎ ((k : ℕ) × (Least (λ i. P i → ⊥) n k × (k < n)))
all_or_least P d n = let (k, l) = least_exists (λ i. P i → ⊥) (λ i. Dec.not (d i)) n in go k l (dec_lt k n)
  where
    go : (k : ℕ) → Least (λ i. P i → ⊥) n k → Dec (k < n)
        → ((i : ℕ) → i < n → P i) ⊎ ((k : ℕ) × (Least (λ i. P i → ⊥) n k × (k < n)))
    go k l (yes h) = inr (k, (l, h))
    go k l (no h) = inl (λ i g. (Dec.not-not (d i)).0 (least_none (λ i. P i → ⊥) l (omega arith) i g))

-- two properties that say the same have the same smallest number
pub least_same : {P Q : ℕ → Type 0} {n k : ℕ} → ((i : ℕ) → i < n → P i → Q i) → ((i : ℕ) → i < n → Q i → P i)
    → Least P n k → Least Q n k
least_same f g l =
    record {
      within = l.within;
      before = λ i h q. l.before i h (g i (omega (arith, l.within)) q);
      here = λ h. f _ h (l.here h);
    }

-- the smallest number stays the smallest where no smaller one gets the property
pub least_stays : {P Q : ℕ → Type 0} {n k : ℕ} → ((i : ℕ) → P i → Q i) → ((i : ℕ) → i < k → Q i → P i)
    → Least P n k → Least Q n k
least_stays f g l =
    record { within = l.within; before = λ i h q. l.before i h (g i h q); here = λ h. f _ (l.here h) }

-- the greatest number below n with a property that can be decided, or that there is none
abbrev pub Greatest : (ℕ → Type 0) → ℕ → ℕ → Type 0
Greatest P n k = (k < n) × P k × ((i : ℕ) → k < i → i < n → P i → ⊥)

pub greatest_exists : (P : ℕ → Type 0) → ((i : ℕ) → Dec (P i)) → (n : ℕ) → ((k : ℕ) × Greatest P n k) ⊎ Before P n
greatest_exists P d zero = inr (before_none P)
greatest_exists P d (suc n) = go (d n) (greatest_exists P d n)
  where
    go : Dec (P n) → ((k : ℕ) × Greatest P n k) ⊎ Before P n → ((k : ℕ) × Greatest P (suc n) k) ⊎ Before P (suc n)
    go (yes p) r = inl (n, (omega arith, p, λ i a b. omega arith))
    go (no f) (inl (k, (h, p, g))) =
        inl (k, (omega arith, p, λ i a b. below_suc (λ i. k < i → P i → ⊥) n (λ i b a. g i a b) (λ a. f) i b a))
    go (no f) (inr b) = inr (before_suc P n b f)

-- some number below n + 1 has P if n has, or one below n
pub any_suc : (P : ℕ → Type 0) (n : ℕ) → (P n ⊎ Any P n) ↔ Any P (suc n)
any_suc P n = (⊎_elim (λ p. (n, omega arith, p)) (λ s. (s.0, omega arith, s.2)), λ s. go s (ℕ_discrete s.0 n))
  where
    go : (s : Any P (suc n)) → Dec (s.0 ≡ n) → P n ⊎ Any P n
    go s (yes e) = inl (subst P e s.2)
    go s (no e) = inr (s.0, omega arith, s.2)

-- the computed ones, by a test that tells the property
module _ (p : ℕ → Bool) (P : ℕ → Type 0) where
  pub any_tells : ((i : ℕ) → Tells (p i) (P i)) → (n : ℕ) → Tells (any p n) (Any P n)
  unfolding any
  any_tells tells zero = (λ e. absurd (false≢true e), λ s. absurd (none s))
    where
      none : Any P zero → ⊥
      none (i, h, x) = omega arith
  any_tells tells (suc n) = Iff.trans (tells_or (p n) (any p n) (tells n) (any_tells tells n)) (any_suc P n)

  least_step : (n k : ℕ) → (k ≤ n → Tells (p k) (P k)) → Least P n k → (b : Bool) → p k ≡ b
      → Least P (suc n) (cond b k (suc k))
  least_step n k tells l true e =
      record { within = omega (arith, l.within); before = l.before; here = λ h. (tells l.within).0 e }
  least_step n k tells l false e = go (dec_lt k n)
    where
      fails : P k → ⊥
      fails x = false≢true (sym e ∙ (tells l.within).1 x)

      go : Dec (k < n) → Least P (suc n) (suc k)
      go (yes h) = absurd (fails (l.here h))
      go (no h) =
          let q : k ≡ n = omega (arith, l.within) in
          rw q (least_missed P (before_suc P n (least_none P l (omega arith)) (rw (← q) fails)))

  -- where the test tells the property below n
  pub least_tells : (n : ℕ) → ((i : ℕ) → i < n → Tells (p i) (P i)) → Least P n (least p n)
  unfolding least
  least_tells zero tells = least_missed P (before_none P)
  least_tells (suc n) tells =
      least_step n (least p n) (λ h. tells (least p n) (omega arith)) (least_tells n (λ i h. tells i (omega arith)))
      (p (least p n)) refl

-- a search that answers the smallest number, if there is one
pub finds_tells : (p : ℕ → Bool) (P : ℕ → Type 0) (n : ℕ) → ((i : ℕ) → i < n → Tells (p i) (P i))
    → Finds P n (found p n)
finds_tells p P n tells =
    by_lt (least p n) n
    (λ h. rw (lt-ltb _ _ h) (least_tells p P n tells, h))
    (λ h. rw (le-ltb _ _ h) (least_none P (least_tells p P n tells) h))

-- one number x more, where a test passes
pub finds_nearer : (P : ℕ → Type 0) {n x : ℕ} (r : Option ℕ) (b : Bool) → (b ≡ true → x < n) → Finds P n r
    → Finds (λ i. P i ⊎ ((i ≡ x) × (b ≡ true))) n (nearer r b x)
finds_nearer P None false h f = λ i g. ⊎_elim (f i g) (λ w. false≢true w.1)
finds_nearer P (Some k) false h f =
    (least_stays (λ i. inl) (λ i g. ⊎_elim (λ p. p) (λ w. absurd (false≢true w.1))) f.0, f.1)
finds_nearer P {n} {x} None true h f = rw q (least_found _ (h refl) before (inr (refl, refl)), h refl)
  where
    q : min x x ≡ x
    q = omega arith

    before : Before (λ i. P i ⊎ ((i ≡ x) × (true ≡ true))) x
    before i g = ⊎_elim (f i (omega (arith, h refl))) (λ w. omega (arith, w.0))
finds_nearer P {n} {x} (Some k) true h f = go (dec_lt x k)
  where
    go : Dec (x < k) → Smallest (λ i. P i ⊎ ((i ≡ x) × (true ≡ true))) n (min k x)
    go (yes l) =
        let q : min k x ≡ x = omega arith in
        rw q (
          least_found _ (h refl) (λ i g. ⊎_elim (f.0.before i (omega arith)) (λ w. omega (arith, w.0)))
              (inr (refl, refl)),
          h refl,
        )
    go (no l) =
        let q : min k x ≡ k = omega arith in
        rw q (least_stays (λ i. inl) (λ i g. ⊎_elim (λ p. p) (λ w. absurd (omega (arith, w.0)))) f.0, f.1)

-- two properties that say the same are found at the same number
pub finds_same : {P Q : ℕ → Type 0} {n : ℕ} (r : Option ℕ) → ((i : ℕ) → i < n → P i → Q i)
    → ((i : ℕ) → i < n → Q i → P i) → Finds P n r → Finds Q n r
finds_same None f g l = λ i h q. l i h (g i h q)
finds_same (Some k) f g l = (least_same f g l.0, l.1)

pub finds_unique : (P : ℕ → Type 0) (n : ℕ) {r s : Option ℕ} → Finds P n r → Finds P n s → r ≡ s
finds_unique P n {r = None} {s = None} f g = refl
finds_unique P n {r = None} {s = Some k} f g = absurd (f k g.1 (g.0.here g.1))
finds_unique P n {r = Some k} {s = None} f g = absurd (g k f.1 (f.0.here f.1))
finds_unique P n {r = Some j} {s = Some k} f g = ap (λ x. Some x) (least_unique P f.0 g.0)

-- a loop that looks for the smallest number at which a test passes: at its start, after a turn that did
-- not find, where it found, at its end
module _ (p : ℕ → Bool) where
  pub search_none : Before (Passes p) 0
  search_none = before_none (Passes p)

  pub search_more : (i : ℕ) → Before (Passes p) i → p i ≡ false → Before (Passes p) (i + 1)
  search_more i b e = before_more (Passes p) i b (λ t. false≢true (sym e ∙ t))

  pub search_found : {n k : ℕ} → k < n → Before (Passes p) k → p k ≡ true → k ≡ least p n
  search_found {n} h b e =
      least_unique (Passes p) (least_found (Passes p) h b e) (least_tells p (Passes p) n (λ i h. Iff.rfl))

  pub search_missed : {n k : ℕ} → n ≤ k → Before (Passes p) k → n ≡ least p n
  search_missed {n} h b =
      least_unique (Passes p) (least_missed (Passes p) (λ i l. b i (omega arith)))
      (least_tells p (Passes p) n (λ i h. Iff.rfl))

  -- what such a search answers
  pub found_some : {n k : ℕ} → k < n → Before (Passes p) k → p k ≡ true → Some k ≡ found p n
  found_some {n} {k} h b e = let q = search_found h b e in rw (← q, lt-ltb k n h)

  pub found_none : {n : ℕ} → Before (Passes p) n → None ≡ found p n
  found_none {n} b = let q = search_missed {n = n} (omega arith) b in rw (← q, le-ltb n n (omega arith))

  found_first : (n : ℕ) (r : Option ℕ)
      → MatchOption r ((k : ℕ) → 0 ≤ k → k < n → p k ≡ false)
      (λ i. (0 ≤ i) × (i < n) × (p i ≡ true) × ((k : ℕ) → 0 ≤ k → k < i → p k ≡ false))
      → r ≡ found p n
  found_first n None f = found_none (λ i h t. false≢true (sym (f i (omega arith) h) ∙ t))
  found_first n (Some i) (_, h, e, f) = found_some h (λ k g t. false≢true (sym (f k (omega arith) g) ∙ t)) e

  -- `find` over a range from 0, by a closure that makes the test
  pub find_found : {n : ℕ} {F : Type 0} {g : Mut F (Bor ℕ × Unit {0}) Bool} (s u : Range ℕ)
      → s.start ≡ 0 → s.end ≡ n → (f : F) (r : Option ℕ)
      → (xs : List ℕ) × (j : F) × YieldsThen nat_range_steps s xs r u × FoldsTo (λ p x q. CalledAt g p x false q) f xs j
      × MatchOption r ⊤ (λ x. (h : F) × CalledAt g j x true h)
      → ((x : ℕ) (b : Bool) (q : F) → CalledAt g f x b q → (q ≡ f) × (b ≡ p x))
      → r ≡ found p n
  find_found {n} {F} {g} s u begins ends f r ran calls =
      found_first n r (rw (begins, ends) at
      (first_from_Range s u f r (λ k. p k ≡ true) (λ k. p k ≡ false) ran (λ x q c. sym (calls x true q c).1)
      (λ x q c. ((calls x false q c).0, sym (calls x false q c).1))))

-- the same by a closure that decides a property
pub find_finds : (P : ℕ → Type 0) {n : ℕ} {F : Type 0} {g : Mut F (Bor ℕ × Unit {0}) Bool} (s u : Range ℕ)
    → s.start ≡ 0 → s.end ≡ n → (f : F) (r : Option ℕ)
    → (xs : List ℕ) × (j : F) × YieldsThen nat_range_steps s xs r u × FoldsTo (λ p x q. CalledAt g p x false q) f xs j
    × MatchOption r ⊤ (λ x. (h : F) × CalledAt g j x true h)
    → ((x : ℕ) (q : F) → CalledAt g f x true q → P x)
    → ((x : ℕ) (q : F) → CalledAt g f x false q → (q ≡ f) × (P x → ⊥))
    → Finds P n r
find_finds P {n} s u begins ends f r ran hit miss =
    at r (rw (begins, ends) at (first_from_Range s u f r P (λ k. P k → ⊥) ran hit miss))
  where
    at : (r : Option ℕ)
        → MatchOption r ((k : ℕ) → 0 ≤ k → k < n → P k → ⊥)
        (λ i. (0 ≤ i) × (i < n) × P i × ((k : ℕ) → 0 ≤ k → k < i → P k → ⊥))
        → Finds P n r
    at None f = λ i h. f i (omega arith) h
    at (Some i) (_, h, e, f) = (least_found P h (λ k g. f k (omega arith) g) e, h)

-- `position` over a list is a search for the smallest place
pub position_found : (p : ℕ → Bool) (xs : List ℕ) → position p xs ≡ found (λ i. p (get_or xs i 0)) (length xs)
position_found p xs =
    rw
    (position_or_len_is p xs (least at (length xs)) 0 l.within (λ k h. tells_fails _ Iff.rfl (l.before k h)) l.here)
    refl
  where
    at : ℕ → Bool
    at i = p (get_or xs i 0)

    l : Least (Passes at) (length xs) (least at (length xs))
    l = least_tells at (Passes at) (length xs) (λ i h. Iff.rfl)
