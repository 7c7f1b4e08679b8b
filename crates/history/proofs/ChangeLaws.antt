-- Between change instants nothing changes: labels, rows in force, chains and presence stand as they stood. Assumes
-- nothing.
use mathlib.Core.Path.{refl}
use mathlib.Core.Logic.Dec
use mathlib.Core.Logic.{◌⊎◌, inl, inr, ⊎_elim}
use mathlib.Core.List.{List, [], ◌∷◌}
use Prim.Native.Nat.{ℕ, suc, ◌+◌, ◌≤◌, ◌<◌}
use native.Mathlib.Decide.{ℕ_discrete, dec_lt, dec_le}
use native.Mathlib.Omega.{arith}
use Rattle.ground.specs.Least.{Before}
use Rattle.ground.proofs.LeastLaws.{any_dec, Greatest, greatest_exists}
use Rattle.tables.specs.Tables.{Now, During}
use Rattle.history.specs.Faults.{History, Into, Chain, Here}
use Rattle.history.specs.Changes.{Changes, Change, LastChange}

-- a label stands at s as it stands at t
pub record Unchanged (from to t s : ℕ) : Type 0 where
  pub force : During from to t → During from to s
  pub back : During from to s → During from to t
  pub past : to < t → to < s
  pub ahead : t < from → s < from

-- so it does where it has no change after s up to t
pub unchanged : (from to t s : ℕ) → t ≤ Now → s ≤ t → ((c : ℕ) → s < c → c ≤ t → Changes from to c → ⊥)
    → Unchanged from to t s
unchanged from to t s now st none =
    record {
      force = λ f. (starts (dec_le from s) f.0, omega arith);
      back = λ f. (omega arith, ends (dec_le t to) f);
      past = λ p. passed (dec_lt to s) p;
      ahead = λ a. omega arith;
    }
  where
    starts : Dec (from ≤ s) → from ≤ t → from ≤ s
    starts (yes h) a = h
    starts (no n) a = absurd (none from (omega arith) a (inl refl))

    ends : Dec (t ≤ to) → During from to s → t ≤ to
    ends (yes h) f = h
    ends (no n) f = absurd (none (to + 1) (omega arith) (omega arith) (inr (omega arith, refl)))

    passed : Dec (to < s) → to < t → to < s
    passed (yes h) p = h
    passed (no n) p = absurd (none (to + 1) (omega arith) (omega arith) (inr (omega arith, refl)))

-- the labels of a history stand at s as they stand at t
pub record AllUnchanged (H : History) (t s : ℕ) : Type 0 where
  pub order : s ≤ t
  pub edges : (i : ℕ) → i < H.edges → Unchanged (H.edge i).from (H.edge i).to t s
  pub refs : (k : ℕ) → k < H.refs → Unchanged (H.ref k).from (H.ref k).to t s

-- so they do where nothing changes after s up to t
pub calm_unchanged : (H : History) (t s : ℕ) → t ≤ Now → s ≤ t → ((c : ℕ) → s < c → c ≤ t → Change H c → ⊥)
    → AllUnchanged H t s
calm_unchanged H t s now l calm =
    record {
      order = l;
      edges = λ i h. unchanged (H.edge i).from (H.edge i).to t s now l (λ c a b x. calm c a b (inl (i, h, x)));
      refs = λ k h. unchanged (H.ref k).from (H.ref k).to t s now l (λ c a b x. calm c a b (inr (k, h, x)));
    }

module _ (H : History) (t s : ℕ) (k : AllUnchanged H t s) where
  pub into_s : (n i : ℕ) → Into H.edges H.edge t n i → Into H.edges H.edge s n i
  into_s n i p = record { row = p.row; into = p.into; force = (k.edges i p.row).force p.force }

  pub into_t : (n i : ℕ) → Into H.edges H.edge s n i → Into H.edges H.edge t n i
  into_t n i p = record { row = p.row; into = p.into; force = (k.edges i p.row).back p.force }

  pub chain_s : (a b : ℕ) (is : List ℕ) → Chain H.edges H.edge t a b is → Chain H.edges H.edge s a b is
  chain_s a b [] p = p
  chain_s a b (i ∷ is) p = (into_s b i p.0, chain_s a (H.edge i).parent is p.1)

  pub present_t : (n : ℕ) → Here H s n → Here H t n
  present_t n (inl p) = inl (p.0, omega (arith, k.order))
  present_t n (inr p) = inr (p.0, (p.1.0, into_t n p.1.0 p.1.1))

or_dec : {A B : Type 0} → Dec A → Dec B → Dec (A ⊎ B)
or_dec (yes a) d = yes (inl a)
or_dec (no f) (yes b) = yes (inr b)
or_dec (no f) (no g) = no (⊎_elim f g)

changes_dec : (from to c : ℕ) → Dec (Changes from to c)
changes_dec from to c = or_dec (ℕ_discrete c from) (Dec.and (Dec.not (ℕ_discrete to Now)) (ℕ_discrete c (to + 1)))

change_dec : (H : History) (c : ℕ) → Dec (Change H c)
change_dec H c =
    or_dec (any_dec (λ i. Changes (H.edge i).from (H.edge i).to c)
    (λ i. changes_dec (H.edge i).from (H.edge i).to c) H.edges)
    (any_dec (λ k. Changes (H.ref k).from (H.ref k).to c) (λ k. changes_dec (H.ref k).from
    (H.ref k).to c) H.refs)

-- where there is a change up to t, there is a greatest one
pub last_change : (H : History) (t s : ℕ) → s ≤ t → Change H s → (c : ℕ) × LastChange H t c
last_change H t s h x = go (greatest_exists (Change H) (change_dec H) (suc t))
  where
    go : ((c : ℕ) × Greatest (Change H) (suc t) c) ⊎ Before (Change H) (suc t) → (c : ℕ) × LastChange H t c
    go (inl (c, (a, y, g))) = (c, record { before = omega arith; change = y; greatest = λ s a b. g s a (omega arith) })
    go (inr none) = absurd (none s (omega arith) x)
