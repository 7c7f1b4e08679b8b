-- How long nothing changes: of two properties, of one row more, of what a label means; that there is one answer; and
-- that there is no change on the way to it. Assumes nothing.
use mathlib.Core.Path.{◌≡◌, ap, ◌∙◌}
use mathlib.Core.Logic.{◌⊎◌, inl, inr, ⊎_elim}
use Prim.Native.Nat.{ℕ, ◌+◌, ◌≤◌, ◌<◌, min}
use native.Mathlib.Decide.{ℕ_discrete, dec_le}
use native.Mathlib.Omega.{arith}
use Rattle.ground.specs.Least.{Any}
use Rattle.ground.proofs.LeastLaws.{below_suc, any_dec}
use Rattle.tables.specs.declared.label.Label.{Label}
use Rattle.tables.specs.Tables.{Now}
use Rattle.tables.specs.Labels.{instant_of, label_of}
use Rattle.tables.proofs.LabelLaws.{instant_end}
use Rattle.history.specs.Faults.{History}
use Rattle.history.specs.Changes.{Changes, Change}
use Rattle.history.specs.Until.{Starts, Ends, Still, Calm, Stops, LargestInstant, Until}

pub largest_instant_unique : {P : ℕ → Type 0} {u v : ℕ} → LargestInstant P u → LargestInstant P v → u ≡ v
largest_instant_unique {u = u} {v = v} a b =
    omega (arith, a.largest v b.instant b.here, b.largest u a.instant a.here)

-- what holds of an instant holds of those before it
abbrev Falls : (ℕ → Type 0) → Type 0
Falls P = (u v : ℕ) → v ≤ u → P u → P v

-- the largest instant with both of two such properties is the smaller of theirs
largest_both : {P Q : ℕ → Type 0} {a b : ℕ} → Falls P → Falls Q → LargestInstant P a → LargestInstant Q b
    → LargestInstant (λ u. P u × Q u) (min a b)
largest_both {a = a} {b = b} f g l r =
    record {
      instant = omega (arith, l.instant);
      here = (f a (min a b) (omega arith) l.here, g b (min a b) (omega arith) r.here);
      largest = λ v h p. omega (arith, l.largest v h p.0, r.largest v h p.1);
    }

stops_dec : (u from to : ℕ) → Dec (Stops u from to)
stops_dec u from to = go (ℕ_discrete from (u + 1)) (ℕ_discrete to u)
  where
    go : Dec (from ≡ u + 1) → Dec (to ≡ u) → Dec (Stops u from to)
    go (yes a) d = yes (inl a)
    go (no f) (yes b) = yes (inr b)
    go (no f) (no g) = no (⊎_elim f g)

module _ (t : ℕ) where
  starts_fall : (from : ℕ) → Falls (λ u. Starts t from u → ⊥)
  starts_fall from u v h f s = f (s.0, omega arith)

  ends_fall : (to : ℕ) → Falls (λ u. Ends t to u → ⊥)
  ends_fall to u v h f s = f (s.0, omega arith)

  still_falls : (from to : ℕ) → Falls (Still t from to)
  still_falls from to u v h s = (starts_fall from u v h s.0, ends_fall to u v h s.1)

  calm_falls : (n : ℕ) (from to : ℕ → ℕ) → Falls (Calm t n from to)
  calm_falls n from to u v h c i l = still_falls (from i) (to i) u v h (c i l)

  -- of one label
  pub until_label : (from to : ℕ) {a b : ℕ} → LargestInstant (λ u. Starts t from u → ⊥) a
      → LargestInstant (λ u. Ends t to u → ⊥) b
      → LargestInstant (Still t from to) (min a b)
  until_label from to = largest_both (starts_fall from) (ends_fall to)

  -- of the label that a row's numbers mean
  pub until_row : (from to : ℕ) {l : Label} {u : ℕ} → l ≡ label_of from to
      → LargestInstant (Still t l.from (instant_of l.end)) u → LargestInstant (Still t from to) u
  until_row from to {l} {u} e v =
      let q : instant_of l.end ≡ to = ap (λ (x : Label). instant_of x.end) e ∙ instant_end to in
      let f : l.from ≡ from = ap (λ (x : Label). x.from) e in
      rw (f, q) at v

  -- of one label more
  module _ (from to : ℕ → ℕ) where
    pub until_more : {n a b : ℕ} → LargestInstant (Calm t n from to) a → LargestInstant (Still t (from n) (to n)) b
        → LargestInstant (Calm t (n + 1) from to) (min a b)
    until_more {n} {a} {b} l r =
        let both = largest_both (calm_falls n from to) (still_falls (from n) (to n)) l r in
        record {
          instant = both.instant;
          here = λ i h.
              below_suc (λ j. Still t (from j) (to j) (min a b)) n both.here.0 both.here.1 i (omega arith);
          largest = λ v h c. both.largest v h (λ i g. c i (omega arith), c n (omega arith));
        }

  -- of two tables
  pub until_both : {m k a b : ℕ} (from to from' to' : ℕ → ℕ)
      → LargestInstant (Calm t m from to) a → LargestInstant (Calm t k from' to') b
      → LargestInstant (λ u. Calm t m from to u × Calm t k from' to' u) (min a b)
  until_both {m} {k} from to from' to' = largest_both (calm_falls m from to) (calm_falls k from' to')

  -- where nothing happens up to u, a label starts at u+1 or ends at u, or nothing happens up to u+1
  calm_on : {u : ℕ} (n : ℕ) (from to : ℕ → ℕ) → Calm t n from to u
      → Any (λ i. Stops u (from i) (to i)) n ⊎ Calm t n from to (u + 1)
  calm_on {u} n from to calm = go (any_dec (λ i. Stops u (from i) (to i)) (λ i. stops_dec u (from i) (to i)) n)
    where
      on : (Any (λ i. Stops u (from i) (to i)) n → ⊥) → Calm t n from to (u + 1)
      on none i h =
          let a : from i ≡ u + 1 → ⊥ = λ e. none (i, h, inl e) in
          let b : to i ≡ u → ⊥ = λ e. none (i, h, inr e) in
          (λ s. (calm i h).0 (s.0, omega arith), λ s. (calm i h).1 (s.0, omega arith))

      go : Dec (Any (λ i. Stops u (from i) (to i)) n)
          → Any (λ i. Stops u (from i) (to i)) n ⊎ Calm t n from to (u + 1)
      go (yes some) = inl some
      go (no none) = inr (on none)

module _ (H : History) (t : ℕ) {u : ℕ} (until : Until H t u) where
  pub until_reaches : t ≤ Now → t ≤ u
  until_reaches h = until.largest t h (λ i l. still, λ i l. still)
    where
      still : {from to : ℕ} → Still t from to t
      still = (λ s. omega arith, λ s. omega arith)

  -- no change instant lies after t up to u
  pub until_calm : (c : ℕ) → t < c → c ≤ u → Change H c → ⊥
  until_calm c a b =
      ⊎_elim (λ (i, h, x). label (until.here.0 i h) x) (λ (j, h, x). label (until.here.1 j h) x)
    where
      label : {from to : ℕ} → Still t from to u → Changes from to c → ⊥
      label s (inl e) = s.0 (omega arith, omega arith)
      label s (inr e) = s.1 (omega (arith, e.1), omega (arith, e.1))

  -- [02:Ask 11] "u is Now or some row starts at u+1 or ends at u"
  pub until_stops : (u ≡ Now)
      ⊎ (Any (λ i. Stops u (H.edge i).from (H.edge i).to) H.edges
      ⊎ Any (λ j. Stops u (H.ref j).from (H.ref j).to) H.refs)
  until_stops =
      ⊎_elim (λ x. inr (inl x))
      (λ e. ⊎_elim (λ x. inr (inr x)) (λ r. inl (last e r)) (calm_on t H.refs _ _ until.here.1))
      (calm_on t H.edges _ _ until.here.0)
    where
      last : Calm t H.edges (λ i. (H.edge i).from) (λ i. (H.edge i).to) (u + 1)
          → Calm t H.refs (λ j. (H.ref j).from) (λ j. (H.ref j).to) (u + 1) → u ≡ Now
      last e r = go (dec_le (u + 1) Now)
        where
          go : Dec (u + 1 ≤ Now) → u ≡ Now
          go (yes h) = absurd (omega (arith, until.largest (u + 1) h (e, r)))
          go (no h) = omega (arith, until.instant)
