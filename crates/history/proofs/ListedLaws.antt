-- Where there is neither OVERLAP nor GAP, the rows into a node can be listed so that their labels are consecutive: from
-- Now down, instant by instant, a row that starts there is put before those that start later. Assumes nothing.
use mathlib.Core.Path.{◌≡◌, refl, ◌∙◌}
use mathlib.Core.Logic.Dec
use mathlib.Core.Logic.Iff
use mathlib.Core.Logic.{⊎_elim, ◌↔◌}
use mathlib.Core.List.Memᴰ.{head as IsAmong-first}
use mathlib.Core.List.Memᴰ.{tail as among-rest}
use mathlib.Core.List.{List, [], ◌∷◌, Memᴰ as Among}
use mathlib.Core.List.Memᴰ.{cases_cons as among_cases}
use mathlib.Core.List.Memᴰ.{not-nil as among-nil}
use Prim.Native.Nat.{ℕ, suc, ◌+◌, ◌≤◌, ◌<◌}
use native.Mathlib.Decide.{ℕ_discrete, dec_le, map_dec}
use native.Mathlib.Omega.{arith}
use Rattle.ground.proofs.LeastLaws.{not_lt→le, not_le→lt, any_dec, descend}
use Rattle.tables.specs.Tables.{Now}
use Rattle.history.specs.Faults.{History, NoneInto, Overlap, Gap}
use Rattle.history.specs.Document.{Incoming, Consecutive}
use Rattle.history.specs.Ruled.{Ruled}
use Rattle.history.proofs.Tree.{same_row}
use Rattle.history.proofs.ConsecutiveLaws.{Force, into_at, ordered, first_starts}

module _ (H : History) (r : Ruled H) (bound : (i : ℕ) → i < H.edges → (H.edge i).to ≤ Now)
    (over : (t : ℕ) → t ≤ Now → (n : ℕ) → Overlap H.edges H.edge t n → ⊥)
    (gap : (t : ℕ) → t ≤ Now → (n : ℕ) → Gap H.edges H.edge t n → ⊥)
    (n : ℕ) where
  -- row i comes into n, and starts at s; at s or later
  abbrev StartsAt : ℕ → ℕ → Type 0
  StartsAt s i = Incoming H n i × ((H.edge i).from ≡ s)

  abbrev StartsFrom : ℕ → ℕ → Type 0
  StartsFrom s i = Incoming H n i × (s ≤ (H.edge i).from)

  starts_dec : (s : ℕ) → Dec ((i : ℕ) × StartsAt s i)
  starts_dec s =
      map_dec (λ (i, h, (c, e)). (i, ((h, c), e))) (λ (i, ((h, c), e)). (i, h, (c, e)))
      (any_dec (λ i. ((H.edge i).child ≡ n) × ((H.edge i).from ≡ s))
      (λ i. Dec.and (ℕ_discrete (H.edge i).child n) (ℕ_discrete (H.edge i).from s)) H.edges)

  one_row : (t i j : ℕ) → Incoming H n i → Incoming H n j → Force H t i → Force H t j → i ≡ j
  one_row t i j p q f g =
      let now : t ≤ Now = omega (arith, bound i p.0, f.1) in
      same_row H.edges H.edge t (over t now) n i j (into_at H t n i p f) (into_at H t n j q g)

  one_start : (s i j : ℕ) → StartsAt s i → StartsAt s j → i ≡ j
  one_start s i j (p, d) (q, e) =
      one_row s i j p q (omega arith, omega (arith, ordered H r n i p)) (omega arith, omega (arith, ordered H r n j q))

  -- a row that starts after s starts past the end of the row that starts at s
  starts_past : (s i j : ℕ) → StartsAt s i → StartsFrom (suc s) j → (H.edge i).to < (H.edge j).from
  starts_past s i j (p, e) (q, l) = not_le→lt (λ h. omega (arith, rw (same h) at l))
    where
      same : (H.edge j).from ≤ (H.edge i).to → j ≡ i
      same h = one_row (H.edge j).from j i q p (omega arith, ordered H r n j q) (omega arith, h)

  -- and where j is the first that starts after s, none is in force between the two
  none_between : (s t i j : ℕ) → StartsAt s i → (H.edge i).to < t → t < (H.edge j).from
      → ((k : ℕ) → StartsFrom (suc s) k → (H.edge j).from ≤ (H.edge k).from) → NoneInto H.edges H.edge t n
  none_between s t i j (p, e) a b least k x = go (dec_le (H.edge k).from s)
    where
      q : Incoming H n k
      q = (x.row, x.into)

      go : Dec ((H.edge k).from ≤ s) → ⊥
      go (yes h) =
          let force : Force H s i = (omega arith, omega (arith, ordered H r n i p)) in
          omega (arith, rw (one_row s k i q p (h, omega (arith, x.force)) force) at x.force.1)
      go (no h) = omega (arith, least k (q, omega arith), x.force)

  gap_between : (t i j : ℕ) → Incoming H n i → Incoming H n j → (H.edge i).to < t → t < (H.edge j).from
      → NoneInto H.edges H.edge t n → ⊥
  gap_between t i j p q a b none =
      gap t (omega (arith, bound j q.0, ordered H r n j q)) n (
        λ z. (r.edge_fits i p.0).not_root (p.1 ∙ z),
        none,
        (i, record { row = p.0; into = p.1; past = a }),
        (j, record { row = q.0; into = q.1; ahead = b }),
      )

  -- so their labels are consecutive
  next_consecutive : (s i j : ℕ) → StartsAt s i → StartsFrom (suc s) j
      → ((k : ℕ) → StartsFrom (suc s) k → (H.edge j).from ≤ (H.edge k).from) → (H.edge j).from ≡ (H.edge i).to + 1
  next_consecutive s i j x y least = omega (arith, starts_past s i j x y, not_lt→le soon)
    where
      soon : (H.edge i).to + 1 < (H.edge j).from → ⊥
      soon h =
          gap_between ((H.edge i).to + 1) i j x.0 y.0 (omega arith) h
          (none_between s ((H.edge i).to + 1) i j x (omega arith) h least)

  -- the rows into n that start at s or later, listed
  abbrev ListedFrom : ℕ → Type 0
  ListedFrom s = (is : List ℕ) × ((i : ℕ) → Among i is ↔ StartsFrom s i) × Consecutive H is

  -- none starts after Now
  listed_none : ListedFrom (suc Now)
  listed_none = (
    [],
    λ i. (λ m. absurd (among-nil m), λ (p, h). absurd (omega (arith, bound i p.0, ordered H r n i p))),
    tt,
  )

  -- where none starts at s, they are those that start later
  listed_same : (s : ℕ) → ((i : ℕ) → StartsAt s i → ⊥) → ListedFrom (suc s) → ListedFrom s
  listed_same s none (is, those, c) =
      (is, λ i. Iff.trans (those i) (λ (p, h). (p, omega arith), λ (p, h). (p, past i p h)), c)
    where
      past : (i : ℕ) → Incoming H n i → s ≤ (H.edge i).from → suc s ≤ (H.edge i).from
      past i p h = not_lt→le (λ l. none i (p, omega arith))

  -- where row i does, it is put before those
  consecutive_more : (s i : ℕ) → StartsAt s i → (is : List ℕ) → ((k : ℕ) → Among k is ↔ StartsFrom (suc s) k)
      → Consecutive H is → Consecutive H (i ∷ is)
  consecutive_more s i x [] those c = tt
  consecutive_more s i x (j ∷ is) those c = (
    next_consecutive s i j x ((those j).0 (IsAmong-first refl))
        (λ k y. first_starts H r n j is (λ l m. ((those l).0 m).0) c k ((those k).1 y)),
    c,
  )

  listed_more : (s i : ℕ) → StartsAt s i → ListedFrom (suc s) → ListedFrom s
  listed_more s i (p, e) (is, those, c) = (
    i ∷ is,
    λ k. (starts k, λ y. among k y (ℕ_discrete (H.edge k).from s)),
    consecutive_more s i (p, e) is those c,
  )
    where
      starts : (k : ℕ) → Among k (i ∷ is) → StartsFrom s k
      starts k m =
          ⊎_elim (λ q. rw q (p, omega arith)) (λ l. let (q, h) = (those k).0 l in (q, omega arith)) (among_cases m)

      among : (k : ℕ) → StartsFrom s k → Dec ((H.edge k).from ≡ s) → Among k (i ∷ is)
      among k (q, h) (yes d) = IsAmong-first (one_start s k i (q, d) (p, e))
      among k (q, h) (no d) = among-rest ((those k).1 (q, omega arith))

  listed_step : (s : ℕ) → ListedFrom (suc s) → ListedFrom s
  listed_step s x = go (starts_dec s)
    where
      go : Dec ((i : ℕ) × StartsAt s i) → ListedFrom s
      go (yes (i, y)) = listed_more s i y x
      go (no none) = listed_same s (λ i y. none (i, y)) x

  pub incoming_listed : (is : List ℕ) × ((i : ℕ) → Among i is ↔ Incoming H n i) × Consecutive H is
  incoming_listed =
      let (is, those, c) : ListedFrom 0 = descend ListedFrom listed_step (suc Now) listed_none in
      (is, λ i. Iff.trans (those i) (λ x. x.0, λ p. (p, omega arith)), c)
