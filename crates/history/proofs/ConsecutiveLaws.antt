-- Rows into a node with consecutive labels are never in force together, with no gap between them. Assumes nothing.
use mathlib.Core.Path.{◌≡◌, refl, sym, ◌∙◌}
use mathlib.Core.Logic.{◌⊎◌, inl, inr, ⊎_elim, ◌↔◌}
use mathlib.Core.List.Memᴰ.{head as IsAmong-first}
use mathlib.Core.List.Memᴰ.{tail as among-rest}
use mathlib.Core.List.{List, [], ◌∷◌, Memᴰ as Among}
use mathlib.Core.List.Memᴰ.{cases_cons as among_cases}
use mathlib.Core.List.Memᴰ.{not-nil as among-nil}
use mathlib.Core.List.Memᴰ.{eq_of_singleton as among_one}
use Prim.Native.Nat.{ℕ, ◌≤◌, ◌<◌}
use native.Mathlib.Decide.{dec_le}
use native.Mathlib.Omega.{arith}
use Rattle.tables.specs.Tables.{During}
use Rattle.history.specs.Faults.{History, Into, Overlap, Gap}
use Rattle.history.specs.Document.{Incoming, Consecutive}
use Rattle.history.specs.Ruled.{Ruled}

-- row i is in force at t
abbrev pub Force : History → ℕ → ℕ → Type 0
Force H t i = During (H.edge i).from (H.edge i).to t

pub into_at : (H : History) (t n i : ℕ) → Incoming H n i → Force H t i → Into H.edges H.edge t n i
into_at H t n i p f = record { row = p.0; into = p.1; force = f }

module _ (H : History) (r : Ruled H) where
  pub ordered : (n i : ℕ) → Incoming H n i → (H.edge i).from ≤ (H.edge i).to
  ordered n i p = (r.edge_fits i p.0).ends

  -- of rows with consecutive labels, the first starts first
  pub first_starts : (n i : ℕ) (is : List ℕ) → ((k : ℕ) → Among k (i ∷ is) → Incoming H n k) → Consecutive H (i ∷ is)
      → (k : ℕ) → Among k (i ∷ is) → (H.edge i).from ≤ (H.edge k).from
  first_starts n i [] rows c k m = rw (among_one m) (omega arith)
  first_starts n i (j ∷ is) rows c k m =
      let rest = first_starts n j is (λ l x. rows l (among-rest x)) c.1 k in
      ⊎_elim (λ e. rw e (omega arith)) (λ x. omega (arith, c.0, rest x, ordered n i (rows i (IsAmong-first refl))))
      (among_cases m)

  -- and the others start past its end
  rest_past : (n i : ℕ) (is : List ℕ) → ((k : ℕ) → Among k (i ∷ is) → Incoming H n k) → Consecutive H (i ∷ is)
      → (k : ℕ) → Among k is → (H.edge i).to < (H.edge k).from
  rest_past n i [] rows c k m = absurd (among-nil m)
  rest_past n i (j ∷ is) rows c k m =
      omega (arith, c.0, first_starts n j is (λ l x. rows l (among-rest x)) c.1 k m)

  rest_consecutive : (i : ℕ) (is : List ℕ) → Consecutive H (i ∷ is) → Consecutive H is
  rest_consecutive i [] c = tt
  rest_consecutive i (j ∷ is) c = c.1

  -- so at an instant at most one of them is in force
  one_in_force : (t n : ℕ) (is : List ℕ) → ((k : ℕ) → Among k is → Incoming H n k) → Consecutive H is
      → (k l : ℕ) → Among k is → Among l is → Force H t k → Force H t l → k ≡ l
  one_in_force t n [] rows c k l x y f g = absurd (among-nil x)
  one_in_force t n (i ∷ is) rows c k l x y f g =
      go (among_cases x) (among_cases y)
      (one_in_force t n is (λ j m. rows j (among-rest m)) (rest_consecutive i is c) k l)
    where
      past : (j : ℕ) → Among j is → Force H t j → Force H t i → ⊥
      past j m a b = omega (arith, rest_past n i is rows c j m)

      go : (k ≡ i) ⊎ Among k is → (l ≡ i) ⊎ Among l is → (Among k is → Among l is → Force H t k → Force H t l → k ≡ l)
          → k ≡ l
      go (inl d) (inl e) rest = d ∙ sym e
      go (inl d) (inr m) rest = absurd (past l m g (rw d at f))
      go (inr m) (inl e) rest = absurd (past k m f (rw e at g))
      go (inr m) (inr o) rest = rest m o f g

  -- and an instant between the first start and another lies in one of the labels
  covered : (t i : ℕ) (is : List ℕ) → Consecutive H (i ∷ is) → (H.edge i).from ≤ t
      → (k : ℕ) → Among k (i ∷ is) → t < (H.edge k).from → (j : ℕ) × Among j (i ∷ is) × Force H t j
  covered t i [] c b k m h = absurd (omega (arith, rw (among_one m) at h))
  covered t i (j ∷ is) c b k m h = go (dec_le t (H.edge i).to) (among_cases m) (covered t j is c.1)
    where
      Covers : List ℕ → Type 0
      Covers js = (l : ℕ) × Among l js × Force H t l

      go : Dec (t ≤ (H.edge i).to) → (k ≡ i) ⊎ Among k (j ∷ is)
          → ((H.edge j).from ≤ t → (l : ℕ) → Among l (j ∷ is) → t < (H.edge l).from → Covers (j ∷ is))
          → Covers (i ∷ (j ∷ is))
      go (yes l) d rest = (i, IsAmong-first refl, (b, l))
      go (no f) (inl e) rest = absurd (omega (arith, rw e at h))
      go (no f) (inr x) rest = let (l, y, g) = rest (omega (arith, c.0)) k x h in (l, among-rest y, g)

  pub consecutive_no_overlap : (t n : ℕ) (is : List ℕ) → ((i : ℕ) → Among i is ↔ Incoming H n i) → Consecutive H is
      → Overlap H.edges H.edge t n → ⊥
  consecutive_no_overlap t n is those c (i, j, h, p, q) =
      omega (
        arith,
        one_in_force t n is (λ k. (those k).0) c i j ((those i).1 (p.row, p.into))
            ((those j).1 (q.row, q.into)) p.force q.force,
      )

  pub consecutive_no_gap : (t n : ℕ) (is : List ℕ) → ((i : ℕ) → Among i is ↔ Incoming H n i) → Consecutive H is
      → Gap H.edges H.edge t n → ⊥
  consecutive_no_gap t n [] those c (_, _, (i, a), _) = among-nil ((those i).1 (a.row, a.into))
  consecutive_no_gap t n (h ∷ is) those c (_, none, (i, a), (j, b)) =
      let p : Incoming H n i = (a.row, a.into) in
      let starts = first_starts n h is (λ k. (those k).0) c i ((those i).1 p) in
      let begun : (H.edge h).from ≤ t = omega (arith, ordered n i p, a.past) in
      let (k, m, f) = covered t h is c begun j ((those j).1 (b.row, b.into)) b.ahead in
      none k (into_at H t n k ((those k).0 m) f)
