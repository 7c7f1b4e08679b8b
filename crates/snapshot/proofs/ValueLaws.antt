-- Laws of the number of the smallest row that passes, and of the lists that hold it for each node. Assumes nothing.
use mathlib.Core.Path.{◌≡◌, refl, sym, ap, ◌∙◌}
use mathlib.Core.Logic.Iff
use mathlib.Core.Logic.{◌≢◌, ◌⊎◌, inl, inr, ⊎_elim}
use mathlib.Core.Bool.{Bool, true, false, and-false}
use mathlib.Core.List.{List}
use Prim.Native.Nat.{ℕ, ◌+◌, ◌<◌}
use native.Mathlib.Decide.{ℕ_discrete, dec_lt}
use native.Mathlib.Omega.{arith}
use lib.Dec.{eqb}
use lib.ListN.{length, get_or, set, length-set}
use lib.Seq.{get_or-set_same, get_or-set_other}
use borrow.Author.Tests.{lt-ltb, le-ltb, eq-eqb, ne_eqb}
use Rattle.ground.specs.Least.{Before, Least}
use Rattle.ground.specs.Searches.{Passes, least}
use Rattle.ground.proofs.TestLaws.{by_test}
use Rattle.ground.proofs.LeastLaws.{least_none, least_tells, search_none, search_more, search_found, search_missed}
use Rattle.tables.specs.Tables.{no_node, RefRow}
use Rattle.tables.specs.Labels.{during}
use Rattle.history.specs.Computed.{refers_from}
use Rattle.snapshot.specs.Says.{value_at, referent_at}
use Rattle.snapshot.specs.Lists.{Lists, Blank, put_first_of}

module _ (p : ℕ → Bool) (v : ℕ → ℕ) where
  value_found : {m j : ℕ} → j < m → Before (Passes p) j → p j ≡ true → value_at p v m ≡ v j
  unfolding value_at
  value_found {m} {j} h b e = let q : j ≡ least p m = search_found p h b e in rw (← q, lt-ltb j m h)

  value_none : {m : ℕ} → Before (Passes p) m → value_at p v m ≡ no_node
  unfolding value_at
  value_none {m} b = let q : m ≡ least p m = search_missed p (omega arith) b in rw (le-ltb (least p m) m (omega arith))

  -- the smallest row that passes, or that none does
  value_cases : (m : ℕ) → ((j : ℕ) × (j < m) × Before (Passes p) j × (p j ≡ true)) ⊎ Before (Passes p) m
  value_cases m = go (least_tells p (Passes p) m (λ i h. Iff.rfl)) (dec_lt (least p m) m)
    where
      go : Least (Passes p) m (least p m) → Dec (least p m < m)
          → ((j : ℕ) × (j < m) × Before (Passes p) j × (p j ≡ true)) ⊎ Before (Passes p) m
      go l (yes h) = inl (least p m, h, l.before, l.here h)
      go l (no h) = inr (least_none (Passes p) l (omega arith))

  value_skip : (i : ℕ) → p i ≡ false → value_at p v (i + 1) ≡ value_at p v i
  value_skip i e =
      ⊎_elim (λ (j, h, b, f). value_found (omega arith) b f ∙ sym (value_found h b f))
      (λ b. value_none (search_more p i b e) ∙ sym (value_none b))
      (value_cases i)

-- a number is stored only where no_node stands
put_new : (l : List ℕ) (a v : ℕ) → get_or l a 0 ≡ no_node → put_first_of l a v ≡ set l a v
unfolding put_first_of
put_new l a v e = rw (eq-eqb (get_or l a 0) no_node e)

put_kept : (l : List ℕ) (a v : ℕ) → get_or l a 0 ≢ no_node → put_first_of l a v ≡ l
unfolding put_first_of
put_kept l a v d = rw (ne_eqb (get_or l a 0) no_node d)

put_other : (l : List ℕ) (a v n : ℕ) → n ≢ a → get_or (put_first_of l a v) n 0 ≡ get_or l n 0
unfolding put_first_of
put_other l a v n d = by_test (eqb (get_or l a 0) no_node) (λ e. rw (e, get_or-set_other l a n v 0 d)) (λ e. rw e)

put_length : (l : List ℕ) (a v : ℕ) → length (put_first_of l a v) ≡ length l
unfolding put_first_of
put_length l a v = by_test (eqb (get_or l a 0) no_node) (λ e. rw (e, length-set)) (λ e. rw e)

-- a list of referents by reference rows: before the first row, after a row that is not in force, after one that is
module _ (row : ℕ → RefRow) (t : ℕ) where
  abbrev passes : ℕ → ℕ → Bool
  passes = refers_from row t

  abbrev place : ℕ → ℕ
  place i = (row i).attribute

  abbrev value : ℕ → ℕ
  value i = (row i).target

  abbrev force : ℕ → Bool
  force i = during (row i).from (row i).to t

  abbrev Listed : ℕ → List ℕ → Type 0
  Listed i = Lists (referent_at i row t)

  pub list_start : (l : List ℕ) → Blank l → Listed 0 l
  list_start l b n h = b n h ∙ sym (value_none (passes n) value (search_none (passes n)))

  pub list_skip : (i : ℕ) (l l' : List ℕ) → l' ≡ l → force i ≡ false → Listed i l → Listed (i + 1) l'
  list_skip i l l' q f a n h =
      ap (λ r. get_or r n 0) q ∙ a n (omega (arith, ap length q))
      ∙ sym (value_skip (passes n) value i (rw f (and-false (eqb (place i) n))))

  module _ (i : ℕ) (l : List ℕ) (f : force i ≡ true) (known : (j : ℕ) → j < i → value j < no_node)
      (a : Listed i l) where
    put_here : place i < length l
        → get_or (put_first_of l (place i) (value i)) (place i) 0 ≡ referent_at (i + 1) row t (place i)
    put_here h =
        ⊎_elim
        (λ (j, g, b, e).
        let q : get_or l (place i) 0 ≡ value j = a (place i) h ∙ value_found (passes (place i)) value g b e in
        ap (λ r. get_or r (place i) 0) (put_kept l (place i) (value i) (omega (arith, known j g)))
        ∙ q ∙ sym (value_found (passes (place i)) value (omega arith) b e))
        (λ b.
        ap (λ r. get_or r (place i) 0)
        (put_new l (place i) (value i) (a (place i) h ∙ value_none (passes (place i)) value b))
        ∙ get_or-set_same l (place i) (value i) 0 h
        ∙ sym (value_found (passes (place i)) value (omega arith) b (rw (eq-eqb (place i) (place i) refl) f)))
        (value_cases (passes (place i)) value i)

    put_at : place i < length l → (n : ℕ) → n < length l
        → get_or (put_first_of l (place i) (value i)) n 0 ≡ referent_at (i + 1) row t n
    put_at h n g = go (ℕ_discrete n (place i))
      where
        go : Dec (n ≡ place i) → get_or (put_first_of l (place i) (value i)) n 0 ≡ referent_at (i + 1) row t n
        go (yes e) = rw e (put_here h)
        go (no d) =
            put_other l (place i) (value i) n d ∙ a n g
            ∙ sym (value_skip (passes n) value i (rw (ne_eqb (place i) n (λ x. d (sym x)))))

    pub list_put : (l' : List ℕ) → l' ≡ put_first_of l (place i) (value i) → place i < length l
        → (length l' ≡ length l) × Listed (i + 1) l'
    list_put l' q h =
        let k : length l' ≡ length l = ap length q ∙ put_length l (place i) (value i) in
        (k, λ n g. ap (λ r. get_or r n 0) q ∙ put_at h n (omega arith))
