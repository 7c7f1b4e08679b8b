-- Reading a number. One step at a place of the text; then what was written is read (`num_of`), what is read is the
-- decimal of the number (`num_is`), the longest there is (`num_longest`), and no_number says that none stands there
-- (`num_none`). Assumes nothing.
use mathlib.Core.Bool.{true, false}
use mathlib.Core.List.{List, [], ◌∷◌, ◌++◌, append_assoc}
use mathlib.Core.Logic.{◌⊎◌}
use mathlib.Core.Path.{◌≡◌, refl, sym, ap, ◌∙◌}
use Prim.Native.Nat.{ℕ, zero, suc, ◌+◌, ◌-◌, ◌*◌, ◌/◌, ◌%◌, ◌≤◌, ◌<◌}
use native.Mathlib.Omega.{arith}
use lib.Dec.{leb, ltb, eqb}
use lib.ListN.{length, get_or, drop, drop_of_length-le, length-append}
use borrow.Author.Tests.{lt-ltb, le-ltb, le-leb, ltb-false, leb-true, eqb-true, eqb-false, ne_eqb}
use Rattle.ground.proofs.TestLaws.{by_test, by_lt}
use Rattle.ground.proofs.ListLaws.{drop_step}
use Rattle.decimals.specs.Decimals.{nought, dec}
use Rattle.decimals.specs.declared.Number.{Number}
use Rattle.decimals.specs.Reads.{number, no_number, nine, grows, more, num, num_at}
use Rattle.decimals.proofs.DecimalLaws.{by_digits, dec_small, dec_snoc, dec_more, dec_length_snoc, dec_pos}

pub record Grows (hi v c : ℕ) : Type 0 where
  pub low : nought ≤ c
  pub high : c ≤ nine
  pub small : v * 10 + (c - nought) ≤ hi

pub grows_true : (hi v c : ℕ) → grows hi v c ≡ true → Grows hi v c
unfolding grows
grows_true hi v c e =
    by_test (ltb c nought)
    (λ p. let z : ◌≡◌ {A = ℕ} 0 1 = cc (rw p at e) in absurd (omega arith))
    (λ p. by_test (ltb nine c)
    (λ q. let z : ◌≡◌ {A = ℕ} 0 1 = cc (rw (p, q) at e) in absurd (omega arith))
    (λ q. record {
      low = ltb-false c nought p;
      high = ltb-false nine c q;
      small = leb-true (v * 10 + (c - nought)) hi (rw (p, q) at e);
    }))

pub grows_is : (hi v c : ℕ) → Grows hi v c → grows hi v c ≡ true
unfolding grows
grows_is hi v c g =
    simp (le-ltb c nought g.low, le-ltb nine c g.high, le-leb (v * 10 + (c - nought)) hi g.small)

-- the test, with a digit's bounds as std has them
pub grows_digit : (hi v c : ℕ) → (48 ≤ c) × (c ≤ 57) → leb (v * 10 + (c - 48)) hi ≡ grows hi v c
unfolding grows
grows_digit hi v c (low, high) = simp (le-ltb c nought low, le-ltb nine c high)

pub grows_not : (hi v c : ℕ) → (c < 48) ⊎ (57 < c) → false ≡ grows hi v c
unfolding grows
grows_not hi v c h =
    by_lt c nought
    (λ l. simp (lt-ltb c nought l))
    (λ l. simp (le-ltb c nought l, lt-ltb nine c (omega (arith, h))))

pub number_same : {v n u m : ℕ} → number v n ≡ number u m → (v ≡ u) × (n ≡ m)
number_same {v} {n} {u} {m} e =
    let r : ◌≡◌ {A = Number} (record { value = v; after = n }) (record { value = u; after = m }) = cc in
    (ap (λ (x : Number). x.value) r, ap (λ (x : Number). x.after) r)

-- v has been read up to place i, and reading goes on from there
pub record ReadSoFar (hi first : ℕ) (s : List ℕ) (at v i : ℕ) : Type 0 where
  pub rest : more hi first at (drop at s) ≡ more hi v i (drop i s)
  pub small : v ≤ hi

module _ {hi first : ℕ} {s : List ℕ} {at v i : ℕ} (r : ReadSoFar hi first s at v i) where
  pub more_turn : i < length s → grows hi v (get_or s i 0) ≡ true
      → ReadSoFar hi first s at (v * 10 + (get_or s i 0 - nought)) (i + 1)
  unfolding more
  more_turn h g = record { rest = r.rest ∙ rw (drop_step s i h, g); small = (grows_true hi v (get_or s i 0) g).small }

  pub more_stop : i < length s → grows hi v (get_or s i 0) ≡ false → number v i ≡ more hi first at (drop at s)
  unfolding more
  more_stop h g = sym (r.rest ∙ rw (drop_step s i h, g))

  pub more_end : length s ≤ i → number v i ≡ more hi first at (drop at s)
  unfolding more
  more_end h = sym (r.rest ∙ rw (drop_of_length-le s h))

module _ (hi : ℕ) (s : List ℕ) (i : ℕ) where
  pub num_end : length s ≤ i → num_at hi s i ≡ no_number i
  unfolding num_at num
  num_end h = rw (drop_of_length-le s h)

  pub num_zero : i < length s → get_or s i 0 ≡ nought → num_at hi s i ≡ number 0 (i + 1)
  unfolding num_at num
  num_zero h e = rw (drop_step s i h, e)

  pub num_more : i < length s → (get_or s i 0 ≡ nought → ⊥) → grows hi 0 (get_or s i 0) ≡ true
      → num_at hi s i ≡ more hi (get_or s i 0 - nought) (i + 1) (drop (i + 1) s)
  unfolding num_at num
  num_more h n g = rw (drop_step s i h, ne_eqb (get_or s i 0) nought n, g)

  pub num_missing : i < length s → (get_or s i 0 ≡ nought → ⊥) → grows hi 0 (get_or s i 0) ≡ false
      → num_at hi s i ≡ no_number i
  unfolding num_at num
  num_missing h n g = rw (drop_step s i h, ne_eqb (get_or s i 0) nought n, g)

-- what an answer v, n says of the bytes xs that begin at place i
pub record NumIs (hi i : ℕ) (xs : List ℕ) (v n : ℕ) : Type 0 where
  pub small : v ≤ hi
  pub after : n ≡ i + length (dec v)
  pub stands : xs ≡ dec v ++ drop (length (dec v)) xs

-- ---- a decimal that was written is read

abbrev HeadRead : ℕ → ℕ → ℕ → Type 0
HeadRead hi i v = (ys : List ℕ) → 1 ≤ v → v ≤ hi → num hi i (dec v ++ ys) ≡ more hi v (i + length (dec v)) ys

head_one : (hi i v : ℕ) → v < 10 → HeadRead hi i v
unfolding num
head_one hi i v s ys p h =
    let e = dec_small v s in
    let n : eqb (nought + v) nought ≡ false = ne_eqb (nought + v) nought (λ q. omega arith) in
    let g : grows hi 0 (nought + v) ≡ true = grows_is hi 0 (nought + v)
    (record { low = omega arith; high = omega arith; small = omega arith }) in
    let d : nought + v - nought ≡ v = omega arith in
    rw (e, n, g, d)

head_last : (hi i v : ℕ) → 10 ≤ v → HeadRead hi i (v / 10) → HeadRead hi i v
unfolding more
head_last hi i v b ih ys p h =
    let g : grows hi (v / 10) (nought + v % 10) ≡ true = grows_is hi (v / 10) (nought + v % 10)
    (record { low = omega arith; high = omega arith; small = omega arith }) in
    let d : v / 10 * 10 + (nought + v % 10 - nought) ≡ v = omega arith in
    let k : i + length (dec (v / 10)) + 1 ≡ i + length (dec v) = omega (arith, dec_length_snoc v b) in
    ap (λ (r : List ℕ). num hi i (r ++ ys)) (dec_snoc v b)
    ∙ ap (num hi i) (append_assoc (dec (v / 10)) ((nought + v % 10) ∷ []) ys)
    ∙ ih ((nought + v % 10) ∷ ys) (omega arith) (omega arith)
    ∙ rw (g, d, k)

num_head : (hi i v : ℕ) → HeadRead hi i v
num_head hi i = by_digits (HeadRead hi i) (head_one hi i) (head_last hi i)

more_stops : (hi v i c : ℕ) (ys : List ℕ) → c < nought → more hi v i (c ∷ ys) ≡ number v i
unfolding more grows
more_stops hi v i c ys h = rw (lt-ltb c nought h)

-- the decimal of v, and then a byte below the digits: v is read
pub num_of : (hi i v c : ℕ) (ys : List ℕ) → v ≤ hi → c < nought
    → num hi i (dec v ++ (c ∷ ys)) ≡ number v (i + length (dec v))
unfolding num
num_of hi i zero c ys h l = rw (dec_small 0 (omega arith))
num_of hi i (suc v) c ys h l =
    num_head hi i (suc v) (c ∷ ys) (omega arith) h ∙ more_stops hi (suc v) (i + length (dec (suc v))) c ys l

-- ---- what is read is the decimal of the number

record MoreIs (hi v i : ℕ) (xs : List ℕ) (u n : ℕ) : Type 0 where
  k : ℕ
  small : u ≤ hi
  after : n ≡ i + k
  long : length (dec u) ≡ length (dec v) + k
  stands : dec v ++ xs ≡ dec u ++ drop k xs

more_here : (hi v i : ℕ) (xs : List ℕ) (u n : ℕ) → v ≤ hi → number v i ≡ number u n → MoreIs hi v i xs u n
more_here hi v i xs u n h e =
    let (a, b) = number_same e in
    record { k = 0; small = omega arith; after = omega arith; long = rw a (omega arith); stands = rw a }

more_is : (hi v i : ℕ) (xs : List ℕ) (u n : ℕ) → 1 ≤ v → v ≤ hi → more hi v i xs ≡ number u n → MoreIs hi v i xs u n
unfolding more
more_is hi v i [] u n p h e = more_here hi v i [] u n h e
more_is hi v i (c ∷ xs) u n p h e =
    by_test (grows hi v c)
    (λ t.
    let g = grows_true hi v c t in
    let d = dec_more v c p g.low g.high in
    let m = more_is hi (v * 10 + (c - nought)) (i + 1) xs u n (omega arith) g.small (rw t at e) in
    record {
      k = suc m.k;
      small = m.small;
      after = omega arith;
      long = omega (arith, ap length d, length-append (dec v) (c ∷ []));
      stands = sym (append_assoc (dec v) (c ∷ []) xs) ∙ ap (λ (r : List ℕ). r ++ xs) (sym d) ∙ m.stands;
    })
    (λ t. more_here hi v i (c ∷ xs) u n h (rw t at e))

num_first : (hi i c : ℕ) (xs : List ℕ) (v n : ℕ) → 1 ≤ c - nought → Grows hi 0 c
    → more hi (c - nought) (i + 1) xs ≡ number v n → NumIs hi i (c ∷ xs) v n
num_first hi i c xs v n p g e =
    let m = more_is hi (c - nought) (i + 1) xs v n p (omega arith) e in
    let one : dec (c - nought) ≡ c ∷ [] = dec_small (c - nought) (omega arith)
    ∙ ap (λ (b : ℕ). b ∷ []) (omega arith) in
    let k : length (dec v) ≡ suc m.k = omega (arith, ap length one) in
    record {
      small = m.small;
      after = omega arith;
      stands = ap (λ (r : List ℕ). r ++ xs) (sym one) ∙ m.stands ∙ rw k;
    }

num_nought : (hi i c : ℕ) (xs : List ℕ) (v n : ℕ) → c ≡ nought → number 0 (i + 1) ≡ number v n → NumIs hi i (c ∷ xs) v n
num_nought hi i c xs v n z e =
    let (a, b) = number_same e in
    let d : dec v ≡ nought ∷ [] = ap dec (sym a) ∙ dec_small 0 (omega arith) in
    record { small = omega arith; after = omega (arith, ap length d); stands = rw (d, z) }

pub num_is : (hi i : ℕ) (xs : List ℕ) (v n : ℕ) → num hi i xs ≡ number v n → NumIs hi i xs v n
unfolding num
num_is hi i [] v n e = let z : ◌≡◌ {A = ℕ} 0 1 = cc in absurd (omega arith)
num_is hi i (c ∷ xs) v n e =
    by_test (eqb c nought)
    (λ t. num_nought hi i c xs v n (eqb-true c nought t) (rw t at e))
    (λ t. by_test (grows hi 0 c)
    (λ q. let g = grows_true hi 0 c q in num_first hi i c xs v n (omega (arith, eqb-false c nought t)) g
    (rw (t, q) at e))
    (λ q. let f = rw (t, q) at e in let z : ◌≡◌ {A = ℕ} 0 1 = cc in absurd (omega arith)))

-- ---- the answer is the longest decimal of a number at most hi that begins the bytes; no_number says that none does

more_some : (hi v i : ℕ) (xs : List ℕ) → (u : ℕ) × (n : ℕ) × (more hi v i xs ≡ number u n)
unfolding more
more_some hi v i [] = (v, i, refl)
more_some hi v i (c ∷ xs) =
    let r = more_some hi (v * 10 + (c - nought)) (i + 1) xs in
    by_test (grows hi v c) (λ t. (r.0, r.1, rw t r.2)) (λ t. (v, i, rw t))

pub num_longest : (hi i : ℕ) (xs : List ℕ) (v n : ℕ) → num hi i xs ≡ number v n → (u : ℕ) (ys : List ℕ) → u ≤ hi
    → xs ≡ dec u ++ ys → length (dec u) ≤ length (dec v)
num_longest hi i xs v n e zero ys h q = omega (arith, ap length (dec_small 0 (omega arith)), dec_pos v)
num_longest hi i xs v n e (suc u) ys h q =
    let m = more_is hi (suc u) (i + length (dec (suc u))) ys v n (omega arith) h
    (sym (num_head hi i (suc u) ys (omega arith) h) ∙ ap (num hi i) (sym q) ∙ e) in
    omega (arith, m.long)

pub num_none : (hi i : ℕ) (xs : List ℕ) (p : ℕ) → num hi i xs ≡ no_number p → (u : ℕ) (ys : List ℕ) → u ≤ hi
    → xs ≡ dec u ++ ys → ⊥
unfolding num
num_none hi i xs p e zero ys h q =
    let z₁ : num hi i (nought ∷ ys) ≡ no_number p = ap (num hi i)
    (sym (q ∙ ap (λ (r : List ℕ). r ++ ys) (dec_small 0 (omega arith)))) ∙ e in
    let z : ◌≡◌ {A = ℕ} 0 1 = cc in omega arith
num_none hi i xs p e (suc u) ys h q =
    let m = more_some hi (suc u) (i + length (dec (suc u))) ys in
    let z₁ : number m.0 m.1 ≡ no_number p = sym m.2 ∙ sym (num_head hi i (suc u) ys (omega arith) h)
    ∙ ap (num hi i) (sym q) ∙ e in
    let z : ◌≡◌ {A = ℕ} 0 1 = cc in omega arith
