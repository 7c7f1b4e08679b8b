-- A key and a number of a line: what is printed is read, and what is read was printed. Assumes nothing.
use mathlib.Core.Bool.{Bool, true, false}
use mathlib.Core.List.{List, [], ◌∷◌, ◌++◌}
use mathlib.Core.Logic.{◌⊎◌, inl, inr, ⊎_elim}
use mathlib.Core.Path.{◌≡◌, refl, sym, ap, ap₂, ◌∙◌}
use Prim.Native.Nat.{ℕ, suc, max, ◌+◌, ◌-◌, ◌%◌, ◌≤◌, ◌<◌}
use native.Mathlib.Omega.{arith}
use lib.Dec.{leb, eqb}
use lib.ListN.{length, drop, length-drop}
use lib.Seq.{drop-drop}
use borrow.Author.Tests.{eqb-true, eqb-false, eq-eqb, ne_eqb, le-leb, leb-true}
use Rattle.ground.specs.Lists.{Stands}
use Rattle.ground.proofs.TestLaws.{by_test}
use Rattle.tables.specs.Tables.{Now}
use Rattle.decimals.specs.Decimals.{nought, dec}
use Rattle.decimals.specs.Reads.{nine, num_at}
use Rattle.std.specs.Prelude.{Result, Ok, Err}
use Rattle.decimals.specs.declared.Number.{Number}
use Rattle.decimals.specs.declared.Wrong.{Wrong}
use Rattle.decimals.specs.Reads.{number}
use Rattle.decimals.proofs.DecimalLaws.{by_digits, dec_small, dec_snoc}
use Rattle.decimals.proofs.ReadLaws.{number_same, num_of, num_is}
use Rattle.lines.specs.declared.form.Form.{Form}
use Rattle.lines.specs.Lines.{now_word, number_text, NumberOk}
use Rattle.lines.specs.Reads.{begun, begun_at, at_least, or_now, number_at}

-- ---- a key

begun_is : (k xs : List ℕ) → begun k xs ≡ length k → xs ≡ k ++ drop (length k) xs
unfolding begun
begun_is [] xs e = refl
begun_is (b ∷ k) [] e = absurd (omega arith)
begun_is (b ∷ k) (c ∷ xs) e =
    by_test (eqb c b)
    (λ t.
    let f = rw t at e in
    ap₂ (λ (a : ℕ) (r : List ℕ). a ∷ r) (eqb-true c b t) (begun_is k xs (omega arith)))
    (λ t. let f = rw t at e in absurd (omega arith))

begun_of : (k ys : List ℕ) → begun k (k ++ ys) ≡ length k
unfolding begun
begun_of [] ys = refl
begun_of (b ∷ k) ys = rw (eq-eqb b b refl) (ap suc (begun_of k ys))

begun_le : (k xs : List ℕ) → begun k xs ≤ length xs
unfolding begun
begun_le [] xs = omega arith
begun_le (b ∷ k) [] = omega arith
begun_le (b ∷ k) (c ∷ xs) = by_test (eqb c b) (λ t. rw t (omega (arith, begun_le k xs))) (λ t. rw t (omega arith))

-- what begins a key stands within the text, unless nothing does
pub begun_within : (k s : List ℕ) (i n : ℕ) → n ≡ begun_at k s i → i + n ≤ max i (length s)
unfolding begun_at
begun_within k s i n e = omega (arith, begun_le k (drop i s), length-drop i s)

pub has_is : (k s : List ℕ) (i : ℕ) → begun_at k s i ≡ length k → Stands s i k (i + length k)
unfolding begun_at
has_is k s i e =
    record { here = begun_is k (drop i s) e ∙ ap (λ (r : List ℕ). k ++ r) (drop-drop (length k) i s); after = refl }

pub has_of : (k s : List ℕ) (i : ℕ) (ys : List ℕ) → drop i s ≡ k ++ ys → begun_at k s i ≡ length k
unfolding begun_at
has_of k s i ys e = rw e (begun_of k ys)

-- ---- a number

num_stands : (hi : ℕ) (s : List ℕ) (i v n : ℕ) → num_at hi s i ≡ number v n → (v ≤ hi) × Stands s i (dec v) n
unfolding num_at
num_stands hi s i v n e =
    let a = num_is hi i (drop i s) v n e in (
      a.small,
      record {
        here = a.stands ∙ ap (λ (r : List ℕ). dec v ++ r)
            (drop-drop (length (dec v)) i s ∙ ap (λ (k : ℕ). drop k s) (sym a.after));
        after = a.after;
      },
    )

at_least_is : (lo i : ℕ) (r : Result Number Wrong) (v n : ℕ) → at_least lo i r ≡ number v n
    → (r ≡ number v n) × (lo ≤ v)
unfolding at_least
at_least_is lo i (Err x) v n e = let z : ◌≡◌ {A = ℕ} 0 1 = cc in absurd (omega arith)
at_least_is lo i (Ok x) v n e =
    by_test (leb lo x.value)
    (λ t.
    let f = rw t at e in
    let (q, _) = number_same {v = x.value} {n = x.after} f in (f, omega (arith, leb-true lo x.value t)))
    (λ t. let f = rw t at e in let z : ◌≡◌ {A = ℕ} 0 1 = cc in absurd (omega arith))

-- the word `now` was read, or a number
or_now_is : (i k : ℕ) (x : Result Number Wrong) (v n : ℕ) → or_now i k x ≡ number v n
    → (x ≡ number v n) ⊎ ((k ≡ length now_word) × (v ≡ Now) × (n ≡ i + length now_word))
unfolding or_now
or_now_is i k x v n e =
    by_test (eqb k 0)
    (λ t. inl (rw t at e))
    (λ t. by_test (eqb k 3)
    (λ u.
    let f = rw (t, u) at e in
    let w = eqb-true k 3 u in
    let (q, m) = number_same {v = Now} {n = i + k} f in
    inr (w, sym q, omega arith))
    (λ u. let f = rw (t, u) at e in let z : ◌≡◌ {A = ℕ} 0 1 = cc in absurd (omega arith)))

pub number_is : (f : Form) (last : Bool) (s : List ℕ) (i v n : ℕ) → number_at f last s i ≡ number v n
    → NumberOk f last v × Stands s i (number_text last v) n
unfolding number_at number_text
number_is f false s i v n e =
    let a = at_least_is f.least i (num_at f.most s i) v n e in
    let b = num_stands f.most s i v n a.0 in
    ((a.1, b.0), b.1)
number_is f true s i v n e =
    ⊎_elim
    (λ x.
    let b = num_stands (Now - 1) s i v n x in
    (omega (arith, b.0), rw (ne_eqb v Now (λ q. omega (arith, b.0))) b.1))
    (λ (k, q, m). (omega arith, rw (eq-eqb v Now q, m) (has_is now_word s i k)))
    (or_now_is i (begun_at now_word s i) _ v n e)

-- the first byte of a decimal is a digit, so that it does not begin the word `now`
dec_first : (v : ℕ) → (b : ℕ) × (r : List ℕ) × (dec v ≡ b ∷ r) × (b ≤ nine)
dec_first =
    by_digits (λ (v : ℕ). (b : ℕ) × (r : List ℕ) × (dec v ≡ b ∷ r) × (b ≤ nine))
    (λ v h. (nought + v, [], dec_small v h, omega arith))
    (λ v h ih. (
      ih.0,
      ih.1 ++ ((nought + v % 10) ∷ []),
      dec_snoc v h
          ∙ ap (λ (r : List ℕ). r ++ ((nought + v % 10) ∷ [])) ih.2,
      ih.3,
    ))

not_now : (v : ℕ) (s : List ℕ) (i : ℕ) (ys : List ℕ) → drop i s ≡ dec v ++ ys → begun_at now_word s i ≡ 0
unfolding begun_at begun
not_now v s i ys e =
    let d = dec_first v in
    rw (e ∙ ap (λ (r : List ℕ). r ++ ys) d.2, ne_eqb d.0 110 (λ q. omega (arith, d.3)))

num_at_lem : (hi : ℕ) (s : List ℕ) (i v c : ℕ) (ys : List ℕ) → v ≤ hi → c < nought → drop i s ≡ dec v ++ (c ∷ ys)
    → num_at hi s i ≡ number v (i + length (dec v))
unfolding num_at
num_at_lem hi s i v c ys h l e = rw e (num_of hi i v c ys h l)

pub number_of : (f : Form) (last : Bool) (s : List ℕ) (i v c : ℕ) (ys : List ℕ) → NumberOk f last v → c < nought
    → drop i s ≡ number_text last v ++ (c ∷ ys)
    → number_at f last s i ≡ number v (i + length (number_text last v))
unfolding number_at number_text at_least or_now
number_of f false s i v c ys ok l e = rw (num_at_lem f.most s i v c ys ok.1 l e, le-leb f.least v ok.0)
number_of f true s i v c ys ok l e =
    by_test (eqb v Now)
    (λ t. let g = rw t at e in let q = eqb-true v Now t in rw (t, has_of now_word s i (c ∷ ys) g)
    (ap (λ (u : ℕ). number u (i + 3)) (sym q)))
    (λ t.
    let g = rw t at e in
    rw (t, not_now v s i (c ∷ ys) g) (num_at_lem (Now - 1) s i v c ys (omega (arith, eqb-false v Now t)) l g))
