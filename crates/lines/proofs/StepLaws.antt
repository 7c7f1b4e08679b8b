-- The readers that keep no numbers: what each return and each turn of a loop goes by. Assumes nothing.
use mathlib.Core.List.{List, [], ◌∷◌}
use mathlib.Core.Path.{◌≡◌, refl, sym, ap, ◌∙◌}
use Prim.Native.Nat.{ℕ, suc, min, ◌+◌, ◌-◌, ◌≤◌, ◌<◌}
use native.Mathlib.Omega.{arith}
use lib.ListN.{length, get_or, take, drop, length-drop, drop_of_length-le}
use borrow.Author.Tests.{eq-eqb, ne_eqb}
use Rattle.std.proofs.lemmas.List.{take_all}
use Rattle.ground.proofs.TestLaws.{by_lt}
use Rattle.ground.proofs.ListLaws.{drop_step}
use Rattle.lines.specs.Reads.{ended_of, got, wrong, and_then, begun, begun_at, onto}
use Rattle.lines.specs.Reads.{marked_at, then_number}
use Rattle.lines.specs.Reads.{numbers_at, on_line, line_at, lines_at}
use Rattle.lines.specs.Lines.{row_of}
use Rattle.std.specs.Prelude.{Ok, Err}
use Rattle.decimals.specs.declared.Number.{Number}
use Rattle.decimals.specs.declared.Wrong.{Wrong}
use Rattle.lines.specs.declared.form.Form.{Form}
use Rattle.lines.proofs.GotLaws.{at_got, onto_end}

-- ---- a key

begun_nil : (k xs : List ℕ) → xs ≡ [] → begun k xs ≡ 0
unfolding begun
begun_nil [] xs e = refl
begun_nil (b ∷ k) xs e = rw e

nil_begun : (k xs : List ℕ) → k ≡ [] → begun k xs ≡ 0
unfolding begun
nil_begun k xs e = rw e

-- as the code has what is left of a text after place i
pub begun_left : (k s : List ℕ) (i : ℕ) {n : ℕ} → n ≡ min i (length s)
    → begun k (take (length s - n) (drop n s)) ≡ begun_at k s i
unfolding begun_at
begun_left k s i {n} e =
    let all : take (length s - n) (drop n s) ≡ drop n s =
    take_all (length s - n) (drop n s) (omega (arith, length-drop n s)) in
    let rest : drop n s ≡ drop i s =
    by_lt i (length s)
    (λ h. ap (λ (m : ℕ). drop m s) (omega arith))
    (λ h. drop_of_length-le s (omega arith) ∙ sym (drop_of_length-le s h)) in
    ap (begun k) (all ∙ rest)

module _ (k xs : List ℕ) (j : ℕ) (c : begun k xs ≡ j + begun (drop j k) (drop j xs)) where
  pub begun_turn : j < length k → j < length xs → get_or xs j 0 ≡ get_or k j 0
      → begun k xs ≡ j + 1 + begun (drop (j + 1) k) (drop (j + 1) xs)
  unfolding begun
  begun_turn h l e =
      let r = rw (drop_step k j h, drop_step xs j l, eq-eqb (get_or xs j 0) (get_or k j 0) e) at c in omega (arith, r)

  pub begun_not : j < length k → j < length xs → (get_or xs j 0 ≡ get_or k j 0 → ⊥) → j ≡ begun k xs
  unfolding begun
  begun_not h l e =
      let r = rw (drop_step k j h, drop_step xs j l, ne_eqb (get_or xs j 0) (get_or k j 0) e) at c in omega (arith, r)

  pub begun_all : {n : ℕ} → n ≡ min (length k) (length xs) → j ≤ n → n ≤ j → n ≡ begun k xs
  begun_all e u h =
      by_lt j (length k)
      (λ l. omega (arith, c, begun_nil (drop j k) (drop j xs) (drop_of_length-le xs (omega arith))))
      (λ l. omega (arith, c, nil_begun (drop j k) (drop j xs) (drop_of_length-le k l)))

-- ---- the numbers of a line: `left` are to be read, w after the next

module _ (f : Form) (s : List ℕ) (left w i : ℕ) (more : left ≡ suc w) where
  pub numbers_wrong : {x : Wrong} → marked_at f s w i ≡ Err x → numbers_at f s left i ≡ wrong x.at
  unfolding numbers_at then_number
  numbers_wrong r = rw (more, r)

  pub numbers_step : {x : Number} → marked_at f s w i ≡ Ok x
      → numbers_at f s left i ≡ onto (x.value ∷ []) (numbers_at f s w x.after)
  unfolding numbers_at then_number
  numbers_step r = rw (more, r)

  pub check_turn : {x : Number} → marked_at f s w i ≡ Ok x
      → ended_of (numbers_at f s left i) ≡ ended_of (numbers_at f s w x.after)
  check_turn {x} r = ap ended_of (numbers_step r) ∙ onto_end (x.value ∷ []) _

pub numbers_none : (f : Form) (s : List ℕ) (left i : ℕ) → left ≤ 0 → numbers_at f s left i ≡ got [] i
unfolding numbers_at
numbers_none f s left i h = let z : left ≡ 0 = omega arith in rw z

-- ---- lines: `left` are to be checked, m after the next, from place i on

module _ (k : List ℕ) (f : Form) (s : List ℕ) (left m i : ℕ) (more : left ≡ suc m) where
  pub lines_step : {n : ℕ} → ended_of (line_at k f s i) ≡ Ok n
      → ended_of (lines_at k f s left i) ≡ ended_of (lines_at k f s m n)
  unfolding lines_at on_line and_then
  lines_step {n} e =
      let (us, r) = at_got (line_at k f s i) n e in rw (more, r) (onto_end (row_of f us) (lines_at k f s m n))

pub lines_none : (k : List ℕ) (f : Form) (s : List ℕ) (left i : ℕ) → left ≤ 0 → lines_at k f s left i ≡ got [] i
unfolding lines_at
lines_none k f s left i h = let z : left ≡ 0 = omega arith in rw z
