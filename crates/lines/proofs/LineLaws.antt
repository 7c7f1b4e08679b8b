-- The numbers of a line, a line, and lines: what is printed is read, and what is read was printed. Assumes nothing.
use mathlib.Core.List.{List, [], ◌∷◌, ◌++◌, append_assoc}
use mathlib.Core.Path.{◌≡◌, refl, sym, ap, ap₂, ◌∙◌}
use Prim.Native.Nat.{ℕ, zero, suc, ◌+◌, ◌*◌, ◌≤◌, ◌<◌}
use native.Mathlib.Omega.{arith}
use native.Mathlib.Nat.{zero-mul, suc-mul}
use lib.ListN.{length, get_or, drop, take, replicate, length-append, length-drop, length-replicate, take-append-drop}
use lib.Seq.{take-add, take_at, drop_at}
use borrow.Author.Tests.{eqb-true, eq-eqb}
use Rattle.ground.specs.Lists.{Stands, joined}
use Rattle.ground.proofs.ListLaws.{stands_nil, stands_append, stands_one, head_at, rest_at}
use Rattle.decimals.specs.Decimals.{nought}
use Rattle.lines.specs.declared.form.Form.{Form}
use Rattle.lines.specs.Lines.{width_of, is_end_of, mark, number_text, numbers_text, line_text, lines_of, lines_text, row_of}
use Rattle.lines.specs.Lines.{NumberOk, NumbersOk, RowOk, LinesOk}
use Rattle.lines.specs.Reads.{got, and_then, begun_at, has_at, on_line, onto, marked, marked_at, then_number}
use Rattle.lines.specs.Reads.{numbers_at, line_at, lines_at}
use Rattle.lines.specs.Reads.{number_at}
use Rattle.lines.proofs.GotLaws.{got_then, got_line, got_onto, got_number, got_marked, got_cond}
use Rattle.lines.proofs.NumberLaws.{has_is, has_of, number_is, number_of}

-- ---- the numbers of a line

pub mark_pos : (w : ℕ) → 1 ≤ mark w
mark_pos zero = omega arith
mark_pos (suc w) = omega arith

mark_low : (w : ℕ) → mark w < nought
mark_low zero = omega arith
mark_low (suc w) = omega arith

pub record NumbersIs (f : Form) (s : List ℕ) (w i : ℕ) (vs : List ℕ) (n : ℕ) : Type 0 where
  pub ok : NumbersOk f w vs
  pub long : length vs ≡ w
  pub stands : Stands s i (numbers_text f w vs) n

numbers_cons : (f : Form) (s : List ℕ) (w i u m : ℕ) (ws : List ℕ) (n : ℕ) → NumberOk f (is_end_of f w) u
    → Stands s i (number_text (is_end_of f w) u) m
    → get_or s m 0 ≡ mark w → NumbersIs f s w (m + 1) ws n → NumbersIs f s (suc w) i (u ∷ ws) n
unfolding numbers_text
numbers_cons f s w i u m ws n ok st b r =
    record {
      ok = (ok, r.ok);
      long = ap suc r.long;
      stands = stands_append st (stands_append (stands_one s m (mark w) b (mark_pos w)) r.stands);
    }

pub numbers_is : (f : Form) (s : List ℕ) (w i : ℕ) (vs : List ℕ) (n : ℕ) → numbers_at f s w i ≡ got vs n
    → NumbersIs f s w i vs n
unfolding numbers_at numbers_text
numbers_is f s zero i vs n e =
    let a : [] ≡ vs = cc in
    let b : i ≡ n = cc in
    rw (← a, ← b) (record { ok = tt; long = refl; stands = stands_nil s i })
numbers_is f s (suc w) i vs n e =
    let (u, after, r, e₁) = got_number (marked_at f s w i) _ vs n e in
    let (m, r₁, b, a) = got_marked w s (number_at f (is_end_of f w) s i) u after r in
    let (ws, e₂, q) = got_onto (u ∷ []) (numbers_at f s w after) vs n e₁ in
    let (ok, st) = number_is f (is_end_of f w) s i u m r₁ in
    rw q (numbers_cons f s w i u m ws n ok st b (numbers_is f s w (m + 1) ws n (ap (numbers_at f s w) a ∙ e₂)))

pub numbers_of_lem : (f : Form) (s : List ℕ) (w i : ℕ) (vs ys : List ℕ) → NumbersOk f w vs
    → drop i s ≡ numbers_text f w vs ++ ys
    → numbers_at f s w i ≡ got (take w vs) (i + length (numbers_text f w vs))
unfolding numbers_at numbers_text then_number marked onto
numbers_of_lem f s zero i vs ys ok e = ap (got []) (omega arith)
numbers_of_lem f s (suc w) i [] ys ok e = absurd ok
numbers_of_lem f s (suc w) i (v ∷ vs) ys ok e =
    let x = number_text (is_end_of f w) v in
    let t = numbers_text f w vs in
    let n : ℕ = i + length x in
    let e₁ : drop i s ≡ x ++ (mark w ∷ (t ++ ys)) = e ∙ append_assoc x (mark w ∷ t) ys in
    let e₂ : drop n s ≡ mark w ∷ (t ++ ys) = rest_at s i x (mark w ∷ (t ++ ys)) e₁ in
    let r = number_of f (is_end_of f w) s i v (mark w) (t ++ ys) ok.0 (mark_low w) e₁ in
    let b = eq-eqb (get_or s n 0) (mark w) (head_at s n (mark w) (t ++ ys) e₂) in
    let ih = numbers_of_lem f s w (n + 1) vs ys ok.1 (rest_at s n (mark w ∷ []) (t ++ ys) e₂) in
    rw (r, b, ih) (ap (got (v ∷ take w vs)) (omega (arith, length-append x (mark w ∷ t))))

-- only the first w numbers count
text_front : (f : Form) (w : ℕ) (us vs : List ℕ) → length us ≡ w → numbers_text f w (us ++ vs) ≡ numbers_text f w us
unfolding numbers_text
text_front f zero us vs e = refl
text_front f (suc w) [] vs e = absurd (omega arith)
text_front f (suc w) (u ∷ us) vs e =
    ap (λ (r : List ℕ). number_text (is_end_of f w) u ++ (mark w ∷ r)) (text_front f w us vs (omega arith))

ok_front : (f : Form) (w : ℕ) (us vs : List ℕ) → NumbersOk f w us → NumbersOk f w (us ++ vs)
ok_front f zero us vs ok = tt
ok_front f (suc w) [] vs ok = absurd ok
ok_front f (suc w) (u ∷ us) vs ok = (ok.0, ok_front f w us vs ok.1)

-- ---- a line

pub record LineIs (k : List ℕ) (f : Form) (s : List ℕ) (i : ℕ) (vs : List ℕ) (n : ℕ) : Type 0 where
  pub ok : NumbersOk f f.columns vs
  pub long : length vs ≡ f.columns
  pub stands : Stands s i (line_text k f vs) n

pub line_is : (k : List ℕ) (f : Form) (s : List ℕ) (i : ℕ) (vs : List ℕ) (n : ℕ) → line_at k f s i ≡ got vs n
    → LineIs k f s i vs n
unfolding line_at
line_is k f s i vs n e =
    let (h, e₁) = got_cond (has_at k s i) _ _ vs n e in
    let a = numbers_is f s f.columns (i + length k) vs n e₁ in
    let key = has_is k s i (eqb-true (begun_at k s i) (length k) h) in
    record { ok = a.ok; long = a.long; stands = stands_append key a.stands }

pub line_of : (k : List ℕ) (f : Form) (s : List ℕ) (i : ℕ) (vs ys : List ℕ) → NumbersOk f f.columns vs
    → drop i s ≡ line_text k f vs ++ ys
    → line_at k f s i ≡ got (take f.columns vs) (i + length (line_text k f vs))
unfolding line_at
line_of k f s i vs ys ok e =
    let t = numbers_text f f.columns vs in
    let e₁ : drop i s ≡ k ++ (t ++ ys) = e ∙ append_assoc k t ys in
    let r = numbers_of_lem f s f.columns (i + length k) vs ys ok (rest_at s i k (t ++ ys) e₁) in
    let h = eq-eqb (begun_at k s i) (length k) (has_of k s i (t ++ ys) e₁) in
    rw h (r ∙ ap (got (take f.columns vs)) (omega (arith, length-append k t)))

-- ---- lines

-- a row says what its line says, and no more
row_whole : (f : Form) (vs : List ℕ) → RowOk f vs → row_of f (take f.columns vs) ≡ take (width_of f) vs
row_whole f vs ok =
    ap (λ (r : List ℕ). take f.columns vs ++ r) (sym ok.hidden) ∙ sym (take-add f.columns f.hidden vs)

-- the row of a line's numbers us, in front of vs
module _ (k : List ℕ) (f : Form) (us : List ℕ) (long : length us ≡ f.columns) where
  abbrev zeros : List ℕ
  zeros = replicate f.hidden 0

  row_length : length (row_of f us) ≡ width_of f
  row_length = omega (arith, length-append us zeros, length-replicate {A = ℕ} f.hidden 0)

  row_ok : (vs : List ℕ) → NumbersOk f f.columns us → RowOk f (row_of f us ++ vs)
  row_ok vs a =
      rw (append_assoc us zeros vs) (record {
        shown = ok_front f f.columns us (zeros ++ vs) a;
        hidden = rw (drop_at us (zeros ++ vs) f.columns long)
            (take_at zeros vs f.hidden (length-replicate {A = ℕ} f.hidden 0));
      })

  pub ok_cons : (m : ℕ) (vs : List ℕ) → NumbersOk f f.columns us → LinesOk f m vs
      → LinesOk f (suc m) (row_of f us ++ vs)
  ok_cons m vs a b = (row_ok vs a, rw (drop_at (row_of f us) vs (width_of f) row_length) b)

  pub long_cons : (m : ℕ) (vs : List ℕ) → length vs ≡ m * width_of f → length (row_of f us ++ vs) ≡ suc m * width_of f
  long_cons m vs e = omega (arith, row_length, length-append (row_of f us) vs, suc-mul m (width_of f))

  pub lines_cons : (m : ℕ) (vs : List ℕ)
      → lines_of k f (suc m) (row_of f us ++ vs) ≡ line_text k f us ∷ lines_of k f m vs
  unfolding lines_of
  lines_cons m vs =
      rw (
        drop_at (row_of f us) vs (width_of f) row_length,
        append_assoc us zeros vs,
        text_front f f.columns us (zeros ++ vs) long,
      )

pub record LinesIs (k : List ℕ) (f : Form) (s : List ℕ) (m i : ℕ) (vs : List ℕ) (n : ℕ) : Type 0 where
  pub ok : LinesOk f m vs
  pub long : length vs ≡ m * width_of f
  pub stands : Stands s i (lines_text k f m vs) n

lines_is_cons : (k : List ℕ) (f : Form) (s : List ℕ) (m i j n : ℕ) (us ws : List ℕ) → LineIs k f s i us j
    → LinesIs k f s m j ws n
    → LinesIs k f s (suc m) i (row_of f us ++ ws) n
unfolding joined
lines_is_cons k f s m i j n us ws a b =
    record {
      ok = ok_cons k f us a.long m ws a.ok b.ok;
      long = long_cons k f us a.long m ws b.long;
      stands = rw (lines_cons k f us a.long m ws) (stands_append a.stands b.stands);
    }

pub lines_is : (k : List ℕ) (f : Form) (s : List ℕ) (m i : ℕ) (vs : List ℕ) (n : ℕ) → lines_at k f s m i ≡ got vs n
    → LinesIs k f s m i vs n
unfolding lines_at lines_of joined
lines_is k f s zero i vs n e =
    let a : [] ≡ vs = cc in
    let b : i ≡ n = cc in
    rw (← a, ← b) (record { ok = tt; long = sym (zero-mul (width_of f)); stands = stands_nil s i })
lines_is k f s (suc m) i vs n e =
    let (us, j, e₁, e₂) = got_then _ (on_line i (line_at k f s i)) vs n e in
    let (ws, e₃, q) = got_onto (row_of f us) (lines_at k f s m j) vs n e₂ in
    let line = line_is k f s i us j (got_line i (line_at k f s i) us j e₁) in
    rw q (lines_is_cons k f s m i j n us ws line (lines_is k f s m j ws n e₃))

no_numbers : (vs : List ℕ) → length vs ≡ 0 → vs ≡ []
no_numbers [] e = refl
no_numbers (v ∷ vs) e = absurd (omega arith)

pub lines_of_lem : (k : List ℕ) (f : Form) (s : List ℕ) (m i : ℕ) (vs ys : List ℕ) → LinesOk f m vs
    → length vs ≡ m * width_of f
    → drop i s ≡ lines_text k f m vs ++ ys → lines_at k f s m i ≡ got vs (i + length (lines_text k f m vs))
unfolding lines_at lines_of joined and_then on_line onto
lines_of_lem k f s zero i vs ys ok l e = ap₂ got (sym (no_numbers vs (l ∙ zero-mul (width_of f)))) (omega arith)
lines_of_lem k f s (suc m) i vs ys ok l e =
    let w = width_of f in
    let x = line_text k f vs in
    let r = lines_text k f m (drop w vs) in
    let e₁ : drop i s ≡ x ++ (r ++ ys) = e ∙ append_assoc x r ys in
    let ih = lines_of_lem k f s m (i + length x) (drop w vs) ys ok.1 (omega (arith, length-drop w vs, suc-mul m w))
    (rest_at s i x (r ++ ys) e₁) in
    rw (line_of k f s i vs (r ++ ys) ok.0.shown e₁, ih, row_whole f vs ok.0)
    (ap₂ got (take-append-drop w vs) (omega (arith, length-append x r)))
