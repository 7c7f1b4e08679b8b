-- The place at which reading ends, said by the text of lines alone: as far as lines stand that are right, reading
-- goes (`lines_past`), and where it is refused, such lines stand (`lines_before`). Assumes nothing.
use mathlib.Core.Bool.{Bool, true, false}
use mathlib.Core.List.{List, [], ◌++◌, append_assoc}
use mathlib.Core.Path.{◌≡◌, refl, sym, ap, subst, ◌∙◌}
use Prim.Native.Nat.{ℕ, zero, suc, ◌+◌, ◌*◌, ◌≤◌}
use native.Mathlib.Nat.{zero-mul}
use native.Mathlib.Omega.{arith}
use lib.ListN.{length, take, drop, replicate, length-replicate, length-append}
use lib.Seq.{take-nil}
use Rattle.ground.specs.Lists.{Stands, joined}
use Rattle.ground.proofs.ListLaws.{stands_nil, stands_append, rest_at}
use Rattle.tables.specs.Tables.{Now}
use Rattle.lines.specs.declared.form.Form.{Form}
use Rattle.lines.specs.Lines.{width_of, is_end_of, line_text, lines_of, row_of, NumberOk, NumbersOk, LinesOk}
use Rattle.lines.specs.Reads.{got, wrong, onto, on_line, line_at, lines_at, place_of}
use Rattle.lines.proofs.GotLaws.{by_got, got_not_wrong, wrong_place, then_got, then_wrong, line_got, line_wrong}
use Rattle.lines.proofs.GotLaws.{wrong_onto, onto_place}
use Rattle.lines.proofs.LineLaws.{LineIs, line_is, line_of, ok_cons, long_cons, lines_cons}

-- ---- as far as right lines stand, reading goes

module _ (k : List ℕ) (f : Form) (s : List ℕ) where
  after_line : (m i : ℕ) (us : List ℕ) (n : ℕ) → line_at k f s i ≡ got us n
      → lines_at k f s (suc m) i ≡ onto (row_of f us) (lines_at k f s m n)
  unfolding lines_at
  after_line m i us n e = then_got _ (on_line i (line_at k f s i)) (line_got i (line_at k f s i) e)

  at_line : (m i p : ℕ) → line_at k f s i ≡ wrong p → lines_at k f s (suc m) i ≡ wrong i
  unfolding lines_at
  at_line m i p e = then_wrong _ (on_line i (line_at k f s i)) (line_wrong i (line_at k f s i) e)

  pub lines_mono : (m i : ℕ) → i ≤ place_of (lines_at k f s m i)
  unfolding lines_at place_of
  lines_mono zero i = omega arith
  lines_mono (suc m) i =
      by_got (line_at k f s i)
      (λ us n e. omega (
        arith,
        (line_is k f s i us n e).stands.after,
        lines_mono m n,
        ap place_of
            (after_line m i us n e) ∙ onto_place (row_of f us) (lines_at k f s m n),
      ))
      (λ p e. omega (arith, ap place_of (at_line m i p e)))

  pub lines_past : (m i : ℕ) (vs : List ℕ) (j n : ℕ) → LinesOk f m vs
      → Stands s i (joined (take j (lines_of k f m vs))) n → n ≤ place_of (lines_at k f s m i)
  unfolding lines_at lines_of joined
  lines_past zero i vs j n ok st = let t = rw (take-nil j) at st in omega (arith, t.after, lines_mono 0 i)
  lines_past (suc m) i vs zero n ok st = omega (arith, st.after, lines_mono (suc m) i)
  lines_past (suc m) i vs (suc j) n ok st =
      let x = line_text k f vs in
      let r = joined (take j (lines_of k f m (drop (width_of f) vs))) in
      let here : drop i s ≡ x ++ (r ++ drop n s) = st.here ∙ append_assoc x r (drop n s) in
      let e = line_of k f s i vs (r ++ drop n s) ok.0.shown here in
      let rest : Stands s (i + length x) r n =
      record { here = rest_at s i x (r ++ drop n s) here; after = omega (arith, st.after, length-append x r) } in
      let ih = lines_past m (i + length x) (drop (width_of f) vs) j n ok.1 rest in
      omega (
        arith,
        ih,
        ap place_of (after_line m i _ (i + length x) e)
            ∙ onto_place _ (lines_at k f s m (i + length x)),
      )

-- ---- where lines are refused, right lines stand up to there

-- some number is within the form's bounds
pub record FormOk (f : Form) : Type 0 where
  pub bounds : f.least ≤ f.most
  pub small : f.least ≤ Now

number_least : (f : Form) (b : Bool) → FormOk f → NumberOk f b f.least
number_least f false o = (omega arith, o.bounds)
number_least f true o = o.small

numbers_least : (f : Form) (w : ℕ) → FormOk f → NumbersOk f w (replicate w f.least)
numbers_least f zero o = tt
numbers_least f (suc w) o = (number_least f (is_end_of f w) o, numbers_least f w o)

-- numbers for m lines
least : Form → ℕ → List ℕ
least f zero = []
least f (suc m) = row_of f (replicate f.columns f.least) ++ least f m

-- m lines with the key of which the first j stand from place i up to place q
pub record FirstStand (k : List ℕ) (f : Form) (s : List ℕ) (m i q : ℕ) : Type 0 where
  pub numbers : List ℕ
  pub count : ℕ
  pub ok : LinesOk f m numbers
  pub long : length numbers ≡ m * width_of f
  pub fewer : count ≤ m
  pub stands : Stands s i (joined (take count (lines_of k f m numbers))) q

module _ (k : List ℕ) (f : Form) (s : List ℕ) (o : FormOk f) where
  pub none_before : (m i : ℕ) → FirstStand k f s m i i
  unfolding least joined
  none_before m i =
      record {
        numbers = least f m;
        count = 0;
        ok = ok m;
        long = long m;
        fewer = omega arith;
        stands = stands_nil s i;
      }
    where
      wide : length (replicate f.columns f.least) ≡ f.columns
      wide = length-replicate f.columns f.least

      ok : (m : ℕ) → LinesOk f m (least f m)
      ok zero = tt
      ok (suc m) = ok_cons k f (replicate f.columns f.least) wide m (least f m) (numbers_least f f.columns o)
          (ok m)

      long : (m : ℕ) → length (least f m) ≡ m * width_of f
      long zero = sym (zero-mul (width_of f))
      long (suc m) = long_cons k f (replicate f.columns f.least) wide m (least f m) (long m)

  one_before : (m i j q : ℕ) (us : List ℕ) → LineIs k f s i us j → FirstStand k f s m j q → FirstStand k f s (suc m) i q
  unfolding joined
  one_before m i j q us a b =
      record {
        numbers = row_of f us ++ b.numbers;
        count = suc b.count;
        ok = ok_cons k f us a.long m b.numbers a.ok b.ok;
        long = long_cons k f us a.long m b.numbers b.long;
        fewer = omega (arith, b.fewer);
        stands = rw (lines_cons k f us a.long m b.numbers) (stands_append a.stands b.stands);
      }

  pub lines_before : (m i q : ℕ) → lines_at k f s m i ≡ wrong q → FirstStand k f s m i q
  unfolding lines_at
  lines_before zero i q e = got_not_wrong _ refl e
  lines_before (suc m) i q e =
      by_got (line_at k f s i)
      (λ us j g.
      one_before m i j q us (line_is k f s i us j g)
      (lines_before m j q (wrong_onto (row_of f us) (lines_at k f s m j) q (sym (after_line k f s m i us j g) ∙ e))))
      (λ p g.
      let c : i ≡ q = sym (wrong_place _ (at_line k f s m i p g)) ∙ wrong_place (lines_at k f s (suc m) i) e in
      subst (FirstStand k f s (suc m) i) c (none_before (suc m) i))
