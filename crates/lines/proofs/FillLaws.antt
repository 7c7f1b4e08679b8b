-- The reader that keeps the numbers of lines which were found right: a turn of its loops. Assumes nothing.
use mathlib.Core.Bool.{true}
use mathlib.Core.List.{List, [], ◌∷◌, ◌++◌, append-nil}
use mathlib.Core.Path.{◌≡◌, sym, ap, ap₂, ◌∙◌}
use Prim.Native.Nat.{ℕ, suc, max, ◌+◌, ◌-◌, ◌*◌, ◌≤◌, ◌<◌}
use native.Mathlib.Nat.{suc-mul}
use native.Mathlib.Omega.{arith}
use Rattle.std.specs.Prelude.{Ok, Err}
use Rattle.std.proofs.Math.Nat.{add-mul}
use lib.ListN.{length, set}
use lib.Seq.{sets}
use borrow.Author.Tests.{eqb-true}
use Rattle.ground.proofs.ListLaws.{sets_append}
use Rattle.decimals.specs.declared.Number.{Number}
use Rattle.decimals.specs.declared.Wrong.{Wrong}
use Rattle.lines.specs.declared.form.Form.{Form}
use Rattle.lines.specs.Lines.{width_of, row_of}
use Rattle.lines.specs.Reads.{Got, got, begun_at, has_at, marked_at, numbers_at, on_line, line_at, lines_at, is_got}
use Rattle.lines.specs.Reads.{place_of, numbers_of}
use Rattle.lines.specs.Fills.{Fillable, FillableLines, Filled}
use Rattle.lines.proofs.GotLaws.{got_not_wrong, got_place, got_is, got_of_lem, is_got_lem, got_then, got_line, got_onto}
use Rattle.lines.proofs.GotLaws.{got_cond, onto_is, onto_place, onto_numbers}
use Rattle.lines.proofs.NumberLaws.{begun_within}
use Rattle.lines.proofs.LineLaws.{numbers_is}
use Rattle.lines.proofs.StepLaws.{numbers_wrong, numbers_step, numbers_none, lines_none}

-- ---- the numbers of a line: j of them have been read, up to place i, and put into out from index base on. That makes
-- of out what was to be made of out₀

module _ (f : Form) (s : List ℕ) (from : ℕ) (out₀ : List ℕ) (base : ℕ) where
  abbrev all : Got (List ℕ)
  all = numbers_at f s f.columns from

  abbrev left : ℕ → ℕ → Got (List ℕ)
  left j i = numbers_at f s (f.columns - j) i

  pub record Filling (j i : ℕ) (out : List ℕ) : Type 0 where
    pub place : place_of all ≡ place_of (left j i)
    pub held : sets out₀ base (numbers_of all) ≡ sets out (base + j) (numbers_of (left j i))
    pub good : is_got (left j i) ≡ true

module _ {f : Form} {s : List ℕ} {from : ℕ} {out₀ : List ℕ} {base j i : ℕ} {out : List ℕ}
    (h : Filling f s from out₀ base j i out) where
  module _ (some : j < f.columns) where
    abbrev last : ℕ
    last = f.columns - 1 - j

    abbrev more : f.columns - j ≡ suc last
    more = omega arith

    -- none is missing, and each has its mark
    pub fill_right : {x : Wrong} → marked_at f s last i ≡ Err x → ⊥
    fill_right r =
        got_not_wrong _ (is_got_lem [] _ h.good) (numbers_wrong f s (f.columns - j) last i more r)

    pub fill_turn : {x : Number} → marked_at f s last i ≡ Ok x
        → Filling f s from out₀ base (j + 1) x.after (set out (base + j) x.value)
    fill_turn {x} r =
        let y = numbers_at f s last x.after in
        let q = numbers_step f s (f.columns - j) last i more r in
        let g = sym (onto_is (x.value ∷ []) y) ∙ ap is_got (sym q) ∙ h.good in
        let a : f.columns - (j + 1) ≡ last = omega arith in
        let b : base + (j + 1) ≡ suc (base + j) = omega arith in
        record {
          place = rw a (h.place ∙ ap place_of q ∙ onto_place (x.value ∷ []) y);
          held = rw (a, b)
              (h.held ∙ ap (sets out (base + j)) (ap numbers_of q ∙ onto_numbers (x.value ∷ []) y g));
          good = rw a g;
        }

  pub fill_done : f.columns ≤ j → Filled (numbers_at f s f.columns from) out₀ base out i
  fill_done z =
      let e = numbers_none f s (f.columns - j) i (omega arith) in
      record {
        held = sym (h.held ∙ ap (sets out (base + j)) (got_of_lem [] _ e));
        after = sym (h.place ∙ got_place _ e);
      }

-- ---- lines

-- the numbers of the line that begins at place i
abbrev pub of_line : List ℕ → Form → List ℕ → ℕ → Got (List ℕ)
of_line k f s i = numbers_at f s f.columns (i + length k)

-- the line that begins at place i, and those after it
record LineTurn (k : List ℕ) (f : Form) (s : List ℕ) (left m i : ℕ) : Type 0 where
  key : length k ≡ begun_at k s i
  good_line : is_got (of_line k f s i) ≡ true
  long : length (numbers_of (of_line k f s i)) ≡ f.columns
  good : is_got (lines_at k f s m (place_of (of_line k f s i))) ≡ true
  place : place_of (lines_at k f s left i) ≡ place_of (lines_at k f s m (place_of (of_line k f s i)))
  numbers : numbers_of (lines_at k f s left i) ≡ row_of f (numbers_of (of_line k f s i)) ++ numbers_of
      (lines_at k f s m (place_of (of_line k f s i)))

line_turn : (k : List ℕ) (f : Form) (s : List ℕ) (left m i : ℕ) → left ≡ suc m → is_got (lines_at k f s left i) ≡ true
    → LineTurn k f s left m i
unfolding lines_at line_at
line_turn k f s left m i more g =
    let vs = numbers_of (lines_at k f s left i) in
    let n = place_of (lines_at k f s left i) in
    let e : lines_at k f s (suc m) i ≡ got vs n = ap (λ (j : ℕ). lines_at k f s j i) (sym more)
    ∙ is_got_lem [] (lines_at k f s left i) g in
    let (us, j, e₁, e₂) = got_then _ (on_line i (line_at k f s i)) vs n e in
    let (ws, e₃, q) = got_onto (row_of f us) (lines_at k f s m j) vs n e₂ in
    let (has, e₄) = got_cond (has_at k s i) _ _ us j (got_line i (line_at k f s i) us j e₁) in
    let t : Got (List ℕ) = of_line k f s i in
    let l : lines_at k f s m (place_of t) ≡ got ws n = ap (lines_at k f s m) (got_place t e₄) ∙ e₃ in
    let is = numbers_is f s f.columns (i + length k) us j e₄ in
    record {
      key = sym (eqb-true (begun_at k s i) (length k) has);
      good_line = got_is t e₄;
      long = ap length (got_of_lem [] t e₄) ∙ is.long;
      good = got_is _ l;
      place = sym (got_place _ l);
      numbers = q ∙ ap₂ (λ (x y : List ℕ). row_of f x ++ y) (sym (got_of_lem [] t e₄)) (sym (got_of_lem [] _ l));
    }

-- rows of w numbers, one after another: row r of m is within those of all
pub row_within : (w r m : ℕ) → r < m → r * w + w ≤ m * w
row_within w r m h =
    let e : m ≡ suc r + (m - suc r) = omega arith in
    omega (arith, ap (λ (n : ℕ). n * w) e, add-mul (suc r) (m - suc r) w, suc-mul r w)

-- and the next row begins where it ends
pub row_next : (w r : ℕ) → (r + 1) * w ≡ r * w + w
row_next w r = omega (arith, add-mul r 1 w)

-- where lines have all of a row's numbers, the row is the line's
row_shown : (f : Form) (us : List ℕ) → f.hidden ≡ 0 → row_of f us ≡ us
row_shown f us z = rw z (append-nil us)

-- r lines have been read, up to place i, and their rows put into the front of out: that makes of out what was to be
-- made of out₀
module _ (k : List ℕ) (f : Form) (s : List ℕ) (m at : ℕ) (out₀ : List ℕ) where
  abbrev all_lines : Got (List ℕ)
  all_lines = lines_at k f s m at

  abbrev left_lines : ℕ → ℕ → Got (List ℕ)
  left_lines r i = lines_at k f s (m - r) i

  pub record FillingLines (r i : ℕ) (out : List ℕ) : Type 0 where
    pub place : place_of all_lines ≡ place_of (left_lines r i)
    pub held : sets out₀ 0 (numbers_of all_lines) ≡ sets out (r * width_of f) (numbers_of (left_lines r i))
    pub good : is_got (left_lines r i) ≡ true

module _ {k : List ℕ} {f : Form} {s : List ℕ} {m at : ℕ} {out₀ : List ℕ} {r i : ℕ} {out : List ℕ}
    (h : FillingLines k f s m at out₀ r i out) where
  module _ (some : r < m) (ask : FillableLines k f s m at out₀) (long : length out ≡ length out₀) where
    abbrev turn : LineTurn k f s (m - r) (m - (r + 1)) i
    turn = line_turn k f s (m - r) (m - (r + 1)) i (omega arith) h.good

    -- the key has stood within the text
    pub key_within : i + length k ≤ max i (length s)
    key_within = begun_within k s i (length k) turn.key

    pub row_room : r * width_of f + width_of f ≤ length out
    row_room = omega (arith, row_within (width_of f) r m some, ask.room)

    pub fill_line_ready : Fillable f s (i + length k) out (r * width_of f)
    fill_line_ready = record { room = omega (arith, row_room); good = turn.good_line }

    pub fill_line : {n : ℕ} {out' : List ℕ} → Filled (of_line k f s i) out (r * width_of f) out' n
        → FillingLines k f s m at out₀ (r + 1) n out'
    fill_line {n} {out'} d =
        let t = turn in
        let v = numbers_of (of_line k f s i) in
        let us = numbers_of (lines_at k f s (m - (r + 1)) (place_of (of_line k f s i))) in
        let w : length v ≡ width_of f = omega (arith, t.long, ask.shown) in
        rw (d.after, d.held) (record {
          place = h.place ∙ t.place;
          held = h.held
              ∙ ap (sets out (r * width_of f)) (t.numbers ∙ ap (λ (x : List ℕ). x ++ us) (row_shown f v ask.shown))
              ∙ sets_append out (r * width_of f) v us
              ∙ ap (λ (j : ℕ). sets (sets out (r * width_of f) v) j us)
              (ap (λ (j : ℕ). r * width_of f + j) w ∙ sym (row_next (width_of f) r));
          good = t.good;
        })

  pub fill_lines_done : m ≤ r → Filled (lines_at k f s m at) out₀ 0 out i
  fill_lines_done z =
      let e = lines_none k f s (m - r) i (omega arith) in
      record {
        held = sym (h.held ∙ ap (sets out (r * width_of f)) (got_of_lem [] _ e));
        after = sym (h.place ∙ got_place _ e);
      }
