-- One step of each writer, and of each counter of bytes. Assumes nothing.
use mathlib.Core.Bool.{Bool, true, false, ◌&&◌}
use mathlib.Core.List.{List, [], ◌∷◌, ◌++◌}
use mathlib.Core.Path.{◌≡◌, sym, ap, ◌∙◌}
use Prim.Native.Nat.{ℕ, zero, suc, ◌+◌, ◌-◌, ◌*◌, ◌≤◌, ◌<◌}
use native.Mathlib.Omega.{arith}
use native.Mathlib.Numerals.{add-one}
use lib.Dec.{eqb}
use lib.ListN.{length, get_or, set, drop, drop_of_length-le, length-append}
use lib.Seq.{sets, length-sets, drop-drop, get_or-drop}
use Rattle.ground.specs.Stores.{Put}
use Rattle.ground.specs.Lists.{joined}
use Rattle.ground.proofs.TestLaws.{by_test}
use Rattle.ground.proofs.ListLaws.{drop_step, sets_append, put_append}
use Rattle.tables.specs.declared.label.End.{End}
use Rattle.tables.specs.declared.label.End.TheVariants.{At}
use Rattle.tables.specs.Tables.{Now}
use Rattle.tables.specs.Labels.{end_of}
use Rattle.decimals.proofs.DecimalLaws.{dec_ten}
use Rattle.lines.specs.declared.form.Form.{Form}
use Rattle.lines.specs.Lines.{width_of, end_text, number_text, numbers_from, numbers_text, one_form_of, line_text, one_line}
use Rattle.lines.specs.Lines.{lines_of, lines_text, mark, is_end_of}
use Rattle.lines.specs.Sizes.{most_number, most_key, most_width, most_line, Long, Countable, CountableLines, Writable}
use Rattle.lines.specs.Sizes.{WritableLines}
use Rattle.lines.proofs.FillLaws.{row_within, row_next}

-- ---- a run of bytes, from byte j on

pub put_turn : (out bytes : List ℕ) (at j : ℕ) {c : ℕ} → j < length bytes → c ≡ get_or bytes j 0
    → sets out (at + j) (drop j bytes) ≡ sets (set out (at + j) c) (at + (j + 1)) (drop (j + 1) bytes)
put_turn out bytes at j {c} h e =
    let n : suc (at + j) ≡ at + (j + 1) = omega arith in
    rw e
    (ap (sets out (at + j)) (drop_step bytes j h)
    ∙ ap (λ (i : ℕ). sets (set out (at + j) (get_or bytes j 0)) i (drop (j + 1) bytes)) n)

pub put_done : (out bytes : List ℕ) (i j : ℕ) → length bytes ≤ j → sets out i (drop j bytes) ≡ out
put_done out bytes i j h = ap (sets out i) (drop_of_length-le bytes h)

-- ---- a number

pub number_end : (last : Bool) (v : ℕ) {x : End} → last ≡ true → x ≡ end_of v → number_text last v ≡ end_text x
unfolding number_text end_of
number_end last v e f = rw (e, f) (by_test (eqb v Now) (λ t. rw t) (λ t. rw t))

pub number_finite : (last : Bool) (v : ℕ) → last ≡ false → number_text last v ≡ end_text (At v)
unfolding number_text
number_finite last v e = rw e

-- ---- the numbers of a line

module _ (f : Form) (table : List ℕ) (left w j : ℕ) (b : Bool) (more : left ≡ suc w) (e : b ≡ is_end_of f w)
    (h : j < length table) where
  abbrev next : List ℕ
  next = number_text b (get_or table j 0)

  abbrev rest : List ℕ
  rest = numbers_text f w (drop (j + 1) table)

  text_step : numbers_text f left (drop j table) ≡ next ++ (mark w ∷ rest)
  unfolding numbers_text
  text_step = rw (more, drop_step table j h, e)

no_numbers : (f : Form) (left : ℕ) (vs : List ℕ) → left ≤ 0 → numbers_text f left vs ≡ []
unfolding numbers_text
no_numbers f left vs z = let q : left ≡ 0 = omega arith in rw q

-- those of the row at index base, from its number j on
abbrev pub numbers_left : Form → List ℕ → ℕ → ℕ → List ℕ
numbers_left f table base j = numbers_text f (f.columns - j) (drop (base + j) table)

-- the next is an end, if b
module _ (f : Form) (table : List ℕ) (base j : ℕ) (b : Bool) (some : j < f.columns)
    (row : base + f.columns ≤ length table)
    (e : b ≡ is_end_of f (f.columns - 1 - j)) where
  abbrev this_number : List ℕ
  this_number = number_text b (get_or table (base + j) 0)

  pub left_step : numbers_left f table base j
      ≡ this_number ++ (mark (f.columns - 1 - j) ∷ numbers_left f table base (j + 1))
  left_step =
      let m : f.columns - (j + 1) ≡ f.columns - 1 - j = omega arith in
      let n : base + (j + 1) ≡ base + j + 1 = omega arith in
      rw (m, n) (text_step f table (f.columns - j) (f.columns - 1 - j) (base + j) b (omega arith) e (omega arith))

  pub left_length : length (numbers_left f table base j) ≡ length this_number
      + suc (length (numbers_left f table base (j + 1)))
  left_length =
      ap length left_step
      ∙ length-append this_number (mark (f.columns - 1 - j) ∷ numbers_left f table base (j + 1))

left_none : (f : Form) (table : List ℕ) (base j : ℕ) → f.columns ≤ j → numbers_left f table base j ≡ []
left_none f table base j z = no_numbers f (f.columns - j) (drop (base + j) table) (omega arith)

-- the numbers from j on are to be put to place i of out: that makes of out what was to be made of out₀
pub record Writing (f : Form) (table : List ℕ) (base : ℕ) (out₀ : List ℕ) (at j : ℕ) (out : List ℕ) (i : ℕ) :
    Type 0 where
  pub held : sets out₀ at (numbers_from f table base) ≡ sets out i (numbers_left f table base j)
  pub place : at + length (numbers_from f table base) ≡ i + length (numbers_left f table base j)

module _ {f : Form} {table : List ℕ} {base : ℕ} {out₀ : List ℕ} {at j : ℕ} {out : List ℕ} {i : ℕ}
    (p : Writing f table base out₀ at j out i) where
  module _ (some : j < f.columns) (r : Writable f table base out₀ at) (long : length out ≡ length out₀) {b : Bool}
      (e : b ≡ is_end_of f (f.columns - 1 - j)) where
    -- the number and its mark have room
    pub write_fits : i + length (number_text b (get_or table (base + j) 0)) < length out
    write_fits = omega (arith, left_length f table base j b some r.row e, r.room, p.place)

    pub write_turn : {n : ℕ} {out₁ : List ℕ} {c : ℕ} → Put out i (number_text b (get_or table (base + j) 0)) out₁ n
        → c ≡ mark (f.columns - 1 - j)
        → Writing f table base out₀ at (j + 1) (set out₁ n c) (n + 1)
    write_turn {n} {out₁} {c} q ec =
        let x = number_text b (get_or table (base + j) 0) in
        record {
          held = p.held ∙ ap (sets out i) (left_step f table base j b some r.row e)
              ∙ sets_append out i x (mark (f.columns - 1 - j) ∷ numbers_left f table base (j + 1))
              ∙ rw (q.after, q.held, ec, add-one (i + length x));
          place = omega (arith, left_length f table base j b some r.row e, q.after);
        }

  pub write_done : f.columns ≤ j → Put out₀ at (numbers_from f table base) out i
  write_done z =
      let e = left_none f table base j z in
      record { held = sym (p.held ∙ ap (sets out i) e); after = omega (arith, ap length e) }

-- ---- lines

module _ (k : List ℕ) (f : Form) (table : List ℕ) (left w j : ℕ) (more : left ≡ suc w) where
  abbrev line : List ℕ
  line = numbers_from f table j

  abbrev others : List ℕ
  others = lines_text k f w (drop (j + width_of f) table)

  lines_step : lines_text k f left (drop j table) ≡ (k ++ line) ++ others
  unfolding lines_of joined
  lines_step = rw (more, drop-drop (width_of f) j table)

  pub lines_step_length : length (lines_text k f left (drop j table)) ≡ length k + length line + length others
  lines_step_length =
      ap length lines_step ∙ length-append (k ++ line) others
      ∙ ap (λ (n : ℕ). n + length others) (length-append k line)

no_lines : (k : List ℕ) (f : Form) (left : ℕ) (vs : List ℕ) → left ≤ 0 → lines_text k f left vs ≡ []
unfolding lines_of joined
no_lines k f left vs z = let q : left ≡ 0 = omega arith in rw q

-- the lines from r on
abbrev pub lines_left : List ℕ → Form → List ℕ → ℕ → ℕ → List ℕ
lines_left k f table m r = lines_text k f (m - r) (drop (r * width_of f) table)

module _ (k : List ℕ) (f : Form) (table : List ℕ) (m r : ℕ) (some : r < m) where
  abbrev this_line : List ℕ
  this_line = numbers_from f table (r * width_of f)

  pub run_step : lines_left k f table m r ≡ (k ++ this_line) ++ lines_left k f table m (r + 1)
  run_step =
      rw (row_next (width_of f) r) (lines_step k f table (m - r) (m - (r + 1)) (r * width_of f) (omega arith))

  pub run_length : length (lines_left k f table m r)
      ≡ length k + length this_line + length (lines_left k f table m (r + 1))
  run_length =
      rw (row_next (width_of f) r) (lines_step_length k f table (m - r) (m - (r + 1)) (r * width_of f) (omega arith))

run_none : (k : List ℕ) (f : Form) (table : List ℕ) (m r : ℕ) → m ≤ r → lines_left k f table m r ≡ []
run_none k f table m r z = no_lines k f (m - r) (drop (r * width_of f) table) (omega arith)

-- the lines from r on are to be put to place i of out: that makes of out what was to be made of out₀
pub record WritingLines (k : List ℕ) (f : Form) (table : List ℕ) (m : ℕ) (out₀ : List ℕ) (at r : ℕ) (out : List ℕ)
    (i : ℕ) : Type 0 where
  pub held : sets out₀ at (lines_text k f m table) ≡ sets out i (lines_left k f table m r)
  pub place : at + length (lines_text k f m table) ≡ i + length (lines_left k f table m r)

module _ {k : List ℕ} {f : Form} {table : List ℕ} {m : ℕ} {out₀ : List ℕ} {at r : ℕ} {out : List ℕ} {i : ℕ}
    (p : WritingLines k f table m out₀ at r out i) where
  module _ (some : r < m) (ask : WritableLines k f table m out₀ at) (long : length out ≡ length out₀) where
    abbrev row_line : List ℕ
    row_line = numbers_from f table (r * width_of f)

    -- the line has its room
    pub line_fits : i + length k + length row_line ≤ length out
    line_fits = omega (arith, run_length k f table m r some, ask.room, p.place)

    pub write_ready : {n : ℕ} {out₁ : List ℕ} → Put out i k out₁ n → Writable f table (r * width_of f) out₁ n
    write_ready {n} {out₁} a =
        record {
          row = omega (arith, row_within (width_of f) r m some, ask.rows);
          room = omega (arith, line_fits, a.after, ap length a.held ∙ length-sets out i k);
        }

    pub write_line : {n₁ : ℕ} {out₁ : List ℕ} {n₂ : ℕ} {out₂ : List ℕ} → Put out i k out₁ n₁
        → Put out₁ n₁ row_line out₂ n₂
        → WritingLines k f table m out₀ at (r + 1) out₂ n₂
    write_line a b =
        let both = put_append a b in
        record {
          held = p.held ∙ ap (sets out i) (run_step k f table m r some)
              ∙ sets_append out i (k ++ row_line) (lines_left k f table m (r + 1))
              ∙ rw (both.held, both.after);
          place = omega (arith, run_length k f table m r some, both.after, length-append k row_line, p.place);
        }

  pub lines_done : m ≤ r → Put out₀ at (lines_text k f m table) out i
  lines_done z =
      let e = run_none k f table m r z in
      record { held = sym (p.held ∙ ap (sets out i) e); after = omega (arith, ap length e) }

-- ---- lengths

pub number_short : (last : Bool) (v : ℕ) → v ≤ Now → length (number_text last v) ≤ most_number
unfolding number_text
number_short last v h =
    by_test (last && eqb v Now) (λ t. rw t (omega arith)) (λ t. rw t (dec_ten v (omega arith)))

-- so lines of 32-bit numbers are short
numbers_short : (f : Form) (w : ℕ) (vs : List ℕ) → ((i : ℕ) → get_or vs i 0 ≤ Now)
    → length (numbers_text f w vs) ≤ w * (most_number + 1)
unfolding numbers_text
numbers_short f zero vs h = omega arith
numbers_short f (suc w) [] h = omega arith
numbers_short f (suc w) (v ∷ vs) h =
    let x = number_text (is_end_of f w) v in
    let y = numbers_text f w vs in
    omega (
      arith,
      number_short (is_end_of f w) v (h 0),
      numbers_short f w vs (λ i. h (suc i)),
      length-append x
          (mark w ∷ y),
    )

pub line_short : (k : List ℕ) (f : Form) (vs : List ℕ) → length k ≤ most_key → f.columns ≤ most_width
    → ((i : ℕ) → get_or vs i 0 ≤ Now)
    → length (line_text k f vs) ≤ most_line
line_short k f vs a b h =
    omega (arith, length-append k (numbers_text f f.columns vs), numbers_short f f.columns vs h)

pub one_short : (k : List ℕ) (v : ℕ) → length k ≤ most_key → v ≤ Now → length (one_line k v) ≤ most_line
one_short k v a h = line_short k (one_form_of 0 Now) (v ∷ []) a (omega arith) small
  where
    small : (i : ℕ) → get_or (v ∷ []) i 0 ≤ Now
    small zero = h
    small (suc i) = omega arith

pub lines_short : (k : List ℕ) (f : Form) (m : ℕ) (vs : List ℕ) → length k ≤ most_key → f.columns ≤ most_width
    → ((i : ℕ) → get_or vs i 0 ≤ Now)
    → length (lines_text k f m vs) ≤ m * most_line
unfolding lines_of joined
lines_short k f zero vs a b h = omega arith
lines_short k f (suc m) vs a b h =
    let rest = lines_short k f m (drop (width_of f) vs) a b
    (λ i. rw (get_or-drop (width_of f) vs i 0) (h (width_of f + i))) in
    omega (
      arith,
      rest,
      line_short k f vs a b h,
      length-append (line_text k f vs)
          (lines_text k f m (drop (width_of f) vs)),
    )

-- the numbers from j on are to be counted
pub record Counting (f : Form) (table : List ℕ) (base j sum : ℕ) : Type 0 where
  pub total : length (numbers_from f table base) ≡ sum + length (numbers_left f table base j)
  pub small : sum + (f.columns - j) * (most_number + 1) ≤ f.columns * (most_number + 1)

module _ {f : Form} {table : List ℕ} {base j sum : ℕ} (p : Counting f table base j sum) where
  pub count_turn : {b : Bool} {n : ℕ} → j < f.columns → Countable f table base → b ≡ is_end_of f (f.columns - 1 - j)
      → Long (number_text b (get_or table (base + j) 0)) most_number n
      → Counting f table base (j + 1) (sum + (n + 1))
  count_turn {b} {n} some r e l =
      record {
        total = omega (arith, left_length f table base j b some r.row e, p.total, l.count);
        small = omega (arith, p.small, l.small);
      }

  pub count_done : f.columns ≤ j → Long (numbers_from f table base) (f.columns * (most_number + 1)) sum
  count_done z = record { count = omega (arith, ap length (left_none f table base j z)); small = omega arith }

-- the lines from r on are to be counted
pub record CountingLines (k : List ℕ) (f : Form) (table : List ℕ) (m r sum : ℕ) : Type 0 where
  pub total : length (lines_text k f m table) ≡ sum + length (lines_left k f table m r)
  pub small : sum + (m - r) * most_line ≤ m * most_line

module _ {k : List ℕ} {f : Form} {table : List ℕ} {m r sum : ℕ} (p : CountingLines k f table m r sum) where
  module _ (some : r < m) (ask : CountableLines k f table m) where
    module _ {n : ℕ} (l : Long (numbers_from f table (r * width_of f)) (f.columns * (most_number + 1)) n) where
      pub count_small : length k + n ≤ most_line
      count_small = omega (arith, l.small, ask.narrow, ask.key)

      pub count_line : CountingLines k f table m (r + 1) (sum + (length k + n))
      count_line =
          record {
            total = omega (arith, l.count, run_length k f table m r some, p.total);
            small = omega (arith, count_small, p.small);
          }

  pub count_lines_done : m ≤ r → Long (lines_text k f m table) (m * most_line) sum
  count_lines_done z =
      record { count = omega (arith, ap length (run_none k f table m r z)); small = omega arith }
