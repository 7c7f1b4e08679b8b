-- A line of any form, as text, for the code that reads and writes lines by their forms. A line is its key and then its
-- numbers, each with a comma after it or, the last, with LF. That the lines of tables' rows are such lines is for the
-- crate `text` to say (its proofs/TieLaws.antt).
--   width_of f              how many numbers a row of the table has: those of its line, and those that it leaves out
--   one_form_of, row_form       a line of one number between bounds; a row of w numbers, the last perhaps an end
--   is_end_of, mark            of the number that w more follow: whether it is an end; what stands after it
--   now_word                the word `now`; end_text: an end
--   number_text b v         a number of a line: where it is an end, `now` for Now
--   numbers_text f w vs     the first w numbers of vs, with their marks
--   numbers_from f vs i     those of the row that begins at index i of vs
--   line_text, one_line      a line with a key; a line of one number
--   row_of f us             the row of the numbers us of a line: those that lines leave out are 0, and stand last
--   lines_of k f m vs       m lines with the key k, of the numbers vs; lines_text: the text of these
--   NumberOk, NumbersOk    the numbers are within the bounds of the form
--   RowOk, LinesOk         the row is that of its line; so are m rows
-- A line's columns and a row's width are the same in edition 1 ([02:Ask 9] has a row of which lines leave out a
-- number). Which number of a row stands in which column is said by `line_text`, `row_of` and `RowOk` alone.
-- Assumes nothing.
use Rattle.std.specs.Prelude.{Bool, true, false, cond, ◌&&◌, List, [], ◌∷◌, ◌++◌, ◌≡◌, ℕ, zero, suc, ◌+◌, ◌≤◌, eqb, take, drop, replicate}
use Rattle.ground.specs.Lists.{bytes, joined}
use Rattle.tables.specs.declared.label.End.{End}
use Rattle.tables.specs.declared.label.End.TheVariants.{At, Current}
use Rattle.tables.specs.Tables.{Now}
use Rattle.decimals.specs.Decimals.{dec}
use Rattle.lines.specs.declared.form.Form.{Form}

abbrev pub width_of : Form → ℕ
width_of f = f.columns + f.hidden

abbrev pub one_form_of : ℕ → ℕ → Form
one_form_of least most = record { columns = 1; hidden = 0; ended = false; least = least; most = most }

abbrev pub row_form : ℕ → Bool → Form
row_form width ended = record { columns = width; hidden = 0; ended = ended; least = 0; most = Now }

abbrev pub is_end_of : Form → ℕ → Bool
is_end_of f zero = f.ended
is_end_of f (suc w) = false

-- [01:The text] "each ended by one LF byte"; "Row numbers are joined by commas."
abbrev pub mark : ℕ → ℕ
mark zero = 10
mark (suc w) = 44

-- the word `now`
abbrev pub now_word : List ℕ
now_word = bytes "now"

abbrev pub end_text : End → List ℕ
end_text Current = now_word
end_text (At t) = dec t

-- [01:The text] "The fourth number of an edge or ref is `now` where it is 4294967295"
unfoldable pub number_text : Bool → ℕ → List ℕ
number_text last v = cond (last && eqb v Now) now_word (dec v)

unfoldable pub numbers_text : Form → ℕ → List ℕ → List ℕ
numbers_text f zero vs = []
numbers_text f (suc w) [] = []
numbers_text f (suc w) (v ∷ vs) = number_text (is_end_of f w) v ++ (mark w ∷ numbers_text f w vs)

abbrev pub numbers_from : Form → List ℕ → ℕ → List ℕ
numbers_from f vs i = numbers_text f f.columns (drop i vs)

-- [01:The text] "Lines `key=value`"
abbrev pub line_text : List ℕ → Form → List ℕ → List ℕ
line_text k f vs = k ++ numbers_text f f.columns vs

abbrev pub one_line : List ℕ → ℕ → List ℕ
one_line k v = line_text k (one_form_of 0 Now) (v ∷ [])

unfoldable pub lines_of : List ℕ → Form → ℕ → List ℕ → List (List ℕ)
lines_of k f zero vs = []
lines_of k f (suc m) vs = line_text k f vs ∷ lines_of k f m (drop (width_of f) vs)

abbrev pub lines_text : List ℕ → Form → ℕ → List ℕ → List ℕ
lines_text k f m vs = joined (lines_of k f m vs)

abbrev pub NumberOk : Form → Bool → ℕ → Type 0
NumberOk f false v = (f.least ≤ v) × (v ≤ f.most)
NumberOk f true v = v ≤ Now

-- vs has w numbers at least, and its first w are within their bounds
abbrev pub NumbersOk : Form → ℕ → List ℕ → Type 0
NumbersOk f zero vs = Unit {0}
NumbersOk f (suc w) [] = ⊥
NumbersOk f (suc w) (v ∷ vs) = NumberOk f (is_end_of f w) v × NumbersOk f w vs

abbrev pub row_of : Form → List ℕ → List ℕ
row_of f us = us ++ replicate f.hidden 0

-- the row at the front of vs
pub record RowOk (f : Form) (vs : List ℕ) : Type 0 where
  pub shown : NumbersOk f f.columns vs
  pub hidden : take f.hidden (drop f.columns vs) ≡ replicate f.hidden 0

abbrev pub LinesOk : Form → ℕ → List ℕ → Type 0
LinesOk f zero vs = Unit {0}
LinesOk f (suc m) vs = RowOk f vs × LinesOk f m (drop (width_of f) vs)
