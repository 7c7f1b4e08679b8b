-- What stands in a text, by place. proofs/LineLaws.antt (`lines_of`, `lines_is`): what is read are the numbers of which
-- the text has the lines of specs/Lines.antt.
--   Got A                  what was read, and the place after it; or the place up to which what stands there begins
--                          what must stand there
--   and_then                where something was read, go on; then_number: where a number was
--   begun, begun_at         how many of the first bytes of k begin a list; stand at place i of s
--   has_at                  all of them do
--   key_at                  the place after the key
--   at_least, or_now         a number, unless it is below the least; the word `now`, or a number
--   number_at, marked_at      a number of a line; the same with the mark after it
--   numbers_at              the numbers of a line
--   onto                   numbers in front of what was read
--   line_at                 a line, refused at a byte within it
--   refused_at_of, on_line      the place that is answered for it
--   lines_at                m lines, as rows of the table
--   ended_of                what a reader that keeps no numbers answers; EndsWithin: it ended within the text
--   is_got, got_of, place_of  whether something was read; that (or what stands for it), and the place
--   numbers_of, one_of       the numbers that were read, or none; the number of a line of one
--   NumWithin               such a number ended within the text
-- A line is refused at the byte up to which it begins some line of the form: a number ends where its next digit would
-- take it past the most, and of the numbers below a form's least, which is 0 or 1, there is only 0, from which none
-- goes on. proofs/ByteCases.antt computes cases; that it is so of every text is for [02:Ask 4], which answers that byte
-- and takes `refused_at_of` away.
-- Assumes nothing.
use Rattle.std.specs.Prelude.{Bool, true, false, cond, List, [], ◌∷◌, ◌++◌, ℕ, zero, suc, ◌+◌, ◌-◌, ◌≤◌, leb, eqb}
use Rattle.std.specs.Prelude.{length, get_or, drop, Result, Ok, Err}
use Rattle.tables.specs.Tables.{Now}
use Rattle.decimals.specs.declared.Number.{Number}
use Rattle.decimals.specs.declared.Wrong.{Wrong}
use Rattle.decimals.specs.Reads.{number, no_number, num_at}
use Rattle.lines.specs.declared.form.Form.{Form}
use Rattle.lines.specs.Lines.{is_end_of, mark, now_word, row_of}

pub data Got (A : Type 0) : Type 0 where
  got : A → ℕ → Got A
  wrong : ℕ → Got A

unfoldable pub and_then : {A B : Type 0} → Got A → (A → ℕ → Got B) → Got B
and_then (wrong p) go = wrong p
and_then (got a n) go = go a n

unfoldable pub begun : List ℕ → List ℕ → ℕ
begun [] xs = 0
begun (b ∷ k) [] = 0
begun (b ∷ k) (c ∷ xs) = cond (eqb c b) (suc (begun k xs)) 0

unfoldable pub begun_at : List ℕ → List ℕ → ℕ → ℕ
begun_at k s i = begun k (drop i s)

abbrev pub has_at : List ℕ → List ℕ → ℕ → Bool
has_at k s i = eqb (begun_at k s i) (length k)

abbrev pub key_at : List ℕ → List ℕ → ℕ → Result ℕ Wrong
key_at k s i = cond (has_at k s i) (Ok (i + length k)) (Err (record { at = i + begun_at k s i }))

-- a number at place i, unless it is below the least
unfoldable pub at_least : ℕ → ℕ → Result Number Wrong → Result Number Wrong
at_least least i (Err e) = Err e
at_least least i (Ok x) = cond (leb least x.value) (Ok x) (no_number i)

-- k bytes of the word `now` stand at place i; where none does, a number may
unfoldable pub or_now : ℕ → ℕ → Result Number Wrong → Result Number Wrong
or_now i k x = cond (eqb k 0) x (cond (eqb k (length now_word)) (number Now (i + k)) (no_number (i + k)))

-- [01:The text] "The fourth number of an edge or ref is `now` where it is 4294967295, and those digits are refused
-- there."
unfoldable pub number_at : Form → Bool → List ℕ → ℕ → Result Number Wrong
number_at f false s i = at_least f.least i (num_at f.most s i)
number_at f true s i = or_now i (begun_at now_word s i) (num_at (Now - 1) s i)

-- a number, with the mark of the one that w more follow
unfoldable pub marked : ℕ → List ℕ → Result Number Wrong → Result Number Wrong
marked w s (Err e) = Err e
marked w s (Ok x) = cond (eqb (get_or s x.after 0) (mark w)) (number x.value (x.after + 1)) (no_number x.after)

abbrev pub marked_at : Form → List ℕ → ℕ → ℕ → Result Number Wrong
marked_at f s w i = marked w s (number_at f (is_end_of f w) s i)

-- numbers in front of what was read
unfoldable pub onto : List ℕ → Got (List ℕ) → Got (List ℕ)
onto vs (got us n) = got (vs ++ us) n
onto vs (wrong p) = wrong p

unfoldable pub then_number : Result Number Wrong → (ℕ → ℕ → Got (List ℕ)) → Got (List ℕ)
then_number (Err e) go = wrong e.at
then_number (Ok x) go = go x.value x.after

unfoldable pub numbers_at : Form → List ℕ → ℕ → ℕ → Got (List ℕ)
numbers_at f s zero i = got [] i
numbers_at f s (suc w) i =
    then_number (marked_at f s w i) (λ v n. onto (v ∷ []) (numbers_at f s w n))

unfoldable pub line_at : List ℕ → Form → List ℕ → ℕ → Got (List ℕ)
line_at k f s i = cond (has_at k s i) (numbers_at f s f.columns (i + length k)) (wrong (i + begun_at k s i))

-- [01:The text] "Place of TEXT is the offset of the first byte of the first line that is not what must stand there"
abbrev pub refused_at_of : ℕ → ℕ → ℕ
refused_at_of line byte = line

-- what was read of the line that begins at place i
unfoldable pub on_line : {A : Type 0} → ℕ → Got A → Got A
on_line i (got a n) = got a n
on_line i (wrong p) = wrong (refused_at_of i p)

unfoldable pub lines_at : List ℕ → Form → List ℕ → ℕ → ℕ → Got (List ℕ)
lines_at k f s zero i = got [] i
lines_at k f s (suc m) i = and_then (on_line i (line_at k f s i)) (λ us n. onto (row_of f us) (lines_at k f s m n))

unfoldable pub ended_of : {A : Type 0} → Got A → Result ℕ Wrong
ended_of (got a n) = Ok n
ended_of (wrong p) = Err (record { at = p })

abbrev pub EndsWithin : List ℕ → Result ℕ Wrong → Type 0
EndsWithin s (Ok n) = n ≤ length s
EndsWithin s (Err e) = Unit {0}

unfoldable pub is_got : {A : Type 0} → Got A → Bool
is_got (got a n) = true
is_got (wrong p) = false

unfoldable pub got_of : {A : Type 0} → A → Got A → A
got_of none (got a n) = a
got_of none (wrong p) = none

unfoldable pub place_of : {A : Type 0} → Got A → ℕ
place_of (got a n) = n
place_of (wrong p) = p

abbrev pub numbers_of : Got (List ℕ) → List ℕ
numbers_of = got_of []

-- the number of a line of one number
unfoldable pub one_of : Got (List ℕ) → Result Number Wrong
one_of (got vs n) = number (get_or vs 0 0) n
one_of (wrong p) = no_number p

abbrev pub NumWithin : List ℕ → Result Number Wrong → Type 0
NumWithin s (Ok x) = x.after ≤ length s
NumWithin s (Err e) = Unit {0}
