-- What the calls write text and read text promise. Assumes nothing.
use Rattle.std.specs.Prelude.{List, [], ◌≡◌, ℕ, ◌≤◌, ◌<◌, length, take, Result, Ok, Err}
use Rattle.ground.specs.Lists.{joined, front, Stands}
use Rattle.answers.specs.declared.Refusal.{Refusal}
use Rattle.answers.specs.declared.Refusal.TheVariants.{Room, Text}
use Rattle.answers.specs.Answers.{Answer, Done, Size, TextRoom}
use Rattle.tables.specs.Tables.{Tables, lent}
use Rattle.tables.specs.Rules.{Sizes, Gives}
use Rattle.text.specs.declared.forms.Counts.{Counts}
use Rattle.text.specs.Text.{Lendable, text_lines, text_of}

-- [01:What the calls answer] Write text "judges table sizes only: 1, then 32. Otherwise place is the byte count, and
-- bytes after it are unchanged."; TEXTROOM "text output too short", "place: bytes needed"; "No refusal writes to a
-- lent table or buffer."
module _ (t : Tables) (out : List ℕ) where
  pub data Written : Answer → List ℕ → Type 0 where
    out_of_size : {p : ℕ} → Gives t (Size p) → Written (Size p) out
    short : Sizes t → length out < length (text_of t) → Written (TextRoom (length (text_of t))) out
    wrote : Sizes t → length (text_of t) ≤ length out
        → Written (Done 0 (length (text_of t))) (front (text_of t) out)

-- [01:The text] the form: a text is that of tables of 32-bit numbers within the sizes.
-- [01:What the calls answer] "Neither call applies row rules; start may be any number there."
pub record Accepted (s : List ℕ) (t : Tables) : Type 0 where
  pub lendable : Lendable t
  pub text : s ≡ text_of t

-- [01:What the calls answer] TEXT "text is not of the form"
abbrev pub NotOfForm : List ℕ → Type 0
NotOfForm s = (t : Tables) → Accepted s t → ⊥

-- the text of the first j lines
abbrev pub first_lines : ℕ → Tables → List ℕ
first_lines j t = joined (take j (text_lines t))

-- [01:The text] "Place of TEXT is the offset of the first byte of the first line that is not what must stand there: a
-- line lacking its LF, or extra text, counts; for a missing line it is the text length." Up to p, s begins with lines
-- of the text of some tables, and there is no longer such beginning.
pub record FirstWrong (s : List ℕ) (p : ℕ) : Type 0 where
  pub reached : (t : Tables) × (j : ℕ) × Lendable t × Stands s 0 (first_lines j t) p
  pub furthest : (t : Tables) (j n : ℕ) → Lendable t → Stands s 0 (first_lines j t) n → n ≤ p

-- [01:What the calls answer] "which are 0 on refusal"
abbrev pub no_tables : Tables
no_tables = lent 0 [] 0 [] 0 [] 0

-- [01:What the calls answer] "the answer also carries start and three counts"
abbrev pub counts_of : Tables → Counts
counts_of t =
    record { start = t.start; nodes = t.nodes.count; edges = t.edges.count; refs = t.refs.count }

-- [01:What the calls answer] "21 (place 0, 1, 2: first table too short)"
module _ (t : Tables) (n e f : List ℕ) where
  pub record Fits : Type 0 where
    pub nodes : length t.nodes.numbers ≤ length n
    pub edges : length t.edges.numbers ≤ length e
    pub refs : length t.refs.numbers ≤ length f

  pub data TooShort : ℕ → Type 0 where
    nodes_short : length n < length t.nodes.numbers → TooShort 0
    edges_short : length t.nodes.numbers ≤ length n → length e < length t.edges.numbers → TooShort 1
    refs_short : length t.nodes.numbers ≤ length n → length t.edges.numbers ≤ length e
        → length f < length t.refs.numbers → TooShort 2

-- [01:What the calls answer] "Read text: 31, then 21 (place 0, 1, 2: first table too short). Otherwise the rows fill
-- the front of each table, the rest unchanged, and the answer also carries start and three counts, which are 0 on
-- refusal": a refusal carries none here. "No refusal writes to a lent table or buffer." A text of the form has a
-- `FirstWrong` too, its length, so TEXT asks for both.
pub data Read (s n e f : List ℕ) : Result Counts Refusal → List ℕ → List ℕ → List ℕ → Type 0 where
  wrong_text : {p : ℕ} → NotOfForm s → FirstWrong s p → Read s n e f (Err (Text p)) n e f
  no_room : {t : Tables} {k : ℕ} → Accepted s t → TooShort t n e f k → Read s n e f (Err (Room 0 k)) n e f
  took : {t : Tables} → Accepted s t → Fits t n e f
      → Read s n e f (Ok (counts_of t)) (front t.nodes.numbers n) (front t.edges.numbers e)
      (front t.refs.numbers f)
