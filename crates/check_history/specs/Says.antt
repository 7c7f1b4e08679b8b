-- What the program prints, in the words of `text` (specs/Text.antt, Answers.antt) and of `verdict` (Checked.antt).
-- The exception: `main` has no `ensures`, for no contract can speak of what a program reads and writes. It hands the
-- whole of what was read to `report`, and the whole of what that put to the output; as far as its contract goes it
-- could hand on any part of either.
--   Says     of a text: the answer of read text if that refused, else that of check on the tables that were read
--   most_input, most_output   at most so many bytes are read, and printed
--   Prints   of an input, of which nothing is read past most_input bytes
--   printed  the three lines of an answer; Reported: they are put at the front of an output
-- Assumes nothing.
use Rattle.std.specs.Prelude.{List, [], ◌∷◌, ℕ, ◌*◌, ◌≤◌, ◌<◌, length}
use Rattle.ground.specs.Stores.{Put}
use Rattle.ground.specs.Lists.{joined}
use Rattle.answers.specs.Answers.{Answer}
use Rattle.answers.specs.Answers.{Text}
use Rattle.answers.specs.Numbers.{numbers}
use Rattle.tables.specs.Tables.{Tables}
use Rattle.decimals.specs.Decimals.{dec}
use Rattle.lines.specs.Sizes.{most_line}
use Rattle.text.specs.Text.{line}
use Rattle.text.specs.Answers.{FirstWrong, Accepted, NotOfForm}
use Rattle.verdict.specs.Checked.{Checked}

-- [01:The text] "the code, instant and place of read if that refused, else of check"
pub data Says (s : List ℕ) : Answer → Type 0 where
  unread : {p : ℕ} → NotOfForm s → FirstWrong s p → Says s (Text p)
  read : {t : Tables} {a : Answer} → Accepted s t → Checked t a → Says s a

-- [01:The text] "`check` reads such text from standard input, at most 32,768 bytes (longer: 31, place 32768)"
abbrev pub most_input : ℕ
most_input = 32768

pub data Prints (s : List ℕ) : Answer → Type 0 where
  short : {a : Answer} → length s ≤ most_input → Says s a → Prints s a
  long : most_input < length s → Prints s (Text most_input)

-- [01:The text] "and prints three lines: the code, instant and place"
abbrev pub printed : Answer → List ℕ
printed a =
    joined
    (line "code=" (dec (numbers a).code ∷ [])
    ∷ line "instant=" (dec (numbers a).instant ∷ [])
    ∷ line "place=" (dec (numbers a).place ∷ [])
    ∷ [])

abbrev pub most_output : ℕ
most_output = 3 * most_line

pub record Reported (s out out' : List ℕ) (n : ℕ) : Type 0 where
  pub answer : Answer
  pub prints : Prints s answer
  pub held : Put out 0 (printed answer) out' n
  pub fits : n ≤ most_output
