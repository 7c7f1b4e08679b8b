-- How many bytes the lines of specs/Lines.antt have, so that counts and places fit the code's numbers.
--   most_number, most_key    at most so many bytes to a number, and to a key
--   most_width, most_line    at most so many numbers to a line, and bytes
--   most_lines              at most so many lines to a run
--   Long x most n          x has n bytes, and they are at most `most`
--   Countable, CountableLines   the table has the row, or m rows, and their bytes are few enough to count
--   Writable, WritableLines     the table has them, and their bytes have room in out from place at on
-- Assumes nothing.
use Rattle.std.specs.Prelude.{◌≡◌, List, ℕ, ◌+◌, ◌*◌, ◌≤◌, length}
use Rattle.lines.specs.declared.form.Form.{Form}
use Rattle.lines.specs.Lines.{width_of, numbers_from, lines_text}

-- the digits of 4294967295
abbrev pub most_number : ℕ
most_number = 10

-- those of `edition=` and `instant=`
abbrev pub most_key : ℕ
most_key = 8

-- a bound with room to spare, so that sums of lengths fit: the rows of document 01 have at most 4 numbers
abbrev pub most_width : ℕ
most_width = 8

abbrev pub most_line : ℕ
most_line = most_key + most_width * (most_number + 1)

-- a bound with room to spare, so that sums of lengths fit: the tables of document 01 have at most 2,048 rows
abbrev pub most_lines : ℕ
most_lines = 4096

pub record Long (x : List ℕ) (most n : ℕ) : Type 0 where
  pub count : n ≡ length x
  pub small : n ≤ most

pub record Countable (f : Form) (table : List ℕ) (base : ℕ) : Type 0 where
  pub row : base + f.columns ≤ length table
  pub narrow : f.columns ≤ most_width

pub record CountableLines (k : List ℕ) (f : Form) (table : List ℕ) (m : ℕ) : Type 0 where
  pub rows : m * width_of f ≤ length table
  pub narrow : f.columns ≤ most_width
  pub key : length k ≤ most_key
  pub few : m ≤ most_lines

pub record Writable (f : Form) (table : List ℕ) (base : ℕ) (out : List ℕ) (at : ℕ) : Type 0 where
  pub row : base + f.columns ≤ length table
  pub room : at + length (numbers_from f table base) ≤ length out

pub record WritableLines (k : List ℕ) (f : Form) (table : List ℕ) (m : ℕ) (out : List ℕ) (at : ℕ) : Type 0 where
  pub rows : m * width_of f ≤ length table
  pub room : at + length (lines_text k f m table) ≤ length out
