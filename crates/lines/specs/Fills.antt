-- The second pass of reading, as the contracts of src/read.rt have it: it stores what specs/Reads.antt reads.
--   Fillable, FillableLines    the numbers of a line, or of m lines, were found right, and have room in out
--   Filled x old base new n    the numbers that x read stand in `new` from index base on, all else is as in `old`,
--                              and n is the place after them
-- Assumes nothing.
use Rattle.std.specs.Prelude.{◌≡◌, true, List, ℕ, ◌+◌, ◌*◌, ◌≤◌, length}
use Rattle.std.proofs.lemmas.List.Edits.{sets}
use Rattle.lines.specs.declared.form.Form.{Form}
use Rattle.lines.specs.Lines.{width_of}
use Rattle.lines.specs.Reads.{Got, is_got, numbers_at, lines_at, numbers_of, place_of}

pub record Fillable (f : Form) (s : List ℕ) (from : ℕ) (out : List ℕ) (base : ℕ) : Type 0 where
  pub room : base + f.columns ≤ length out
  pub good : is_got (numbers_at f s f.columns from) ≡ true

-- [02:Ask 9] the second pass stores no number that lines leave out
pub record FillableLines (k : List ℕ) (f : Form) (s : List ℕ) (m at : ℕ) (out : List ℕ) : Type 0 where
  pub room : m * width_of f ≤ length out
  pub good : is_got (lines_at k f s m at) ≡ true
  pub shown : f.hidden ≡ 0

pub record Filled (x : Got (List ℕ)) (old : List ℕ) (base : ℕ) (new : List ℕ) (n : ℕ) : Type 0 where
  pub held : new ≡ sets old base (numbers_of x)
  pub after : n ≡ place_of x
