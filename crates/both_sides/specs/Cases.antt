-- What the program counts.
--   Counted    1 where a property holds, as that a call's promise allows what is stated; else 0
--   OfForm     a text that is read: that of some tables
--   CanWrite   tables within the sizes, for whose text an output has room
--   elements   the numbers of a table of a root and elements
-- Assumes nothing.
use Rattle.std.specs.Prelude.{◌≡◌, cond, ◌↔◌, List, ℕ, ◌%◌, ◌≤◌, eqb, length}
use Rattle.tables.specs.Tables.{node_width, Tables}
use Rattle.tables.specs.Rules.{Sizes}
use Rattle.text.specs.Text.{text_of}
use Rattle.text.specs.Answers.{Accepted}

-- [01:Strength of the promises] "a program runs and compares the others": P holds exactly where the program counts the
-- case
pub record Counted (P : Type 0) (r : ℕ) : Type 0 where
  pub most : r ≤ 1
  pub one : (r ≡ 1) ↔ P

-- [01:The text] the form: the text of tables within the sizes
abbrev pub OfForm : List ℕ → Type 0
OfForm s = (t : Tables) × Accepted s t

-- [01:What the calls answer] Write text "judges table sizes only: 1, then 32"
abbrev pub CanWrite : Tables → List ℕ → Type 0
CanWrite L out = Sizes L × (length (text_of L) ≤ length out)

-- [01:Both sides of the line] "nodes other than node 0 are elements": kind 0 or 1, label 1, value 0
abbrev pub elements : ℕ → ℕ
elements k = cond (eqb k 0) 0 (cond (eqb (k % node_width) 2) 0 1)
