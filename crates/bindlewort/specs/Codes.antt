-- What the theorems say of the calls: the codes that each can give, each exactly under its condition. Assumes nothing.
use Rattle.std.specs.Prelude.{◌≡◌, ◌↔◌, Result, true, List, [], ◌∷◌, ◌++◌, map, ℕ, ◌*◌, take}
use Rattle.ground.specs.Among.{is_among}
use Rattle.answers.specs.Answers.{Answer}
use Rattle.answers.specs.Answers.{Size, Start, Node, Edge, Reference, Room, Tie, Early, Text}
use Rattle.answers.specs.Answers.{TextRoom}
use Rattle.answers.specs.Numbers.{code_of, numbers, passed}
use Rattle.answers.specs.Kinds.{kinds, shown_kinds}
use Rattle.tables.specs.Tables.{node_width, edge_width, ref_width, Tables}
use Rattle.text.specs.declared.forms.Counts.{Counts}
use Rattle.text.specs.Answers.{Read}
use Rattle.answers.specs.declared.Answered.{Answered}
use Rattle.answers.specs.declared.Refusal.{Refusal}
use Rattle.bindlewort.specs.declared.Reading.{Reading}
use Rattle.bindlewort.specs.Given.{slices, Told, answer_in}

-- the codes of answers, whatever their instants and places
abbrev codes_of : List Answer → List ℕ
codes_of = map (λ a. (numbers a).code)

abbrev pub rule_codes : List ℕ
rule_codes = codes_of (passed ∷ Size 0 ∷ Start ∷ Node 0 ∷ Edge 0 ∷ Reference 0 ∷ [])

-- [01:What the calls answer] "Check: 1, 2, 3, 4, 5, then faults."; [02:Ask 1] "17 after 16, in check and snapshot"
abbrev pub check_codes : List ℕ
check_codes = rule_codes ++ map code_of kinds

-- [01:What the calls answer] "Snapshot at t: 1 to 5 in order, 23, then the fault at t .. with GAP set aside, .. 21";
-- [02:Ask 8] "The other refusals keep their order."
abbrev pub snapshot_codes : List ℕ
snapshot_codes = rule_codes ++ (codes_of (Early 0 ∷ Room 0 0 ∷ []) ++ map code_of shown_kinds)

-- [01:What the calls answer] "Repair ..: 1 to 4 in order, then 22"
abbrev pub repair_codes : List ℕ
repair_codes = codes_of (passed ∷ Size 0 ∷ Start ∷ Node 0 ∷ Edge 0 ∷ Tie 0 0 ∷ [])

-- [01:What the calls answer] "Write text ..: 1, then 32."
abbrev pub write_codes : List ℕ
write_codes = codes_of (passed ∷ Size 0 ∷ TextRoom 0 ∷ [])

-- [01:What the calls answer] "Read text: 31, then 21"
abbrev pub read_codes : List ℕ
read_codes = codes_of (passed ∷ Text 0 ∷ Room 0 0 ∷ [])

-- a promise allows an answer, whatever is left
abbrev pub Allows : {B : Type 0} → (Answer → B → Type 0) → Answer → Type 0
Allows {B} P a = (left : B) × P a left

abbrev pub ReadAnswer : List ℕ → List ℕ → List ℕ → List ℕ → Answer
    → Result Counts Refusal × List ℕ × List ℕ × List ℕ → Type 0
ReadAnswer s n e f a (x, n', e', f') = Read s n e f x n' e' f' × (answer_in x ≡ a)

-- [01:What the calls answer] "Each is given exactly under its condition"
pub record Exactly (codes : List ℕ) (P : Answer → Type 0) (r : Answered) : Type 0 where
  pub among : is_among codes r.code ≡ true
  pub exact : (a : Answer) → Told a r ↔ P a

-- the slices that a caller of read text finds at the fronts of what was lent, by the start and the counts returned
abbrev pub found : Reading → List ℕ → List ℕ → List ℕ → Tables
found r n e f =
    slices r.start (take (r.nodes * node_width) n) (take (r.edges * edge_width) e) (take (r.refs * ref_width) f)
