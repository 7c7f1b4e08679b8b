-- The numbers of documents 01 and 02, by cases on the answer: the only definition that has them. Assumes nothing.
use Rattle.std.specs.Prelude.{Bool, true, false, ℕ, Ok, Err}
use Rattle.answers.specs.declared.Kind.{Kind}
use Rattle.answers.specs.declared.Kind.TheVariants.{Overlap, Gap, Outside, Cycle, Late, Dangling, Double}
use Rattle.answers.specs.declared.Refusal.TheVariants.{Size, Start, Node, Edge, Reference, Faulty, Room}
use Rattle.answers.specs.declared.Refusal.TheVariants.{Tie, Early, Text, TextRoom}
use Rattle.answers.specs.Answers.{Answer, Done}

-- [01:What the calls answer] "An answer has code, instant, place; unnamed parts are 0."
pub record Numbers : Type 0 where
  pub code : ℕ
  pub instant : ℕ
  pub place : ℕ

abbrev pub says : ℕ → ℕ → ℕ → Numbers
says c t p = record { code = c; instant = t; place = p }

-- [01:Faults at an instant] the table's first column; [02:Ask 1] 17
abbrev pub code_of : Kind → ℕ
code_of Overlap = 11
code_of Gap = 12
code_of Outside = 13
code_of Cycle = 14
code_of Late = 15
code_of Dangling = 16
code_of Double = 17

-- [01:What the calls answer] the table's column 'names'. A fault is a kind and a place
abbrev pub numbers : Answer → Numbers
numbers (Ok done) = says 0 done.instant done.place
numbers (Err (Size p)) = says 1 0 p
numbers (Err Start) = says 2 0 0
numbers (Err (Node p)) = says 3 0 p
numbers (Err (Edge p)) = says 4 0 p
numbers (Err (Reference p)) = says 5 0 p
numbers (Err (Faulty t f)) = says (code_of f.kind) t f.place
numbers (Err (Room t p)) = says 21 t p
numbers (Err (Tie t p)) = says 22 t p
numbers (Err (Early t)) = says 23 t 0
numbers (Err (Text p)) = says 31 0 p
numbers (Err (TextRoom p)) = says 32 0 p

-- [01:Faults at an instant] "An accepted history answers code 0, instant 0, place 0."
abbrev pub passed : Answer
passed = Done 0 0

-- a refusal; its code is not 0 (proofs/AnswerLaws.antt: refuses_code)
abbrev pub refuses : Answer → Bool
refuses (Ok done) = false
refuses (Err refusal) = true
