-- What a public call is lent, and what it returns. Assumes nothing.
use Rattle.std.specs.Prelude.{◌≡◌, List, ℕ, ◌/◌, length, Result, Ok, Err}
use Rattle.answers.specs.Answers.{Answer}
use Rattle.answers.specs.Numbers.{says, numbers, passed}
use Rattle.answers.specs.declared.Answered.{Answered}
use Rattle.answers.specs.declared.Refusal.{Refusal}
use Rattle.tables.specs.Tables.{node_width, edge_width, ref_width, Tables, lent}
use Rattle.text.specs.declared.forms.Counts.{Counts}
use Rattle.text.specs.Answers.{no_tables, counts_of, Read}
use Rattle.bindlewort.specs.declared.Reading.{Reading}

-- the tables that slices are: a count is the slice's length by the row's width, rounded down
abbrev pub slices : ℕ → List ℕ → List ℕ → List ℕ → Tables
slices start ns es rs = lent start ns (length ns / node_width) es (length es / edge_width) rs (length rs / ref_width)

-- the numbers returned are those of the answer
abbrev pub Told : Answer → Answered → Type 0
Told a r = says r.code r.instant r.place ≡ numbers a

-- [01:What the calls answer] Read text: "the answer also carries start and three counts, which are 0 on refusal"
abbrev pub answer_in : Result Counts Refusal → Answer
answer_in (Ok c) = passed
answer_in (Err e) = Err e

abbrev pub counts_in : Result Counts Refusal → Counts
counts_in (Ok c) = c
counts_in (Err e) = counts_of no_tables

-- what read text returns: its answer, the start and how many rows each table has
pub record Retold (x : Result Counts Refusal) (r : Reading) : Type 0 where
  pub answer : Told (answer_in x) r.answer
  pub start : r.start ≡ (counts_in x).start
  pub nodes : r.nodes ≡ (counts_in x).nodes
  pub edges : r.edges ≡ (counts_in x).edges
  pub refs : r.refs ≡ (counts_in x).refs

-- what is returned tells something with the property P
abbrev pub Given : {A R : Type 0} → (A → R → Type 0) → (A → Type 0) → R → Type 0
Given {A} Tells P r = (a : A) × P a × Tells a r

-- the promise P holds of the answer that is returned and of what the call left; Reads: of what read text does
abbrev pub Leaves : (Answer → List ℕ → Type 0) → Answered → List ℕ → Type 0
Leaves P r left = Given Told (λ a. P a left) r

abbrev pub Reads : List ℕ → List ℕ → List ℕ → List ℕ → Reading → List ℕ → List ℕ → List ℕ → Type 0
Reads s n e f r n' e' f' = Given Retold (λ x. Read s n e f x n' e' f') r
