-- Answers: the refusals, and what was done. Assumes nothing.
use Rattle.std.specs.Prelude.{ℕ, Result, Ok, Err}
use Rattle.answers.specs.declared.Fault.{Fault}
use Rattle.answers.specs.declared.Outcome.{Outcome}
use Rattle.answers.specs.declared.Refusal.{Refusal}
use Rattle.answers.specs.declared.Refusal.TheVariants as refusal

-- [demand 1] "ends with one answer from our list": what was done, or a refusal
abbrev pub Answer : Type 0
Answer = Result Outcome Refusal

-- [01:What the calls answer] the table, by its names: done, and the refusals. An instant stands before a place
abbrev pub Done : ℕ → ℕ → Answer
Done t p = Ok (record { instant = t; place = p })

abbrev pub Size : ℕ → Answer
Size p = Err (refusal.Size p)

abbrev pub Start : Answer
Start = Err refusal.Start

abbrev pub Node : ℕ → Answer
Node p = Err (refusal.Node p)

abbrev pub Edge : ℕ → Answer
Edge p = Err (refusal.Edge p)

abbrev pub Reference : ℕ → Answer
Reference p = Err (refusal.Reference p)

abbrev pub Faulty : ℕ → Fault → Answer
Faulty t f = Err (refusal.Faulty t f)

abbrev pub Room : ℕ → ℕ → Answer
Room t p = Err (refusal.Room t p)

abbrev pub Tie : ℕ → ℕ → Answer
Tie t p = Err (refusal.Tie t p)

abbrev pub Early : ℕ → Answer
Early t = Err (refusal.Early t)

abbrev pub Text : ℕ → Answer
Text p = Err (refusal.Text p)

abbrev pub TextRoom : ℕ → Answer
TextRoom p = Err (refusal.TextRoom p)
