-- Refusals in their order, computed.
--   fault      the fault of a kind at a place
--   when t a   a where the test passes, else passed
--   a ⨾ b      a where it refuses, else b. A row of these gives the first refusal that applies
-- Assumes nothing.
use Rattle.std.specs.Prelude.{Bool, cond, ℕ}
use Rattle.answers.specs.declared.Fault.{Fault}
use Rattle.answers.specs.declared.Kind.{Kind}
use Rattle.answers.specs.Answers.{Answer}
use Rattle.answers.specs.Numbers.{passed, refuses}

abbrev pub fault : Kind → ℕ → Fault
fault k p = record { kind = k; place = p }

abbrev pub when : Bool → Answer → Answer
when t a = cond t a passed

-- [01:What the calls answer] "Each is given exactly under its condition, the first in the order stated."
infixr 20 ◌⨾◌
abbrev pub ◌⨾◌ : Answer → Answer → Answer
a ⨾ b = cond (refuses a) a b
