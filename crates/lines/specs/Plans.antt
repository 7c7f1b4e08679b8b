-- What lines a text has, in their order, where lines that were read may say what comes after them. proofs/PlanLaws.antt
-- (`plan_of`, `plan_is`): what is read is that of which the text has the lines.
--   Plan A           a plan of lines from which an A is read: `stop a` has no more lines; `lines k f m go` has m
--                    lines with the key k and the form f, and goes on with what `go` makes of their numbers
--   plan_then p go    the lines of p, and then those that `go` makes of what p read
--   plan_at p s i     what is read by the plan p in s from place i on
--   LaysOut p a ls   the lines ls are by the plan p, each number within its bounds, and a is what they say
-- Assumes nothing.
use Rattle.std.specs.Prelude.{◌≡◌, List, [], ◌++◌, ℕ, ◌*◌, length}
use Rattle.lines.specs.declared.form.Form.{Form}
use Rattle.lines.specs.Lines.{width_of, lines_of, LinesOk}
use Rattle.lines.specs.Reads.{Got, got, and_then, lines_at}

pub data Plan (A : Type 0) : Type 0 where
  stop : A → Plan A
  lines : List ℕ → Form → ℕ → (List ℕ → Plan A) → Plan A

unfoldable pub plan_then : {A B : Type 0} → Plan A → (A → Plan B) → Plan B
plan_then (stop a) go = go a
plan_then (lines k f m next) go = lines k f m (λ vs. plan_then (next vs) go)

unfoldable pub plan_at : {A : Type 0} → Plan A → List ℕ → ℕ → Got A
plan_at (stop a) s i = got a i
plan_at (lines k f m next) s i = and_then (lines_at k f s m i) (λ vs n. plan_at (next vs) s n)

abbrev pub LaysOut : {A : Type 0} → Plan A → A → List (List ℕ) → Type 0
LaysOut (stop b) a ls = (b ≡ a) × (ls ≡ [])
LaysOut (lines k f m next) a ls =
    (vs : List ℕ)
    × (rest : List (List ℕ))
    × LinesOk f m vs
    × (length vs ≡ m * width_of f)
    × LaysOut (next vs) a rest
    × (ls ≡ lines_of k f m vs ++ rest)
