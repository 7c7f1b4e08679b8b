use mathlib.Core.Bool.{Bool}
use mathlib.Core.List.{List}
use mathlib.Core.Path.{◌≡◌, ap, ◌∙◌}
use Prim.Native.Nat.{ℕ, ◌≤◌}
use lib.ListN.{length}
use Rattle.tables.specs.Tables.{Now}
use Rattle.lines.specs.Lines.{end_text, number_text}
use Rattle.lines.specs.Sizes.{most_number, Long}
use Rattle.lines.proofs.WriteLaws.{number_short}
use native.Mathlib.Omega.{arith}
use Rattle.lines.proofs.write.number_len.Goals as goal

-- the bytes x are those of the number
long : (last : Bool) (v : ℕ) {x : List ℕ} (n : ℕ) → v ≤ Now → number_text last v ≡ x → n ≡ length x
    → Long (number_text last v) most_number n
long last v n h e q =
    let l = ap length e in record { count = omega arith; small = omega (arith, number_short last v h) }

pub returns-in-At : goal.returns-in-At
returns-in-At c =
    long _ _ _ (omega arith) (c.written_as.ensures ∙ ap end_text c.in-At.is)
    c.decimal_width.ensures
