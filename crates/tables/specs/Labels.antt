-- Labels as the code has them.
--   during      the test of During
--   instant_of   the instant at which an end stands; end_of: the end that a table's number means
--   label_of     the label that a row's two numbers mean
-- Assumes nothing.
use Rattle.std.specs.Prelude.{Bool, ◌&&◌, cond, ℕ, leb, eqb}
use Rattle.tables.specs.declared.label.End.{End}
use Rattle.tables.specs.declared.label.End.TheVariants.{At, Current}
use Rattle.tables.specs.declared.label.Label.{Label}
use Rattle.tables.specs.Tables.{Now}

abbrev pub during : ℕ → ℕ → ℕ → Bool
during from to t = leb from t && leb t to

-- [01:Instants and tables] "An end is either a finite instant or the word now."
abbrev pub instant_of : End → ℕ
instant_of (At t) = t
instant_of Current = Now

unfoldable pub end_of : ℕ → End
end_of to = cond (eqb to Now) Current (At to)

-- [01:The form for each place] "a row's label is a struct holding start and an end enum, At(instant) or Current"
abbrev pub label_of : ℕ → ℕ → Label
label_of from to = record { from = from; end = end_of to }
