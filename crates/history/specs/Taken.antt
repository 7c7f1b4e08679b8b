-- The history that the code makes of tables.
--   held_in   the history of a value of src/ruled.rt
--   Taken     tables that obey the rules are the history that they hold, and others are refused
-- Assumes nothing.
use Rattle.std.specs.Prelude.{◌≡◌, Result, Ok, Err}
use Rattle.answers.specs.declared.Refusal.{Refusal}
use Rattle.tables.specs.Tables.{Tables}
use Rattle.tables.specs.Rules.{Obeys}
use Rattle.tables.specs.Says.{history_says}
use Rattle.history.specs.Faults.{history_of, held}
use Rattle.history.specs.Faults.{History as Meant}
use Rattle.history.specs.declared.ruled.History.{History}

abbrev pub held_in : History → Meant
held_in h =
    history_of h.start h.nodes h.edges.numbers h.edges.count h.refs.numbers h.refs.count

abbrev pub Taken : Tables → Result History Refusal → Type 0
Taken L (Ok h) = Obeys L × (held_in h ≡ held L) × (h.edges ≡ L.edges) × (h.refs ≡ L.refs)
Taken L (Err e) = history_says L ≡ Err e
