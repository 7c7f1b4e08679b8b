-- What the function that asks for readiness answers and leaves, for whatever is shown or counted of an instant.
-- proofs/ReadyLaws.antt: `ready_says` is the one answer that Readiness allows, and refuses exactly what is not Ready.
--   Readiness   a refusal of what is not ready, or that nothing is refused
--   Showing     the tables are ready, h is the history that they hold, and up has the parents of the instant, a slot
--               for each node
--   Readied     a history that can be shown, or the refusal
-- Assumes nothing.
use Rattle.std.specs.Prelude.{◌≡◌, List, ℕ, Result, Ok, Err}
use Rattle.answers.specs.declared.Refusal.{Refusal}
use Rattle.answers.specs.Answers.{Answer}
use Rattle.answers.specs.Numbers.{passed}
use Rattle.tables.specs.Tables.{Tables}
use Rattle.history.specs.declared.ruled.History.{History}
use Rattle.history.specs.Faults.{held}
use Rattle.history.specs.Taken.{held_in}
use Rattle.faults.specs.Judged.{Seen}
use Rattle.snapshot.specs.Snapshot.{Ready, Unready}

module _ (L : Tables) (t : ℕ) where
  pub data Readiness : Answer → Type 0 where
    refused : {a : Answer} → Unready L t a → Readiness a
    is_ready : Ready L t → Readiness passed

  pub record Showing (h : History) (up : List ℕ) : Type 0 where
    pub ready : Ready L t
    pub holds : held_in h ≡ held L
    pub seen : Seen (held L) t up

  abbrev pub Readied : Result History Refusal → List ℕ → Type 0
  Readied (Ok h) up = Showing h up
  Readied (Err e) up = Unready L t (Err e)
