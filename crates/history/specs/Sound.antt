-- Demand 3's sentence, from chains, presence and references in force, not from the table of faults. Assumes nothing.
use Rattle.std.specs.Prelude.{◌≡◌, ◌⊎◌, List, ℕ, ◌≤◌, ◌<◌}
use Rattle.answers.specs.declared.Fault.{Fault}
use Rattle.tables.specs.Tables.{Now, EdgeRow}
use Rattle.history.specs.Faults.{History, Into, Out, Ended, Coming, Chain, Refers, Here, Holds, First}

module _ (m : ℕ) (E : ℕ → EdgeRow) (t : ℕ) where
  -- a row in force touches n
  abbrev pub Touched : ℕ → Type 0
  Touched n = ((i : ℕ) × Into m E t n i) ⊎ ((i : ℕ) × Out m E t n i)

  -- one chain leads from a to b, and no other
  abbrev pub OneChain : ℕ → ℕ → Type 0
  OneChain a b = (is : List ℕ) × Chain m E t a b is × ((js : List ℕ) → Chain m E t a b js → js ≡ is)

module _ (H : History) (t : ℕ) where
  -- n is missing between two of its stays
  abbrev pub Missing : ℕ → Type 0
  Missing n =
      (Here H t n → ⊥) × ((i : ℕ) × Ended H.edges H.edge t n i) × ((j : ℕ) × Coming H.edges H.edge t n j)

  -- [02:Ask 1] "at most one reference in force per attribute"
  abbrev pub OneReference : Type 0
  OneReference = (j k : ℕ) → Refers H t j → Refers H t k → (H.ref j).attribute ≡ (H.ref k).attribute → j ≡ k

  -- [demand 3] "each node touched by a containment row then in force is reached from the root by one chain of such rows
  -- and no other, no node is missing between two of its stays, and each reference in force joins an attribute and a
  -- target that are both present", [02:Ask 1] "and at most one reference in force per attribute"
  pub record Sound : Type 0 where
    pub reached : (n : ℕ) → Touched H.edges H.edge t n → OneChain H.edges H.edge t 0 n
    pub unbroken : (n : ℕ) → Missing n → ⊥
    pub joined : (k : ℕ) → Refers H t k → Here H t (H.ref k).attribute × Here H t (H.ref k).target
    pub single : OneReference

-- [demand 3] "at every instant from 0 to Now"
abbrev pub AllSound : History → Type 0
AllSound H = (t : ℕ) → t ≤ Now → Sound H t

-- [demand 3] "the earliest instant at which this fails, with the kind and place that the rules fix"
abbrev pub FirstUnsound : History → ℕ → Fault → Type 0
FirstUnsound H t f = (t ≤ Now) × (Sound H t → ⊥) × ((s : ℕ) → s < t → Sound H s) × First (Holds H t) f
