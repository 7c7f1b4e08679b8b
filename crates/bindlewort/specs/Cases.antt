-- The starred cases of document 01, 'Both sides of the line', as one table. Assumes nothing.
use Rattle.std.specs.Prelude.{List, [], ◌∷◌, ℕ, replicate}
use Rattle.ground.specs.Lists.{front}
use Rattle.tables.specs.Tables.{Now}
use Rattle.verdict.specs.Checked.{Checked}
use Rattle.snapshot.specs.Snapshot.{Snapshot}
use Rattle.repair.specs.Repaired.{Repaired}
use Rattle.answers.specs.declared.Answered.{Answered}
use Rattle.bindlewort.specs.Given.{slices, Told, Given}

-- a call on tables of start 0, what it returns, and the numbers that a snapshot shows or that a repair leaves
pub data Case : Type 0 where
  check : (nodes edges refs : List ℕ) → Answered → Case
  snapshot : (t : ℕ) (nodes edges refs : List ℕ) → Answered → (shown : List ℕ) → Case
  repair : (nodes edges : List ℕ) → Answered → (left : List ℕ) → Case

-- the output that a snapshot is lent
abbrev pub sevens : List ℕ
sevens = replicate 20 7

-- the call's promise allows this
abbrev pub Promised : Case → Type 0
Promised (check ns es rs r) = Given Told (Checked (slices 0 ns es rs)) r
Promised (snapshot t ns es rs r xs) = Given Told (λ a. Snapshot (slices 0 ns es rs) t sevens a (front xs sevens)) r
Promised (repair ns es r left) = Given Told (λ a. Repaired (slices 0 ns es []) a left) r

abbrev answered : ℕ → ℕ → ℕ → Answered
answered code instant place = record { code = code; instant = instant; place = place }

-- the root alone; with one element; with two
abbrev alone : List ℕ
alone = 0 ∷ 1 ∷ 0 ∷ []

abbrev one : List ℕ
one = 0 ∷ 1 ∷ 0 ∷ 1 ∷ 2 ∷ 0 ∷ []

abbrev two : List ℕ
two = 0 ∷ 1 ∷ 0 ∷ 1 ∷ 2 ∷ 0 ∷ 1 ∷ 2 ∷ 0 ∷ []

-- two rows from the root to node 1
abbrev twice : ℕ → ℕ → ℕ → ℕ → List ℕ
twice from to from' to' = 0 ∷ 1 ∷ from ∷ to ∷ 0 ∷ 1 ∷ from' ∷ to' ∷ []

-- H: its nodes, its containment rows but for row 2's end and row 3's start, and its reference but for its end
abbrev h_nodes : List ℕ
h_nodes = 0 ∷ 1 ∷ 0 ∷ 1 ∷ 2 ∷ 0 ∷ 1 ∷ 2 ∷ 0 ∷ 1 ∷ 3 ∷ 0 ∷ 1 ∷ 4 ∷ 0 ∷ 4 ∷ 5 ∷ 0 ∷ []

abbrev h_edges : ℕ → ℕ → List ℕ
h_edges to from =
    0 ∷ 1 ∷ 0 ∷ Now ∷ 0 ∷ 2 ∷ 0 ∷ Now ∷ 1 ∷ 3 ∷ 10 ∷ to ∷ 2 ∷ 3 ∷ from ∷ 99 ∷ 1 ∷ 4 ∷ 20 ∷ 120 ∷ 4 ∷ 5 ∷ 20 ∷ 120 ∷ []

abbrev h_ref : ℕ → List ℕ
h_ref to = 5 ∷ 3 ∷ 20 ∷ to ∷ []

-- the root and the two beds of H
abbrev beds : List ℕ
beds = 0 ∷ Now ∷ Now ∷ 1 ∷ 0 ∷ Now ∷ 2 ∷ 0 ∷ Now ∷ []

abbrev pub cases : List Case
cases =
    -- "Check of H: 16, 100, 0. * H with the reference ending at 99: 0, 0, 0."
    check h_nodes (h_edges 49 50) (h_ref 120) (answered 16 100 0)
    ∷ check h_nodes (h_edges 49 50) (h_ref 99) (answered 0 0 0)
    -- "H, containment row 3 from 45: check 11, 45, 3; repair makes row 2 end at 44, place 1."
    ∷ check h_nodes (h_edges 49 45) (h_ref 120) (answered 11 45 3)
    ∷ repair h_nodes (h_edges 49 45) (answered 0 0 1) (h_edges 44 45)
    -- "H, row 3 from 52: check 12, 50, 3, though 16 holds at 50 too. * Snapshot of it at 50: 16, place 0."
    ∷ check h_nodes (h_edges 49 52) (h_ref 120) (answered 12 50 3)
    ∷ snapshot 50 h_nodes (h_edges 49 52) (h_ref 120) (answered 16 50 0) []
    -- "Snapshot of H at 50, six rows: (0,N,N) (1,0,N) (4,1,N) (5,4,3) (2,0,N) (3,2,N)."
    ∷ snapshot 50 h_nodes (h_edges 49 50) (h_ref 120) (answered 0 50 6)
    (0 ∷ Now ∷ Now ∷ 1 ∷ 0 ∷ Now ∷ 4 ∷ 1 ∷ Now ∷ 5 ∷ 4 ∷ 3 ∷ 2 ∷ 0 ∷ Now ∷ 3 ∷ 2 ∷ Now ∷ [])
    -- "Snapshot of H at 9, three rows: (0,N,N) (1,0,N) (2,0,N). At 100: 16. At 121: the same three."
    ∷ snapshot 9 h_nodes (h_edges 49 50) (h_ref 120) (answered 0 9 3) beds
    ∷ snapshot 100 h_nodes (h_edges 49 50) (h_ref 120) (answered 16 100 0) []
    ∷ snapshot 121 h_nodes (h_edges 49 50) (h_ref 120) (answered 0 121 3) beds
    -- "Elements 1 and 2, rows 0→1 [0,14], 1→2 [10,20], 2→1 [15,30]: check 14, 15, 1."
    ∷ check two (0 ∷ 1 ∷ 0 ∷ 14 ∷ 1 ∷ 2 ∷ 10 ∷ 20 ∷ 2 ∷ 1 ∷ 15 ∷ 30 ∷ []) [] (answered 14 15 1)
    -- "Rows 0→1 [0,10], 1→2 [5,12]: check 13, 11, 1."
    ∷ check two (0 ∷ 1 ∷ 0 ∷ 10 ∷ 1 ∷ 2 ∷ 5 ∷ 12 ∷ []) [] (answered 13 11 1)
    -- "Rows into one child [0,Now] and [5,9]: repair gives [0,4] and [5,Now], place 2."
    ∷ repair one (twice 0 Now 5 9) (answered 0 0 2) (twice 0 4 5 Now)
    -- "Rows into one child [5,9] and [5,7], in that order, as rows 0 and 1: repair 22, instant 5, place 1."
    ∷ repair one (twice 5 9 5 7) (answered 22 5 1) (twice 5 9 5 7)
    -- "Root alone: check 0; snapshot at the start has one row."
    ∷ check alone [] [] (answered 0 0 0)
    ∷ snapshot 0 alone [] [] (answered 0 0 1) (0 ∷ Now ∷ Now ∷ [])
    ∷ []
