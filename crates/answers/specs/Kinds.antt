-- The kinds of faults, listed. Assumes nothing.
use Rattle.std.specs.Prelude.{List, [], ◌∷◌}
use Rattle.answers.specs.declared.Kind.{Kind}
use Rattle.answers.specs.declared.Kind.TheVariants.{Overlap, Gap, Outside, Cycle, Late, Dangling, Double}

-- those after GAP
abbrev pub after_gap_of : List Kind
after_gap_of = Outside ∷ Cycle ∷ Late ∷ Dangling ∷ Double ∷ []

-- the kinds in the order of their codes
abbrev pub kinds : List Kind
kinds = Overlap ∷ Gap ∷ after_gap_of

-- [01:What the calls answer] Snapshot: "with GAP set aside"
abbrev pub shown_kinds : List Kind
shown_kinds = Overlap ∷ after_gap_of
