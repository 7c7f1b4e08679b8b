-- The faults and the verdict, computed. That they are what the relations say is proved in proofs/ComputedLaws.antt and
-- proofs/VerdictLaws.antt.
--   is_into, is_out        row i leads into n, out of n, and is in force
--   has_ended, is_coming   row i leads into n, and ended before t, starts after t
--   is_present, is_here    n is present; in a history
--   reaches              a chain of at most k rows leads from one node to another
--   overlaps, has_gap, is_outside, cycles   the lines of the table that are of nodes
--   refers_from           reference row k is from a node, and in force; doubles: two of the first m are
--   is_referring          reference row k is in force
--   is_astray             reference row k is in force, and the node at one of its ends is not present
--   holds                the table: a fault of a kind holds at t, at a place
--   line_says             a line of the table as an answer, with its smallest place; say: line after line
--   faults_say            the first fault at t as an answer; shown_say: with GAP set aside
--   turns                the instants at which labels start, and those past their ends
--   instants             the change instants, listed
--   faulty               there is a fault at t, and t is an instant
--   soonest              the smallest number of a list at which a test passes
--   said_at               the answer at t, which may be one past Now
--   verdict              the faults part of check's answer
-- Assumes nothing.
use Rattle.std.specs.Prelude.{Bool, not, cond, ◌&&◌, ◌||◌, List, [], ◌∷◌, ◌++◌, ℕ, zero, suc, ◌+◌, min, leb, ltb, eqb}
use Rattle.ground.specs.Searches.{any}
use Rattle.answers.specs.declared.Kind.{Kind}
use Rattle.answers.specs.declared.Kind.TheVariants.{Overlap, Gap, Outside, Cycle, Late, Dangling, Double}
use Rattle.answers.specs.Answers.{Answer}
use Rattle.answers.specs.Answers.{Faulty}
use Rattle.answers.specs.Kinds.{kinds, shown_kinds}
use Rattle.answers.specs.Refusals.{fault, ◌⨾◌}
use Rattle.answers.specs.Numbers.{refuses, passed}
use Rattle.tables.specs.Rows.{Side}
use Rattle.tables.specs.Rows.{Attribute, Target}
use Rattle.tables.specs.Tables.{Now, EdgeRow, RefRow}
use Rattle.tables.specs.Labels.{during}
use Rattle.tables.specs.Rows.{side_of}
use Rattle.tables.specs.Says.{smallest}
use Rattle.history.specs.Faults.{History}
use Rattle.history.specs.Places.{places}

-- what a `let` binds waits: a search stops at the first that passes
module _ (m : ℕ) (E : ℕ → EdgeRow) (t : ℕ) where
  abbrev pub is_into : ℕ → ℕ → Bool
  is_into n i = eqb (E i).child n && during (E i).from (E i).to t

  abbrev pub is_out : ℕ → ℕ → Bool
  is_out n i = eqb (E i).parent n && during (E i).from (E i).to t

  abbrev pub has_ended : ℕ → ℕ → Bool
  has_ended n i = eqb (E i).child n && ltb (E i).to t

  abbrev pub is_coming : ℕ → ℕ → Bool
  is_coming n i = eqb (E i).child n && ltb t (E i).from

  abbrev pub is_present : ℕ → ℕ → Bool
  is_present start n = eqb n 0 && leb start t || not (eqb n 0) && any (is_into n) m

  -- a chain of at most k rows leads from a to b
  abbrev pub reaches : ℕ → ℕ → ℕ → Bool
  reaches zero a b = eqb a b
  reaches (suc k) a b =
      let further = any (λ i. let rest = reaches k a (E i).parent in is_into b i && rest) m in
      eqb a b || further

  abbrev pub overlaps : ℕ → Bool
  overlaps n = any (λ j. let sooner = any (is_into n) j in is_into n j && sooner) m

  abbrev pub has_gap : ℕ → Bool
  has_gap n = not (eqb n 0) && (not (any (is_into n) m) && (any (has_ended n) m && any (is_coming n) m))

  abbrev pub is_outside : ℕ → Bool
  is_outside n = not (eqb n 0) && (any (is_out n) m && not (any (is_into n) m))

  -- a cycle through n has no more rows than there are nodes
  abbrev pub cycles : ℕ → ℕ → Bool
  cycles nodes n = any (λ i. let back = reaches nodes n (E i).parent in is_into n i && back) m

module _ (R : ℕ → RefRow) (t : ℕ) where
  abbrev pub refers_from : ℕ → ℕ → Bool
  refers_from a k = eqb (R k).attribute a && during (R k).from (R k).to t

  abbrev pub doubles : ℕ → ℕ → Bool
  doubles m a = any (λ k. let sooner = any (refers_from a) k in refers_from a k && sooner) m

module _ (H : History) (t : ℕ) where
  abbrev pub is_referring : ℕ → Bool
  is_referring k = ltb k H.refs && during (H.ref k).from (H.ref k).to t

  abbrev pub is_here : ℕ → Bool
  is_here = is_present H.edges H.edge t H.start

  abbrev pub is_astray : Side → ℕ → Bool
  is_astray side k = is_referring k && not (is_here (side_of side (H.ref k)))

  abbrev pub holds : Kind → ℕ → Bool
  holds Overlap = overlaps H.edges H.edge t
  holds Gap = has_gap H.edges H.edge t
  holds Outside = is_outside H.edges H.edge t
  holds Cycle = cycles H.edges H.edge t H.nodes
  holds Late = is_astray Attribute
  holds Dangling = is_astray Target
  holds Double = doubles H.ref t H.refs

  -- one line of the table: its smallest place
  abbrev pub line_says : Kind → Answer
  line_says k = smallest (λ p. Faulty t (fault k p)) (holds k) (places H k)

  unfoldable pub say : List Kind → Answer
  say [] = passed
  say (k ∷ ks) = line_says k ⨾ say ks

  abbrev pub faults_say : Answer
  faults_say = say kinds

  abbrev pub shown_say : Answer
  shown_say = say shown_kinds

-- the starts of the first n labels, and the instants past their ends
abbrev pub turns : (ℕ → ℕ) → (ℕ → ℕ) → ℕ → List ℕ
turns from to zero = []
turns from to (suc n) = from n ∷ ((to n + 1) ∷ turns from to n)

abbrev pub instants : History → List ℕ
instants H =
    turns (λ i. (H.edge i).from) (λ i. (H.edge i).to) H.edges
    ++ turns (λ k. (H.ref k).from) (λ k. (H.ref k).to) H.refs

abbrev pub faulty : History → ℕ → Bool
faulty H t = leb t Now && refuses (faults_say H t)

-- the smallest number of a list at which a test passes, or one past Now
abbrev pub soonest : (ℕ → Bool) → List ℕ → ℕ
soonest p [] = suc Now
soonest p (x ∷ xs) = let rest = soonest p xs in cond (p x) (min x rest) rest

abbrev pub said_at : History → ℕ → Answer
said_at H t = cond (leb t Now) (faults_say H t) passed

unfoldable pub verdict : History → Answer
verdict H = said_at H (soonest (faulty H) (instants H))
