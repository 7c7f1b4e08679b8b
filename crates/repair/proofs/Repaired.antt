-- The theorems on repair, each of a call that answered r and left the containment table `left`: what the contract
-- promises is all that they ask for. `rows` is the count of its rows.
--   repaired_unique   two outcomes that the contract allows are the same
--   refused_frame     a refused call leaves the table as it was
--   only_ends         parents, children, starts and the order of rows stay, whatever the answer
--   tie_named         where the rules hold and a row is tied, code 22 names the smallest such row and its start
--   done_tells        code 0 is given exactly if the tables obey the rules and no row is tied
-- and where the call answers code 0:
--   done_place        the place is the number of rows whose end differs
--   done_ends         each row ends one instant before the next later start, the latest at its child's largest end
--   done_one          throughout a child's stay exactly one row into it is in force, the one that started last
--   done_last         a child's last end stays
--   done_no_overlap, done_no_gap   codes 11 and 12 hold nowhere afterwards
--   done_again        repairing again changes nothing
-- Assumes nothing.
use mathlib.Core.Path.{◌≡◌, refl, sym, ap, subst, ◌∙◌}
use mathlib.Core.Logic.{◌↔◌}
use mathlib.Core.Bool.{true, false, false≢true}
use mathlib.Core.List.{List}
use Prim.Native.Nat.{ℕ, ◌≤◌, ◌<◌}
use lib.ListN.{length}
use Rattle.ground.specs.Least.{Before, Smallest}
use Rattle.ground.proofs.TestLaws.{by_test}
use Rattle.answers.specs.Answers.{Answer}
use Rattle.answers.specs.Answers.{Done, Tie}
use Rattle.answers.specs.Numbers.{refuses}
use Rattle.tables.specs.Tables.{edge_at, Tables, table, node_in, edge_in}
use Rattle.tables.specs.Rows.{HasEdges}
use Rattle.tables.specs.Rules.{EdgesSize, EdgeRule, Obeys}
use Rattle.history.specs.Faults.{Overlap, Gap}
use Rattle.history.proofs.RuledLaws.{obeys_lent}
use Rattle.repair.specs.Repaired.{Tied, Largest, NewEnd, changed, OnlyEnds, Mended, Repaired, ruled_out, tie}
use Rattle.repair.specs.Repaired.{mended}
use Rattle.repair.specs.Ends.{tied, repaired}
use Rattle.repair.specs.Stays.{Stay, OneLatest}
use Rattle.repair.proofs.TieLaws.{untied_tells}
use Rattle.repair.proofs.SaysLaws.{changed_none}
use Rattle.repair.proofs.LeftLaws.{left_right, left_last, left_again, left_untied, left_one, left_no_overlap}
use Rattle.repair.proofs.LeftLaws.{left_no_gap}
use Rattle.repair.proofs.RepairedLaws.{obeys_mended, outcome_of, mended_unique}

pub repaired_unique : {L : Tables} {r q : Answer} {a b : List ℕ} → Repaired L r a → Repaired L q b → (r ≡ q) × (a ≡ b)
repaired_unique x y =
    let s = outcome_of x in
    let t = outcome_of y in
    (s.answer ∙ sym t.answer, s.table ∙ sym t.table)

pub refused_frame : {L : Tables} {r : Answer} {left : List ℕ} → Repaired L r left → refuses r ≡ true
    → left ≡ L.edges.numbers
refused_frame (ruled_out g t) e = refl
refused_frame (tie o l) e = refl
refused_frame (mended o none x) e = absurd (false≢true e)

-- what the words say where the call answers code 0
record Success (L : Tables) (r : Answer) (left : List ℕ) : Type 0 where
  obeys : Obeys L
  untied : Before (Tied (edge_in L)) L.edges.count
  table : Mended L.edges left
  answer : r ≡ Done 0 (changed (edge_in L) (edge_at left) L.edges.count)

success : {L : Tables} {r : Answer} {left : List ℕ} → Repaired L r left → refuses r ≡ false → Success L r left
success (ruled_out g t) e = absurd (false≢true (sym e ∙ t))
success (tie o l) e = absurd (false≢true (sym e))
success (mended o none x) e = record { obeys = o; untied = none; table = x; answer = refl }

-- the tables where the containment table holds other numbers
abbrev pub with_edges : Tables → List ℕ → Tables
with_edges L left = record { start = L.start; nodes = L.nodes; edges = table left L.edges.count; refs = L.refs }

module _ {L : Tables} {r : Answer} {left : List ℕ} (x : Repaired L r left) where
  abbrev rows : ℕ
  rows = L.edges.count

  abbrev es : List ℕ
  es = L.edges.numbers

  pub only_ends : (length left ≡ length es) × OnlyEnds (edge_at es) (edge_at left)
  only_ends =
      by_test (refuses r)
      (λ t. rw (refused_frame x t) (refl, λ i. refl))
      (λ f. ((success x f).table.size, (success x f).table.frame))

  pub tie_named : Obeys L → {i : ℕ} → Smallest (Tied (edge_at es)) rows i → r ≡ Tie (edge_at es i).from i
  tie_named o l = (repaired_unique x (tie o l)).0

  pub done_tells : (refuses r ≡ false) ↔ (Obeys L × Before (Tied (edge_at es)) rows)
  done_tells = (
    λ f. ((success x f).obeys, (success x f).untied),
    λ (o, none). ap refuses (repaired_unique x (mended o none (obeys_mended L o))).0,
  )

  module _ (ok : refuses r ≡ false) where
    -- what the laws of the computed table ask for, and that it is the one that is left
    given : Success L r left
    given = success x ok

    obeys : Obeys L
    obeys = given.obeys

    is_repaired : left ≡ repaired es rows
    is_repaired = mended_unique L.edges given.table (obeys_mended L obeys)

    has : HasEdges es rows
    has = (obeys_lent L obeys).edge_rows

    right : (i : ℕ) → i < rows → (edge_at es i).from ≤ (edge_at es i).to
    right i h = (obeys.edge_rule i h).label.ends

    none : (i : ℕ) → i < rows → tied (edge_at es) i ≡ false
    none = (untied_tells (edge_at es) rows).1 given.untied

    pub done_place : r ≡ Done 0 (changed (edge_at es) (edge_at left) rows)
    done_place = given.answer

    pub done_ends : (i : ℕ) → i < rows → NewEnd (edge_at es) rows i (edge_at left i).to
    done_ends = given.table.ends

    pub done_one : (c t : ℕ) → Stay (edge_at es) rows c t → OneLatest (edge_at es) (edge_at left) rows c t
    done_one = rw is_repaired (left_one es rows has right none)

    pub done_last : (c e : ℕ) → Largest (edge_at es) rows c e → Largest (edge_at left) rows c e
    done_last = rw is_repaired (left_last es rows has right)

    pub done_no_overlap : (t c : ℕ) → Overlap rows (edge_at left) t c → ⊥
    done_no_overlap = rw is_repaired (left_no_overlap es rows has right none)

    pub done_no_gap : (t c : ℕ) → Gap rows (edge_at left) t c → ⊥
    done_no_gap = rw is_repaired (left_no_gap es rows has right none)

    -- the table that is left obeys the rules, none of its rows is tied, and it is its own repair
    ends_right : (i : ℕ) → i < rows → (edge_at left i).from ≤ (edge_at left i).to
    ends_right = rw is_repaired (left_right es rows has right)

    rule_stays : (i : ℕ) → i < rows → EdgeRule L.start L.nodes.count (node_in L) (edge_at left i)
    rule_stays i h =
        let rule = obeys.edge_rule i h in
        let label = rule.label in
        let same = only_ends.1 i in
        rw same
        (record {
          parent = rule.parent;
          child = rule.child;
          allowed = rule.allowed;
          label = record { begins = label.begins; ends = rw same at (ends_right i h); not_now = label.not_now };
        })

    size_stays : EdgesSize (table left rows)
    size_stays =
        let size = obeys.sizes.edges in
        record { whole = only_ends.0 ∙ size.whole; least = size.least; most = size.most }

    obeys_still : Obeys (with_edges L left)
    obeys_still =
        record {
          sizes = record { nodes = obeys.sizes.nodes; edges = size_stays; refs = obeys.sizes.refs };
          start_rule = obeys.start_rule;
          node_rule = obeys.node_rule;
          edge_rule = rule_stays;
          ref_rule = obeys.ref_rule;
        }

    untied_still : Before (Tied (edge_at left)) rows
    untied_still = (untied_tells (edge_at left) rows).0 (rw is_repaired (left_untied es rows has right none))

    own_repair : repaired left rows ≡ left
    own_repair = rw is_repaired (left_again es rows has right)

    mended_still : Mended (table left rows) left
    mended_still = subst (Mended (table left rows)) own_repair (obeys_mended (with_edges L left) obeys_still)

    pub done_again : Repaired (with_edges L left) (Done 0 0) left
    done_again =
        subst (λ n. Repaired (with_edges L left) (Done 0 n) left) (changed_none (edge_at left) rows)
        (mended obeys_still untied_still mended_still)
