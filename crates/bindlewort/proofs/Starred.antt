-- The starred cases, proved together: what the definitions compute for each is what the document says, and the promise
-- of the call allows it. Assumes nothing.
use mathlib.Core.Path.{◌≡◌, refl, sym, ap, subst}
use mathlib.Core.List.{List, [], ◌∷◌, map}
use Prim.Native.Nat.{ℕ}
use lib.ListN.{length}
use Rattle.ground.specs.Searches.{any, least}
use Rattle.ground.specs.Sums.{sum}
use Rattle.ground.specs.Lists.{front}
use Rattle.ground.specs.Among.{All}
use Rattle.answers.specs.Answers.{Answer}
use Rattle.answers.specs.Numbers.{Numbers, says, numbers}
use Rattle.tables.specs.Tables.{node_at, edge_at, ref_at}
use Rattle.tables.specs.Rows.{set_end}
use Rattle.tables.specs.Tests.{size_rule_of, bad_node_of, bad_row_of}
use Rattle.tables.specs.Says.{sizes_say, rows_say, history_says}
use Rattle.history.specs.Faults.{held}
use Rattle.history.specs.Computed.{say, verdict}
use Rattle.verdict.specs.Says.{check_says}
use Rattle.verdict.proofs.CheckedLaws.{checked_exists}
use Rattle.snapshot.specs.Snapshot.{shown_numbers, Snapshot}
use Rattle.snapshot.specs.Walk.{each, subtree}
use Rattle.snapshot.specs.Says.{below, is_child, value_at, rows_of, instant_says, ready_says, room_says, snapshot_says}
use Rattle.snapshot.specs.Says.{written}
use Rattle.snapshot.proofs.SnapshotLaws.{says_snapshot}
use Rattle.repair.specs.Ends.{tied, next_start, last_end, new_end_of, with_ends, repaired}
use Rattle.repair.specs.Says.{settle_says, repair_says, repair_leaves}
use Rattle.repair.proofs.RepairedLaws.{repaired_of}
use Rattle.answers.specs.declared.Answered.{Answered}
use Rattle.bindlewort.specs.Given.{slices}
use Rattle.bindlewort.specs.Cases.{Case, check, snapshot, repair, sevens, Promised, cases}

-- what the definitions compute for a case: the answer, and what the call leaves
abbrev said : Case → Answer
said (check ns es rs r) = check_says (slices 0 ns es rs)
said (snapshot t ns es rs r xs) = snapshot_says (slices 0 ns es rs) t (length sevens)
said (repair ns es r left) = repair_says (slices 0 ns es [])

abbrev leaves : Case → List ℕ
leaves (check ns es rs r) = []
leaves (snapshot t ns es rs r xs) =
    let L = slices 0 ns es rs in written (snapshot_says L t (length sevens)) (rows_of (held L) t) sevens
leaves (repair ns es r left) = repair_leaves (slices 0 ns es [])

abbrev computed : Case → Numbers × List ℕ
computed c = (numbers (said c), leaves c)

-- what the document says of it
abbrev told : Answered → Numbers
told r = says r.code r.instant r.place

abbrev stated : Case → Numbers × List ℕ
stated (check ns es rs r) = (told r, [])
stated (snapshot t ns es rs r xs) = (told r, front xs sevens)
stated (repair ns es r left) = (told r, left)

allowed : (c : Case) → computed c ≡ stated c → Promised c
allowed (check ns es rs r) e = (said (check ns es rs r), checked_exists (slices 0 ns es rs), sym (ap (λ x. x.0) e))
allowed (snapshot t ns es rs r xs) e =
    let L = slices 0 ns es rs in (
      said (snapshot t ns es rs r xs),
      subst (Snapshot L t sevens (said (snapshot t ns es rs r xs))) (ap (λ x. x.1) e) (says_snapshot L t sevens),
      sym (ap (λ x. x.0) e),
    )
allowed (repair ns es r left) e = (
  said (repair ns es r left),
  repaired_of (record { answer = refl; table = sym (ap (λ x. x.1) e) }),
  sym (ap (λ x. x.0) e),
)

every : (cs : List Case) → map computed cs ≡ map stated cs → All Promised cs
every [] e = tt
every (c ∷ cs) e =
    let here : computed c ≡ stated c = cc in
    let rest : map computed cs ≡ map stated cs = cc in
    (allowed c here, every cs rest)

-- [01:Strength of the promises] "The starred cases are proved together as one table under a single theorem about the
-- definitions"
pub starred : All Promised cases
unfolding any least sum node_at edge_at ref_at set_end size_rule_of bad_node_of bad_row_of
    sizes_say rows_say history_says say verdict check_says
    each subtree shown_numbers below is_child value_at instant_says ready_says room_says snapshot_says written
    tied next_start last_end new_end_of with_ends repaired settle_says repair_says repair_leaves
starred = every cases refl
