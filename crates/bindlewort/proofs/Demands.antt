-- What the promises of the public calls come to. `given` is what a call ensures of what it returned, r, and of what it
-- left; each theorem cites the crates below. Assumes nothing.
use mathlib.Core.Path.{◌≡◌, refl, ap, ◌∙◌}
use mathlib.Core.Logic.{◌≢◌, ◌↔◌}
use mathlib.Core.List.{List, []}
use Prim.Native.Nat.{ℕ, ◌≤◌}
use lib.ListN.{length, take}
use Rattle.ground.specs.Lists.{front}
use Rattle.ground.specs.Among.{All}
use Rattle.std.specs.Prelude.{Ok}
use Rattle.answers.specs.declared.Fault.{Fault}
use Rattle.answers.specs.Answers.{Done, Faulty}
use Rattle.answers.specs.Numbers.{numbers, passed}
use Rattle.tables.specs.Tables.{Now, edge_at, Tables, table, edge_in}
use Rattle.tables.specs.Rules.{Obeys}
use Rattle.history.specs.Sound.{OneReference, AllSound, FirstUnsound}
use Rattle.history.specs.Faults.{History, held, Verdict}
use Rattle.history.specs.Document.{RootedTree, Document}
use Rattle.history.proofs.RuledLaws.{obeys_ruled, held_ends}
use Rattle.history.proofs.VerdictLaws.{accepted_document, accepted_sound}
use Rattle.verdict.specs.Checked.{Checked, judged}
use Rattle.verdict.proofs.CheckedLaws.{checked_verdict, checked_unique}
use Rattle.snapshot.specs.Snapshot.{ShownRow, shown_numbers, ShownRows, Snapshot}
use Rattle.snapshot.specs.Exact.{Exact}
use Rattle.snapshot.proofs.Contained.{contained, refused_frame as shown-frame, snapshot_unique as shown-unique}
use Rattle.repair.specs.Stays.{Stay, OneLatest}
use Rattle.repair.specs.Repaired.{Repaired}
use Rattle.repair.proofs.Repaired.{repaired_unique, refused_frame as repaired-frame, done_one}
use Rattle.text.specs.Text.{Small}
use Rattle.text.specs.Answers.{Written, counts_of, Fits}
use Rattle.text.proofs.PromiseLaws.{write_unique as written-unique, write_frame as written-frame, read_written}
use Rattle.text.proofs.PromiseLaws.{read_unique as taken-unique, read_fronts, write_read}
use Rattle.answers.specs.declared.Answered.{Answered}
use Rattle.bindlewort.specs.declared.Reading.{Reading}
use Rattle.bindlewort.specs.Given.{Told, answer_in, Retold, Given, Leaves, Reads}
use Rattle.bindlewort.specs.Codes.{check_codes, snapshot_codes, repair_codes, write_codes, read_codes, Allows}
use Rattle.bindlewort.specs.Codes.{ReadAnswer, found, Exactly}
use Rattle.bindlewort.specs.Cases.{Promised, cases}
use Rattle.bindlewort.proofs.GivenLaws.{retold_same, retold_nothing, retold_frame, retold_done, told_refuses, told_done, written_place}
use Rattle.bindlewort.proofs.GivenLaws.{given_unique, given_exactly, leaves_exactly, leaves_frame, leaves_unique}
use Rattle.bindlewort.proofs.GivenLaws.{found_fronts, verdict_unsound}
use Rattle.bindlewort.proofs.CodeLaws.{check_among, snapshot_among, repair_among, write_among, read_among}
use Rattle.bindlewort.proofs.CodeLaws.{read_answer_unique}
use Rattle.bindlewort.proofs.Starred.{starred}

-- [demand 1] "Every public call takes tables, numbers and text of every kind, does its own checking and ends with one
-- answer from our list. A refused call leaves each table and buffer lent to it holding what it held before." No call
-- has a `requires`, and the proof of a function is one of its ending too. `-exactly`: the code is on the call's list,
-- and an answer is given exactly under its condition. `-frame`: a refused call leaves what it was lent. `-unique`:
-- [01:Strength of the promises] "two outcomes allowed by a contract coincide".

module _ (L : Tables) (r : Answered) (given : Given Told (Checked L) r) where
  pub check_exactly : Exactly check_codes (Checked L) r
  check_exactly = given_exactly (Checked L) (λ a b. checked_unique L) check_codes (λ a. check_among) r given

  pub check_unique : (q : Answered) → Given Told (Checked L) q → r ≡ q
  check_unique q = given_unique (Checked L) (λ a b. checked_unique L) r q given

module _ (L : Tables) (t : ℕ) (before : List ℕ) (r : Answered) (after : List ℕ)
    (given : Leaves (Snapshot L t before) r after) where
  pub snapshot_exactly : Exactly snapshot_codes (Allows (Snapshot L t before)) r
  snapshot_exactly =
      leaves_exactly (Snapshot L t before) r after given (λ a b u v. shown-unique L t) snapshot_codes
      (λ a u. snapshot_among)

  pub snapshot_frame : r.code ≢ 0 → after ≡ before
  snapshot_frame = leaves_frame (Snapshot L t before) r after given (λ a. shown-frame L t)

  pub snapshot_unique : (q : Answered) (last : List ℕ) → Leaves (Snapshot L t before) q last → (r ≡ q) × (after ≡ last)
  snapshot_unique = leaves_unique (Snapshot L t before) r after given (λ a b u v. shown-unique L t)

  -- [demand 2] "Faults and snapshots agree with the Temporal XML Document of Rizzolo and Vaisman, as document 01 lays
  -- it out. A snapshot shows exactly what was contained at its instant."; [02:Ask 1] the referent in each row is the
  -- target of the one reference in force from its node (OneReferent, in Exact)
  pub snapshot_contained : r.code ≡ 0
      → RootedTree (held L) t × ((xs : List ShownRow) × ShownRows (held L) t xs × Exact (held L) t xs
      × Told (Done t (length xs)) r × (after ≡ front (shown_numbers xs) before))
  snapshot_contained z =
      let (a, s, e) = given in
      let (tree, (xs, rows, exact, is, left)) = contained L t s (told_done r a e z) in
      (tree, (xs, rows, exact, e ∙ ap numbers is, left))

module _ (L : Tables) (r : Answered) (left : List ℕ) (given : Leaves (Repaired L) r left) where
  -- repair is lent no references
  pub repair_exactly : L.refs ≡ table [] 0 → Exactly repair_codes (Allows (Repaired L)) r
  repair_exactly none =
      leaves_exactly (Repaired L) r left given (λ a b u v. repaired_unique) repair_codes (λ a u. repair_among none)

  pub repair_frame : r.code ≢ 0 → left ≡ L.edges.numbers
  repair_frame = leaves_frame (Repaired L) r left given (λ a. repaired-frame)

  pub repair_unique : (q : Answered) (last : List ℕ) → Leaves (Repaired L) q last → (r ≡ q) × (left ≡ last)
  repair_unique = leaves_unique (Repaired L) r left given (λ a b u v. repaired_unique)

  -- [demand 2] "A repair gives each child, from its first start to its last end, the parent of the row that started
  -- last."
  pub repair_latest : r.code ≡ 0 → (c t : ℕ) → Stay (edge_in L) L.edges.count c t
      → OneLatest (edge_in L) (edge_at left) L.edges.count c t
  repair_latest z = let (a, x, e) = given in done_one x (told_done r a e z)

module _ (t : Tables) (before : List ℕ) (r : Answered) (left : List ℕ) (given : Leaves (Written t before) r left) where
  pub write_exactly : Exactly write_codes (Allows (Written t before)) r
  write_exactly =
      leaves_exactly (Written t before) r left given (λ a b u v. written-unique) write_codes (λ a u. write_among)

  pub write_frame : r.code ≢ 0 → left ≡ before
  write_frame = leaves_frame (Written t before) r left given (λ a. written-frame)

  pub write_unique : (q : Answered) (last : List ℕ) → Leaves (Written t before) q last → (r ≡ q) × (left ≡ last)
  write_unique = leaves_unique (Written t before) r left given (λ a b u v. written-unique)

module _ (s n e f : List ℕ) (r : Reading) (n' e' f' : List ℕ) (given : Reads s n e f r n' e' f') where
  pub read_exactly : Exactly read_codes (Allows (ReadAnswer s n e f)) r.answer
  read_exactly =
      let (x, p, g) = given in
      given_exactly _ (λ a b. read_answer_unique) read_codes (λ a. read_among) r.answer
      (answer_in x, ((x, n', e', f'), (p, refl)), g.answer)

  pub read_frame : r.answer.code ≢ 0
      → (r ≡ record { answer = r.answer; start = 0; nodes = 0; edges = 0; refs = 0 })
      × (n' ≡ n) × (e' ≡ e) × (f' ≡ f)
  read_frame h =
      let (x, p, g) = given in
      let refused = told_refuses r.answer (answer_in x) g.answer h in
      let (i, j, k) = retold_frame x p refused in
      (retold_same x r _ g (retold_nothing x refused g.answer), i, j, k)

  pub read_unique : (q : Reading) (n'' e'' f'' : List ℕ) → Reads s n e f q n'' e'' f''
      → (r ≡ q) × (n' ≡ n'') × (e' ≡ e'') × (f' ≡ f'')
  read_unique q n'' e'' f'' (y, u, h) =
      let (x, p, g) = given in
      let (same, i, j, k) = taken-unique p u in
      (retold_same x r q g (rw same h), i, j, k)

-- [demand 2] "Tables written as text read back as the same tables, and accepted text written again is the same text."
-- The tables are of 32-bit numbers, as every slice that is lent, and the text is the bytes that were counted
module _ (t : Tables) (out : List ℕ) (r : Answered) (out' : List ℕ) (given : Leaves (Written t out) r out')
    (done : r.code ≡ 0) (start : t.start ≤ Now) (nodes : Small t.nodes.numbers)
    (edges : Small t.edges.numbers) (refs : Small t.refs.numbers) where
  pub written_reads_back : (n e f : List ℕ) (q : Reading) (n' e' f' : List ℕ) → Fits t n e f
      → Reads (take r.place out') n e f q n' e' f'
      → Retold (Ok (counts_of t)) q
      × (n' ≡ front t.nodes.numbers n) × (e' ≡ front t.edges.numbers e) × (f' ≡ front t.refs.numbers f)
  written_reads_back n e f q n' e' f' fits (x, p, g) =
      let (a, w, k) = given in
      let back = rw (written_place given done) at p in
      let (same, i, j, l) = read_written w (told_done r a k done) start nodes edges refs back fits in
      (rw same at g, i, j, l)

module _ (s n e f : List ℕ) (r : Reading) (n' e' f' : List ℕ) (given : Reads s n e f r n' e' f')
    (done : r.answer.code ≡ 0) where
  pub read_writes_again : (out : List ℕ) (q : Answered) (out' : List ℕ) → length s ≤ length out
      → Leaves (Written (found r n' e' f') out) q out'
      → Told (Done 0 (length s)) q × (out' ≡ front s out)
  read_writes_again out q out' room (b, w, k) =
      let (x, p, g) = given in
      let (c, ok) = retold_done x g done in
      let p = rw ok at p in
      let (is, text) = write_read p (rw (found_fronts n' e' f' (rw ok at g) (read_fronts p).lendable) at w) room in
      (k ∙ ap numbers is, text)

-- [demand 3] "For a start and tables that obey the start, size and row rules, a history is accepted exactly if at every
-- instant from 0 to Now each node touched by a containment row then in force is reached from the root by one chain of
-- such rows and no other, no node is missing between two of its stays, and each reference in force joins an attribute
-- and a target that are both present", [02:Ask 1] "and at most one reference in force per attribute". "Otherwise the
-- verdict names the earliest instant at which this fails, with the kind and place that the rules fix."
module _ (L : Tables) (o : Obeys L) where
  abbrev H : History
  H = held L

  module _ (r : Answered) (given : Given Told (Checked L) r) where
    passes : Told passed r ↔ Verdict H passed
    passes =
        let (told, tells) = (check_exactly L r given).exact passed in
        (λ q. checked_verdict L o (told q), λ v. tells (judged o v))

    pub check_accepted : Told passed r ↔ AllSound H
    check_accepted =
        let s = accepted_sound H (obeys_ruled L o) in
        (λ q. s.0 (passes.0 q), λ x. passes.1 (s.1 x))

    pub check_earliest : (AllSound H → ⊥) → (t : ℕ) × (f : Fault) × Told (Faulty t f) r × FirstUnsound H t f
    check_earliest not =
        let (a, c, e) = given in
        let (t, f, is, first) = verdict_unsound H (obeys_ruled L o) (checked_verdict L o c) not in
        (t, f, e ∙ ap numbers is, first)

    -- [demand 2] "Faults and snapshots agree with the Temporal XML Document of Rizzolo and Vaisman, as document 01 lays
    -- it out." The paper lets two references of one attribute be in force; [02:Ask 1] does not. The ends of rows are
    -- 32-bit numbers, as in every slice that is lent
    pub check_document : Small L.edges.numbers
        → Told passed r ↔ (Document H × ((t : ℕ) → t ≤ Now → OneReference H t))
    check_document small =
        let d = accepted_document H (obeys_ruled L o) (held_ends L small) in
        (λ q. d.0 (passes.0 q), λ x. passes.1 (d.1 x))

-- [01:Strength of the promises] "The starred cases are proved together as one table under a single theorem about the
-- definitions"
pub starred_cases : All Promised cases
starred_cases = starred
