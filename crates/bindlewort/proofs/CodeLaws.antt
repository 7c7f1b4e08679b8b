-- The codes that each call can give; and that read text gives one answer. Assumes nothing.
use mathlib.Core.Path.{◌≡◌, refl, sym, ap, ◌∙◌, subst}
use mathlib.Core.Bool.{true, ◌||◌}
use mathlib.Core.List.{List, [], ◌++◌}
use Prim.Native.Nat.{ℕ}
use native.Mathlib.Omega.{arith}
use lib.Dec.{eqb}
use lib.ListN.{length, drop}
use borrow.Author.Tests.{ne_eqb}
use Rattle.ground.specs.Among.{is_among}
use Rattle.answers.specs.declared.Fault.{Fault}
use Rattle.answers.specs.declared.Kind.TheVariants.{Gap}
use Rattle.answers.specs.Answers.{Answer}
use Rattle.answers.specs.Numbers.{code_of, numbers}
use Rattle.answers.proofs.KindLaws.{every_kind}
use Rattle.tables.specs.Tables.{Table, Tables, table}
use Rattle.tables.specs.Rules.{Gives, nodes_size, edges_size, refs_size, start_now, node, edge, reference, nothing}
use Rattle.history.specs.Faults.{History, held, GapAside, accepted, refused}
use Rattle.verdict.specs.Checked.{Checked, ruled_out, judged}
use Rattle.snapshot.specs.Snapshot.{Unready, ruled_out as unready-ruled-out, early, faulty, Snapshot, unready}
use Rattle.snapshot.specs.Snapshot.{short, shows}
use Rattle.repair.specs.Repaired.{Repaired, ruled_out as repair-ruled-out, tie, mended}
use Rattle.text.specs.declared.forms.Counts.{Counts}
use Rattle.answers.specs.declared.Refusal.{Refusal}
use Rattle.std.specs.Prelude.{Result}
use Rattle.bindlewort.specs.Given.{answer_in}
use Rattle.text.specs.Answers.{Written, out_of_size, short as text_short, wrote, Read, wrong_text, no_room, took}
use Rattle.text.proofs.PromiseLaws.{read_unique}
use Rattle.bindlewort.specs.Codes.{rule_codes, check_codes, snapshot_codes, repair_codes, write_codes, read_codes}
use Rattle.bindlewort.specs.Codes.{Allows, ReadAnswer}

-- the code of an answer stands in a list
abbrev Has : List ℕ → Answer → Type 0
Has codes a = is_among codes (numbers a).code ≡ true

-- the codes that each list begins with
gives_among : {L : Tables} {a : Answer} (more : List ℕ) → Gives L a → Has (rule_codes ++ more) a
gives_among more (nodes_size f) = refl
gives_among more (edges_size n f) = refl
gives_among more (refs_size n m f) = refl
gives_among more (start_now s e) = refl
gives_among more (node s ne x) = refl
gives_among more (edge s ne f x) = refl
gives_among more (reference s ne f g x) = refl
gives_among more (nothing o) = refl

fault_among : (f : Fault) → is_among check_codes (code_of f.kind) ≡ true
fault_among f = every_kind (λ k. is_among check_codes (code_of k)) refl f.kind

pub check_among : {L : Tables} {a : Answer} → Checked L a → Has check_codes a
check_among (ruled_out g t) = gives_among (drop (length rule_codes) check_codes) g
check_among (judged o (accepted n)) = refl
check_among (judged o (refused {f = f} x)) = fault_among f

shown_among : (H : History) (t : ℕ) (f : Fault) → GapAside H t f → is_among snapshot_codes (code_of f.kind) ≡ true
shown_among H t f x =
    let e = ne_eqb (code_of f.kind) (code_of Gap) x.1 in
    rw e at (every_kind (λ k. eqb (code_of k) (code_of Gap) || is_among snapshot_codes (code_of k)) refl f.kind)

unready_among : {L : Tables} {t : ℕ} {a : Answer} → Unready L t a → Has snapshot_codes a
unready_among (unready-ruled-out g e) = gives_among (drop (length rule_codes) snapshot_codes) g
unready_among (early o h) = refl
unready_among {L} {t} (faulty {f = f} o b x) = shown_among (held L) t f x.holds

pub snapshot_among : {L : Tables} {t : ℕ} {before after : List ℕ} {a : Answer} → Snapshot L t before a after
    → Has snapshot_codes a
snapshot_among (unready u) = unready_among u
snapshot_among (short r x h) = refl
snapshot_among (shows r x h) = refl

-- without references there is neither their size nor their rule to break
contained_among : {L : Tables} {a : Answer} → L.refs ≡ table [] 0 → Gives L a → Has repair_codes a
contained_among none (nodes_size f) = refl
contained_among none (edges_size n f) = refl
contained_among none (refs_size n m f) =
    absurd (f (rw none (record { whole = refl; least = omega arith; most = omega arith })))
contained_among none (start_now s e) = refl
contained_among none (node s ne x) = refl
contained_among none (edge s ne f x) = refl
contained_among none (reference s ne f g (l, h)) = absurd (omega (arith, ap (λ (x : Table). x.count) none))
contained_among none (nothing o) = refl

pub repair_among : {L : Tables} {left : List ℕ} {a : Answer} → L.refs ≡ table [] 0 → Repaired L a left
    → Has repair_codes a
repair_among none (repair-ruled-out g e) = contained_among none g
repair_among none (tie o x) = refl
repair_among none (mended o n x) = refl

pub write_among : {t : Tables} {out out' : List ℕ} {a : Answer} → Written t out a out' → Has write_codes a
write_among (out_of_size g) = refl
write_among (text_short s h) = refl
write_among (wrote s h) = refl

taken_among : {s n e f n' e' f' : List ℕ} {x : Result Counts Refusal} → Read s n e f x n' e' f'
    → Has read_codes (answer_in x)
taken_among (wrong_text x w) = refl
taken_among (no_room a k) = refl
taken_among (took a h) = refl

pub read_among : {s n e f : List ℕ} {a : Answer} → Allows (ReadAnswer s n e f) a → Has read_codes a
read_among ((x, _, _, _), (p, g)) = subst (Has read_codes) g (taken_among p)

pub read_answer_unique : {s n e f : List ℕ} {a b : Answer} → Allows (ReadAnswer s n e f) a
    → Allows (ReadAnswer s n e f) b → a ≡ b
read_answer_unique ((x, _, _, _), (p, g)) ((y, _, _, _), (q, h)) =
    sym g ∙ ap answer_in (read_unique p q).0 ∙ h
