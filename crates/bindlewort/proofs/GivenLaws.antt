-- What is returned to a caller, by the answer that it tells. Assumes nothing.
use mathlib.Core.Path.{◌≡◌, refl, sym, ap, ◌∙◌, subst}
use mathlib.Core.Logic.{◌≢◌}
use mathlib.Core.Bool.{true, false, not, false≢true}
use Rattle.std.specs.Prelude.{Result, Ok, Err}
use Rattle.answers.specs.declared.Refusal.{Refusal}
use mathlib.Core.List.{List}
use Prim.Native.Nat.{ℕ, ◌/◌, ◌<◌}
use native.Mathlib.Nat.{mul-div_cancel}
use native.Mathlib.Omega.{arith}
use lib.ListN.{length}
use borrow.Author.Tests.{eq-eqb, ne_eqb}
use Rattle.ground.specs.Among.{is_among}
use Rattle.answers.specs.declared.Fault.{Fault}
use Rattle.answers.specs.Answers.{Answer}
use Rattle.answers.specs.Answers.{Faulty}
use Rattle.answers.specs.Numbers.{Numbers, numbers, refuses}
use Rattle.answers.proofs.AnswerLaws.{answer_unique, refuses_code}
use Rattle.tables.specs.Tables.{node_width, edge_width, ref_width, Table, Tables}
use Rattle.tables.specs.Rules.{Whole}
use Rattle.history.specs.Sound.{AllSound, FirstUnsound}
use Rattle.history.specs.Faults.{History, Verdict, accepted, refused}
use Rattle.history.specs.Ruled.{Ruled}
use Rattle.history.proofs.VerdictLaws.{accepted_sound, refused_unsound}
use Rattle.text.specs.declared.forms.Counts.{Counts}
use Rattle.text.specs.Text.{Lendable, text_of}
use Rattle.text.specs.Answers.{Written, Read}
use Rattle.text.proofs.PromiseLaws.{write_holds, read_frame, fronts}
use Rattle.answers.specs.declared.Answered.{Answered}
use Rattle.bindlewort.specs.declared.Reading.{Reading}
use Rattle.bindlewort.specs.Given.{slices, Told, Retold, Given, Leaves, answer_in}
use Rattle.bindlewort.specs.Codes.{Allows, found, Exactly}

-- slices that hold just the rows of tables are these tables
row_count : (w : ℕ) (x : Table) → 0 < w → Whole w x → length x.numbers / w ≡ x.count
row_count w x h e = ap (λ k. k / w) e ∙ mul-div_cancel x.count h

pub slices_whole : (L : Tables) → Whole node_width L.nodes → Whole edge_width L.edges → Whole ref_width L.refs
    → slices L.start L.nodes.numbers L.edges.numbers L.refs.numbers ≡ L
slices_whole L n e r =
    rw (
      row_count node_width L.nodes (omega arith) n,
      row_count edge_width L.edges (omega arith) e,
      row_count ref_width L.refs (omega arith) r,
    )

abbrev pub reading : Answered → ℕ → ℕ → ℕ → ℕ → Reading
reading a start nodes edges refs = record { answer = a; start = start; nodes = nodes; edges = edges; refs = refs }

-- what tells one thing is one
pub told_same : (a : Answer) (r q : Answered) → Told a r → Told a q → r ≡ q
told_same a r q e f =
    ap (λ (n : Numbers). record { code = n.code; instant = n.instant; place = n.place }) (e ∙ sym f)

pub retold_same : (x : Result Counts Refusal) (r q : Reading) → Retold x r → Retold x q → r ≡ q
retold_same x r q g h =
    let e = told_same (answer_in x) r.answer q.answer g.answer h.answer in
    λ i. record {
      answer = e i;
      start = (g.start ∙ sym h.start) i;
      nodes = (g.nodes ∙ sym h.nodes) i;
      edges = (g.edges ∙ sym h.edges) i;
      refs = (g.refs ∙ sym h.refs) i;
    }

-- a reading that tells no start and no rows
pub retold_nothing : (x : Result Counts Refusal) {a : Answered} → refuses (answer_in x) ≡ true → Told (answer_in x) a
    → Retold x (reading a 0 0 0 0)
retold_nothing (Ok c) t e = absurd (false≢true t)
retold_nothing (Err x) t e = record { answer = e; start = refl; nodes = refl; edges = refl; refs = refl }

-- a text that was refused leaves the tables
pub retold_frame : (x : Result Counts Refusal) {s n e f n' e' f' : List ℕ} → Read s n e f x n' e' f'
    → refuses (answer_in x) ≡ true → (n' ≡ n) × (e' ≡ e) × (f' ≡ f)
retold_frame (Ok c) p t = absurd (false≢true t)
retold_frame (Err x) p t = read_frame p

module _ (r : Answered) (a : Answer) (e : Told a r) where
  pub told_code : r.code ≡ (numbers a).code
  told_code = ap (λ (n : Numbers). n.code) e

  pub told_refuses : r.code ≢ 0 → refuses a ≡ true
  told_refuses h = refuses_code a ∙ ap not (ne_eqb (numbers a).code 0 (λ z. h (told_code ∙ z)))

  pub told_done : r.code ≡ 0 → refuses a ≡ false
  told_done z = refuses_code a ∙ ap not (eq-eqb (numbers a).code 0 (sym told_code ∙ z))

-- a reading with code 0 tells what was read
pub retold_done : (x : Result Counts Refusal) {r : Reading} → Retold x r → r.answer.code ≡ 0
    → (c : Counts) × (x ≡ Ok c)
retold_done (Ok c) g z = (c, refl)
retold_done (Err x) {r} g z = absurd (false≢true (sym (told_done r.answer (Err x) g.answer z)))

-- what write text counts is the text
pub written_place : {t : Tables} {out out' : List ℕ} {r : Answered} → Leaves (Written t out) r out' → r.code ≡ 0
    → r.place ≡ length (text_of t)
written_place {r = r} (a, w, k) z =
    ap (λ (m : Numbers). m.place) (k ∙ ap numbers (write_holds w (told_done r a k z)).1)

-- the slices that a caller finds are the tables that were read
pub found_fronts : {c : Counts} {r : Reading} (n e f : List ℕ) → Retold (Ok c) r → Lendable (fronts c n e f)
    → found r n e f ≡ fronts c n e f
found_fronts {c} n e f g o =
    rw (g.start, g.nodes, g.edges, g.refs)
    (slices_whole (fronts c n e f) o.nodes.whole o.edges.whole o.refs.whole)

-- a verdict on a history that is not sound throughout
pub verdict_unsound : (H : History) → Ruled H → {a : Answer} → Verdict H a
    → (AllSound H → ⊥) → (t : ℕ) × (f : Fault) × (a ≡ Faulty t f) × FirstUnsound H t f
verdict_unsound H r (accepted n) not = absurd (not ((accepted_sound H r).0 (accepted n)))
verdict_unsound H r (refused {t} {f} x) not = (t, f, refl, refused_unsound H r (refused x))

-- a promise that allows one answer alone
pub given_unique : (P : Answer → Type 0) → ((a b : Answer) → P a → P b → a ≡ b) → (r q : Answered) → Given Told P r
    → Given Told P q → r ≡ q
given_unique P unique r q (a, p, e) (b, s, f) = told_same b r q (e ∙ ap numbers (unique a b p s)) f

pub given_exactly : (P : Answer → Type 0) → ((a b : Answer) → P a → P b → a ≡ b) → (codes : List ℕ)
    → ((a : Answer) → P a → is_among codes (numbers a).code ≡ true)
    → (r : Answered) → Given Told P r → Exactly codes P r
given_exactly P unique codes among r (a, p, e) =
    record {
      among = ap (is_among codes) (told_code r a e) ∙ among a p;
      exact = λ b. (λ f. subst P (answer_unique a b (sym e ∙ f)) p, λ s. e ∙ ap numbers (unique a b p s));
    }

-- a promise of an answer and of what is left, which allows one outcome alone
module _ (P : Answer → List ℕ → Type 0) (r : Answered) (left : List ℕ) (given : Leaves P r left) where
  pub leaves_frame : {before : List ℕ} → ((a : Answer) → P a left → refuses a ≡ true → left ≡ before) → r.code ≢ 0
      → left ≡ before
  leaves_frame frame h = let (a, p, e) = given in frame a p (told_refuses r a e h)

  module _ (unique : (a b : Answer) (u v : List ℕ) → P a u → P b v → (a ≡ b) × (u ≡ v)) where
    pub leaves_exactly : (codes : List ℕ) → ((a : Answer) (u : List ℕ) → P a u → is_among codes (numbers a).code ≡ true)
        → Exactly codes (Allows P) r
    leaves_exactly codes among =
        let (a, p, e) = given in
        given_exactly (Allows P) (λ a b (u, p) (v, q). (unique a b u v p q).0) codes (λ a (u, p). among a u p) r
        (a, (left, p), e)

    pub leaves_unique : (q : Answered) (last : List ℕ) → Leaves P q last → (r ≡ q) × (left ≡ last)
    leaves_unique q last (b, s, f) =
        let (a, p, e) = given in
        let (is, same) = unique a b left last p s in
        (told_same b r q (e ∙ ap numbers is) f, same)
