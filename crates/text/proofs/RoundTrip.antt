-- Which texts are read, as what, and where the others are refused, said by `text_of` alone: the theorems at the end.
-- Assumes nothing.
use mathlib.Core.List.{List, [], append-nil}
use mathlib.Core.Path.{◌≡◌, refl, sym, ap, subst, ◌∙◌}
use mathlib.Core.Bool.{Bool, true, false}
use mathlib.Core.Logic.{◌⊎◌, inl, inr}
use Prim.Native.Nat.{ℕ, ◌≤◌}
use native.Mathlib.Omega.{arith}
use lib.Dec.{eqb}
use lib.ListN.{length, take}
use lib.Seq.{take-length}
use borrow.Author.Tests.{eq-eqb, eqb-true}
use Rattle.ground.specs.Lists.{Stands, joined}
use Rattle.ground.proofs.TestLaws.{by_test}
use Rattle.ground.proofs.ListLaws.{stands_whole}
use Rattle.tables.specs.Tables.{Now, node_width, edge_width, ref_width, Tables}
use Rattle.tables.specs.Rules.{least_nodes, most_nodes, most_edges, most_refs}
use Rattle.lines.specs.Lines.{one_form_of, row_form}
use Rattle.lines.specs.Reads.{Got, got, wrong, and_then, place_of}
use Rattle.lines.specs.Plans.{plan_then, plan_at}
use Rattle.lines.proofs.GotLaws.{by_got, got_not_wrong, got_place, wrong_place, then_got, got_then}
use Rattle.lines.proofs.PlaceLaws.{FormOk}
use Rattle.lines.proofs.PlanLaws.{plan_of, plan_is, plan_past, FormsOk, plan_before}
use Rattle.text.specs.Text.{Lendable, text_lines, text_of}
use Rattle.text.specs.Forms.{edition}
use Rattle.text.specs.Reads.{head_plan, rows_plan, text_plan, whole, read_text}
use Rattle.text.specs.Answers.{first_lines, FirstWrong, Accepted, NotOfForm}
use Rattle.text.proofs.TextLaws.{text_laid, laid_text}

-- ---- the end of the text

pub whole_got : {A : Type 0} (s : List ℕ) (r : Got A) (a : A) (n : ℕ) → whole s r ≡ got a n
    → (r ≡ got a n) × (n ≡ length s)
whole_got s r a n e =
    let (b, m, q, h) = got_then _ r a n e in
    by_test (eqb m (length s))
    (λ t. let g = rw t at h in let i : m ≡ n = cc in (q ∙ g, sym i ∙ eqb-true m (length s) t))
    (λ t. let g = rw t at h in got_not_wrong (got a n) refl (sym g))

pub whole_end : {A : Type 0} (s : List ℕ) (r : Got A) (a : A) (n : ℕ) → r ≡ got a n → n ≡ length s
    → whole s r ≡ got a n
whole_end s r a n e h = then_got _ r e ∙ rw (eq-eqb n (length s) h)

whole_place : {A : Type 0} (s : List ℕ) (r : Got A) → place_of (whole s r) ≡ place_of r
unfolding and_then place_of
whole_place s (got a n) = by_test (eqb n (length s)) (λ t. rw t) (λ t. rw t)
whole_place s (wrong p) = refl

-- ---- the place of a refusal

one_ok : (least most : ℕ) → least ≤ most → least ≤ Now → FormOk (one_form_of least most)
one_ok least most b s = record { bounds = b; small = s }

row_ok : (w : ℕ) (e : Bool) → FormOk (row_form w e)
row_ok w e = record { bounds = omega arith; small = omega arith }

forms_ok : FormsOk text_plan
unfolding plan_then head_plan rows_plan
forms_ok = (
  one_ok edition edition (omega arith) (omega arith),
  λ e. (
    one_ok 0 Now (omega arith) (omega arith),
    λ a. (
      one_ok least_nodes most_nodes (omega arith) (omega arith),
      λ n. (
        one_ok 0 most_edges (omega arith) (omega arith),
        λ m. (
          one_ok 0 most_refs (omega arith) (omega arith),
          λ r. (row_ok node_width false, λ ns. (row_ok edge_width true, λ es. (row_ok ref_width true, λ rs. tt))),
        ),
      ),
    ),
  ),
)

abbrev Reaches : List ℕ → ℕ → Type 0
Reaches s p = (t : Tables) × (j : ℕ) × Lendable t × Stands s 0 (first_lines j t) p

-- all lines of some tables stand
reaches_all : (s : List ℕ) (t : Tables) (n : ℕ) → plan_at text_plan s 0 ≡ got t n → Reaches s n
reaches_all s t n e =
    let (ls, laid, st) = plan_is text_plan s 0 t n e in
    let (q, o) = laid_text t ls laid in
    let all : take (length ls) (text_lines t) ≡ ls = ap (take (length ls)) (sym q) ∙ take-length ls in
    (t, length ls, o, subst (λ (x : List (List ℕ)). Stands s 0 (joined x) n) (sym all) st)

-- some lines of some tables stand, and then none
reaches_some : (s : List ℕ) (p : ℕ) → plan_at text_plan s 0 ≡ wrong p → Reaches s p
reaches_some s p e =
    let r = plan_before text_plan s 0 p forms_ok e in
    let (q, o) = laid_text r.told r.all r.laid in
    (r.told, r.count, o, subst (λ (ls : List (List ℕ)). Stands s 0 (joined (take r.count ls)) p) q r.stands)

reaches : (s : List ℕ) (p : ℕ) → read_text s ≡ wrong p → Reaches s p
unfolding read_text
reaches s p e =
    let h : place_of (plan_at text_plan s 0) ≡ p = sym (whole_place s (plan_at text_plan s 0)) ∙ wrong_place _ e in
    by_got (plan_at text_plan s 0)
    (λ t n g. subst (Reaches s) (sym (got_place _ g) ∙ h) (reaches_all s t n g))
    (λ q g. subst (Reaches s) (sym (wrong_place _ g) ∙ h) (reaches_some s q g))

goes_past : (s : List ℕ) (p : ℕ) → read_text s ≡ wrong p → (t : Tables) (j n : ℕ) → Lendable t
    → Stands s 0 (first_lines j t) n → n ≤ p
unfolding read_text
goes_past s p e t j n o st =
    omega (
      arith,
      plan_past text_plan t (text_lines t) s 0 j n (text_laid t o) st,
      sym (whole_place s (plan_at text_plan s 0)) ∙ wrong_place _ e,
    )

-- ---- the theorems

-- [demand 2] "Tables written as text read back as the same tables"
pub read_of_write : (t : Tables) → Lendable t → read_text (text_of t) ≡ got t (length (text_of t))
unfolding read_text
read_of_write t o =
    let all = plan_of text_plan t (text_lines t) (text_of t) 0 [] (text_laid t o) (sym (append-nil (text_of t))) in
    whole_end (text_of t) _ t (length (text_of t)) (all ∙ ap (got t) (omega arith)) refl

-- [demand 2] "accepted text written again is the same text"
pub write_of_read : (s : List ℕ) (t : Tables) (n : ℕ) → read_text s ≡ got t n → Accepted s t
unfolding read_text
write_of_read s t n e =
    let (r, end) = whole_got s (plan_at text_plan s 0) t n e in
    let (ls, laid, st) = plan_is text_plan s 0 t n r in
    let (q, o) = laid_text t ls laid in
    let all = subst (λ (x : List (List ℕ)). Stands s 0 (joined x) n) q st in
    record { lendable = o; text = stands_whole s (text_of t) n all end }

accepted_read : {s : List ℕ} {t : Tables} → Accepted s t → read_text s ≡ got t (length s)
accepted_read {s} {t} a =
    subst (λ (x : List ℕ). read_text x ≡ got t (length x)) (sym a.text) (read_of_write t a.lendable)

-- a text is that of one tables only
pub accepted_unique : {s : List ℕ} {t u : Tables} → Accepted s t → Accepted s u → t ≡ u
accepted_unique {t} {u} a b = same (sym (accepted_read a) ∙ accepted_read b)
  where
    same : {n m : ℕ} → got t n ≡ got u m → t ≡ u
    same q = cc

-- the place of a refusal is the start of the first wrong line, and there is one such place
pub refused : (s : List ℕ) (p : ℕ) → read_text s ≡ wrong p → FirstWrong s p
refused s p e = record { reached = reaches s p e; furthest = goes_past s p e }

pub place_unique : (s : List ℕ) (p q : ℕ) → FirstWrong s p → FirstWrong s q → p ≡ q
place_unique s p q a b =
    let (t, j, o, x) = a.reached in
    let (u, k, r, y) = b.reached in
    omega (arith, b.furthest t j p o x, a.furthest u k q r y)

pub not_of_form : (s : List ℕ) (p : ℕ) → read_text s ≡ wrong p → NotOfForm s
not_of_form s p e t a = got_not_wrong (read_text s) (accepted_read a) e

-- a text is that of some tables, or of none
pub accepted_or_not : (s : List ℕ) → ((t : Tables) × Accepted s t) ⊎ ((p : ℕ) × NotOfForm s × FirstWrong s p)
accepted_or_not s =
    by_got (read_text s)
    (λ t n g. inl (t, write_of_read s t n g))
    (λ p g. inr (p, not_of_form s p g, refused s p g))
