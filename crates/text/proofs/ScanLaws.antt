-- Read text, its first pass: what the readers of the first five lines and of the rows answer says of the text. Assumes
-- nothing.
use mathlib.Core.List.{List}
use mathlib.Core.Path.{◌≡◌, ap, subst, ◌∙◌}
use Prim.Native.Nat.{ℕ}
use native.Mathlib.Omega.{arith}
use Rattle.std.specs.Prelude.{Result, Ok, Err}
use Rattle.tables.specs.Tables.{Tables}
use Rattle.decimals.specs.declared.Wrong.{Wrong}
use Rattle.lines.specs.Reads.{Got, got, wrong, ended_of}
use Rattle.lines.specs.Plans.{plan_at}
use Rattle.lines.proofs.GotLaws.{at_got, at_wrong, then_got, then_wrong}
use Rattle.lines.proofs.GotLaws.{got_is, is_got_lem}
use Rattle.lines.proofs.PlanLaws.{plan_then_at}
use Rattle.text.specs.declared.forms.Counts.{Counts}
use Rattle.text.specs.Reads.{head_plan, rows_plan}
use Rattle.text.specs.Reads.{whole, read_text, head_of, Headed, Scanned}
use Rattle.text.specs.Answers.{no_tables}
use Rattle.text.proofs.RoundTrip.{whole_got}

-- ---- the first five lines: what their reader answers

pub misplaced_head : (r : Got Counts) (x : Wrong) → head_of r ≡ Err x → r ≡ wrong x.at
unfolding head_of
misplaced_head (got c n) x e = let z : ◌≡◌ {A = ℕ} 0 1 = cc in absurd (omega arith)
misplaced_head (wrong q) x e = let h : ◌≡◌ {A = Wrong} (record { at = q }) x = cc in ap (λ (y : Wrong). wrong y.at) h

pub counted_head : (r : Got Counts) (c : Counts) (n : ℕ) → head_of r ≡ Ok (c, n) → r ≡ got c n
unfolding head_of
counted_head (got d m) c n e =
    let h : ◌≡◌ {A = Counts × ℕ} (d, m) (c, n) = cc in ap (λ (p : Counts × ℕ). got p.0 p.1) h
counted_head (wrong q) c n e = let z : ◌≡◌ {A = ℕ} 0 1 = cc in absurd (omega arith)

-- ---- the whole text

abbrev pub rows_at : List ℕ → Counts → ℕ → Got Tables
rows_at s c at = plan_at (rows_plan c) s at

-- after its first lines, the text is its rows
pub read_counted : (s : List ℕ) (c : Counts) (at : ℕ) → plan_at head_plan s 0 ≡ got c at
    → read_text s ≡ whole s (rows_at s c at)
unfolding read_text
read_counted s c at e = ap (whole s) (plan_then_at head_plan rows_plan s 0 ∙ then_got _ _ e)

pub read_misplaced : (s : List ℕ) (p : ℕ) → plan_at head_plan s 0 ≡ wrong p → read_text s ≡ wrong p
unfolding read_text
read_misplaced s p e = then_wrong _ _ (plan_then_at head_plan rows_plan s 0 ∙ then_wrong _ _ e)

-- ---- what the first pass says of the text

module _ (s : List ℕ) where
  pub head_refused : {x : Wrong} → head_of (plan_at head_plan s 0) ≡ Err x → read_text s ≡ wrong x.at
  head_refused {x} h = read_misplaced s x.at (misplaced_head _ x h)

  module _ {c : Counts} {at : ℕ} (h : head_of (plan_at head_plan s 0) ≡ Ok (c, at)) where
    pub rows_refused : {x : Wrong} → ended_of (whole s (rows_at s c at)) ≡ Err x → read_text s ≡ wrong x.at
    rows_refused {x} e = read_counted s c at (counted_head _ c at h) ∙ at_wrong _ x e

    pub text_headed : {n : ℕ} → ended_of (whole s (rows_at s c at)) ≡ Ok n → Headed s c at
    text_headed {n} e =
        let (a, g) = at_got _ n e in record { head = counted_head _ c at h; rows = got_is _ g }

-- by its answer, all is right, or where it is refused
pub scanned_right : (s : List ℕ) {r : Result (Counts × ℕ) Wrong} {c : Counts} {at : ℕ} → Scanned s r → r ≡ Ok (c, at)
    → Headed s c at
scanned_right s k e = subst (Scanned s) e k

pub scanned_wrong : (s : List ℕ) {r : Result (Counts × ℕ) Wrong} {x : Wrong} → Scanned s r → r ≡ Err x
    → read_text s ≡ wrong x.at
scanned_wrong s k e = subst (Scanned s) e k

-- rows that are found right are read
pub headed_rows : {s : List ℕ} {c : Counts} {at : ℕ} → Headed s c at
    → (t : Tables) × (n : ℕ) × (rows_at s c at ≡ got t n) × (read_text s ≡ got t n)
headed_rows {s} {c} {at} h =
    let g = is_got_lem no_tables (whole s (rows_at s c at)) h.rows in
    (_, _, (whole_got s (rows_at s c at) _ _ g).0, read_counted s c at h.head ∙ g)
