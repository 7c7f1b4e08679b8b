-- Inversion: from what was read, what was read before it; from a refusal, what refused. And what is kept under
-- `onto`. Assumes nothing.
use mathlib.Core.Bool.{Bool, true, false, cond}
use mathlib.Core.List.{List, ◌++◌}
use mathlib.Core.Path.{◌≡◌, refl, sym, ap}
use Prim.Native.Nat.{ℕ, ◌+◌}
use native.Mathlib.Omega.{arith}
use lib.Dec.{eqb}
use lib.ListN.{get_or}
use borrow.Author.Tests.{eqb-true}
use Rattle.ground.proofs.TestLaws.{by_test}
use Rattle.std.specs.Prelude.{Result, Ok, Err}
use Rattle.decimals.specs.declared.Number.{Number}
use Rattle.decimals.specs.declared.Wrong.{Wrong}
use Rattle.decimals.specs.Reads.{number}
use Rattle.decimals.proofs.ReadLaws.{number_same}
use Rattle.lines.specs.Lines.{mark}
use Rattle.lines.specs.Reads.{Got, got, wrong, and_then, on_line, refused_at_of, onto, marked, then_number}
use Rattle.lines.specs.Reads.{is_got, got_of, numbers_of, ended_of, place_of}

-- cases on a Result, with the equation
pub by_result : {A E : Type 0} (r : Result A E) {C : Type 0} → ((x : A) → r ≡ Ok x → C) → ((x : E) → r ≡ Err x → C) → C
by_result (Ok x) f g = f x refl
by_result (Err x) f g = g x refl

module _ {A : Type 0} where
  -- cases on what was read, with the equation
  pub by_got : (r : Got A) {C : Type 0} → ((a : A) (n : ℕ) → r ≡ got a n → C) → ((p : ℕ) → r ≡ wrong p → C) → C
  by_got (got a n) f g = f a n refl
  by_got (wrong p) f g = g p refl

  pub got_not_wrong : (r : Got A) {a : A} {n p : ℕ} {C : Type 0} → r ≡ got a n → r ≡ wrong p → C
  got_not_wrong r e f = let z : ◌≡◌ {A = ℕ} 0 1 = cc in absurd (omega arith)

  pub got_place : (r : Got A) {a : A} {n : ℕ} → r ≡ got a n → place_of r ≡ n
  unfolding place_of
  got_place r e = ap place_of e

  pub wrong_place : (r : Got A) {p : ℕ} → r ≡ wrong p → place_of r ≡ p
  unfolding place_of
  wrong_place r e = ap place_of e

  pub got_is : (r : Got A) {a : A} {n : ℕ} → r ≡ got a n → is_got r ≡ true
  unfolding is_got
  got_is r e = ap is_got e

  pub got_of_lem : (none : A) (r : Got A) {a : A} {n : ℕ} → r ≡ got a n → got_of none r ≡ a
  unfolding got_of
  got_of_lem none r e = ap (got_of none) e

  pub is_got_lem : (none : A) (r : Got A) → is_got r ≡ true → r ≡ got (got_of none r) (place_of r)
  unfolding is_got got_of place_of
  is_got_lem none (got a n) g = refl
  is_got_lem none (wrong p) g = let z : ◌≡◌ {A = ℕ} 0 1 = cc in absurd (omega arith)

  pub at_got : (r : Got A) (n : ℕ) → ended_of r ≡ Ok n → (a : A) × (r ≡ got a n)
  unfolding ended_of
  at_got (got a m) n e = let q : m ≡ n = cc in (a, ap (got a) q)
  at_got (wrong p) n e = let z : ◌≡◌ {A = ℕ} 0 1 = cc in absurd (omega arith)

  pub at_wrong : (r : Got A) (x : Wrong) → ended_of r ≡ Err x → r ≡ wrong x.at
  unfolding ended_of
  at_wrong (got a m) x e = let z : ◌≡◌ {A = ℕ} 0 1 = cc in absurd (omega arith)
  at_wrong (wrong q) x e = let h : ◌≡◌ {A = Wrong} (record { at = q }) x = cc in ap (λ (y : Wrong). wrong y.at) h

module _ {A B : Type 0} (go : A → ℕ → Got B) where
  pub then_got : (r : Got A) {a : A} {n : ℕ} → r ≡ got a n → and_then r go ≡ go a n
  unfolding and_then
  then_got r e = rw e

  pub then_wrong : (r : Got A) {p : ℕ} → r ≡ wrong p → and_then r go ≡ wrong p
  unfolding and_then
  then_wrong r e = rw e

  pub got_then : (r : Got A) (b : B) (n : ℕ) → and_then r go ≡ got b n
      → (a : A) × (m : ℕ) × (r ≡ got a m) × (go a m ≡ got b n)
  unfolding and_then
  got_then (wrong p) b n e = let z : ◌≡◌ {A = ℕ} 0 1 = cc in absurd (omega arith)
  got_then (got a m) b n e = (a, m, refl, e)

module _ {A : Type 0} (i : ℕ) where
  pub line_got : (r : Got A) {a : A} {n : ℕ} → r ≡ got a n → on_line i r ≡ got a n
  unfolding on_line
  line_got r e = rw e

  pub line_wrong : (r : Got A) {p : ℕ} → r ≡ wrong p → on_line i r ≡ wrong (refused_at_of i p)
  unfolding on_line
  line_wrong r e = rw e

  pub got_line : (r : Got A) (a : A) (n : ℕ) → on_line i r ≡ got a n → r ≡ got a n
  unfolding on_line
  got_line (got b m) a n e = e
  got_line (wrong p) a n e = let z : ◌≡◌ {A = ℕ} 0 1 = cc in absurd (omega arith)

pub got_onto : (us : List ℕ) (r : Got (List ℕ)) (vs : List ℕ) (n : ℕ) → onto us r ≡ got vs n
    → (ws : List ℕ) × (r ≡ got ws n) × (vs ≡ us ++ ws)
unfolding onto
got_onto us (wrong p) vs n e = let z : ◌≡◌ {A = ℕ} 0 1 = cc in absurd (omega arith)
got_onto us (got ws m) vs n e = let a : m ≡ n = cc in let b : us ++ ws ≡ vs = cc in (ws, ap (got ws) a, sym b)

pub wrong_onto : (us : List ℕ) (r : Got (List ℕ)) (p : ℕ) → onto us r ≡ wrong p → r ≡ wrong p
unfolding onto
wrong_onto us (got vs n) p e = let z : ◌≡◌ {A = ℕ} 0 1 = cc in absurd (omega arith)
wrong_onto us (wrong q) p e = e

pub got_number : (r : Result Number Wrong) (go : ℕ → ℕ → Got (List ℕ)) (vs : List ℕ) (n : ℕ)
    → then_number r go ≡ got vs n
    → (u : ℕ) × (m : ℕ) × (r ≡ number u m) × (go u m ≡ got vs n)
unfolding then_number
got_number (Err x) go vs n e = let z : ◌≡◌ {A = ℕ} 0 1 = cc in absurd (omega arith)
got_number (Ok x) go vs n e = (x.value, x.after, refl, e)

-- what was read with its mark, was read, and the mark stands after it
pub got_marked : (w : ℕ) (s : List ℕ) (r : Result Number Wrong) (v n : ℕ) → marked w s r ≡ number v n
    → (m : ℕ) × (r ≡ number v m) × (get_or s m 0 ≡ mark w) × (m + 1 ≡ n)
unfolding marked
got_marked w s (Err x) v n e = let z : ◌≡◌ {A = ℕ} 0 1 = cc in absurd (omega arith)
got_marked w s (Ok x) v n e =
    by_test (eqb (get_or s x.after 0) (mark w))
    (λ t.
    let (a, b) = number_same {v = x.value} {n = x.after + 1} (rw t at e) in
    (x.after, ap (λ (u : ℕ). number u x.after) a, eqb-true (get_or s x.after 0) (mark w) t, b))
    (λ t. let f = rw t at e in let z : ◌≡◌ {A = ℕ} 0 1 = cc in absurd (omega arith))

pub got_cond : (b : Bool) (p : ℕ) (r : Got (List ℕ)) (vs : List ℕ) (n : ℕ) → cond b r (wrong p) ≡ got vs n
    → (b ≡ true) × (r ≡ got vs n)
got_cond true p r vs n e = (refl, e)
got_cond false p r vs n e = let z : ◌≡◌ {A = ℕ} 0 1 = cc in absurd (omega arith)

-- ---- under `onto`

pub onto_end : (vs : List ℕ) (r : Got (List ℕ)) → ended_of (onto vs r) ≡ ended_of r
unfolding ended_of onto
onto_end vs (got us n) = refl
onto_end vs (wrong p) = refl

pub onto_is : (vs : List ℕ) (r : Got (List ℕ)) → is_got (onto vs r) ≡ is_got r
unfolding is_got onto
onto_is vs (got us n) = refl
onto_is vs (wrong p) = refl

pub onto_place : (vs : List ℕ) (r : Got (List ℕ)) → place_of (onto vs r) ≡ place_of r
unfolding place_of onto
onto_place vs (got us n) = refl
onto_place vs (wrong p) = refl

pub onto_numbers : (vs : List ℕ) (r : Got (List ℕ)) → is_got r ≡ true → numbers_of (onto vs r) ≡ vs ++ numbers_of r
unfolding got_of onto is_got
onto_numbers vs (got us n) g = refl
onto_numbers vs (wrong p) g = let z : ◌≡◌ {A = ℕ} 0 1 = cc in absurd (omega arith)
