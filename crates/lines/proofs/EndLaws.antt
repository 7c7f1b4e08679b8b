-- Where a reader has come to is within the text, and so is where the reader that goes on from there comes to. Assumes
-- nothing.
use mathlib.Core.List.{List}
use mathlib.Core.Path.{◌≡◌, refl, subst, subst⁻¹}
use Prim.Native.Nat.{ℕ, ◌≤◌}
use lib.ListN.{length}
use Rattle.std.specs.Prelude.{Result, Ok, Err}
use Rattle.ground.proofs.ListLaws.{stands_within}
use Rattle.decimals.specs.declared.Number.{Number}
use Rattle.decimals.specs.declared.Wrong.{Wrong}
use Rattle.decimals.specs.Reads.{number}
use Rattle.lines.specs.declared.form.Form.{Form}
use Rattle.lines.specs.Reads.{lines_at, ended_of, EndsWithin, one_of, NumWithin}
use Rattle.lines.proofs.GotLaws.{by_got}
use Rattle.lines.proofs.LineLaws.{lines_is}

module _ (k : List ℕ) (f : Form) (s : List ℕ) (m i : ℕ) (h : i ≤ length s) where
  pub lines_end : {x : Result ℕ Wrong} → x ≡ ended_of (lines_at k f s m i) → EndsWithin s x
  unfolding ended_of
  lines_end e =
      subst⁻¹ (EndsWithin s) e (by_got (lines_at k f s m i)
      (λ vs n g. rw g (stands_within h (lines_is k f s m i vs n g).stands))
      (λ p g. rw g tt))

  pub one_end : {x : Result Number Wrong} → x ≡ one_of (lines_at k f s m i) → NumWithin s x
  unfolding one_of
  one_end e =
      subst⁻¹ (NumWithin s) e (by_got (lines_at k f s m i)
      (λ vs n g. rw g (stands_within h (lines_is k f s m i vs n g).stands))
      (λ p g. rw g tt))

-- by `?` a reader goes on from what ended, and hands on what was refused
module _ (k : List ℕ) (f : Form) (s : List ℕ) (m : ℕ) where
  pub then_lines_end : (x : Result ℕ Wrong) {y : Result ℕ Wrong} → EndsWithin s x
      → ((i : ℕ) → x ≡ Ok i → y ≡ ended_of (lines_at k f s m i)) → ((e : Wrong) → x ≡ Err e → y ≡ Err e)
      → EndsWithin s y
  then_lines_end (Ok i) h on off = lines_end k f s m i h (on i refl)
  then_lines_end (Err e) h on off = subst⁻¹ (EndsWithin s) (off e refl) tt

  pub then_one_end : (x : Result Number Wrong) {y : Result Number Wrong} → NumWithin s x
      → ((u : Number) → x ≡ Ok u → y ≡ one_of (lines_at k f s m u.after)) → ((e : Wrong) → x ≡ Err e → y ≡ Err e)
      → NumWithin s y
  then_one_end (Ok u) h on off = one_end k f s m u.after h (on u refl)
  then_one_end (Err e) h on off = subst⁻¹ (NumWithin s) (off e refl) tt

pub ended_at : (s : List ℕ) {x : Result ℕ Wrong} {i : ℕ} → x ≡ Ok i → EndsWithin s x → i ≤ length s
ended_at s e h = subst (EndsWithin s) e h

pub read_at : (s : List ℕ) {x : Result Number Wrong} {v i : ℕ} → x ≡ number v i → NumWithin s x → i ≤ length s
read_at s e h = subst (NumWithin s) e h
