-- Writing a number from its last digit on. Assumes nothing.
use mathlib.Core.List.{List}
use mathlib.Core.Path.{◌≡◌, refl, sym, ap, ◌∙◌}
use Prim.Native.Nat.{ℕ, ◌+◌, ◌-◌, ◌/◌, ◌%◌, ◌≤◌, ◌<◌}
use native.Mathlib.Omega.{arith}
use lib.ListN.{length, set, length-set}
use lib.Seq.{sets}
use Rattle.ground.specs.Stores.{Put}
use Rattle.ground.proofs.ListLaws.{sets_last}
use Rattle.decimals.specs.Decimals.{nought, dec}
use Rattle.decimals.proofs.DecimalLaws.{dec_small, dec_snoc, dec_length_snoc, dec_pos}

-- the digits of x are left, the last of them for place i: put into out, they make of it what those of v make of out₀
pub record Digits (out₀ : List ℕ) (at v : ℕ) (out : List ℕ) (i x : ℕ) : Type 0 where
  pub place : i + 1 ≡ at + length (dec x)
  pub held : sets out at (dec x) ≡ sets out₀ at (dec v)
  pub long : length out ≡ length out₀
  pub reached : i < at + length (dec v)

module _ (out₀ : List ℕ) (at v : ℕ) (out : List ℕ) (i x : ℕ) where
  abbrev stored : List ℕ
  stored = set out i (nought + x % 10)

  pub digits_turn : 10 ≤ x → Digits out₀ at v out i x → Digits out₀ at v stored (i - 1) (x / 10)
  digits_turn h d =
      let n = dec_length_snoc x h in
      let j : i ≡ at + length (dec (x / 10)) = omega arith in
      record {
        place = omega (arith, dec_pos (x / 10));
        held =
            ap (λ (k : ℕ). sets (set out k (nought + x % 10)) at (dec (x / 10))) j
            ∙ sets_last out at (dec (x / 10)) (nought + x % 10)
            ∙ ap (sets out at) (sym (dec_snoc x h))
            ∙ d.held;
        long = length-set out i (nought + x % 10) ∙ d.long;
        reached = omega arith;
      }

  pub digits_done : x < 10 → Digits out₀ at v out i x → Put out₀ at (dec v) stored (at + length (dec v))
  digits_done h d =
      let e = dec_small x h in
      let m : x % 10 ≡ x = omega arith in
      let j : i ≡ at = omega (arith, ap length e) in
      record { held = rw (j, m) (ap (sets out at) (sym e) ∙ d.held); after = refl }
