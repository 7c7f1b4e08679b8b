-- The smallest absent node that is a slot, after one node more. Assumes nothing.
use mathlib.Core.Path.{◌≡◌, sym, ap, ◌∙◌}
use mathlib.Core.Logic.{◌⊎◌, inl, inr, ⊎_elim}
use mathlib.Core.Bool.{true}
use mathlib.Core.List.{List}
use Prim.Native.Nat.{ℕ, ◌+◌, ◌<◌}
use native.Mathlib.Numerals.{add-one}
use native.Mathlib.Omega.{arith}
use lib.ListN.{length, get_or}
use borrow.Author.Tests.{ltb-true, lt-ltb}
use Rattle.std.specs.Prelude.{Option}
use Rattle.ground.specs.Searches.{Finds}
use Rattle.ground.specs.Searches.{nearer}
use Rattle.ground.proofs.TestLaws.{both}
use Rattle.ground.proofs.LeastLaws.{finds_nearer, finds_same, any_suc}
use Rattle.faults.specs.Leaves.{is_absent_of, is_part_of, Parts}

module _ (up : List ℕ) where
  module _ (c : ℕ) where
    abbrev pub slot : ℕ
    slot = get_or up c 0

    part_of : (x : ℕ) → Parts up c x ⊎ ((x ≡ slot) × (is_part_of up slot ≡ true)) → Parts up (c + 1) x
    part_of x (inl (a, (d, h, e))) = (a, (d, omega arith, e))
    part_of x (inr (e, p)) = (ap (is_absent_of up) e ∙ (both _ _ p).1, (c, omega arith, sym e))

    of_part : (x : ℕ) → x < length up → Parts up (c + 1) x → Parts up c x ⊎ ((x ≡ slot) × (is_part_of up slot ≡ true))
    of_part x h (a, s) =
        ⊎_elim (λ e. inr (sym e, rw (e, lt-ltb x (length up) h) a)) (λ r. inl (a, r))
        ((any_suc _ c).1 (rw add-one at s))

    pub parts_next : (best : Option ℕ) → Finds (Parts up c) (length up) best
        → Finds (Parts up (c + 1)) (length up) (nearer best (is_part_of up slot) slot)
    parts_next best f =
        finds_same _ (λ x h. part_of x) of_part
        (finds_nearer (Parts up c) best (is_part_of up slot) (λ e. ltb-true _ _ (both _ _ e).0) f)
