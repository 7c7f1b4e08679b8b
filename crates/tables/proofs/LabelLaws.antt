-- Laws of labels. Assumes nothing.
use mathlib.Core.Path.{◌≡◌, refl, sym, ap, ◌∙◌}
use mathlib.Core.Bool.{Bool, true, false, cond}
use Prim.Native.Nat.{ℕ}
use lib.Dec.{leb, eqb}
use borrow.Author.Tests.{eqb-true}
use Rattle.ground.specs.Tests.{Tells}
use Rattle.ground.proofs.TestLaws.{tells_and, tells_le}
use Rattle.tables.specs.declared.label.Label.{Label}
use Rattle.tables.specs.declared.label.End.{End}
use Rattle.tables.specs.declared.label.End.TheVariants.{At, Current}
use Rattle.tables.specs.Tables.{Now, During}
use Rattle.tables.specs.Labels.{during, instant_of, end_of, label_of}

pub during_tells : (from to t : ℕ) → Tells (during from to t) (During from to t)
during_tells from to t = tells_and (leb from t) (leb t to) (tells_le from t) (tells_le t to)

-- the end that a number means stands at that number
pub instant_end : (to : ℕ) → instant_of (end_of to) ≡ to
unfolding end_of
instant_end to = go (eqb to Now) refl
  where
    go : (b : Bool) → eqb to Now ≡ b → instant_of (cond b Current (At to)) ≡ to
    go true e = sym (eqb-true to Now e)
    go false e = refl

-- what an end and a label that numbers mean say of the numbers
pub end_to : (e : End) (to : ℕ) → e ≡ end_of to → instant_of e ≡ to
end_to e to q = ap instant_of q ∙ instant_end to

module _ (l : Label) (from to : ℕ) (e : l ≡ label_of from to) where
  pub label_from : l.from ≡ from
  label_from = ap (λ (x : Label). x.from) e

  pub label_to : instant_of l.end ≡ to
  label_to = end_to l.end to (ap (λ (x : Label). x.end) e)

-- such a label is in force when they say so
pub label_during : (l : Label) (from to t : ℕ) → l ≡ label_of from to
    → during l.from (instant_of l.end) t ≡ during from to t
label_during l from to t e = rw (label_from l from to e, label_to l from to e)
