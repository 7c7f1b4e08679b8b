-- The order of faults by code and place: there is at most one first. Assumes nothing.
use mathlib.Core.Path.{◌≡◌, sym}
use mathlib.Core.Logic.{inl, inr}
use Prim.Native.Nat.{◌≤◌}
use native.Mathlib.Nat.{le_antisymm}
use Rattle.ground.proofs.LeastLaws.{not_lt→le}
use Rattle.answers.specs.declared.Fault.{Fault}
use Rattle.answers.specs.Numbers.{code_of}
use Rattle.answers.proofs.AnswerLaws.{fault_unique}
use Rattle.history.specs.Faults.{First}

module _ (F : Fault → Type 0) where
  first_code : (f g : Fault) → First F f → First F g → code_of f.kind ≤ code_of g.kind
  first_code f g a b = not_lt→le (λ h. a.first g b.holds (inl h))

  first_place : (f g : Fault) → First F f → First F g → code_of f.kind ≡ code_of g.kind → f.place ≤ g.place
  first_place f g a b e = not_lt→le (λ h. a.first g b.holds (inr (sym e, h)))

  pub first_unique : (f g : Fault) → First F f → First F g → f ≡ g
  first_unique f g a b =
      let e : code_of f.kind ≡ code_of g.kind = le_antisymm (first_code f g a b) (first_code g f b a) in
      fault_unique f g e (le_antisymm (first_place f g a b e) (first_place g f b a (sym e)))
