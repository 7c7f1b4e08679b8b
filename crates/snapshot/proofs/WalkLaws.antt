-- Laws of the walk: its first step, walks by children and referents that agree, and the numbers of its rows.
-- Assumes nothing.
use mathlib.Core.Path.{◌≡◌, refl, sym, ap, ap₂, ◌∙◌}
use mathlib.Core.List.{List, [], ◌∷◌, ◌++◌, append_assoc}
use Prim.Native.Nat.{ℕ, zero, suc, ◌-◌, ◌*◌, ◌<◌}
use native.Mathlib.Omega.{arith}
use lib.ListN.{length}
use Rattle.ground.specs.Among.{All}
use Rattle.snapshot.specs.Snapshot.{ShownRow, shown_width, shown_numbers}
use Rattle.snapshot.specs.Walk.{each, shown_row, subtree}

pub each_append : (f : ℕ → List ShownRow) (xs ys : List ℕ) → each f (xs ++ ys) ≡ each f xs ++ each f ys
unfolding each
each_append f [] ys = refl
each_append f (x ∷ xs) ys = ap (λ l. f x ++ l) (each_append f xs ys) ∙ sym (append_assoc (f x) (each f xs) (each f ys))

-- two functions that agree at each element of the list
each_ext : (P : ℕ → Type 0) (f g : ℕ → List ShownRow) → ((x : ℕ) → P x → f x ≡ g x) → (xs : List ℕ) → All P xs
    → each f xs ≡ each g xs
unfolding each
each_ext P f g h [] a = refl
each_ext P f g h (x ∷ xs) a = ap₂ ◌++◌ (h x a.0) (each_ext P f g h xs a.1)

pub numbers_append : (xs ys : List ShownRow) → shown_numbers (xs ++ ys) ≡ shown_numbers xs ++ shown_numbers ys
unfolding shown_numbers
numbers_append [] ys = refl
numbers_append (x ∷ xs) ys = ap (λ l. x.node ∷ x.parent ∷ x.referent ∷ l) (numbers_append xs ys)

pub numbers_length : (xs : List ShownRow) → length (shown_numbers xs) ≡ length xs * shown_width
unfolding shown_numbers
numbers_length [] = refl
numbers_length (x ∷ xs) = omega (arith, numbers_length xs)

-- the first step of a walk
pub peel : (ρ : ℕ → ℕ) (kids : ℕ → List ℕ) (left p n : ℕ) → 0 < left
    → subtree ρ kids left p n ≡ shown_row ρ p n ∷ each (subtree ρ kids (left - 1) n) (kids n)
unfolding subtree
peel ρ kids zero p n h = absurd (omega arith)
peel ρ kids (suc left) p n h = let e : suc left - 1 ≡ left = omega arith in rw e

-- children and referents that agree at each node of the walk give the same walk
module _ (P : ℕ → Type 0) (ρ σ : ℕ → ℕ) (alike : (n : ℕ) → P n → ρ n ≡ σ n) (kids kids' : ℕ → List ℕ)
    (same : (n : ℕ) → P n → kids n ≡ kids' n) (stay : (n : ℕ) → P n → All P (kids' n)) where
  pub subtree_ext : (left p n : ℕ) → P n → subtree ρ kids left p n ≡ subtree σ kids' left p n
  unfolding subtree
  subtree_ext zero p n h = refl
  subtree_ext (suc left) p n h =
      ap₂ (λ r l. record { node = n; parent = p; referent = r } ∷ l) (alike n h)
      (ap (each (λ c. subtree ρ kids left n c)) (same n h)
      ∙ each_ext P (λ c. subtree ρ kids left n c) (λ c. subtree σ kids' left n c) (λ c q. subtree_ext left n c q)
      (kids' n) (stay n h))
