-- How often a node stands in a walk, whatever lists of children it goes by. Assumes nothing.
use mathlib.Core.Path.{◌≡◌, refl, sym, ap}
use mathlib.Core.List.{List, [], ◌∷◌, ◌++◌}
use Prim.Native.Nat.{ℕ, zero, suc, ◌+◌, ◌<◌}
use native.Mathlib.Omega.{arith}
use lib.Dec.{eqb}
use lib.ListN.{length}
use borrow.Author.Tests.{eq-eqb, ne_eqb}
use Rattle.ground.specs.Sums.{sum, bit}
use Rattle.ground.specs.Among.{All}
use Rattle.ground.proofs.SumLaws.{sum_add, sum_zero, sum_one}
use Rattle.snapshot.specs.Snapshot.{ShownRow}
use Rattle.snapshot.specs.Exact.{standing}
use Rattle.snapshot.specs.Walk.{each, shown_row, subtree}
use Rattle.snapshot.specs.Counts.{occurs}

standing_append : (x : ℕ) (xs ys : List ShownRow) → standing x (xs ++ ys) ≡ standing x xs + standing x ys
unfolding standing
standing_append x [] ys = omega arith
standing_append x (z ∷ zs) ys = omega (arith, standing_append x zs ys)

-- x stands in what f gives at c as q does in what g gives, and once more where c is x
standing_each : (x q : ℕ) (f g : ℕ → List ShownRow) → ((c : ℕ) → standing x (f c) ≡ bit (eqb c x) + standing q (g c))
    → (cs : List ℕ)
    → standing x (each f cs) ≡ occurs x cs + standing q (each g cs)
unfolding standing each occurs
standing_each x q f g h [] = refl
standing_each x q f g h (c ∷ cs) =
    let more = standing_each x q f g h cs in
    omega (arith, standing_append x (f c) (each f cs), standing_append q (g c) (each g cs), h c)

each_nothing : (cs : List ℕ) → each (λ c. []) cs ≡ []
unfolding each
each_nothing [] = refl
each_nothing (c ∷ cs) = each_nothing cs

module _ (ρ : ℕ → ℕ) (kids : ℕ → List ℕ) (x : ℕ) where
  -- where x is a child of q alone, the walk meets x as often as it meets q one step before
  pub last_row : (q : ℕ) → ((n : ℕ) → occurs x (kids n) ≡ bit (eqb n q)) → (l p n : ℕ)
      → standing x (subtree ρ kids (suc l) p n) ≡ bit (eqb n x) + standing q (subtree ρ kids l p n)
  unfolding standing subtree
  last_row q h zero p n = ap (λ r. bit (eqb n x) + standing x r) (each_nothing (kids n))
  last_row q h (suc l) p n =
      omega (arith, standing_each x q (subtree ρ kids (suc l) n) (subtree ρ kids l n) (last_row q h l n) (kids n), h n)

  -- where x is no child, the walk meets it only at its start
  pub no_row : ((n : ℕ) → occurs x (kids n) ≡ 0) → (l p n : ℕ) → standing x (subtree ρ kids (suc l) p n) ≡ bit (eqb n x)
  unfolding standing subtree
  no_row h zero p n = omega (arith, ap (standing x) (each_nothing (kids n)))
  no_row h (suc l) p n =
      omega (
        arith,
        standing_each x x (subtree ρ kids (suc l) n) (λ c. []) (λ c. omega (arith, no_row h l n c)) (kids n),
        ap (standing x) (each_nothing (kids n)),
        h n,
      )

pub all_map : {A : Type 0} {P Q : A → Type 0} → ((x : A) → P x → Q x) → (xs : List A) → All P xs → All Q xs
all_map f [] a = tt
all_map f (x ∷ xs) a = (f x a.0, all_map f xs a.1)

pub all_append : {A : Type 0} (P : A → Type 0) (xs ys : List A) → All P xs → All P ys → All P (xs ++ ys)
all_append P [] ys a b = b
all_append P (x ∷ xs) ys a b = (a.0, all_append P xs ys a.1 b)

all_each : (P : ShownRow → Type 0) (f : ℕ → List ShownRow) (cs : List ℕ) → All (λ c. All P (f c)) cs → All P (each f cs)
unfolding each
all_each P f [] a = tt
all_each P f (c ∷ cs) a = all_append P (f c) (each f cs) a.0 (all_each P f cs a.1)

-- what holds of each child under its parent holds of the whole walk
pub walk_all : (ρ : ℕ → ℕ) (kids : ℕ → List ℕ) (P : ShownRow → Type 0)
    → ((n : ℕ) → All (λ c. P (shown_row ρ n c)) (kids n))
    → (l p n : ℕ) → P (shown_row ρ p n) → All P (subtree ρ kids l p n)
unfolding subtree
walk_all ρ kids P h zero p n a = tt
walk_all ρ kids P h (suc l) p n a =
    (a, all_each P (λ c. subtree ρ kids l n c) (kids n) (all_map (λ c b. walk_all ρ kids P h l n c b) (kids n) (h n)))

-- each row's node is one of the numbers below n
pub standing_sum : (n : ℕ) (xs : List ShownRow) → All (λ y. y.node < n) xs → sum (λ x. standing x xs) n ≡ length xs
unfolding standing
standing_sum n [] a = sum_zero (λ x. 0) n (λ i h. refl)
standing_sum n (y ∷ ys) a =
    omega (
      arith,
      sum_add (λ x. bit (eqb y.node x)) (λ x. standing x ys) n,
      sum_one (λ x. bit (eqb y.node x)) n y.node a.0 (λ i h d. ap bit (ne_eqb y.node i (λ e. d (sym e)))),
      ap bit (eq-eqb y.node y.node refl),
      standing_sum n ys a.1,
    )
