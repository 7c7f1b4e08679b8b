-- Two answers with the same numbers are the same answer. Refusals in a row. Assumes nothing.
use mathlib.Core.Path.{◌≡◌, refl, sym, ap, ap₂, ◌∙◌}
use mathlib.Core.Bool.{Bool, true, false, not, cond, false≢true}
use mathlib.Core.List.{List, [], ◌∷◌, map}
use Rattle.std.specs.Prelude.{Ok, Err}
use Prim.Native.Nat.{ℕ}
use lib.Dec.{eqb}
use borrow.Author.Tests.{not-true}
use Rattle.ground.specs.Among.{is_among}
use Rattle.ground.proofs.TestLaws.{by_test}
use Rattle.answers.specs.declared.Fault.{Fault}
use Rattle.answers.specs.declared.Refusal.TheVariants as refusal
use Rattle.answers.specs.Answers.{Answer, Done, Size, Start, Node, Edge, Reference, Faulty, Room, Tie, Early, Text}
use Rattle.answers.specs.Answers.{TextRoom}
use Rattle.answers.specs.Numbers.{Numbers, code_of, numbers, refuses}
use Rattle.answers.specs.Refusals.{fault, when, ◌⨾◌}
use Rattle.answers.proofs.KindLaws.{kind_of, kind_back, code_unique, every_kind}

pub fault_unique : (f g : Fault) → code_of f.kind ≡ code_of g.kind → f.place ≡ g.place → f ≡ g
fault_unique f g c p = ap₂ fault (code_unique f.kind g.kind c) p

-- the answers that name no fault, with an instant and a place; the code decides which of them has three numbers
abbrev plain : ℕ → ℕ → List Answer
plain t p =
    Done t p ∷ Size p ∷ Start ∷ Node p ∷ Edge p ∷ Reference p ∷ Room t p ∷ Tie t p ∷ Early t ∷ Text p ∷ TextRoom p
    ∷ []

abbrev pick : ℕ → List Answer → Answer → Answer
pick c [] other = other
pick c (a ∷ xs) other = cond (eqb (numbers a).code c) a (pick c xs other)

pick_other : (c : ℕ) (xs : List Answer) (other : Answer) → is_among (map (λ a. (numbers a).code) xs) c ≡ false
    → pick c xs other ≡ other
pick_other c [] other e = refl
pick_other c (a ∷ xs) other e =
    by_test (eqb (numbers a).code c)
    (λ t. absurd (false≢true (sym (rw t at e))))
    (λ f. rw f (pick_other c xs other (rw f at e)))

-- a left inverse of `numbers` wants a clause for each case, and not one for each pair
abbrev answer : Numbers → Answer
answer n =
    pick n.code (plain n.instant n.place) (Faulty n.instant (fault (kind_of n.code) n.place))

answer_back : (a : Answer) → answer (numbers a) ≡ a
answer_back (Ok done) = refl
answer_back (Err (refusal.Size p)) = refl
answer_back (Err refusal.Start) = refl
answer_back (Err (refusal.Node p)) = refl
answer_back (Err (refusal.Edge p)) = refl
answer_back (Err (refusal.Reference p)) = refl
answer_back (Err (refusal.Faulty t f)) =
    pick_other (code_of f.kind) (plain t f.place) _
    (not-true _ (every_kind (λ k. not (is_among (map (λ a. (numbers a).code) (plain 0 0)) (code_of k))) refl f.kind))
    ∙ ap (λ k. Faulty t (fault k f.place)) (kind_back f.kind)
answer_back (Err (refusal.Room t p)) = refl
answer_back (Err (refusal.Tie t p)) = refl
answer_back (Err (refusal.Early t)) = refl
answer_back (Err (refusal.Text p)) = refl
answer_back (Err (refusal.TextRoom p)) = refl

-- a refusal's code is not 0, and no other answer's
pub refuses_code : (a : Answer) → refuses a ≡ not (eqb (numbers a).code 0)
refuses_code (Ok done) = refl
refuses_code (Err (refusal.Faulty t f)) = sym (every_kind (λ k. not (eqb (code_of k) 0)) refl f.kind)
refuses_code (Err (refusal.Size p)) = refl
refuses_code (Err refusal.Start) = refl
refuses_code (Err (refusal.Node p)) = refl
refuses_code (Err (refusal.Edge p)) = refl
refuses_code (Err (refusal.Reference p)) = refl
refuses_code (Err (refusal.Room t p)) = refl
refuses_code (Err (refusal.Tie t p)) = refl
refuses_code (Err (refusal.Early t)) = refl
refuses_code (Err (refusal.Text p)) = refl
refuses_code (Err (refusal.TextRoom p)) = refl

pub answer_unique : (a b : Answer) → numbers a ≡ numbers b → a ≡ b
answer_unique a b e = sym (answer_back a) ∙ ap answer e ∙ answer_back b

-- a row of refusals is the first that refuses
pub first_refuses : (a b : Answer) → refuses a ≡ true → a ⨾ b ≡ a
first_refuses a b e = rw e

pub first_passes : (a b : Answer) → refuses a ≡ false → a ⨾ b ≡ b
first_passes a b e = rw e

-- it passes only where each of them does
pub both_pass : (a b : Answer) → refuses (a ⨾ b) ≡ false → (refuses a ≡ false) × (refuses b ≡ false)
both_pass a b e = by_test (refuses a) (λ t. absurd (false≢true (sym (rw t at e) ∙ t))) (λ f. (f, rw f at e))

-- a refusal that is not given is one whose test fails
pub when_passes : (t : Bool) (a : Answer) → refuses a ≡ true → refuses (when t a) ≡ false → t ≡ false
when_passes true a r e = absurd (false≢true (sym e ∙ r))
when_passes false a r e = refl
