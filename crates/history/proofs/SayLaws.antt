-- Line after line of the table: what one line answers, and that all of them name the first fault. Assumes nothing.
use mathlib.Core.Path.{◌≡◌, refl, sym, ap, ◌∙◌, subst}
use mathlib.Core.Logic.{⊎_elim}
use mathlib.Core.Bool.{true, not, ◌||◌, false≢true}
use mathlib.Core.List.{List, [], ◌∷◌}
use Prim.Native.Nat.{ℕ, ◌≤◌, ◌<◌}
use native.Mathlib.Omega.{arith}
use lib.Dec.{eqb}
use borrow.Author.Tests.{lt-ltb, le-ltb, not-true, eqb-false, ne_eqb}
use Rattle.ground.specs.Least.{Least}
use Rattle.ground.specs.Searches.{least}
use Rattle.ground.proofs.TestLaws.{by_lt}
use Rattle.ground.proofs.LeastLaws.{least_tells, least_none}
use Rattle.answers.specs.declared.Kind.{Kind}
use Rattle.answers.specs.declared.Kind.TheVariants.{Gap}
use Rattle.answers.specs.declared.Fault.{Fault}
use Rattle.answers.specs.Answers.{Answer}
use Rattle.answers.specs.Answers.{Faulty}
use Rattle.answers.specs.Numbers.{code_of, refuses, passed}
use Rattle.answers.specs.Kinds.{kinds, shown_kinds}
use Rattle.answers.specs.Refusals.{fault}
use Rattle.answers.proofs.KindLaws.{code_unique, every_kind, is_in, kind_listed, in_here, in_more, in_cases, every_in}
use Rattle.answers.proofs.KindLaws.{rises, rises_first, rises_rest}
use Rattle.answers.proofs.AnswerLaws.{first_refuses, first_passes}
use Rattle.history.specs.Faults.{History, HoldsAt, Holds, Ahead, GapAside}
use Rattle.history.specs.Ruled.{Ruled}
use Rattle.history.specs.Places.{places, Names, none, first}
use Rattle.history.specs.Computed.{holds, line_says, say, faults_say, shown_say}
use Rattle.history.proofs.LineLaws.{lawful}

-- one line, by its least place: it is the answer, or the lines after it are
module _ (H : History) (t : ℕ) (k : Kind) {p : ℕ} (e : p ≡ least (holds H t k) (places H k)) where
  line_found : p < places H k → line_says H t k ≡ Faulty t (fault k p)
  line_found h = rw (← e, lt-ltb p (places H k) h)

  line_none : places H k ≤ p → line_says H t k ≡ passed
  line_none h = rw (← e, le-ltb p (places H k) h)

  pub say_found : (ks : List Kind) → p < places H k → Faulty t (fault k p) ≡ say H t (k ∷ ks)
  unfolding say
  say_found ks h =
      let l = line_found h in
      sym (first_refuses (line_says H t k) (say H t ks) (ap (λ a. refuses a) l) ∙ l)

  pub say_on : (ks : List Kind) → places H k ≤ p → {a : Answer} → a ≡ say H t ks → a ≡ say H t (k ∷ ks)
  unfolding say
  say_on ks h q = q ∙ sym (first_passes (line_says H t k) (say H t ks) (ap (λ a. refuses a) (line_none h)))

-- line after line, of kinds whose codes rise: of faults with a property that all faults of these kinds have, and no
-- others, the first is named
module _ (H : History) (t : ℕ) (r : Ruled H) (F : Fault → Type 0) (from : (f : Fault) → F f → Holds H t f) where
  named : (ks : List Kind) → rises ks ≡ true
      → ((k : Kind) → is_in k ks ≡ true → (p : ℕ) → HoldsAt H t k p → F (fault k p))
      → ((f : Fault) → F f → is_in f.kind ks ≡ true)
      → Names F t (say H t ks)
  unfolding say
  named [] rise to only = none (λ f x. false≢true (only f x))
  named (k ∷ ks) rise to only =
      by_lt p (places H k) found
      (λ h. missed h (named ks (rises_rest k ks rise) (λ j i. to j (in_more j k ks i)) (later h)))
    where
      p : ℕ
      p = least (holds H t k) (places H k)

      at : Least (λ q. F (fault k q)) (places H k) p
      at =
          least_tells (holds H t k) (λ q. F (fault k q)) (places H k)
          (λ q h.
          let l = (lawful H k).tells r t q in
          (λ e. to k (in_here k ks) q (l.0 e), λ x. l.1 (from (fault k q) x)))

      is_k : (g : Fault) → code_of k ≡ code_of g.kind → F g → F (fault k g.place)
      is_k g e = subst (λ j. F (fault j g.place)) (sym (code_unique k g.kind e))

      before : (g : Fault) → F g → Ahead g (fault k p) → ⊥
      before g x ahead =
          ⊎_elim
          (λ e. ⊎_elim (λ l. omega arith) (λ l. at.before g.place l.1 (is_k g e x)) ahead)
          (λ i. let up = rises_first k ks rise g.kind i in ⊎_elim (λ l. omega arith) (λ l. omega arith) ahead)
          (in_cases g.kind k ks (only g x))

      found : p < places H k → Names F t (say H t (k ∷ ks))
      found h = subst (Names F t) (say_found H t k refl ks h) (first (record { holds = at.here h; first = before }))

      later : places H k ≤ p → (f : Fault) → F f → is_in f.kind ks ≡ true
      later h f x =
          ⊎_elim
          (λ e.
          let y = is_k f e x in
          absurd (least_none (λ q. F (fault k q)) at h f.place ((lawful H k).below r t f.place (from _ y)) y))
          (λ i. i)
          (in_cases f.kind k ks (only f x))

      missed : places H k ≤ p → Names F t (say H t ks) → Names F t (say H t (k ∷ ks))
      missed h = subst (Names F t) (say_on H t k refl ks h refl)

module _ (H : History) (t : ℕ) (r : Ruled H) where
  pub faults_named : Names (Holds H t) t (faults_say H t)
  faults_named = named H t r (Holds H t) (λ f x. x) kinds refl (λ k i p x. x) (λ f x. kind_listed f.kind)

  pub shown_named : Names (GapAside H t) t (shown_say H t)
  shown_named =
      named H t r (GapAside H t) (λ f x. x.0) shown_kinds refl
      (λ k i p x. (
        x,
        eqb-false _ _ (not-true _ (every_in (λ k. not (eqb (code_of k) (code_of Gap))) shown_kinds k refl i)),
      ))
      (λ f x. let e = ne_eqb _ _ x.1 in
      rw e at (every_kind (λ k. eqb (code_of k) (code_of Gap) || is_in k shown_kinds) refl f.kind))
