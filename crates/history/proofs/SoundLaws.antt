-- Demand 3 at an instant: no fault holds exactly if its sentence does. Assumes nothing.
use mathlib.Core.Path.{◌≡◌, refl, sym, ◌∙◌}
use mathlib.Core.Logic.{◌≢◌, inl, inr, ⊎_elim, ◌↔◌}
use Prim.Native.Nat.{ℕ, ◌≤◌, ◌<◌}
use native.Mathlib.Decide.{ℕ_discrete, dec_le, dec_lt}
use native.Mathlib.Omega.{arith}
use Rattle.answers.specs.declared.Kind.{Kind}
use Rattle.answers.specs.declared.Kind.TheVariants as kind
use Rattle.answers.specs.Refusals.{fault}
use Rattle.history.specs.Faults.{History, Into, Gap, Double, Here, HoldsAt, Faultless}
use Rattle.history.specs.Ruled.{Ruled}
use Rattle.history.specs.Sound.{Touched, OneChain, Missing, OneReference, Sound}
use Rattle.history.proofs.Chains.{into_dec}
use Rattle.history.proofs.Tree.{Tree, tree}
use Rattle.history.proofs.RuledLaws.{ruled_below}

module _ (H : History) (t : ℕ) where
  -- whether a node is present can be decided
  pub here_dec : (n : ℕ) → Dec (Here H t n)
  here_dec n = go (ℕ_discrete n 0) (dec_le H.start t) (into_dec H.edges H.edge t n)
    where
      go : Dec (n ≡ 0) → Dec (H.start ≤ t) → Dec ((i : ℕ) × Into H.edges H.edge t n i) → Dec (Here H t n)
      go (yes e) (yes s) d = yes (inl (e, s))
      go (yes e) (no s) d = no (⊎_elim (λ p. s p.1) (λ p. p.0 e))
      go (no e) s (yes i) = yes (inr (e, i))
      go (no e) s (no i) = no (⊎_elim (λ p. e p.0) (λ p. i p.1))

  pub not_away : (n : ℕ) → ((Here H t n → ⊥) → ⊥) → Here H t n
  not_away n f = go (here_dec n)
    where
      go : Dec (Here H t n) → Here H t n
      go (yes h) = h
      go (no h) = absurd (f h)

  -- a node missing between two stays has a GAP, and the other way round
  gap_missing : (n : ℕ) → Gap H.edges H.edge t n → Missing H t n
  gap_missing n (ne, none, a, b) = (⊎_elim (λ p. ne p.0) (λ p. none p.1.0 p.1.1), a, b)

  missing_gap : Ruled H → (n : ℕ) → Missing H t n → Gap H.edges H.edge t n
  missing_gap r n (away, (i, a), b) = (ne, λ j p. away (inr (ne, (j, p))), (i, a), b)
    where
      ne : n ≢ 0
      ne e = (r.edge_fits i a.row).not_root (a.into ∙ e)

  -- two references in force from one attribute are a DOUBLE, and the other way round
  pub undoubled_one : ((a : ℕ) → Double H.ref t H.refs a → ⊥) → OneReference H t
  undoubled_one none j k x y e = go (dec_lt j k) (dec_lt k j)
    where
      go : Dec (j < k) → Dec (k < j) → j ≡ k
      go (yes h) g = absurd (none _ (j, k, h, y.0, (e, x.1), (refl, y.1)))
      go (no h) (yes g) = absurd (none _ (k, j, g, x.0, (sym e, y.1), (refl, x.1)))
      go (no h) (no g) = omega arith

  pub one_undoubled : OneReference H t → (a : ℕ) → Double H.ref t H.refs a → ⊥
  one_undoubled one a (j, k, g, h, x, y) =
      omega (arith, one j k (omega arith, x.1) (h, y.1) (x.0 ∙ sym y.0))

  module _ (r : Ruled H) where
    tree_tells : Tree H.edges H.edge t ↔ ((n : ℕ) → Touched H.edges H.edge t n
        → OneChain H.edges H.edge t 0 n)
    tree_tells = tree H.edges H.edge t H.nodes (ruled_below H r)

    faultless_sound : Faultless H t → Sound H t
    faultless_sound f =
        record {
          reached =
              tree_tells.0 (record {
                no_overlap = λ n. f (fault kind.Overlap n);
                no_outside = λ n. f (fault kind.Outside n);
                no_cycle = λ n. f (fault kind.Cycle n);
              });
          unbroken = λ n x. f (fault kind.Gap n) (missing_gap r n x);
          joined = λ k x. (
            not_away _ (λ a. f (fault kind.Late k) (x, a)),
            not_away _ (λ a. f (fault kind.Dangling k) (x, a)),
          );
          single = undoubled_one (λ a. f (fault kind.Double a));
        }

    sound_faultless : Sound H t → (k : Kind) (p : ℕ) → HoldsAt H t k p → ⊥
    sound_faultless s kind.Overlap n x = (tree_tells.1 s.reached).no_overlap n x
    sound_faultless s kind.Gap n x = s.unbroken n (gap_missing n x)
    sound_faultless s kind.Outside n x = (tree_tells.1 s.reached).no_outside n x
    sound_faultless s kind.Cycle n x = (tree_tells.1 s.reached).no_cycle n x
    sound_faultless s kind.Late k x = x.1 (s.joined k x.0).0
    sound_faultless s kind.Dangling k x = x.1 (s.joined k x.0).1
    sound_faultless s kind.Double a x = one_undoubled s.single a x

    pub sound : Faultless H t ↔ Sound H t
    sound = (faultless_sound, λ s f. sound_faultless s f.kind f.place)
