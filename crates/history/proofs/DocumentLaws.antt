-- Agreement with the paper: a history is a Temporal XML Document exactly if no instant has a fault but DOUBLE, of which
-- the paper says nothing. Assumes nothing.
use mathlib.Core.Path.{refl, ◌∙◌}
use mathlib.Core.Logic.{◌≢◌, inl, inr, ⊎_elim, ◌↔◌}
use Prim.Native.Nat.{ℕ, ◌≤◌, ◌<◌}
use native.Mathlib.Omega.{arith}
use Rattle.answers.specs.declared.Fault.{Fault}
use Rattle.answers.specs.declared.Kind.{Kind}
use Rattle.answers.specs.declared.Kind.TheVariants as kind
use Rattle.answers.specs.Numbers.{code_of}
use Rattle.answers.specs.Refusals.{fault}
use Rattle.tables.specs.Tables.{Now}
use Rattle.history.specs.Faults.{History, Into, Here, HoldsAt, Holds}
use Rattle.history.specs.Document.{Lifespan, InLifespan, RootedTree, Document}
use Rattle.history.specs.Ruled.{Ruled}
use Rattle.history.proofs.Tree.{Tree, same_row, up_row}
use Rattle.history.proofs.SoundLaws.{not_away}
use Rattle.history.proofs.ConsecutiveLaws.{consecutive_no_overlap, consecutive_no_gap}
use Rattle.history.proofs.ListedLaws.{incoming_listed}

-- no fault but DOUBLE
abbrev pub NoneButDouble : History → ℕ → Type 0
NoneButDouble H t = (f : Fault) → code_of f.kind ≢ code_of kind.Double → Holds H t f → ⊥

module _ (H : History) where
  -- the lifespan of a node is when it is present
  lifespan_here : (n t : ℕ) → Lifespan H n t → Here H t n
  lifespan_here n t (inl (e, f)) = inl (e, f.0)
  lifespan_here n t (inr (ne, (i, p, f))) = inr (ne, (i, record { row = p.0; into = p.1; force = f }))

  here_lifespan : (n t : ℕ) → t ≤ Now → Here H t n → Lifespan H n t
  here_lifespan n t now (inl (e, s)) = inl (e, (s, now))
  here_lifespan n t now (inr (ne, (i, p))) = inr (ne, (i, (p.row, p.into), p.force))

  module _ (r : Ruled H) where
    not_root : (n t i : ℕ) → Into H.edges H.edge t n i → n ≢ 0
    not_root n t i p e = (r.edge_fits i p.row).not_root (p.into ∙ e)

    -- where none of OVERLAP, OUTSIDE and CYCLE holds, the rows in force are a tree with the root
    pub rooted_tree : (t : ℕ) → Tree H.edges H.edge t → RootedTree H t
    rooted_tree t w =
        record {
          root = λ i p. not_root 0 t i p refl;
          one = λ n ne x.
              let (i, p) = up_row H.edges H.edge t w.no_outside n ne x in
              (i, p, λ j q. same_row H.edges H.edge t w.no_overlap n j i q p);
          acyclic = λ n i is c. w.no_cycle n (i, is, c);
        }

    -- each fault breaks its condition
    document_faultless : Document H → (t : ℕ) → t ≤ Now → (k : Kind) (p : ℕ) → code_of k ≢ code_of kind.Double
        → HoldsAt H t k p → ⊥
    document_faultless d t now kind.Overlap n other x =
        let (is, those, c) = d.incoming n in
        consecutive_no_overlap H r t n is those c x
    document_faultless d t now kind.Gap n other x =
        let (is, those, c) = d.incoming n in
        consecutive_no_gap H r t n is those c x
    document_faultless d t now kind.Outside n other (ne, (i, o), none) =
        ⊎_elim (λ p. ne p.0) (λ p. none p.1.0 p.1.1)
        (lifespan_here n t (rw o.out at (d.outgoing i o.row t now o.force)))
    document_faultless d t now kind.Cycle n other (i, is, c) = (d.tree t now).acyclic n i is c
    document_faultless d t now kind.Late k other ((h, f), away) = away (lifespan_here _ t (d.attribute k h t now f))
    document_faultless d t now kind.Dangling k other ((h, f), away) = away (lifespan_here _ t (d.target k h t now f))
    document_faultless d t now kind.Double a other x = other refl

    module _ (bound : (i : ℕ) → i < H.edges → (H.edge i).to ≤ Now)
        (none : (t : ℕ) → t ≤ Now → NoneButDouble H t) where
      faultless_outgoing : (i : ℕ) → i < H.edges → InLifespan H (H.edge i).from (H.edge i).to (H.edge i).parent
      faultless_outgoing i h t now f =
          here_lifespan n t now (not_away H t n (λ away. none t now (fault kind.Outside n) (omega arith) (
            λ e. away (inl (e, omega (arith, (r.edge_fits i h).begins, f))),
            (i, record { row = h; out = refl; force = f }),
            λ k p. away (inr (not_root n t k p, (k, p))),
          )))
        where
          n : ℕ
          n = (H.edge i).parent

      faultless_tree : (t : ℕ) → t ≤ Now → RootedTree H t
      faultless_tree t now =
          rooted_tree t (record {
            no_overlap = λ n. none t now (fault kind.Overlap n) (omega arith);
            no_outside = λ n. none t now (fault kind.Outside n) (omega arith);
            no_cycle = λ n. none t now (fault kind.Cycle n) (omega arith);
          })

      faultless_document : Document H
      faultless_document =
          record {
            outgoing = faultless_outgoing;
            incoming = incoming_listed H r bound (λ t now n. none t now (fault kind.Overlap n) (omega arith))
                (λ t now n. none t now (fault kind.Gap n) (omega arith));
            tree = faultless_tree;
            attribute = λ k h t now f.
                here_lifespan _ t now
                (not_away H t _ (λ away. none t now (fault kind.Late k) (omega arith) ((h, f), away)));
            target = λ k h t now f.
                here_lifespan _ t now
                (not_away H t _ (λ away. none t now (fault kind.Dangling k) (omega arith) ((h, f), away)));
          }

-- no label passes Now where rows are of 32-bit numbers, as those of tables are
pub document : (H : History) → Ruled H → ((i : ℕ) → i < H.edges → (H.edge i).to ≤ Now)
    → Document H ↔ ((t : ℕ) → t ≤ Now → NoneButDouble H t)
document H r bound = (λ d t now f. document_faultless H r d t now f.kind f.place, faultless_document H r bound)
