-- The tests of rows tell their rules. Assumes nothing.
use mathlib.Core.Path.{◌≡◌}
use mathlib.Core.Logic.Iff
use mathlib.Core.Logic.{◌≢◌, ◌⊎◌, inl, inr, ⊎_elim}
use mathlib.Core.Bool.{Bool, true, false, ◌&&◌}
use Prim.Native.Nat.{ℕ, ◌≤◌, ◌<◌}
use native.Mathlib.Decide.{ℕ_discrete}
use native.Mathlib.Omega.{arith}
use Rattle.ground.specs.Tests.{Tells}
use Rattle.ground.proofs.TestLaws.{tells_and, tells_or, tells_not, tells_le, tells_lt, tells_eq}
use borrow.Author.Tests.{lt-ltb}
use Rattle.tables.specs.declared.label.Label.{Label}
use Rattle.tables.specs.Tables.{Now, NodeRow, EdgeRow, RefRow}
use Rattle.tables.specs.Labels.{instant_of, label_of}
use Rattle.tables.specs.Rules.{root, element, plain_attribute, id_attribute, ref_attribute, value, most_label}
use Rattle.tables.specs.Rules.{NodeRule, MayHold, LabelRule, EdgeRule, RefRule}
use Rattle.tables.specs.Tests.{node_rule_of, may_hold_of, may_refer_of, label_rule_of, may_join_of, join_rule}
use Rattle.tables.proofs.LabelLaws.{instant_end}

pub node_tells : (i : ℕ) (x : NodeRow) → Tells (node_rule_of i x) (NodeRule i x)
node_tells i x = Iff.trans parts (there, back)
  where
    Root : Type 0
    Root = ((i ≡ 0) × (x.kind ≡ root)) ⊎ ((i ≢ 0) × (x.kind ≢ root))

    Rest : Type 0
    Rest = ((x.kind ≡ value) × (x.label ≡ 0)) ⊎
        (((x.kind < value) × ((1 ≤ x.label) × (x.label ≤ most_label))) × (x.value ≡ 0))

    parts : Tells (node_rule_of i x) (Root × Rest)
    parts =
        tells_and _ _
        (tells_or _ _ (tells_and _ _ (tells_eq i 0) (tells_eq x.kind root))
        (tells_and _ _ (tells_not _ (tells_eq i 0)) (tells_not _ (tells_eq x.kind root))))
        (tells_or _ _ (tells_and _ _ (tells_eq x.kind value) (tells_eq x.label 0))
        (tells_and _ _ (tells_and _ _ (tells_lt x.kind value)
        (tells_and _ _ (tells_le 1 x.label) (tells_le x.label most_label))) (tells_eq x.value 0)))

    there : Root × Rest → NodeRule i x
    there (a, b) =
        record {
          kind = ⊎_elim (λ u. omega arith) (λ u. omega arith) b;
          value_label = λ e. ⊎_elim (λ u. u.1) (λ u. absurd (omega arith)) b;
          other_label = λ ne. ⊎_elim (λ u. absurd (ne u.0)) (λ u. u.0.1) b;
          other_value = λ ne. ⊎_elim (λ u. absurd (ne u.0)) (λ u. u.1) b;
          first = λ e. ⊎_elim (λ u. u.1) (λ u. absurd (u.0 e)) a;
          no_other = λ ne. ⊎_elim (λ u. absurd (ne u.0)) (λ u. u.1) a;
        }

    back : NodeRule i x → Root × Rest
    back r = (at_root (ℕ_discrete i 0), of_kind (ℕ_discrete x.kind value))
      where
        at_root : Dec (i ≡ 0) → Root
        at_root (yes e) = inl (e, r.first e)
        at_root (no ne) = inr (ne, r.no_other ne)

        of_kind : Dec (x.kind ≡ value) → Rest
        of_kind (yes e) = inl (e, r.value_label e)
        of_kind (no ne) = inr ((omega (arith, r.kind), r.other_label ne), r.other_value ne)

pub holds_tells : (p c : ℕ) → Tells (may_hold_of p c) (MayHold p c)
holds_tells p c =
    tells_or _ _
    (tells_and _ _ (tells_or _ _ (tells_eq p root) (tells_eq p element))
    (tells_and _ _ (tells_le element c) (tells_le c value)))
    (tells_and _ _ (tells_or _ _ (tells_eq p plain_attribute) (tells_eq p id_attribute)) (tells_eq c value))

refers_tells : (a t : ℕ) → Tells (may_refer_of a t) ((a ≡ ref_attribute) × (t ≡ element))
refers_tells a t = tells_and _ _ (tells_eq a ref_attribute) (tells_eq t element)

pub label_tells : (start from to : ℕ) → Tells (label_rule_of start from to) (LabelRule start from to)
label_tells start from to =
    Iff.trans (tells_and _ _ (tells_and _ _ (tells_le start from) (tells_le from to)) (tells_not _ (tells_eq from Now)))
    (λ ((a, b), c). record { begins = a; ends = b; not_now = c }, λ r. ((r.begins, r.ends), r.not_now))

-- the test of a row of either kind: two nodes of n, of kinds that may be joined, and a label
join_tells : (refers : Bool) (May : ℕ → ℕ → Type 0) → ((a b : ℕ) → Tells (may_join_of refers a b) (May a b))
    → (start n : ℕ) (node : ℕ → NodeRow) (a b from to : ℕ)
    → Tells (join_rule refers start n node a b from to)
    (((a < n) × (b < n)) × (May (node a).kind (node b).kind × LabelRule start from to))
join_tells refers May may start n node a b from to =
    tells_and _ _ (tells_and _ _ (tells_lt a n) (tells_lt b n))
    (tells_and _ _ (may (node a).kind (node b).kind) (label_tells start from to))

module _ (start n : ℕ) (node : ℕ → NodeRow) where
  pub edge_tells : (e : EdgeRow)
      → Tells (join_rule false start n node e.parent e.child e.from e.to) (EdgeRule start n node e)
  edge_tells e =
      Iff.trans (join_tells false MayHold holds_tells start n node e.parent e.child e.from e.to) (
        λ ((p, c), (a, l)). record { parent = p; child = c; allowed = a; label = l },
        λ r. ((r.parent, r.child), (r.allowed, r.label)),
      )

  pub ref_tells : (r : RefRow)
      → Tells (join_rule true start n node r.attribute r.target r.from r.to) (RefRule start n node r)
  ref_tells r =
      Iff.trans
      (join_tells true (λ a t. (a ≡ ref_attribute) × (t ≡ element)) refers_tells start n node r.attribute r.target
      r.from r.to) (
        λ ((a, t), ((ka, kt), l)). record
            { attribute = a; target = t; attribute_kind = ka; target_kind = kt; label = l },
        λ x. ((x.attribute, x.target), ((x.attribute_kind, x.target_kind), x.label)),
      )

-- a row that joins nodes that there are, by the numbers of their kinds and by its label
pub joins_is : (refers : Bool) (start n : ℕ) (node : ℕ → NodeRow) (from to : ℕ) {a b : ℕ} → a < n → b < n
    → {x y : NodeRow} → x ≡ node a → y ≡ node b → {p q : ℕ} → p ≡ x.kind → q ≡ y.kind
    → {may : Bool} → may ≡ may_join_of refers p q
    → {l : Label} → l ≡ label_of from to → {ruled : Bool} → ruled ≡ label_rule_of start l.from (instant_of l.end)
    → may && ruled ≡ join_rule refers start n node a b from to
joins_is refers start n node from to la lb ex ey ep eq em el er =
    simp (lt-ltb _ _ la, lt-ltb _ _ lb, em, ep, eq, ex, ey, er, el, instant_end)
