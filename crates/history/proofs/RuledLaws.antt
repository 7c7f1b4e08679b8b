-- What the rules of rows say of the history that tables hold. Assumes nothing.
use mathlib.Core.Path.{◌≡◌, refl, sym, ap, ◌∙◌, subst}
use Rattle.std.specs.Prelude.{Ok}
use Rattle.answers.specs.declared.Outcome.{Outcome}
use Rattle.answers.specs.Answers.{Answer}
use Rattle.answers.specs.Numbers.{refuses}
use mathlib.Core.Logic.{⊎_elim}
use Prim.Native.Nat.{ℕ, ◌+◌, ◌*◌, ◌≤◌, ◌<◌}
use native.Mathlib.Omega.{arith}
use lib.ListN.{get_or}
use Rattle.tables.specs.Rows.{Side}
use Rattle.tables.specs.Rows.{Attribute, Target}
use Rattle.tables.specs.Tables.{Now, NodeRow, EdgeRow, edge_width, edge_at, Tables, node_in, edge_in}
use Rattle.tables.specs.Rows.{side_of}
use Rattle.tables.specs.Rules.{NodeRule, EdgeRule, Obeys}
use Rattle.tables.specs.Says.{history_says}
use Rattle.tables.proofs.GivesLaws.{obeys_tells}
use Rattle.history.specs.Faults.{History, held}
use Rattle.history.specs.Ruled.{EdgeFits, Ruled, LentRows}
use Rattle.history.specs.Places.{NodesBelow}

pub ruled_below : (H : History) → Ruled H → NodesBelow H.edges H.edge H.nodes
ruled_below H r i h = ((r.edge_fits i h).parent, (r.edge_fits i h).child)

pub ruled_side : (H : History) → Ruled H → (side : Side) (k : ℕ) → k < H.refs → side_of side (H.ref k) < H.nodes
ruled_side H r Attribute k h = (r.ref_fits k h).attribute
ruled_side H r Target k h = (r.ref_fits k h).target

-- the child's kind is one that may be held, and the root's is not
pub edge_fits : (start n : ℕ) (node : ℕ → NodeRow) (e : EdgeRow) → NodeRule 0 (node 0) → EdgeRule start n node e
    → EdgeFits start n e
edge_fits start n node e root r =
    record {
      parent = r.parent;
      child = r.child;
      not_root = λ z. held (subst (λ x. (node x).kind ≡ 0) (sym z) (root.first refl));
      begins = r.label.begins;
      ends = r.label.ends;
    }
  where
    held : (node e.child).kind ≡ 0 → ⊥
    held z = ⊎_elim (λ u. omega arith) (λ u. omega arith) r.allowed

pub obeys_ruled : (L : Tables) → Obeys L → Ruled (held L)
obeys_ruled L o =
    let s = o.sizes in
    let root : 0 < L.nodes.count = s.nodes.least in
    record {
      root = root;
      few_nodes = s.nodes.most;
      few_edges = s.edges.most;
      few_refs = s.refs.most;
      edge_fits =
          λ i h. edge_fits L.start L.nodes.count (node_in L) (edge_in L i) (o.node_rule 0 root)
          (o.edge_rule i h);
      ref_fits = λ k h.
          let r = o.ref_rule k h in
          record { attribute = r.attribute; target = r.target; begins = r.label.begins; ends = r.label.ends };
    }

-- what the rules pass over obeys them
pub passes_obey : (L : Tables) {a : Answer} {done : Outcome} → a ≡ history_says L → a ≡ Ok done → Obeys L
passes_obey L e f = (obeys_tells L).0 (ap (λ a. refuses a) (sym e ∙ f))

pub obeys_lent : (L : Tables) → Obeys L
    → LentRows L.start L.nodes.count L.edges.numbers L.edges.count L.refs.numbers L.refs.count
obeys_lent L o =
    record {
      edge_rows = omega (arith, o.sizes.edges.whole);
      ref_rows = omega (arith, o.sizes.refs.whole);
      ruled = obeys_ruled L o;
    }

pub passes_lent : (L : Tables) {a : Answer} {done : Outcome} → a ≡ history_says L → a ≡ Ok done
    → LentRows L.start L.nodes.count L.edges.numbers L.edges.count L.refs.numbers L.refs.count
passes_lent L e f = obeys_lent L (passes_obey L e f)

-- where the containment table is of 32-bit numbers, no label passes Now
pub held_ends : (L : Tables) → ((k : ℕ) → get_or L.edges.numbers k 0 ≤ Now) → (i : ℕ) → i < (held L).edges
    → ((held L).edge i).to ≤ Now
unfolding edge_at
held_ends L small i h = small (i * edge_width + 3)
