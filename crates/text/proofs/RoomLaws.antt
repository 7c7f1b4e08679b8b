-- Room for what is read.
--   Most         lent tables as long as the sizes allow; most_fits: they have room for all tables within the sizes
--   front_long   what fills the front of a list is within it
--   read_fits    where read text does not refuse, each lent table is long enough for its rows
-- Assumes nothing.
use mathlib.Core.List.{List}
use mathlib.Core.Path.{◌≡◌}
use Prim.Native.Nat.{ℕ, ◌*◌, ◌≤◌}
use native.Mathlib.Omega.{arith}
use lib.ListN.{length, length-append, drop}
use Rattle.ground.specs.Lists.{front}
use Rattle.tables.specs.Tables.{node_width, edge_width, ref_width, Tables}
use Rattle.tables.specs.Rules.{most_nodes, most_edges, most_refs, Sizes}
use Rattle.std.specs.Prelude.{Ok}
use Rattle.text.specs.declared.forms.Counts.{Counts}
use Rattle.text.specs.Answers.{Fits, Read, took}

pub record Most (n e f : List ℕ) : Type 0 where
  pub nodes : length n ≡ most_nodes * node_width
  pub edges : length e ≡ most_edges * edge_width
  pub refs : length f ≡ most_refs * ref_width

pub most_fits : {t : Tables} {n e f : List ℕ} → Most n e f → Sizes t → Fits t n e f
most_fits m s =
    record {
      nodes = omega (arith, s.nodes.whole, s.nodes.most);
      edges = omega (arith, s.edges.whole, s.edges.most);
      refs = omega (arith, s.refs.whole, s.refs.most);
    }

pub front_long : (xs old : List ℕ) → length xs ≤ length (front xs old)
front_long xs old = omega (arith, length-append xs (drop (length xs) old))

pub read_fits : {s n e f : List ℕ} {c : Counts} {n' e' f' : List ℕ} → Read s n e f (Ok c) n' e' f'
    → (c.nodes * node_width ≤ length n') × (c.edges * edge_width ≤ length e') × (c.refs * ref_width ≤ length f')
read_fits {n = n} {e} {f} (took {t} a h) = (
  omega (arith, front_long t.nodes.numbers n),
  omega (arith, front_long t.edges.numbers e),
  omega (arith, front_long t.refs.numbers f),
)
