use mathlib.Core.Path.{◌≡◌}
use mathlib.Core.List.{List, [], ◌∷◌}
use Prim.Native.Nat.{ℕ, suc, ◌+◌, ◌*◌}
use native.Mathlib.Numerals.{add-one}
use native.Mathlib.Omega.{arith}
use lib.ListN.{set}
use lib.Seq.{sets}
use Rattle.tables.specs.Tables.{edge_width}
use Rattle.tables.specs.Rows.{set_row}
use Rattle.tables.proofs.rows.set_edge.Goals as goal

stores : (l : List ℕ) (i a b d e : ℕ)
    → set (set (set (set l i a) (i + 1) b) (i + 2) d) (i + 3) e ≡ sets l i (a ∷ b ∷ d ∷ e ∷ [])
stores l i a b d e =
    let q : i + 2 ≡ suc (suc i) = omega arith in
    let r : i + 3 ≡ suc (suc (suc i)) = omega arith in
    rw (add-one i, q, r)

pub returns : goal.returns
unfolding set_row
returns c = stores c.args.edges.now (c.args.i * edge_width) _ _ _ _
