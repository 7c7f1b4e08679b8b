-- The walk over the links of a list of parents, with a list of referents, shows the nodes to which it gives parents.
-- Assumes nothing.
use mathlib.Core.Path.{◌≡◌, ap, ap₂, ◌∙◌}
use mathlib.Core.List.{List, ◌++◌}
use Prim.Native.Nat.{ℕ, ◌*◌, ◌≤◌, ◌<◌}
use native.Mathlib.Omega.{arith}
use lib.ListN.{length, drop, replicate, get_or-replicate, length-replicate}
use Rattle.ground.specs.Lists.{front}
use Rattle.tables.specs.Tables.{no_node, ref_at, Table}
use Rattle.tables.specs.Rules.{most_nodes}
use Rattle.snapshot.specs.Snapshot.{shown_width, shown_numbers}
use Rattle.snapshot.specs.Says.{referent_at}
use Rattle.snapshot.specs.Lists.{Lists, Blank, links, link_all, Tree, tree, Grown, tree_by, Walkable, Walked}
use Rattle.snapshot.specs.Lists.{kids_by, rows_by, Showable}
use Rattle.snapshot.proofs.LinkLaws.{link_runs, link_shows}
use Rattle.snapshot.proofs.WalkLaws.{numbers_length, subtree_ext}
use Rattle.snapshot.proofs.ChildLaws.{below_all}

-- a list that is made of no_node alone
abbrev pub blanks : List ℕ
blanks = replicate most_nodes no_node

blanks_length : length blanks ≡ most_nodes
blanks_length = length-replicate most_nodes no_node

pub blanks_blank : Blank blanks
blanks_blank n h = get_or-replicate most_nodes n no_node 0 (rw blanks_length at h)

-- what can be shown, with the links and the referents that were made of it
module _ {parents : List ℕ} {refs : Table} {t : ℕ} {out : List ℕ} (s : Showable parents refs t out)
    (referents : List ℕ) {first next : List ℕ} (made : links first next ≡ link_all parents (links blanks blanks))
    (long : length parents ≤ length referents)
    (listed : Lists (referent_at refs.count (ref_at refs.numbers) t) referents) where
  abbrev n : ℕ
  n = length parents

  abbrev x : Tree
  x = tree first next referents n

  fits : n ≤ length blanks
  fits = rw blanks_length s.few

  pub show_grown : Grown x
  show_grown =
      record {
        runs = link_runs parents n _ _ made (omega (arith, s.few)) fits fits blanks_blank blanks_blank;
        listed = long;
      }

  same_walk : tree_by x n no_node 0 ≡ rows_by parents refs t
  same_walk =
      subtree_ext (λ c. c < n) _ (referent_at refs.count (ref_at refs.numbers) t)
      (λ c h. listed c (omega arith)) _ (kids_by parents)
      (link_shows parents n _ _ made (omega (arith, s.few)) fits fits blanks_blank blanks_blank)
      (λ c h. below_all _ _ n (λ d g e. g)) n no_node 0 s.some

  pub show_walkable : Walkable x 0 no_node n out
  show_walkable = record { node_below = s.some; room = omega (arith, ap length same_walk, s.room) }

  pub show_written : {r : ℕ} {after : List ℕ} → Walked (tree_by x n no_node 0) out r after
      → after ≡ front (shown_numbers (rows_by parents refs t)) out
  show_written {r} w =
      let xs = rows_by parents refs t in
      let m : r * shown_width ≡ length (shown_numbers xs)
      = omega (arith, numbers_length xs, w.number, ap length same_walk) in
      w.out ∙ ap₂ (λ ys j. shown_numbers ys ++ drop j out) same_walk m
