-- Before each turn, linking the nodes below `child` gives what linking all of them gives.
use mathlib.Core.Path.{◌≡◌}
use Rattle.snapshot.specs.Lists.{links, link_from, link_all}
use Rattle.snapshot.proofs.lists.link.Given as goal

abbrev pub invariant-loop-child : goal.invariant-loop-child
invariant-loop-child l =
    link_from l.parents l.n l.child (links l.first l.next) ≡ link_all l.parents (links l.initial.first l.initial.next)
