-- The kinds of nodes, as the code has them.
--   number_of   a kind's number
--   IsKind      what a number is read as: the kind that has it, or that no kind has
-- Assumes nothing.
use Rattle.std.specs.Prelude.{◌≡◌, ℕ, ◌<◌, Result, Ok, Err}
use Rattle.tables.specs.declared.kinds.NodeKind.{NodeKind}
use Rattle.tables.specs.declared.kinds.NodeKind.TheVariants.{Root, Element, PlainAttribute, IdAttribute, RefAttribute}
use Rattle.tables.specs.declared.kinds.NodeKind.TheVariants.{Value}
use Rattle.tables.specs.declared.kinds.NoKind.{NoKind}
use Rattle.tables.specs.Rules.{root, element, plain_attribute, id_attribute, ref_attribute, value}

abbrev pub number_of : NodeKind → ℕ
number_of Root = root
number_of Element = element
number_of PlainAttribute = plain_attribute
number_of IdAttribute = id_attribute
number_of RefAttribute = ref_attribute
number_of Value = value

abbrev pub IsKind : ℕ → Result NodeKind NoKind → Type 0
IsKind n (Ok k) = number_of k ≡ n
IsKind n (Err e) = value < n
