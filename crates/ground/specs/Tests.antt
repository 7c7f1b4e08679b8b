-- Tests and what they tell.
--   Tells b P   the test b passes exactly if P holds
-- Assumes nothing.
use Rattle.std.specs.Prelude.{◌≡◌, ◌↔◌, Bool, true}

abbrev pub Tells : Bool → Type 0 → Type 0
Tells b P = (b ≡ true) ↔ P
