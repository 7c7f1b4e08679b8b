-- Ties and the ends that repair gives, computed. proofs/TieLaws.antt and proofs/NewEndLaws.antt tie them to the words
-- of specs/Repaired.antt. `edge` is the rows by number, m how many.
--   same_start_of   the test of SameStart
--   tied        the test of Tied
--   sooner      the smaller of two starts, of which the second may be none
--   next_start   the next start after s among the rows into c, where there is one
--   last_end     the largest end among the rows into c
--   end_before_of   one instant before the next start, or the last end where there is none
--   new_end_of      row i's end after repair
--   with_ends    the table whose first m rows have the ends that f says, and all else as it was
--   repaired    the table after repair
-- Assumes nothing.
use Rattle.std.specs.Prelude.{Bool, cond, ◌&&◌, List, ℕ, zero, suc, ◌-◌, min, max, ltb, eqb, Option, Some, None}
use Rattle.ground.specs.Searches.{any}
use Rattle.tables.specs.Tables.{EdgeRow, edge_at}
use Rattle.tables.specs.Rows.{set_end}

abbrev pub same_start_of : EdgeRow → EdgeRow → Bool
same_start_of a b = eqb a.child b.child && eqb a.from b.from

unfoldable pub tied : (ℕ → EdgeRow) → ℕ → Bool
tied edge i = any (λ j. same_start_of (edge j) (edge i)) i

abbrev pub sooner : ℕ → Option ℕ → ℕ
sooner a None = a
sooner a (Some b) = min a b

unfoldable pub next_start : (ℕ → EdgeRow) → ℕ → ℕ → ℕ → Option ℕ
next_start edge c s zero = None
next_start edge c s (suc m) =
    let rest = next_start edge c s m in
    cond (eqb (edge m).child c && ltb s (edge m).from) (Some (sooner (edge m).from rest)) rest

unfoldable pub last_end : (ℕ → EdgeRow) → ℕ → ℕ → ℕ
last_end edge c zero = 0
last_end edge c (suc m) =
    let rest = last_end edge c m in
    cond (eqb (edge m).child c) (max rest (edge m).to) rest

abbrev pub end_before_of : Option ℕ → ℕ → ℕ
end_before_of None last = last
end_before_of (Some s) last = s - 1

unfoldable pub new_end_of : (ℕ → EdgeRow) → ℕ → ℕ → ℕ
new_end_of edge m i = end_before_of (next_start edge (edge i).child (edge i).from m) (last_end edge (edge i).child m)

unfoldable pub with_ends : List ℕ → (ℕ → ℕ) → ℕ → List ℕ
with_ends es f zero = es
with_ends es f (suc m) = set_end (with_ends es f m) m (f m)

unfoldable pub repaired : List ℕ → ℕ → List ℕ
repaired es m = with_ends es (new_end_of (edge_at es) m) m
