-- The steps of the code: the new ends are found, then written. No public promise cites these; proofs/StepLaws.antt
-- shows that with the new ends they come to `repaired` and `changed`.
--   Bounded      the next start after s among the first m rows into c, where there is one, and their largest end
--   nth          number i of a list
--   Found        the list begins with f 0, f 1, .., f (m - 1)
--   changes      how many of the first m rows have another end than f says
--   EndsStored   the table with the ends that f says in its first m rows, n of which had another
-- Assumes nothing.
use Rattle.std.specs.Prelude.{◌≡◌, not, List, ℕ, ◌<◌, eqb, get_or, Option}
use Rattle.ground.specs.Sums.{count}
use Rattle.tables.specs.Tables.{EdgeRow, edge_at}
use Rattle.repair.specs.Ends.{next_start, last_end, with_ends}

pub record Bounded (edge : ℕ → EdgeRow) (m c s : ℕ) (next : Option ℕ) (last : ℕ) : Type 0 where
  pub start : next ≡ next_start edge c s m
  pub end : last ≡ last_end edge c m

abbrev pub nth : List ℕ → ℕ → ℕ
nth xs i = get_or xs i 0

abbrev pub Found : (ℕ → ℕ) → ℕ → List ℕ → Type 0
Found f m xs = (i : ℕ) → i < m → nth xs i ≡ f i

unfoldable pub changes : (ℕ → EdgeRow) → (ℕ → ℕ) → ℕ → ℕ
changes edge f = count (λ i. not (eqb (edge i).to (f i)))

pub record EndsStored (es : List ℕ) (f : ℕ → ℕ) (m n : ℕ) (left : List ℕ) : Type 0 where
  pub number : n ≡ changes (edge_at es) f m
  pub table : left ≡ with_ends es f m
