-- Where the numbers stand of a row that joins two nodes: the laws that src/joins.rt asks of a kind of row. Assumes
-- nothing.
use Rattle.std.specs.Prelude.{◌≡◌, List, ℕ, refl}
use Rattle.tables.specs.Tables.{edge_width, ref_width, cell_at, edge_at, ref_at}
use Rattle.tables.specs.Rows.{from_at, to_at}

pub edge_first : (es : List ℕ) (i : ℕ) → (edge_at es i).parent ≡ cell_at edge_width es i 0
unfolding edge_at
edge_first es i = refl

pub edge_second : (es : List ℕ) (i : ℕ) → (edge_at es i).child ≡ cell_at edge_width es i 1
unfolding edge_at
edge_second es i = refl

pub edge_from : (es : List ℕ) (i : ℕ) → (edge_at es i).from ≡ from_at edge_width es i
unfolding edge_at
edge_from es i = refl

pub edge_to : (es : List ℕ) (i : ℕ) → (edge_at es i).to ≡ to_at edge_width es i
unfolding edge_at
edge_to es i = refl

pub ref_first : (rs : List ℕ) (i : ℕ) → (ref_at rs i).attribute ≡ cell_at ref_width rs i 0
unfolding ref_at
ref_first rs i = refl

pub ref_second : (rs : List ℕ) (i : ℕ) → (ref_at rs i).target ≡ cell_at ref_width rs i 1
unfolding ref_at
ref_second rs i = refl

pub ref_from : (rs : List ℕ) (i : ℕ) → (ref_at rs i).from ≡ from_at ref_width rs i
unfolding ref_at
ref_from rs i = refl

pub ref_to : (rs : List ℕ) (i : ℕ) → (ref_at rs i).to ≡ to_at ref_width rs i
unfolding ref_at
ref_to rs i = refl
