-- What the next start and the last end tell of the rows into a child, and what they ask for. Assumes nothing.
use mathlib.Core.Path.{◌≡◌, refl, sym, ap, subst, ◌∙◌}
use mathlib.Core.Logic.Dec
use mathlib.Core.Logic.{◌↔◌}
use mathlib.Core.Bool.{◌&&◌}
use Prim.Native.Nat.{ℕ, zero, suc, ◌≤◌, ◌<◌}
use native.Mathlib.Decide.{ℕ_discrete}
use native.Mathlib.Omega.{arith}
use lib.Dec.{ltb, eqb}
use Rattle.std.specs.Prelude.{Option, Some, None}
use Rattle.ground.specs.Least.{Any}
use Rattle.ground.specs.Searches.{any}
use Rattle.ground.proofs.TestLaws.{by_test, tells_and, tells_eq, tells_lt, tells_fail}
use Rattle.ground.proofs.LeastLaws.{below_suc, any_dec}
use Rattle.tables.specs.Tables.{EdgeRow}
use Rattle.repair.specs.Repaired.{RowInto, OnlyEnds}
use Rattle.repair.specs.Ends.{sooner, next_start, last_end, tied}

-- t is before the next start, where there is one
abbrev pub BeforeNext : Option ℕ → ℕ → Type 0
BeforeNext None t = Unit {0}
BeforeNext (Some next) t = t < next

sooner_tells : (a : ℕ) (next : Option ℕ) (t : ℕ) → (t < sooner a next) ↔ ((t < a) × BeforeNext next t)
sooner_tells a None t = (λ h. (h, tt), λ (l, u). l)
sooner_tells a (Some b) t = (λ h. (omega arith, omega arith), λ (l, u). omega arith)

module _ (edge : ℕ → EdgeRow) (c : ℕ) where
  -- some of m rows into c has the number v as its start, or as its end
  abbrev pub SomeRow : (EdgeRow → ℕ) → ℕ → ℕ → Type 0
  SomeRow f m v = Any (λ j. ((edge j).child ≡ c) × (f (edge j) ≡ v)) m

  pub some_row_dec : (f : EdgeRow → ℕ) (m v : ℕ) → Dec (SomeRow f m v)
  some_row_dec f m v = any_dec _ (λ j. Dec.and (ℕ_discrete (edge j).child c) (ℕ_discrete (f (edge j)) v)) m

  -- what holds of every row into c of m, and of row m if it is one, holds of every one of m + 1
  abbrev EachRow : (ℕ → Type 0) → ℕ → Type 0
  EachRow P m = (i : ℕ) → RowInto edge m c i → P i

  rows_suc : (P : ℕ → Type 0) (m : ℕ) → (EachRow P m × ((edge m).child ≡ c → P m)) ↔ EachRow P (suc m)
  rows_suc P m = (
    λ (f, p) i (h, e). below_suc (λ i. (edge i).child ≡ c → P i) m (λ i h e. f i (h, e)) p i h e,
    λ f. (λ i (h, e). f i (omega arith, e), λ e. f m (omega arith, e)),
  )

  -- the last end passes no bound that no row passes
  last_step : (l m : ℕ) → (last_end edge c (suc m) ≤ l) ↔ ((last_end edge c m ≤ l) × ((edge m).child ≡ c → (edge m).to ≤ l))
  unfolding last_end
  last_step l m =
      let into = tells_eq (edge m).child c in
      by_test (eqb (edge m).child c)
      (λ t. rw t (λ h. (omega arith, λ e. omega arith), λ (a, b). let h = b (into.0 t) in omega arith))
      (λ f. rw f (λ h. (h, λ e. absurd (tells_fail into f e)), λ (a, b). a))

  pub last_tells : (l m : ℕ) → (last_end edge c m ≤ l) ↔ ((i : ℕ) → RowInto edge m c i → (edge i).to ≤ l)
  unfolding last_end
  last_tells l zero = (λ h i r. absurd (omega arith), λ f. omega arith)
  last_tells l (suc m) = (
    λ h. let (a, b) = (last_step l m).0 h in (rows_suc (λ i. (edge i).to ≤ l) m).0 ((last_tells l m).0 a, b),
    λ f. let (a, b) = (rows_suc (λ i. (edge i).to ≤ l) m).1 f in (last_step l m).1 ((last_tells l m).1 a, b),
  )

  pub last_upper : (m i : ℕ) → RowInto edge m c i → (edge i).to ≤ last_end edge c m
  last_upper m = (last_tells (last_end edge c m) m).0 (omega arith)

  -- an instant is before the next start after s if it is before every start after s
  module _ (s t : ℕ) where
    abbrev BeforeStart : ℕ → Type 0
    BeforeStart i = s < (edge i).from → t < (edge i).from

    next_step : (m : ℕ) → BeforeNext (next_start edge c s (suc m)) t
        ↔ (BeforeNext (next_start edge c s m) t × ((edge m).child ≡ c → BeforeStart m))
    unfolding next_start
    next_step m =
        let later = tells_and (eqb (edge m).child c) (ltb s (edge m).from) (tells_eq _ _) (tells_lt _ _) in
        by_test (eqb (edge m).child c && ltb s (edge m).from)
        (λ e.
        let (q, h) = later.0 e in
        let both = sooner_tells (edge m).from (next_start edge c s m) t in
        rw e (λ u. ((both.0 u).1, λ q h. (both.0 u).0), λ (u, l). both.1 (l q h, u)))
        (λ f. rw f (λ u. (u, λ q h. absurd (tells_fail later f (q, h))), λ (u, l). u))

    pub next_tells : (m : ℕ) → BeforeNext (next_start edge c s m) t
        ↔ ((i : ℕ) → RowInto edge m c i → s < (edge i).from → t < (edge i).from)
    unfolding next_start
    next_tells zero = (λ u i r. absurd (omega arith), λ f. tt)
    next_tells (suc m) = (
      λ u. let (a, b) = (next_step m).0 u in (rows_suc BeforeStart m).0 ((next_tells m).0 a, b),
      λ f. let (a, b) = (rows_suc BeforeStart m).1 f in (next_step m).1 ((next_tells m).1 a, b),
    )

  -- the next start after s is later than s
  pub next_later : (s m : ℕ) → BeforeNext (next_start edge c s m) s
  next_later s m = (next_tells s s m).1 (λ i r l. l)

  pub next_some : (s m : ℕ) {n : ℕ} → Some n ≡ next_start edge c s m → s < n
  next_some s m e = subst (λ next. BeforeNext next s) (sym e) (next_later s m)

-- rows that differ in their ends alone have the same ties and the same next starts
module _ (e d : ℕ → EdgeRow) (same : OnlyEnds e d) where
  pub same_child : (i : ℕ) → (d i).child ≡ (e i).child
  same_child i = ap (λ (x : EdgeRow). x.child) (same i)

  pub same_from : (i : ℕ) → (d i).from ≡ (e i).from
  same_from i = ap (λ (x : EdgeRow). x.from) (same i)

  pub row_before : (m c i : ℕ) → RowInto d m c i → RowInto e m c i
  row_before m c i (h, q) = (h, sym (same_child i) ∙ q)

  pub row_after : (m c i : ℕ) → RowInto e m c i → RowInto d m c i
  row_after m c i (h, q) = (h, same_child i ∙ q)

  pub tied_same : (i : ℕ) → tied d i ≡ tied e i
  unfolding tied
  tied_same i = λ k. any (λ j. eqb (same_child j k) (same_child i k) && eqb (same_from j k) (same_from i k)) i

  pub next_same : (c s m : ℕ) → next_start d c s m ≡ next_start e c s m
  unfolding next_start
  next_same c s zero = refl
  next_same c s (suc m) = simp (same_child m, same_from m, next_same c s m)

  -- and the same last ends, where neither passes the other's
  pub last_same : (c m : ℕ) → ((i : ℕ) → RowInto e m c i → (d i).to ≤ last_end e c m)
      → ((i : ℕ) → RowInto e m c i → (e i).to ≤ last_end d c m) → last_end d c m ≡ last_end e c m
  last_same c m down up =
      omega (
        arith,
        (last_tells d c (last_end e c m) m).1 (λ i r. down i (row_before m c i r)),
        (last_tells e c (last_end d c m) m).1 up,
      )
