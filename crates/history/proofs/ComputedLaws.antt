-- Each test of specs/Computed.antt tells its line of the table. Assumes nothing.
use mathlib.Core.Path.{◌≡◌}
use mathlib.Core.Logic.Iff
use mathlib.Core.Logic.{◌≢◌, ◌⊎◌, inl, inr, ◌↔◌}
use mathlib.Core.Bool.{not, ◌&&◌}
use mathlib.Core.List.{List, [], ◌∷◌}
use Prim.Native.Nat.{ℕ, zero, suc, ◌≤◌, ◌<◌}
use native.Mathlib.Omega.{arith}
use lib.ListN.{length}
use lib.Dec.{leb, eqb}
use Rattle.ground.specs.Tests.{Tells}
use Rattle.ground.specs.Least.{Any}
use Rattle.ground.specs.Searches.{any}
use Rattle.ground.proofs.TestLaws.{tells_and, tells_or, tells_not, tells_le, tells_lt, tells_eq}
use Rattle.ground.proofs.LeastLaws.{any_tells}
use Rattle.tables.specs.Rows.{Side}
use Rattle.tables.specs.Tables.{During, EdgeRow, RefRow}
use Rattle.tables.specs.Rows.{side_of}
use Rattle.tables.proofs.LabelLaws.{during_tells}
use Rattle.history.specs.Faults.{History, Into, Out, Ended, Coming, NoneInto, Present, Chain, Overlap, Gap}
use Rattle.history.specs.Faults.{Outside, Cycle, RefersFrom, Double, Refers}
use Rattle.history.specs.Places.{Leads, NodesBelow, Astray}
use Rattle.history.specs.Computed.{is_into, is_out, has_ended, is_coming, is_present, reaches, overlaps, has_gap}
use Rattle.history.specs.Computed.{is_outside, cycles, refers_from, doubles, is_referring, is_astray}
use Rattle.history.proofs.Chains.{shorten}

module _ (m : ℕ) (E : ℕ → EdgeRow) (t : ℕ) where
  pub leads_tells : (n i : ℕ) → Tells (is_into m E t n i) (Leads E t n i)
  leads_tells n i = tells_and _ _ (tells_eq (E i).child n) (during_tells (E i).from (E i).to t)

  pub leads_into : (n i : ℕ) → i < m → Leads E t n i → Into m E t n i
  leads_into n i h x = record { row = h; into = x.0; force = x.1 }

  pub into_leads : (n i : ℕ) → Into m E t n i → Leads E t n i
  into_leads n i p = (p.into, p.force)

  pub into_tells : (n : ℕ) → Tells (any (is_into m E t n) m) ((i : ℕ) × Into m E t n i)
  into_tells n =
      Iff.trans (any_tells (is_into m E t n) (Leads E t n) (leads_tells n) m)
      (λ s. (s.0, leads_into n s.0 s.1 s.2), λ s. (s.0, s.1.row, (s.1.into, s.1.force)))

  out_tells : (n : ℕ) → Tells (any (is_out m E t n) m) ((i : ℕ) × Out m E t n i)
  out_tells n =
      Iff.trans
      (any_tells (is_out m E t n) (λ i. ((E i).parent ≡ n) × During (E i).from (E i).to t)
      (λ i. tells_and _ _ (tells_eq (E i).parent n) (during_tells (E i).from (E i).to t)) m) (
        λ s. (s.0, record { row = s.1; out = s.2.0; force = s.2.1 }),
        λ s.
            (s.0, s.1.row, (s.1.out, s.1.force)),
      )

  ended_tells : (n : ℕ) → Tells (any (has_ended m E t n) m) ((i : ℕ) × Ended m E t n i)
  ended_tells n =
      Iff.trans
      (any_tells (has_ended m E t n) (λ i. ((E i).child ≡ n) × ((E i).to < t))
      (λ i. tells_and _ _ (tells_eq (E i).child n) (tells_lt (E i).to t)) m) (
        λ s. (s.0, record { row = s.1; into = s.2.0; past = s.2.1 }),
        λ s.
            (s.0, s.1.row, (s.1.into, s.1.past)),
      )

  coming_tells : (n : ℕ) → Tells (any (is_coming m E t n) m) ((i : ℕ) × Coming m E t n i)
  coming_tells n =
      Iff.trans
      (any_tells (is_coming m E t n) (λ i. ((E i).child ≡ n) × (t < (E i).from))
      (λ i. tells_and _ _ (tells_eq (E i).child n) (tells_lt t (E i).from)) m) (
        λ s. (s.0, record { row = s.1; into = s.2.0; ahead = s.2.1 }),
        λ s.
            (s.0, s.1.row, (s.1.into, s.1.ahead)),
      )

  none_tells : (n : ℕ) → Tells (not (any (is_into m E t n) m)) (NoneInto m E t n)
  none_tells n =
      Iff.trans (tells_not (any (is_into m E t n) m) (into_tells n)) (λ f i p. f (i, p), λ f s. f s.0 s.1)

  root_tells : (n : ℕ) → Tells (not (eqb n 0)) (n ≢ 0)
  root_tells n = tells_not (eqb n 0) (tells_eq n 0)

  pub present_tells : (start n : ℕ) → Tells (is_present m E t start n) (Present m E t start n)
  present_tells start n =
      tells_or (eqb n 0 && leb start t) (not (eqb n 0) && any (is_into m E t n) m)
      (tells_and _ _ (tells_eq n 0) (tells_le start t))
      (tells_and _ _ (root_tells n) (into_tells n))

  pub overlap_tells : (n : ℕ) → Tells (overlaps m E t n) (Overlap m E t n)
  overlap_tells n =
      Iff.trans
      (any_tells _ (λ j. Leads E t n j × Any (Leads E t n) j)
      (λ j. tells_and _ _ (leads_tells n j) (any_tells _ (Leads E t n) (leads_tells n) j)) m) (
        λ (j, h, (q, (i, g, p))). (i, j, g, leads_into n i (omega arith) p, leads_into n j h q),
        λ (i, j, g, p, q). (j, q.row, ((q.into, q.force), (i, g, (p.into, p.force)))),
      )

  pub gap_tells : (n : ℕ) → Tells (has_gap m E t n) (Gap m E t n)
  gap_tells n =
      Iff.trans (tells_and _ _ (root_tells n)
      (tells_and _ _ (none_tells n) (tells_and _ _ (ended_tells n) (coming_tells n))))
      (λ (a, (b, (c, d))). (a, b, c, d), λ (a, b, c, d). (a, (b, (c, d))))

  pub outside_tells : (n : ℕ) → Tells (is_outside m E t n) (Outside m E t n)
  outside_tells n =
      Iff.trans (tells_and _ _ (root_tells n) (tells_and _ _ (out_tells n) (none_tells n)))
      (λ (a, (b, c)). (a, b, c), λ (a, b, c). (a, (b, c)))

  -- a chain of at most k rows
  abbrev pub Within : ℕ → ℕ → ℕ → Type 0
  Within k a b = (is : List ℕ) × (length is ≤ k) × Chain m E t a b is

  pub no_row : (a b : ℕ) → (a ≡ b) ↔ Within zero a b
  no_row a b = (λ e. ([], omega arith, e), λ (is, l, c). back is l c)
    where
      back : (is : List ℕ) → length is ≤ 0 → Chain m E t a b is → a ≡ b
      back [] l c = c
      back (i ∷ is) l c = absurd (omega arith)

  pub last_row : (k a b : ℕ) → ((a ≡ b) ⊎ Any (λ i. Leads E t b i × Within k a (E i).parent) m) ↔ Within (suc k) a b
  last_row k a b = (there, λ (is, l, c). back is l c)
    where
      there : (a ≡ b) ⊎ Any (λ i. Leads E t b i × Within k a (E i).parent) m → Within (suc k) a b
      there (inl e) = ([], omega arith, e)
      there (inr (i, h, (x, (is, l, c)))) = (i ∷ is, omega arith, (leads_into b i h x, c))

      back : (is : List ℕ) → length is ≤ suc k → Chain m E t a b is
          → (a ≡ b) ⊎ Any (λ i. Leads E t b i × Within k a (E i).parent) m
      back [] l c = inl c
      back (i ∷ is) l (p, c) = inr (i, p.row, ((p.into, p.force), (is, omega arith, c)))

  pub reaches_tells : (k a b : ℕ) → Tells (reaches m E t k a b) (Within k a b)
  reaches_tells zero a b = Iff.trans (tells_eq a b) (no_row a b)
  reaches_tells (suc k) a b =
      Iff.trans
      (tells_or _ _ (tells_eq a b)
      (any_tells _ (λ i. Leads E t b i × Within k a (E i).parent)
      (λ i. tells_and _ _ (leads_tells b i) (reaches_tells k a (E i).parent)) m))
      (last_row k a b)

  pub cycle_tells : (N : ℕ) → NodesBelow m E N → (n : ℕ) → Tells (cycles m E t N n) (Cycle m E t n)
  cycle_tells N b n =
      Iff.trans
      (any_tells _ (λ i. Leads E t n i × Within N n (E i).parent)
      (λ i. tells_and _ _ (leads_tells n i) (reaches_tells N n (E i).parent)) m) (
        λ (i, h, (x, (is, l, c))). (i, is, (leads_into n i h x, c)),
        λ (i, is, (p, c)). (
          i,
          p.row,
          (
            (p.into, p.force),
            short (E i).parent
                (shorten m E t N b n (E i).parent is (b i p.row).0 c),
          ),
        ),
      )
    where
      short : (a : ℕ) → (js : List ℕ) × (length js < N) × Chain m E t n a js → Within N n a
      short a (js, l, c) = (js, omega arith, c)

module _ (R : ℕ → RefRow) (t a : ℕ) where
  pub refers_from_tells : (k : ℕ) → Tells (refers_from R t a k) (RefersFrom R t a k)
  refers_from_tells k = tells_and _ _ (tells_eq (R k).attribute a) (during_tells _ _ t)

  -- a reference in force, and one before it
  double_any : (m : ℕ) → Any (λ k. RefersFrom R t a k × Any (RefersFrom R t a) k) m ↔ Double R t m a
  double_any m = (λ (k, h, (y, (j, g, x))). (j, k, g, h, x, y), λ (j, k, g, h, x, y). (k, h, (y, (j, g, x))))

  pub double_tells : (m : ℕ) → Tells (doubles R t m a) (Double R t m a)
  double_tells m =
      Iff.trans
      (any_tells _ (λ k. RefersFrom R t a k × Any (RefersFrom R t a) k)
      (λ k. tells_and _ _ (refers_from_tells k) (any_tells _ (RefersFrom R t a) refers_from_tells k)) m)
      (double_any m)

module _ (H : History) (t : ℕ) where
  refers_tells : (k : ℕ) → Tells (is_referring H t k) (Refers H t k)
  refers_tells k = tells_and _ _ (tells_lt k H.refs) (during_tells (H.ref k).from (H.ref k).to t)

  pub astray_tells : (side : Side) (k : ℕ) → Tells (is_astray H t side k) (Astray H t side k)
  astray_tells side k =
      tells_and _ _ (refers_tells k)
      (tells_not _ (present_tells H.edges H.edge t H.start (side_of side (H.ref k))))
