-- The computed new end is the document's, and the only one: one before the next later start, and the largest end for
-- the latest row. Assumes nothing.
use mathlib.Core.Path.{◌≡◌, refl, ◌∙◌}
use mathlib.Core.Logic.Dec
use mathlib.Core.Logic.{◌↔◌}
use Prim.Native.Nat.{ℕ, zero, suc, ◌+◌, ◌≤◌, ◌<◌}
use native.Mathlib.Decide.{ℕ_discrete, dec_lt}
use native.Mathlib.Omega.{arith}
use Rattle.std.specs.Prelude.{Option, Some, None}
use Rattle.ground.specs.Least.{Any, Least}
use Rattle.ground.proofs.LeastLaws.{not_lt→le, not_le→lt, any_dec, least_exists}
use Rattle.tables.specs.Tables.{EdgeRow}
use Rattle.repair.specs.Repaired.{RowInto, Next, Largest, NewEnd}
use Rattle.repair.specs.Ends.{next_start, last_end, end_before_of, new_end_of}
use Rattle.repair.proofs.BoundLaws.{SomeRow, some_row_dec, BeforeNext, last_tells, last_upper, next_tells, next_later}

module _ (edge : ℕ → EdgeRow) (m c : ℕ) where
  abbrev IsEnd : ℕ → Type 0
  IsEnd = SomeRow edge c (λ x. x.to) m

  -- some row into c ends at the last end: were there none, an earlier bound would do
  last_found : (i : ℕ) → RowInto edge m c i → IsEnd (last_end edge c m)
  last_found i r = go (some_row_dec edge c (λ x. x.to) m (last_end edge c m))
    where
      none_at : (IsEnd (last_end edge c m) → ⊥) → (l : ℕ) → last_end edge c m ≡ l → ⊥
      none_at none zero e = none (i, r.0, (r.1, omega (arith, last_upper edge c m i r)))
      none_at none (suc l) e = let h = (last_tells edge c l m).1 below in omega arith
        where
          below : (j : ℕ) → RowInto edge m c j → (edge j).to ≤ l
          below j q = not_lt→le (λ b. none (j, q.0, (q.1, omega (arith, last_upper edge c m j q))))

      go : Dec (IsEnd (last_end edge c m)) → IsEnd (last_end edge c m)
      go (yes s) = s
      go (no none) = absurd (none_at none (last_end edge c m) refl)

  pub last_sound : (i : ℕ) → RowInto edge m c i → Largest edge m c (last_end edge c m)
  last_sound i r = let (j, h, q) = last_found i r in record { end = (j, (h, q.0), q.1); most = last_upper edge c m }

-- an end is before the next start, and reaches what is before it and no later than the last end
end_before_next : (next : Option ℕ) (s last t : ℕ) → BeforeNext next s → t ≤ end_before_of next last → BeforeNext next t
end_before_next None s last t l h = tt
end_before_next (Some n) s last t l h = omega arith

before_next_end : (next : Option ℕ) (last t : ℕ) → t ≤ last → BeforeNext next t → t ≤ end_before_of next last
before_next_end None last t h u = h
before_next_end (Some n) last t h u = omega arith

-- where every instant is before the next start, there is none
end_last : (next : Option ℕ) (last : ℕ) → ((t : ℕ) → BeforeNext next t) → end_before_of next last ≡ last
end_last None last u = refl
end_last (Some n) last u = let h = u n in absurd (omega arith)

module _ (edge : ℕ → EdgeRow) (m c : ℕ) where
  -- the next start after that of row i; and that row i is alone up to t: every such start is after t
  abbrev next : ℕ → Option ℕ
  next i = next_start edge c (edge i).from m

  abbrev Alone : ℕ → ℕ → Type 0
  Alone i t = (j : ℕ) → RowInto edge m c j → (edge i).from < (edge j).from → t < (edge j).from

  alone_tells : (i t : ℕ) → BeforeNext (next i) t ↔ Alone i t
  alone_tells i t = next_tells edge c (edge i).from t m

  new_end_lem : (i : ℕ) → RowInto edge m c i → new_end_of edge m i ≡ end_before_of (next i) (last_end edge c m)
  unfolding new_end_of
  new_end_lem i (h, q) = rw q

  module _ (i : ℕ) (r : RowInto edge m c i) where
    pub new_alone : (t : ℕ) → t ≤ new_end_of edge m i → Alone i t
    new_alone t h =
        let later = next_later edge c (edge i).from m in
        (alone_tells i t).0
        (end_before_next (next i) (edge i).from (last_end edge c m) t later (omega (arith, new_end_lem i r)))

    pub alone_new : (t : ℕ) → t ≤ last_end edge c m → Alone i t → t ≤ new_end_of edge m i
    alone_new t h f = omega (arith, new_end_lem i r, before_next_end (next i) (last_end edge c m) t h ((alone_tells i t).1 f))

    new_last : ((t : ℕ) → Alone i t) → new_end_of edge m i ≡ last_end edge c m
    new_last f = new_end_lem i r ∙ end_last (next i) (last_end edge c m) (λ t. (alone_tells i t).1 (f t))

    -- where no row ends before it starts, a new end is no earlier than its start, and no later than the last end
    module _ (right : (j : ℕ) → j < m → (edge j).from ≤ (edge j).to) where
      pub from_le_new : (edge i).from ≤ new_end_of edge m i
      from_le_new = alone_new (edge i).from (omega (arith, right i r.0, last_upper edge c m i r)) (λ j q l. l)

      -- were it later, no row would start after this one, and it would be the last end
      later_alone : last_end edge c m < new_end_of edge m i → (t : ℕ) → Alone i t
      later_alone h t j q l =
          let g = new_alone (last_end edge c m) (omega arith) j q l in
          absurd (omega (arith, right j q.0, last_upper edge c m j q))

      pub new_le_last : new_end_of edge m i ≤ last_end edge c m
      new_le_last = not_lt→le (λ h. let e = new_last (later_alone h) in omega arith)

-- so the new end is the document's
module _ (edge : ℕ → EdgeRow) (m i : ℕ) (h : i < m) where
  abbrev c : ℕ
  c = (edge i).child

  r : RowInto edge m c i
  r = (h, refl)

  -- what is before the next start is before every later one
  next_alone : (s t : ℕ) → Next edge m i s → t < s → Alone edge m c i t
  next_alone s t x l j r b = let y = x.least j r b in omega arith

  one_before : (n : Option ℕ) (last s : ℕ) → ((t : ℕ) → BeforeNext n t ↔ Alone edge m c i t) → Next edge m i s
      → end_before_of n last + 1 ≡ s
  one_before None last s tells x =
      let (j, r, e) = x.start in
      let g = (tells s).0 tt j r (omega (arith, x.later)) in
      absurd (omega arith)
  one_before (Some n) last s tells x =
      let (j, r, e) = x.start in
      let below : n ≤ s = not_lt→le (λ l. let g = (tells s).0 l j r (omega (arith, x.later)) in omega arith) in
      let above : s ≤ n = not_lt→le (λ l. let u = (tells n).1 (next_alone s n x l) in omega arith) in
      omega (arith, x.later)

  pub new_end_sound : NewEnd edge m i (new_end_of edge m i)
  new_end_sound =
      record {
        before_next = λ s x.
            rw (new_end_lem edge m c i r) (one_before (next edge m c i) (last_end edge c m) s (alone_tells edge m c i) x);
        latest = λ none. rw (new_last edge m c i r (latest_alone none)) (last_sound edge m c i r);
      }
    where
      latest_alone : ((j : ℕ) → RowInto edge m c j → (edge j).from ≤ (edge i).from) → (t : ℕ) → Alone edge m c i t
      latest_alone none t j q l = let g = none j q in absurd (omega arith)

-- and no other end is
pub largest_end_unique : {edge : ℕ → EdgeRow} {m c e d : ℕ} → Largest edge m c e → Largest edge m c d → e ≡ d
largest_end_unique x y =
    let (j, r, p) = x.end in
    let (k, q, t) = y.end in
    omega (arith, y.most j r, x.most k q)

module _ (edge : ℕ → EdgeRow) (m i : ℕ) where
  abbrev child : ℕ
  child = (edge i).child

  -- a start later than that of row i, of a row into its child; the smallest is the next
  abbrev LaterStart : ℕ → Type 0
  LaterStart s = ((edge i).from < s) × SomeRow edge child (λ x. x.from) m s

  later_start_dec : (s : ℕ) → Dec (LaterStart s)
  later_start_dec s = Dec.and (dec_lt (edge i).from s) (some_row_dec edge child (λ x. x.from) m s)

  row_later : (j : ℕ) → RowInto edge m child j → (edge i).from < (edge j).from → LaterStart (edge j).from
  row_later j (h, q) b = (b, (j, h, (q, refl)))

  next_least : {n s : ℕ} → Least LaterStart n s → s < n → Next edge m i s
  next_least l h =
      let (later, (j, r, p)) = l.here h in
      record {
        later = later;
        start = (j, (r, p.0), p.1);
        least = λ k q b. not_lt→le (λ g. l.before (edge k).from g (row_later k q b));
      }

  next_exists : (j : ℕ) → RowInto edge m child j → (edge i).from < (edge j).from → (s : ℕ) × Next edge m i s
  next_exists j r b =
      let (s, l) = least_exists LaterStart later_start_dec (suc (edge j).from) in
      (s, next_least l (not_le→lt (λ h. l.before (edge j).from h (row_later j r b))))

  abbrev LaterRow : ℕ → Type 0
  LaterRow j = ((edge j).child ≡ child) × ((edge i).from < (edge j).from)

  later_row_dec : (j : ℕ) → Dec (LaterRow j)
  later_row_dec j = Dec.and (ℕ_discrete (edge j).child child) (dec_lt (edge i).from (edge j).from)

  pub new_end_unique : {e d : ℕ} → NewEnd edge m i e → NewEnd edge m i d → e ≡ d
  new_end_unique {e} {d} x y = go (any_dec LaterRow later_row_dec m)
    where
      go : Dec (Any LaterRow m) → e ≡ d
      go (yes (j, h, q)) =
          let (s, n) = next_exists j (h, q.0) q.1 in
          omega (arith, x.before_next s n, y.before_next s n)
      go (no none) = largest_end_unique (x.latest latest) (y.latest latest)
        where
          latest : (j : ℕ) → RowInto edge m child j → (edge j).from ≤ (edge i).from
          latest j (h, q) = not_lt→le (λ b. none (j, h, (q, b)))
