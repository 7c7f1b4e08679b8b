-- The span of a node's rows after one more row. Assumes nothing.
use mathlib.Core.Path.{◌≡◌, refl, sym, ap, subst}
use mathlib.Core.Logic.{◌⊎◌, inl, inr, ⊎_elim}
use mathlib.Core.List.{List}
use Prim.Native.Nat.{ℕ, ◌+◌, ◌≤◌, ◌<◌, min, max}
use native.Mathlib.Decide.{ℕ_discrete, dec_le}
use native.Mathlib.Nat.{eq-or-lt_of_le}
use native.Mathlib.Omega.{arith}
use lib.ListN.{length, set, replicate, length-set, get_or-replicate, length-replicate}
use lib.Seq.{get_or-set_same, get_or-set_other}
use Rattle.ground.specs.Least.{Any}
use Rattle.tables.specs.Tables.{Now, EdgeRow}
use Rattle.faults.specs.declared.spans.Span.{Span}
use Rattle.faults.specs.declared.spans.TheConstants.{UNSEEN}
use Rattle.faults.specs.Spans.{span_at, Spanned, Spans, span_with, spans_with, Bare}

module _ (E : ℕ → EdgeRow) (c i : ℕ) (span : Span) where
  last_or : (k : ℕ) → k < i + 1 → (k ≡ i) ⊎ (k < i)
  last_or k h = eq-or-lt_of_le (omega arith)

  wider : (P : ℕ → Type 0) → Any P i → Any P (i + 1)
  wider P (j, h, x) = (j, omega arith, x)

  pub span_skip : ((E i).child ≡ c → ⊥) → Spanned E c i span → Spanned E c (i + 1) span
  span_skip f s =
      record {
        none_sooner =
            λ j h e. ⊎_elim (λ q. absurd (f (subst (λ x. (E x).child ≡ c) q e))) (λ l. s.none_sooner j l e)
            (last_or j h);
        starts = ⊎_elim inl (λ x. inr (wider _ x)) s.starts;
        none_later =
            λ j h e. ⊎_elim (λ q. absurd (f (subst (λ x. (E x).child ≡ c) q e))) (λ l. s.none_later j l e)
            (last_or j h);
        ends = ⊎_elim inl (λ x. inr (wider _ x)) s.ends;
      }

  pub span_take : (E i).child ≡ c → Spanned E c i span → Spanned E c (i + 1) (span_with (E i) span)
  span_take e s =
      record {
        none_sooner =
            λ j h q. ⊎_elim (λ z. rw z (omega arith)) (λ l. omega (arith, s.none_sooner j l q)) (last_or j h);
        starts = soonest (dec_le span.first (E i).from);
        none_later = λ j h q. ⊎_elim (λ z. rw z (omega arith)) (λ l. omega (arith, s.none_later j l q)) (last_or j h);
        ends = latest (dec_le (E i).to span.last);
      }
    where
      soonest : Dec (span.first ≤ (E i).from)
          → (min span.first (E i).from ≡ Now)
          ⊎ Any (λ j. ((E j).child ≡ c) × ((E j).from ≡ min span.first (E i).from)) (i + 1)
      soonest (yes l) =
          let q : min span.first (E i).from ≡ span.first = omega arith in
          rw q (⊎_elim inl (λ x. inr (wider _ x)) s.starts)
      soonest (no l) = inr (i, omega arith, (e, omega arith))

      latest : Dec ((E i).to ≤ span.last)
          → (max span.last (E i).to ≡ 0) ⊎ Any (λ j. ((E j).child ≡ c) × ((E j).to ≡ max span.last (E i).to)) (i + 1)
      latest (yes l) =
          let q : max span.last (E i).to ≡ span.last = omega arith in
          rw q (⊎_elim inl (λ x. inr (wider _ x)) s.ends)
      latest (no l) = inr (i, omega arith, (e, omega arith))

-- the span of row i's child is stored anew
pub spans_set : (E : ℕ → EdgeRow) (i : ℕ) (spans : List Span) → (E i).child < length spans → Spans E i spans
    → Spans E (i + 1) (spans_with (E i) spans)
spans_set E i spans l s c h = go (ℕ_discrete c (E i).child)
  where
    span : Span
    span = span_with (E i) (span_at spans (E i).child)

    inside : c < length spans
    inside = omega (arith, length-set spans (E i).child span)

    go : Dec (c ≡ (E i).child) → Spanned E c (i + 1) (span_at (set spans (E i).child span) c)
    go (yes e) =
        rw (e, get_or-set_same spans (E i).child span _ l)
        (span_take E (E i).child i (span_at spans (E i).child) refl (s (E i).child l))
    go (no e) =
        rw (get_or-set_other spans (E i).child c span _ e)
        (span_skip E c i (span_at spans c) (λ q. e (sym q)) (s c inside))

-- spans that no row has changed
pub spans_none : (E : ℕ → EdgeRow) (n : ℕ) → Spans E 0 (replicate n UNSEEN)
spans_none E n c h =
    let e = get_or-replicate n c UNSEEN _ (omega (arith, length-replicate n UNSEEN)) in
    record {
      none_sooner = λ j l. absurd (omega arith);
      starts = inl (ap (λ s. s.first) e);
      none_later = λ j l. absurd (omega arith);
      ends = inl (ap (λ s. s.last) e);
    }

-- the spans after row i, in a pass that began with the spans spans₀
pub spans_next : {E : ℕ → EdgeRow} {spans₀ : List Span} (spans : List Span) {m i : ℕ} → Bare m E spans₀
    → length spans ≡ length spans₀ → i < m → Spans E i spans → Spans E (i + 1) (spans_with (E i) spans)
spans_next {E} spans {i = i} b e h s = spans_set E i spans (omega (arith, b.nodes i h)) s
