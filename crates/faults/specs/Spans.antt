-- The first start and the last end of each node's rows, for GAP: found once for all instants.
--   Spanned   a span's first is the smallest start of the first i rows into c, and its last their largest end; Now and
--             0 where there is none
--   span_at   the span of node c
--   Spans     a list holds that for every node
--   span_with, spans_with   the span of a row's child, and the spans, after one row more
--   Bare      spans that no row has changed, for the nodes of m rows
--   Bounds    a list holds the spans of n nodes
-- Assumes nothing.
use Rattle.std.specs.Prelude.{◌≡◌, ◌⊎◌, List, ℕ, ◌≤◌, ◌<◌, min, max, length, get_or, set}
use Rattle.ground.specs.Least.{Any}
use Rattle.tables.specs.Tables.{Now, EdgeRow}
use Rattle.history.specs.Places.{NodesBelow}
use Rattle.faults.specs.declared.spans.Span.{Span}

abbrev pub span_at : List Span → ℕ → Span
span_at spans c = get_or spans c (record { first = 0; last = 0 })

module _ (E : ℕ → EdgeRow) where
  pub record Spanned (c i : ℕ) (span : Span) : Type 0 where
    pub none_sooner : (j : ℕ) → j < i → (E j).child ≡ c → span.first ≤ (E j).from
    pub starts : (span.first ≡ Now) ⊎ Any (λ j. ((E j).child ≡ c) × ((E j).from ≡ span.first)) i
    pub none_later : (j : ℕ) → j < i → (E j).child ≡ c → (E j).to ≤ span.last
    pub ends : (span.last ≡ 0) ⊎ Any (λ j. ((E j).child ≡ c) × ((E j).to ≡ span.last)) i

  abbrev pub Spans : ℕ → List Span → Type 0
  Spans i spans = (c : ℕ) → c < length spans → Spanned c i (span_at spans c)

abbrev pub span_with : EdgeRow → Span → Span
span_with e span = record { first = min span.first e.from; last = max span.last e.to }

abbrev pub spans_with : EdgeRow → List Span → List Span
spans_with e spans = set spans e.child (span_with e (span_at spans e.child))

pub record Bare (m : ℕ) (E : ℕ → EdgeRow) (spans : List Span) : Type 0 where
  pub nodes : NodesBelow m E (length spans)
  pub each : Spans E 0 spans

pub record Bounds (m : ℕ) (E : ℕ → EdgeRow) (n : ℕ) (spans : List Span) : Type 0 where
  pub long : n ≤ length spans
  pub each : Spans E m spans
