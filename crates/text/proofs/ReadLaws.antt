-- Read text, its second pass, and what it leaves, case by case. Assumes nothing.
use mathlib.Core.Bool.{true}
use mathlib.Core.List.{List, []}
use mathlib.Core.Logic.{◌⊎◌, inl, inr, ⊎_elim}
use mathlib.Core.Path.{◌≡◌, refl, sym, ap, subst, ◌∙◌}
use Prim.Native.Nat.{ℕ, ◌*◌, ◌≤◌}
use native.Mathlib.Omega.{arith}
use lib.ListN.{length}
use borrow.Author.Tests.{lt-ltb, le-ltb}
use Rattle.std.specs.Prelude.{Ok, Err}
use Rattle.answers.specs.declared.Outcome.{Outcome}
use Rattle.answers.specs.declared.Refusal.{Refusal}
use Rattle.answers.specs.declared.Refusal.TheVariants as refusal
use Rattle.answers.specs.Answers.{Answer, Room}
use Rattle.answers.specs.Numbers.{passed}
use Rattle.tables.specs.Tables.{node_width, edge_width, ref_width, Tables}
use Rattle.ground.specs.Lists.{front}
use Rattle.ground.proofs.ListLaws.{stands_within, sets_front}
use Rattle.ground.proofs.TestLaws.{by_lt}
use Rattle.lines.specs.Reads.{Got, got, wrong, lines_at, is_got, got_of, numbers_of, place_of}
use Rattle.lines.specs.Plans.{plan_at}
use Rattle.lines.specs.Fills.{FillableLines, Filled}
use Rattle.lines.proofs.GotLaws.{got_place, got_is, got_of_lem, is_got_lem, got_then}
use Rattle.lines.proofs.PlanLaws.{plan_is}
use Rattle.text.specs.declared.forms.Counts.{Counts}
use Rattle.text.specs.Forms.{counted, node_key, edge_key, ref_key, node_form, edge_form, ref_form}
use Rattle.text.specs.Answers.{counts_of}
use Rattle.text.specs.Reads.{head_plan, rows_plan, read_text, short_says, Headed, Announced, Held}
use Rattle.text.specs.Answers.{Accepted, no_tables, Fits, TooShort, nodes_short, edges_short}
use Rattle.text.specs.Answers.{refs_short, Read, wrong_text, no_room, took}
use Rattle.text.proofs.RoundTrip.{refused, not_of_form, write_of_read}
use Rattle.text.proofs.ScanLaws.{rows_at, headed_rows}

-- ---- the second pass, where all rows are right

module _ (s : List ℕ) (c : Counts) (at : ℕ) where
  abbrev pub nodes_got : Got (List ℕ)
  nodes_got = lines_at node_key node_form s c.nodes at

  abbrev pub edges_got : Got (List ℕ)
  edges_got = lines_at edge_key edge_form s c.edges (place_of nodes_got)

  abbrev pub refs_got : Got (List ℕ)
  refs_got = lines_at ref_key ref_form s c.refs (place_of edges_got)

  pub record RowsRight (t : Tables) : Type 0 where
    pub nodes : is_got nodes_got ≡ true
    pub edges : is_got edges_got ≡ true
    pub refs : is_got refs_got ≡ true
    pub all : counted c (numbers_of nodes_got) (numbers_of edges_got) (numbers_of refs_got) ≡ t

  pub rows_right : (t : Tables) (n : ℕ) → rows_at s c at ≡ got t n → RowsRight t
  unfolding rows_plan plan_at
  rows_right t n e =
      let (ns, i, a, e₁) = got_then _ nodes_got t n e in
      let (es, j, b₀, e₂) = got_then _ (lines_at edge_key edge_form s c.edges i) t n e₁ in
      let b : edges_got ≡ got es j = ap (lines_at edge_key edge_form s c.edges) (got_place _ a) ∙ b₀ in
      let (rs, k, d₀, e₃) = got_then _ (lines_at ref_key ref_form s c.refs j) t n e₂ in
      let d : refs_got ≡ got rs k = ap (lines_at ref_key ref_form s c.refs) (got_place _ b) ∙ d₀ in
      let q : counted c ns es rs ≡ t = cc in
      record {
        nodes = got_is _ a;
        edges = got_is _ b;
        refs = got_is _ d;
        all = rw (got_of_lem [] _ a, got_of_lem [] _ b, got_of_lem [] _ d) q;
      }

-- each table is filled from where the one before it ends
module _ {s : List ℕ} {at : ℕ} {c : Counts} {n e f : List ℕ} (x : Announced s at c n e f) where
  abbrev told : Tables
  told = got_of no_tables (rows_at s c at)

  right : RowsRight s c at told
  right = rows_right s c at told (place_of (rows_at s c at)) (is_got_lem no_tables (rows_at s c at) x.good)

  pub fill_nodes : FillableLines node_key node_form s c.nodes at n
  fill_nodes = record { room = x.nodes; good = right.nodes; shown = refl }

  module _ {n' : List ℕ} {i : ℕ} (a : Filled (nodes_got s c at) n 0 n' i) where
    pub fill_edges : FillableLines edge_key edge_form s c.edges i e
    fill_edges =
        rw a.after (record { room = x.edges; good = right.edges; shown = refl })

    module _ {e' : List ℕ} {j : ℕ} (b : Filled (lines_at edge_key edge_form s c.edges i) e 0 e' j) where
      abbrev then_edges_lem : Filled (edges_got s c at) e 0 e' j
      then_edges_lem = rw a.after at b

      pub fill_refs : FillableLines ref_key ref_form s c.refs j f
      fill_refs =
          rw then_edges_lem.after
          (record { room = x.refs; good = right.refs; shown = refl })

      pub rows_held : {f' : List ℕ} {k : ℕ} → Filled (lines_at ref_key ref_form s c.refs j) f 0 f' k
          → Held told n e f n' e' f'
      rows_held d =
          let d' : Filled (refs_got s c at) f 0 _ _ = rw then_edges_lem.after at d in
          rw (sym right.all) (record { nodes = a.held; edges = then_edges_lem.held; refs = d'.held })

-- ---- what is read where all is right

-- the first lines end within the text
pub head_within : (s : List ℕ) (c : Counts) (at : ℕ) → plan_at head_plan s 0 ≡ got c at → at ≤ length s
head_within s c at head = let (ls, laid, st) = plan_is head_plan s 0 c at head in stands_within (omega arith) st

-- the tables of the text, with the counts that its first lines tell
pub record TextRight (s : List ℕ) (c : Counts) (at : ℕ) : Type 0 where
  pub tables : Tables
  pub accepted : Accepted s tables
  pub place : ℕ
  pub got_rows : rows_at s c at ≡ got tables place
  pub counts : counts_of tables ≡ c

pub text_right : {s : List ℕ} {c : Counts} {at : ℕ} → Headed s c at → TextRight s c at
text_right {s} {c} {at} h =
    let (t, n, r, w) = headed_rows h in
    record {
      tables = t;
      accepted = write_of_read s t n w;
      place = n;
      got_rows = r;
      counts = ap counts_of (sym (rows_right s c at t n r).all);
    }

-- ---- the room that is judged, in words

module _ (t : Tables) (n e f : List ℕ) where
  abbrev pub judged : Answer
  judged =
      short_says (length t.nodes.numbers) (length t.edges.numbers) (length t.refs.numbers) (length n)
      (length e) (length f)

  pub judged_short : {k : ℕ} → TooShort t n e f k → judged ≡ Room 0 k
  unfolding short_says
  judged_short (nodes_short h) = rw (lt-ltb _ _ h)
  judged_short (edges_short a h) = rw (le-ltb _ _ a, lt-ltb _ _ h)
  judged_short (refs_short a b h) = rw (le-ltb _ _ a, le-ltb _ _ b, lt-ltb _ _ h)

  pub judged_fits : Fits t n e f → judged ≡ passed
  unfolding short_says
  judged_fits h = rw (le-ltb _ _ h.nodes, le-ltb _ _ h.edges, le-ltb _ _ h.refs)

  pub short_or_fits : ((k : ℕ) × TooShort t n e f k) ⊎ Fits t n e f
  short_or_fits =
      by_lt (length n) (length t.nodes.numbers) (λ x. inl (0, nodes_short x))
      (λ a. by_lt (length e) (length t.edges.numbers) (λ y. inl (1, edges_short a y))
      (λ b. by_lt (length f) (length t.refs.numbers) (λ z. inl (2, refs_short a b z))
      (λ d. inr (record { nodes = a; edges = b; refs = d }))))

  -- where room is not refused, it is there; else which table is too short
  pub room_there : {o : Outcome} → judged ≡ Ok o → Fits t n e f
  room_there {o} w =
      ⊎_elim
      (λ (k, x). let g = sym (judged_short x) ∙ w in let z : ◌≡◌ {A = ℕ} 0 1 = cc in absurd (omega arith))
      (λ h. h)
      short_or_fits

  pub room_not : {x : Refusal} → judged ≡ Err x → (k : ℕ) × (x ≡ refusal.Room 0 k) × TooShort t n e f k
  room_not {x} w =
      ⊎_elim
      (λ (k, y). let g = sym w ∙ judged_short y in let q : x ≡ refusal.Room 0 k = cc in (k, q, y))
      (λ h. let g = sym w ∙ judged_fits h in let z : ◌≡◌ {A = ℕ} 0 1 = cc in absurd (omega arith))
      short_or_fits

-- ---- what is left, case by case

pub read_wrong : {s n e f : List ℕ} {x : Refusal} {p : ℕ} → read_text s ≡ wrong p → x ≡ refusal.Text p
    → Read s n e f (Err x) n e f
read_wrong {s} {p = p} w g = rw g (wrong_text (not_of_form s p w) (refused s p w))

-- the room that the counts ask for
abbrev pub asked : Counts → List ℕ → List ℕ → List ℕ → Answer
asked c n e f =
    short_says (c.nodes * node_width) (c.edges * edge_width) (c.refs * ref_width) (length n) (length e) (length f)

module _ {s : List ℕ} {c : Counts} {at : ℕ} (h : Headed s c at) where
  abbrev x : TextRight s c at
  x = text_right h

  -- it is that of the tables
  room_is : (n e f : List ℕ) {room : Answer} → room ≡ asked c n e f → judged x.tables n e f ≡ room
  room_is n e f says =
      let o = x.accepted.lendable in
      sym (says ∙ rw (o.nodes.whole, o.edges.whole, o.refs.whole)
      (ap (λ (d : Counts). asked d n e f) (sym x.counts)))

  pub room_short : {n e f : List ℕ} {room : Answer} {why : Refusal} → room ≡ asked c n e f → room ≡ Err why
      → Read s n e f (Err why) n e f
  room_short {n} {e} {f} says w =
      let (k, q, y) = room_not x.tables n e f (room_is n e f says ∙ w) in
      rw q (no_room x.accepted y)

  module _ {n e f : List ℕ} {room : Answer} {o : Outcome} (says : room ≡ asked c n e f) (ok : room ≡ Ok o) where
    room_fits : Fits x.tables n e f
    room_fits = room_there x.tables n e f (room_is n e f says ∙ ok)

    pub room_announced : Announced s at c n e f
    room_announced =
        let o = x.accepted.lendable in
        let fits : Fits x.tables n e f = room_fits in
        record {
          good = got_is _ x.got_rows;
          nodes = omega (arith, o.nodes.whole, fits.nodes, ap (λ (d : Counts). d.nodes) x.counts);
          edges = omega (arith, o.edges.whole, fits.edges, ap (λ (d : Counts). d.edges) x.counts);
          refs = omega (arith, o.refs.whole, fits.refs, ap (λ (d : Counts). d.refs) x.counts);
        }

    -- the counts that the first lines tell are those of the tables
    pub room_taken : {n' e' f' : List ℕ} → Held (got_of no_tables (rows_at s c at)) n e f n' e' f'
        → Read s n e f (Ok c) n' e' f'
    room_taken h₀ =
        let t = x.tables in
        let fits : Fits t n e f = room_fits in
        let held = rw (got_of_lem no_tables _ x.got_rows) at h₀ in
        rw (
          held.nodes ∙ sets_front n t.nodes.numbers fits.nodes,
          held.edges ∙ sets_front e t.edges.numbers fits.edges,
          held.refs ∙ sets_front f t.refs.numbers fits.refs,
        ) (subst (λ (d : Counts). Read s n e f (Ok d)
        (front t.nodes.numbers n) (front t.edges.numbers e) (front t.refs.numbers f))
        x.counts (took x.accepted fits))
