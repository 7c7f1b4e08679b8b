-- What read text and write text come to one after the other, by what each promises: `reads` and `writes` are what
-- bw_read_text and bw_write_text ensure.
--   zeros_most    the tables of the program are as long as the sizes allow
--   form_read, form_unread             into these, read text answers 0 exactly if the text is of the form
--   rows_fit      the rows that were read are within what was lent
--   again         what was read is written again as the same text
--   tables_written, tables_unwritten   write text answers 0 exactly if it can write the tables
--   text_fits     the text that was written is within what was lent
--   back          what was written is read back as the same tables; rows_back: its rows are within what was lent
-- Assumes nothing.
use mathlib.Core.Path.{◌≡◌, refl, sym, ap, ◌∙◌}
use mathlib.Core.Bool.{false, false≢true}
use mathlib.Core.Logic.{◌≢◌}
use mathlib.Core.List.{List}
use Prim.Native.Nat.{ℕ, ◌*◌, ◌≤◌}
use lib.ListN.{length, take, drop, replicate}
use lib.Seq.{take-append_seam}
use Rattle.ground.specs.Lists.{front}
use Rattle.answers.specs.Answers.{Answer}
use Rattle.answers.specs.Numbers.{Numbers, numbers, refuses, passed}
use Rattle.tables.specs.Tables.{Now, node_width, edge_width, ref_width, Table, Tables}
use Rattle.tables.specs.Rules.{most_nodes, most_edges, most_refs, Whole}
use Rattle.text.specs.Text.{Small, text_of}
use Rattle.text.specs.Answers.{Written, out_of_size, short, wrote, Accepted, counts_of}
use Rattle.text.specs.declared.forms.Counts.{Counts}
use Rattle.std.specs.Prelude.{Ok}
use Rattle.text.proofs.TieLaws.{sizes_of}
use Rattle.text.proofs.RoomLaws.{Most, most_fits, front_long, read_fits}
use Rattle.text.proofs.PromiseLaws.{counted_front, read_accepted, read_fronts, write_unique, write_holds}
use Rattle.answers.specs.declared.Answered.{Answered}
use Rattle.bindlewort.specs.declared.Reading.{Reading}
use Rattle.bindlewort.specs.Given.{slices, Retold, Leaves, Reads}
use Rattle.bindlewort.proofs.GivenLaws.{told_code, told_done, written_place, retold_done}
use Rattle.bindlewort.proofs.Demands.{written_reads_back, read_writes_again}
use Rattle.both_sides.specs.Cases.{OfForm, CanWrite}

pub zeros_most : Most (replicate (most_nodes * node_width) 0) (replicate (most_edges * edge_width) 0)
    (replicate (most_refs * ref_width) 0)
zeros_most = record { nodes = refl; edges = refl; refs = refl }

-- rows, k of w numbers each, that fill the front of what was lent are found there
front_rows : (w : ℕ) {k : ℕ} {left : List ℕ} (x : Table) (old : List ℕ) → Whole w x → k ≡ x.count
    → left ≡ front x.numbers old → take (k * w) left ≡ x.numbers
front_rows w x old whole c e = rw (c, e) (counted_front w x old whole)

can_write : {L : Tables} {out out' : List ℕ} {a : Answer} → Written L out a out' → refuses a ≡ false → CanWrite L out
can_write (out_of_size g) c = absurd (false≢true (sym c))
can_write (short s h) c = absurd (false≢true (sym c))
can_write (wrote s h) c = (s, h)

-- what fits by the counts that were read fits by those that are told
rows_told : {c : Counts} {r : Reading} (n e f : List ℕ) → Retold (Ok c) r
    → (c.nodes * node_width ≤ length n) × (c.edges * edge_width ≤ length e) × (c.refs * ref_width ≤ length f)
    → (r.nodes * node_width ≤ length n) × (r.edges * edge_width ≤ length e) × (r.refs * ref_width ≤ length f)
rows_told n e f g h = rw (g.nodes, g.edges, g.refs) h

-- what read text returned, and left in tables as long as the sizes allow
module _ {s n e f : List ℕ} {r : Reading} {n' e' f' : List ℕ} (most : Most n e f)
    (reads : Reads s n e f r n' e' f') where
  read_as : {t : Tables} → Accepted s t
      → Retold (Ok (counts_of t)) r
      × (n' ≡ front t.nodes.numbers n)
      × (e' ≡ front t.edges.numbers e)
      × (f' ≡ front t.refs.numbers f)
  read_as a =
      let (x, p, g) = reads in
      let (is, i, j, k) = read_accepted a (most_fits most (sizes_of a.lendable)) p in
      (rw is at g, i, j, k)

  pub form_unread : r.answer.code ≢ 0 → OfForm s → ⊥
  form_unread h (t, a) = h (told_code r.answer passed (read_as a).0.answer)

  pub form_read : r.answer.code ≡ 0 → OfForm s
  form_read z =
      let (x, p, g) = reads in
      let (c, ok) = retold_done x g z in
      (_, read_fronts (rw ok at p))

  pub rows_fit : r.answer.code ≡ 0
      → (r.nodes * node_width ≤ length n') × (r.edges * edge_width ≤ length e') × (r.refs * ref_width ≤ length f')
  rows_fit z =
      let (x, p, g) = reads in
      let (c, ok) = retold_done x g z in
      rows_told n' e' f' (rw ok at g) (read_fits (rw ok at p))

  -- what was read, written again
  module _ (z : r.answer.code ≡ 0) {ns es fs : List ℕ} (i : ns ≡ take (r.nodes * node_width) n')
      (j : es ≡ take (r.edges * edge_width) e') (k : fs ≡ take (r.refs * ref_width) f') {out : List ℕ} {q : Answered}
      {out' : List ℕ} (writes : Leaves (Written (slices r.start ns es fs) out) q out')
      (room : length s ≤ length out) where
    pub again : (q.place ≤ length out') × (take q.place out' ≡ s)
    again =
        let (is, left) = read_writes_again s n e f r n' e' f' reads z out q out' room (rw (i, j, k) at writes) in
        let p : q.place ≡ length s = ap (λ (m : Numbers). m.place) is in
        (rw (p, left) (front_long s out), rw (p, left) (take-append_seam s (drop (length s) out)))

-- the start and the rows that were written
pub record CameBack (L : Tables) (q : Reading) (n' e' f' : List ℕ) : Type 0 where
  pub code : q.answer.code ≡ 0
  pub start : q.start ≡ L.start
  pub nodes : take (q.nodes * node_width) n' ≡ L.nodes.numbers
  pub edges : take (q.edges * edge_width) e' ≡ L.edges.numbers
  pub refs : take (q.refs * ref_width) f' ≡ L.refs.numbers

-- what write text returned, and left in an output
module _ {L : Tables} {out : List ℕ} {r : Answered} {out' : List ℕ} (writes : Leaves (Written L out) r out') where
  pub tables_unwritten : r.code ≢ 0 → CanWrite L out → ⊥
  tables_unwritten h (s, room) =
      let (a, w, e) = writes in
      h (told_code r a e ∙ ap (λ (b : Answer). (numbers b).code) (write_unique w (wrote s room)).0)

  pub tables_written : r.code ≡ 0 → CanWrite L out
  tables_written z = let (a, w, e) = writes in can_write w (told_done r a e z)

  pub text_fits : r.code ≡ 0 → r.place ≤ length out'
  text_fits z =
      let (a, w, e) = writes in
      rw (written_place writes z, (write_holds w (told_done r a e z)).2) (front_long (text_of L) out)

  -- what was written, read back
  module _ (z : r.code ≡ 0) (start : L.start ≤ Now) (nodes : Small L.nodes.numbers)
      (edges : Small L.edges.numbers) (refs : Small L.refs.numbers) {n e f : List ℕ} {q : Reading}
      {n' e' f' : List ℕ} (most : Most n e f) (reads : Reads (take r.place out') n e f q n' e' f') where
    pub back : CameBack L q n' e' f'
    back =
        let (sizes, room) = tables_written z in
        let (g, i, j, k) =
        written_reads_back L out r out' writes z start nodes edges refs n e f q n' e' f' (most_fits most sizes) reads in
        record {
          code = told_code q.answer passed g.answer;
          start = g.start;
          nodes = front_rows node_width L.nodes n sizes.nodes.whole g.nodes i;
          edges = front_rows edge_width L.edges e sizes.edges.whole g.edges j;
          refs = front_rows ref_width L.refs f sizes.refs.whole g.refs k;
        }

    pub rows_back : (q.nodes * node_width ≤ length n') × (q.edges * edge_width ≤ length e')
        × (q.refs * ref_width ≤ length f')
    rows_back = rows_fit most reads back.code
