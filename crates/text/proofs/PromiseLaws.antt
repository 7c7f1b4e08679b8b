-- What the two promises come to. For every input there is one outcome that a promise allows (`-exists`, `-unique`); a
-- call that refuses changes nothing (`-frame`); and by the promises alone, what is written is read back as the same
-- tables (`read_written`), and what was read is written again as the same text (`write_read`). Assumes nothing.
use mathlib.Core.Bool.{true, false, false≢true}
use mathlib.Core.List.{List}
use mathlib.Core.Logic.{⊎_elim}
use mathlib.Core.Path.{◌≡◌, refl, sym, ap, subst, ◌∙◌}
use Prim.Native.Nat.{ℕ, ◌*◌, ◌≤◌}
use native.Mathlib.Omega.{arith}
use lib.ListN.{length, take, drop}
use lib.Seq.{take-append_seam}
use Rattle.ground.specs.Lists.{front}
use Rattle.ground.proofs.TestLaws.{by_test, by_lt}
use Rattle.std.specs.Prelude.{Result, Ok, Err}
use Rattle.answers.specs.declared.Refusal.{Refusal}
use Rattle.answers.specs.declared.Refusal.TheVariants.{Room, Text}
use Rattle.answers.specs.Answers.{Answer, Done, Size}
use Rattle.answers.specs.Numbers.{refuses}
use Rattle.tables.specs.Tables.{Now, node_width, edge_width, ref_width, Table, Tables, lent}
use Rattle.tables.specs.Rules.{Whole, SizeRule, Sizes, Gives, nodes_size, edges_size, refs_size}
use Rattle.tables.proofs.GivesLaws.{gives_is, sizes_pass}
use Rattle.text.specs.declared.forms.Counts.{Counts}
use Rattle.text.specs.Text.{Small, LendableTable, Lendable, text_of}
use Rattle.text.specs.Answers.{Written, out_of_size, short, wrote, Accepted, counts_of, Fits, TooShort}
use Rattle.text.specs.Answers.{nodes_short, edges_short, refs_short, Read, wrong_text, no_room, took}
use Rattle.text.proofs.TieLaws.{sizes_of}
use Rattle.text.proofs.RoundTrip.{accepted_unique, accepted_or_not, place_unique}
use Rattle.text.proofs.WriteLaws.{sizes, written_size}
use Rattle.text.proofs.ReadLaws.{judged_short, short_or_fits}

-- ---- write text

sizes_not_wrong : {t : Tables} {p : ℕ} → Gives t (Size p) → Sizes t → ⊥
sizes_not_wrong (nodes_size f) s = f s.nodes
sizes_not_wrong (edges_size n f) s = f s.edges
sizes_not_wrong (refs_size n m f) s = f s.refs

pub write_unique : {t : Tables} {out : List ℕ} {a b : Answer} {x y : List ℕ} → Written t out a x → Written t out b y
    → (a ≡ b) × (x ≡ y)
write_unique (out_of_size g) (out_of_size h) = (gives_is _ g ∙ sym (gives_is _ h), refl)
write_unique (out_of_size g) (short s l) = absurd (sizes_not_wrong g s)
write_unique (out_of_size g) (wrote s l) = absurd (sizes_not_wrong g s)
write_unique (short s l) (out_of_size g) = absurd (sizes_not_wrong g s)
write_unique (short s l) (short r m) = (refl, refl)
write_unique (short s l) (wrote r m) = absurd (omega arith)
write_unique (wrote s l) (out_of_size g) = absurd (sizes_not_wrong g s)
write_unique (wrote s l) (short r m) = absurd (omega arith)
write_unique (wrote s l) (wrote r m) = (refl, refl)

pub write_exists : (t : Tables) (out : List ℕ) → (a : Answer) × (out' : List ℕ) × Written t out a out'
write_exists t out =
    by_test (refuses (sizes t))
    (λ e. (_, _, written_size refl e))
    (λ e.
    let right = sizes_pass t e in
    by_lt (length out) (length (text_of t)) (λ h. (_, _, short right h)) (λ h. (_, _, wrote right h)))

module _ {t : Tables} {out : List ℕ} where
  pub write_frame : {a : Answer} {out' : List ℕ} → Written t out a out' → refuses a ≡ true → out' ≡ out
  write_frame (out_of_size g) r = refl
  write_frame (short s l) r = refl
  write_frame (wrote s l) r = absurd (false≢true r)

  pub write_holds : {a : Answer} {out' : List ℕ} → Written t out a out' → refuses a ≡ false
      → Sizes t × (a ≡ Done 0 (length (text_of t))) × (out' ≡ front (text_of t) out)
  write_holds (out_of_size g) r = absurd (false≢true (sym r))
  write_holds (short s l) r = absurd (false≢true (sym r))
  write_holds (wrote s l) r = (s, refl, refl)

-- ---- read text

short_unique : {t : Tables} {n e f : List ℕ} {j k : ℕ} → TooShort t n e f j → TooShort t n e f k → j ≡ k
short_unique {t} {n} {e} {f} x y = let q = sym (judged_short t n e f x) ∙ judged_short t n e f y in cc

pub short_not_fits : {t : Tables} {n e f : List ℕ} {k : ℕ} → TooShort t n e f k → Fits t n e f → ⊥
short_not_fits (nodes_short x) h = omega arith
short_not_fits (edges_short a x) h = omega arith
short_not_fits (refs_short a b x) h = omega arith

pub read_unique : {s n e f : List ℕ} {r q : Result Counts Refusal} {n' e' f' n'' e'' f'' : List ℕ}
    → Read s n e f r n' e' f' → Read s n e f q n'' e'' f''
    → (r ≡ q) × (n' ≡ n'') × (e' ≡ e'') × (f' ≡ f'')
read_unique {s} (wrong_text x p) (wrong_text y q) =
    (ap (λ (i : ℕ). Err (Text i)) (place_unique s _ _ p q), refl, refl, refl)
read_unique (wrong_text x p) (no_room b k) = absurd (x _ b)
read_unique (wrong_text x p) (took b h) = absurd (x _ b)
read_unique (no_room a j) (wrong_text y q) = absurd (y _ a)
read_unique (no_room a j) (no_room b k) =
    let q = short_unique j (rw (accepted_unique b a) at k) in
    (ap (λ (p : ℕ). Err (Room 0 p)) q, refl, refl, refl)
read_unique (no_room a j) (took b h) = absurd (short_not_fits j (rw (accepted_unique b a) at h))
read_unique (took a g) (wrong_text y q) = absurd (y _ a)
read_unique (took a g) (no_room b i) = absurd (short_not_fits i (rw (accepted_unique a b) at g))
read_unique {n = n} {e} {f} (took a g) (took b h) =
    let q = accepted_unique a b in (
      ap (λ (t : Tables). Ok (counts_of t)) q,
      ap (λ (t : Tables). front t.nodes.numbers n) q,
      ap (λ (t : Tables). front t.edges.numbers e) q,
      ap (λ (t : Tables). front t.refs.numbers f) q,
    )

pub read_exists : (s n e f : List ℕ)
    → (r : Result Counts Refusal) × (n' : List ℕ) × (e' : List ℕ) × (f' : List ℕ) × Read s n e f r n' e' f'
read_exists s n e f =
    ⊎_elim
    (λ (t, a).
    ⊎_elim
    (λ (k, x). (_, _, _, _, no_room a x))
    (λ h. (_, _, _, _, took a h))
    (short_or_fits t n e f))
    (λ (p, none, w). (_, _, _, _, wrong_text none w))
    (accepted_or_not s)

-- where a caller finds what was read: the tables that lie at the front of the lent ones, by the start and the counts
-- that were answered
abbrev pub fronts : Counts → List ℕ → List ℕ → List ℕ → Tables
fronts c n e f =
    lent c.start (take (c.nodes * node_width) n) c.nodes (take (c.edges * edge_width) e) c.edges
    (take (c.refs * ref_width) f) c.refs

-- the counted rows at the front of a table that the rows of x fill
pub counted_front : (w : ℕ) (x : Table) (old : List ℕ) → Whole w x
    → take (x.count * w) (front x.numbers old) ≡ x.numbers
counted_front w x old e =
    ap (λ (i : ℕ). take i (front x.numbers old)) (sym e)
    ∙ take-append_seam x.numbers (drop (length x.numbers) old)

fronts_are : (t : Tables) (n e f : List ℕ) → Lendable t
    → fronts (counts_of t) (front t.nodes.numbers n) (front t.edges.numbers e)
    (front t.refs.numbers f) ≡ t
fronts_are t n e f o =
    rw (
      counted_front node_width t.nodes n o.nodes.whole,
      counted_front edge_width t.edges e o.edges.whole,
      counted_front ref_width t.refs f o.refs.whole,
    )

module _ {s n e f : List ℕ} where
  pub read_frame : {x : Refusal} {n' e' f' : List ℕ} → Read s n e f (Err x) n' e' f' → (n' ≡ n) × (e' ≡ e) × (f' ≡ f)
  read_frame (wrong_text x p) = (refl, refl, refl)
  read_frame (no_room a k) = (refl, refl, refl)

  -- what lies at the fronts is what the text is the text of
  pub read_fronts : {c : Counts} {n' e' f' : List ℕ} → Read s n e f (Ok c) n' e' f' → Accepted s (fronts c n' e' f')
  read_fronts (took {t} a h) = subst (Accepted s) (sym (fronts_are t n e f a.lendable)) a

  pub read_accepted : {t : Tables} {r : Result Counts Refusal} {n' e' f' : List ℕ} → Accepted s t → Fits t n e f
      → Read s n e f r n' e' f'
      → (r ≡ Ok (counts_of t))
      × (n' ≡ front t.nodes.numbers n)
      × (e' ≡ front t.edges.numbers e)
      × (f' ≡ front t.refs.numbers f)
  read_accepted a h x = read_unique x (took a h)

-- ---- both

-- a table of the right size is one that a text holds
sized : {w lo hi : ℕ} {x : Table} → Small x.numbers → SizeRule w lo hi x → LendableTable w lo hi x
sized s r = record { small = s; whole = r.whole; least = r.least; most = r.most }

-- [demand 2] "Tables written as text read back as the same tables": the bytes that write text leaves are the text of
-- these tables, and read text, given room, leaves them
module _ {t : Tables} {out : List ℕ} {a : Answer} {out' : List ℕ} (w : Written t out a out') (c : refuses a ≡ false)
    (start : t.start ≤ Now) (nodes : Small t.nodes.numbers) (edges : Small t.edges.numbers)
    (refs : Small t.refs.numbers) where
  pub written_accepted : Accepted (take (length (text_of t)) out') t
  written_accepted =
      let (sizes, _, held) = write_holds w c in
      record {
        lendable =
            record {
              start = start;
              nodes = sized nodes sizes.nodes;
              edges = sized edges sizes.edges;
              refs = sized refs sizes.refs;
            };
        text = ap (take (length (text_of t))) held ∙ take-append_seam (text_of t) (drop (length (text_of t)) out);
      }

  pub read_written : {n e f : List ℕ} {r : Result Counts Refusal} {n' e' f' : List ℕ}
      → Read (take (length (text_of t)) out') n e f r n' e' f'
      → Fits t n e f
      → (r ≡ Ok (counts_of t))
      × (n' ≡ front t.nodes.numbers n)
      × (e' ≡ front t.edges.numbers e)
      × (f' ≡ front t.refs.numbers f)
  read_written x h = read_accepted written_accepted h x

write_accepted : {s : List ℕ} {t : Tables} {out : List ℕ} → Accepted s t → length s ≤ length out
    → Written t out (Done 0 (length s)) (front s out)
write_accepted {s} {t} {out} a h =
    let room : length (text_of t) ≤ length out = rw a.text at h in
    rw a.text (wrote (sizes_of a.lendable) room)

-- [demand 2] "accepted text written again is the same text": what read text left, write text, given room, writes as
-- that text
module _ {s n e f : List ℕ} {c : Counts} {n' e' f' out : List ℕ} {a : Answer} {out' : List ℕ}
    (x : Read s n e f (Ok c) n' e' f') (w : Written (fronts c n' e' f') out a out') where
  pub write_read : length s ≤ length out → (a ≡ Done 0 (length s)) × (out' ≡ front s out)
  write_read h = write_unique w (write_accepted (read_fronts x) h)
