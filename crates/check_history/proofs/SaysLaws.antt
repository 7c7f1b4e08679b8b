-- What the program says, from what its two calls leave; and that it says one thing of each text.
--   unread_says   a refusal of read text is of the text: tables as long as the sizes allow have room for all that is
--                 read
--   read_says     what check says of the fronts of these tables, it says of the tables that were read
--   put_printed   three lines, put one after the other, are what is printed; printed_most: how long they are
-- Assumes nothing.
use native.Mathlib.Omega.{arith}
use mathlib.Core.Path.{◌≡◌, ap}
use mathlib.Core.Logic.{⊎_elim}
use mathlib.Core.List.{List}
use Prim.Native.Nat.{ℕ, ◌≤◌}
use Rattle.ground.specs.Stores.{Put}
use Rattle.ground.specs.Lists.{bytes, joined}
use Rattle.ground.proofs.ListLaws.{put_nil, put_append}
use Rattle.answers.specs.Answers.{Answer}
use Rattle.answers.specs.Answers.{Text}
use Rattle.answers.specs.Numbers.{says, numbers}
use Rattle.tables.specs.Tables.{Now}
use Rattle.lines.specs.Lines.{number_text, numbers_text, one_line}
use Rattle.lines.proofs.WriteLaws.{one_short}
use Rattle.text.specs.declared.forms.Counts.{Counts}
use Rattle.answers.specs.declared.Refusal.{Refusal}
use Rattle.std.specs.Prelude.{Ok, Err}
use Rattle.text.specs.Text.{commas}
use Rattle.text.specs.Answers.{Read, wrong_text, no_room}
use Rattle.text.proofs.TieLaws.{sizes_of}
use Rattle.text.proofs.RoomLaws.{Most, most_fits}
use Rattle.text.proofs.RoundTrip.{accepted_unique, accepted_or_not, place_unique}
use Rattle.text.proofs.PromiseLaws.{short_not_fits, fronts, read_fronts}
use Rattle.verdict.specs.Checked.{Checked}
use Rattle.verdict.proofs.CheckedLaws.{checked_unique, checked_exists}
use Rattle.check_history.specs.Says.{Says, unread, read, printed, most_output}

module _ {s n e f : List ℕ} where
  pub unread_says : {x : Refusal} {n' e' f' : List ℕ} → Read s n e f (Err x) n' e' f' → Most n e f → Says s (Err x)
  unread_says (wrong_text x p) m = unread x p
  unread_says (no_room a x) m = absurd (short_not_fits x (most_fits m (sizes_of a.lendable)))

  pub read_says : {c : Counts} {n' e' f' : List ℕ} {a : Answer} → Read s n e f (Ok c) n' e' f'
      → Checked (fronts c n' e' f') a → Says s a
  read_says w h = read (read_fronts w) h

pub says_unique : {s : List ℕ} {a b : Answer} → Says s a → Says s b → a ≡ b
says_unique {s} (unread x p) (unread y q) = ap Text (place_unique s _ _ p q)
says_unique (unread x p) (read u d) = absurd (x _ u)
says_unique (read t c) (unread y q) = absurd (y _ t)
says_unique (read t c) (read u d) = checked_unique _ c (rw (accepted_unique u t) at d)

pub says_exists : (s : List ℕ) → (a : Answer) × Says s a
says_exists s =
    ⊎_elim
    (λ (t, x). (_, read x (checked_exists t)))
    (λ (p, none, w). (_, unread none w))
    (accepted_or_not s)

-- three lines that were put one after the other
module _ {out x y out' : List ℕ} {c i p l m n : ℕ} (first : Put out 0 (one_line (bytes "code=") c) x l)
    (second : Put x l (one_line (bytes "instant=") i) y m) (third : Put y m (one_line (bytes "place=") p) out' n) where
  pub put_printed : (a : Answer) → says c i p ≡ numbers a → Put out 0 (printed a) out' n
  unfolding joined commas numbers_text number_text
  put_printed a e = rw (← e) (put_append first (put_append second (put_append third (put_nil _ _))))

  pub printed_most : c ≤ Now → i ≤ Now → p ≤ Now → n ≤ most_output
  printed_most a b d =
      omega (
        arith,
        one_short (bytes "code=") c (omega arith) a,
        one_short (bytes "instant=") i (omega arith) b,
        one_short (bytes "place=") p (omega arith) d,
      )
