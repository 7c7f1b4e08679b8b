-- At which byte a line is refused, in the cases that [02:Ask 4] will be asked about: each computed. Assumes nothing.
use mathlib.Core.Bool.{true}
use mathlib.Core.List.{List, [], ◌∷◌}
use mathlib.Core.Path.{◌≡◌, refl}
use Prim.Native.Nat.{ℕ}
use Rattle.tables.specs.Tables.{Now}
use Rattle.decimals.specs.Reads.{grows, more, num, num_at}
use Rattle.lines.specs.declared.form.Form.{Form}
use Rattle.lines.specs.Lines.{one_form_of, row_form}
use Rattle.lines.specs.Reads.{wrong, begun, begun_at, at_least, or_now, number_at, marked, then_number}
use Rattle.lines.specs.Reads.{numbers_at, line_at}

-- `nodes=`
abbrev key : List ℕ
key = 110 ∷ 111 ∷ 100 ∷ 101 ∷ 115 ∷ 61 ∷ []

-- the text s, read as a line of the form f, is refused at place p
abbrev RefusedAt : Form → List ℕ → ℕ → Type 0
RefusedAt f s p = line_at key f s 0 ≡ wrong p

-- `nodes=1025\n`: `nodes=102` begins a line, and no further digit does
count_too_large : RefusedAt (one_form_of 1 1024) (110 ∷ 111 ∷ 100 ∷ 101 ∷ 115 ∷ 61 ∷ 49 ∷ 48 ∷ 50 ∷ 53 ∷ 10 ∷ []) 9
unfolding line_at numbers_at then_number marked number_at at_least or_now begun_at begun num_at num more grows
count_too_large = refl

-- `nodes=0\n`: a 0 begins no number from 1 on
count_too_small : RefusedAt (one_form_of 1 1024) (110 ∷ 111 ∷ 100 ∷ 101 ∷ 115 ∷ 61 ∷ 48 ∷ 10 ∷ []) 6
unfolding line_at numbers_at then_number marked number_at at_least or_now begun_at begun num_at num more grows
count_too_small = refl

-- `nodes=7\r\n`: the LF is missing
mark_missing : RefusedAt (one_form_of 1 1024) (110 ∷ 111 ∷ 100 ∷ 101 ∷ 115 ∷ 61 ∷ 55 ∷ 13 ∷ 10 ∷ []) 7
unfolding line_at numbers_at then_number marked number_at at_least or_now begun_at begun num_at num more grows
mark_missing = refl

-- `node=7\n`: four bytes of the key stand
key_missing : RefusedAt (one_form_of 1 1024) (110 ∷ 111 ∷ 100 ∷ 101 ∷ 61 ∷ 55 ∷ 10 ∷ []) 4
unfolding line_at numbers_at then_number marked number_at at_least or_now begun_at begun num_at num more grows
key_missing = refl

-- `nodes=07\n`: no digit follows a 0
leading_zero : RefusedAt (one_form_of 0 Now) (110 ∷ 111 ∷ 100 ∷ 101 ∷ 115 ∷ 61 ∷ 48 ∷ 55 ∷ 10 ∷ []) 7
unfolding line_at numbers_at then_number marked number_at at_least or_now begun_at begun num_at num more grows
leading_zero = refl

-- `nodes=no\n`: `no` begins the word `now`
word_begun : RefusedAt (row_form 1 true) (110 ∷ 111 ∷ 100 ∷ 101 ∷ 115 ∷ 61 ∷ 110 ∷ 111 ∷ 10 ∷ []) 8
unfolding line_at numbers_at then_number marked number_at at_least or_now begun_at begun num_at num more grows
word_begun = refl

-- `nodes=4294967295\n`: where `now` may stand, the digits of Now less their last
digits_of_now : RefusedAt (row_form 1 true)
    (110 ∷ 111 ∷ 100 ∷ 101 ∷ 115 ∷ 61 ∷ 52 ∷ 50 ∷ 57 ∷ 52 ∷ 57 ∷ 54 ∷ 55 ∷ 50 ∷ 57 ∷ 53 ∷ 10 ∷ []) 15
unfolding line_at numbers_at then_number marked number_at at_least or_now begun_at begun num_at num more grows
digits_of_now = refl

-- `nodes=12`: the line is missing its LF
text_ends : RefusedAt (one_form_of 0 Now) (110 ∷ 111 ∷ 100 ∷ 101 ∷ 115 ∷ 61 ∷ 49 ∷ 50 ∷ []) 8
unfolding line_at numbers_at then_number marked number_at at_least or_now begun_at begun num_at num more grows
text_ends = refl
