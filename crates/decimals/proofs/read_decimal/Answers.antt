use mathlib.Core.Path.{sym, ◌∙◌}
use native.Mathlib.Omega.{arith}
use borrow.Author.Tests.{ltb-false}
use Rattle.decimals.proofs.ReadLaws.{Grows, grows_true, num_end, num_zero, num_more, num_missing}
use Rattle.decimals.proofs.read_decimal.Goals as goal

pub returns-in_default : goal.returns-in_default
returns-in_default c = sym (num_end _ _ _ (ltb-false _ _ (sym c.in_default.ensures.lookup.0)))

pub returns-then-c-eq48 : goal.returns-then-c-eq48
returns-then-c-eq48 c =
    let (_, _, _, (some, byte), _) = c.in-Some.ensures.lookup in
    sym (num_zero _ _ _ some (sym (byte 0) ∙ c.if-c-eq48.true))

pub overflow_sub-c : goal.overflow_sub-c
overflow_sub-c c = (grows_true _ _ _ (sym c.grows.ensures ∙ c.if-grows.true)).low

pub read_more-requires : goal.read_more-requires
read_more-requires c =
    let digit : Grows _ _ _ = grows_true _ _ _ (sym c.grows.ensures ∙ c.if-grows.true) in omega arith

pub returns-then-grows : goal.returns-then-grows
returns-then-grows c =
    let (_, _, _, (some, byte), _) = c.in-Some.ensures.lookup in
    c.read_more.ensures
    ∙ rw (c.from.ensures, byte 0) (sym (num_more _ _ _ some (rw (byte 0) at c.if-c-eq48.false)
    (rw (byte 0) at (sym c.grows.ensures ∙ c.if-grows.true))))

pub returns-else-grows : goal.returns-else-grows
returns-else-grows c =
    let (_, _, _, (some, byte), _) = c.in-Some.ensures.lookup in
    sym (num_missing _ _ _ some (rw (byte 0) at c.if-c-eq48.false)
    (rw (byte 0) at (sym c.grows.ensures ∙ c.if-grows.false)))
