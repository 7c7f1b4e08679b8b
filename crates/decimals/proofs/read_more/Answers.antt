use mathlib.Core.Path.{◌≡◌, sym, ◌∙◌}
use native.Mathlib.Omega.{arith}
use Rattle.decimals.proofs.ReadLaws.{Grows, grows_true, more_turn, more_stop, more_end}
use Rattle.decimals.proofs.read_more.Goals as goal

pub returns-then-not-grows : goal.returns-then-not-grows
returns-then-not-grows c = more_stop c.loop-after.invariant.0 (omega arith) (sym c.grows.ensures ∙ c.if-not-grows.true)

pub overflow_mul-value : goal.overflow_mul-value
overflow_mul-value c =
    let digit : Grows _ _ _ = grows_true _ _ _ (sym c.grows.ensures ∙ c.if-not-grows.false) in omega arith

pub overflow_sub-c : goal.overflow_sub-c
overflow_sub-c c = (grows_true _ _ _ (sym c.grows.ensures ∙ c.if-not-grows.false)).low

pub overflow_add-value : goal.overflow_add-value
overflow_add-value c =
    let digit : Grows _ _ _ = grows_true _ _ _ (sym c.grows.ensures ∙ c.if-not-grows.false) in omega arith

pub loop-after-preserved : goal.loop-after-preserved
loop-after-preserved c =
    let read = more_turn c.loop-after.invariant.0 (omega arith) (sym c.grows.ensures ∙ c.if-not-grows.false) in
    (rw c.from.ensures read, omega arith)

pub returns : goal.returns
returns c =
    let q : c.max.result ≡ c.loop-after.after = omega (arith, c.max.ensures, c.loop-after.invariant.1) in
    rw q (more_end c.loop-after.invariant.0 (omega arith))
