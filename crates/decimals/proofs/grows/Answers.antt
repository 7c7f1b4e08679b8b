use mathlib.Core.Path.{◌∙◌}
use Rattle.decimals.proofs.ReadLaws.{grows_digit, grows_not}
use Rattle.decimals.proofs.grows.Goals as goal

pub returns-then-is_ascii_digit : goal.returns-then-is_ascii_digit
returns-then-is_ascii_digit c =
    rw (c.from.ensures, c.from-then-is_ascii_digit.ensures, c.from-then-is_ascii_digit-2.ensures)
    (grows_digit c.args.hi c.args.v c.args.c c.if-is_ascii_digit.ensures.cases)

pub returns-else-is_ascii_digit : goal.returns-else-is_ascii_digit
returns-else-is_ascii_digit c =
    c.if-is_ascii_digit.false
    ∙ grows_not c.args.hi c.args.v c.args.c c.if-is_ascii_digit.ensures.cases
