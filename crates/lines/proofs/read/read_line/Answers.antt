use Rattle.std.proofs.Common.{rules}
use Rattle.lines.specs.Reads.{one_of, line_at, numbers_at, then_number, onto}
use Rattle.lines.proofs.read.read_line.Goals as goal

pub returns-in_err-from : goal.returns-in_err-from
unfolding one_of line_at
returns-in_err-from c = search rules

pub returns : goal.returns
unfolding one_of line_at numbers_at then_number onto
returns c = search rules
