use Rattle.std.proofs.Common.{rules}
use Rattle.lines.specs.Reads.{one_of, lines_at, and_then, on_line, onto}
use Rattle.lines.proofs.read.read_one.Goals as goal

pub returns : goal.returns
unfolding one_of lines_at and_then on_line onto
returns c = search rules
