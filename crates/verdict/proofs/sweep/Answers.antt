use native.Mathlib.Omega.{arith}
use Rattle.tables.specs.Rules.{most_nodes}
use Rattle.faults.proofs.SlotLaws.{ruled_within}
use Rattle.faults.proofs.SpanLaws.{spans_none}
use Rattle.verdict.proofs.SweepLaws.{sweep_starts}
use Rattle.verdict.proofs.sweep.Goals as goal

pub note_rows-requires : goal.note_rows-requires
note_rows-requires c =
    record {
      nodes = ruled_within c.args.history.now.ruled most_nodes c.args.history.now.ruled.few_nodes;
      each = spans_none _ most_nodes;
    }

pub sweep_from-requires-clause-swept : goal.sweep_from-requires-clause-swept
sweep_from-requires-clause-swept c = sweep_starts c.args.history.now.ruled (omega arith)
