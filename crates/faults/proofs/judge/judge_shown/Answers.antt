use borrow.Author.Rules.{rules}
use native.Mathlib.Omega.{arith}
use Rattle.history.specs.Computed.{say}
use Rattle.faults.proofs.JudgeLaws.{exactly, overlap_found, clear}
use Rattle.faults.proofs.judge.judge_shown.Goals as goal

pub returns-in_err-none_at : goal.returns-in_err-none_at
unfolding say
returns-in_err-none_at c =
    let x = exactly c.take_rows.new.up c.args.history.now.ruled (omega (arith, c.requires.long)) c.take_rows.ensures in
    let overlap = overlap_found x c.first_overlap.ensures in
    record { answer = search rules; slots = c.take_rows.ensures }

pub after_gap-requires : goal.after_gap-requires
after_gap-requires c =
    let x = exactly c.take_rows.new.up c.args.history.now.ruled (omega (arith, c.requires.long)) c.take_rows.ensures in
    clear x c.first_overlap.ensures c.none_at.ensures (c.in_ok-none_at.was {u = tt})

pub returns : goal.returns
unfolding say
returns c =
    let x = exactly c.take_rows.new.up c.args.history.now.ruled (omega (arith, c.requires.long)) c.take_rows.ensures in
    let overlap = overlap_found x c.first_overlap.ensures in
    record { answer = search rules; slots = c.take_rows.ensures }
