use borrow.Author.Rules.{rules}
use native.Mathlib.Omega.{arith}
use Rattle.history.specs.Computed.{say}
use Rattle.faults.proofs.SlotLaws.{fresh, ruled_blank}
use Rattle.faults.proofs.JudgeLaws.{exactly, overlap_found, gap_found, clear}
use Rattle.faults.proofs.judge.judge.Goals as goal

pub take_rows-requires : goal.take_rows-requires
take_rows-requires c = ruled_blank c.args.history.now.ruled (fresh c.args.history.now.ruled.few_nodes) c.args.t

pub returns-in_err-none_at : goal.returns-in_err-none_at
unfolding say
returns-in_err-none_at c =
    let ruled = c.args.history.now.ruled in
    let x = exactly c.take_rows.new.up ruled (omega (arith, ruled.few_nodes)) c.take_rows.ensures in
    let overlap = overlap_found x c.first_overlap.ensures in
    search rules

pub returns-in_err-none_at-2 : goal.returns-in_err-none_at-2
unfolding say
returns-in_err-none_at-2 c =
    let ruled = c.args.history.now.ruled in
    let x = exactly c.take_rows.new.up ruled (omega (arith, ruled.few_nodes)) c.take_rows.ensures in
    let overlap = overlap_found x c.first_overlap.ensures in
    let gap = gap_found x (omega arith) c.requires c.first_gap.ensures in
    search rules

pub after_gap-requires : goal.after_gap-requires
after_gap-requires c =
    let ruled = c.args.history.now.ruled in
    let x = exactly c.take_rows.new.up ruled (omega (arith, ruled.few_nodes)) c.take_rows.ensures in
    clear x c.first_overlap.ensures c.none_at.ensures (c.in_ok-none_at.was {u = tt})

pub returns : goal.returns
unfolding say
returns c =
    let ruled = c.args.history.now.ruled in
    let x = exactly c.take_rows.new.up ruled (omega (arith, ruled.few_nodes)) c.take_rows.ensures in
    let overlap = overlap_found x c.first_overlap.ensures in
    let gap = gap_found x (omega arith) c.requires c.first_gap.ensures in
    search rules
