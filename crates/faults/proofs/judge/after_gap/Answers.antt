use borrow.Author.Rules.{rules}
use Rattle.history.specs.Computed.{say}
use Rattle.faults.proofs.JudgeLaws.{outside_found, cycle_found, late_found, dangling_found, double_found}
use Rattle.faults.proofs.judge.after_gap.Goals as goal

pub returns-in_err-none_at : goal.returns-in_err-none_at
unfolding say
returns-in_err-none_at c =
    let outside = outside_found c.requires c.first_outside.ensures in
    search rules

pub returns-in_err-none_at-2 : goal.returns-in_err-none_at-2
unfolding say
returns-in_err-none_at-2 c =
    let outside = outside_found c.requires c.first_outside.ensures in
    let back = cycle_found c.requires c.first_back.ensures in
    search rules

pub returns-in_err-none_at-3 : goal.returns-in_err-none_at-3
unfolding say
returns-in_err-none_at-3 c =
    let outside = outside_found c.requires c.first_outside.ensures in
    let back = cycle_found c.requires c.first_back.ensures in
    let late = late_found c.requires c.take_refs-found.ensures.late in
    search rules

pub returns-in_err-none_at-4 : goal.returns-in_err-none_at-4
unfolding say
returns-in_err-none_at-4 c =
    let outside = outside_found c.requires c.first_outside.ensures in
    let back = cycle_found c.requires c.first_back.ensures in
    let late = late_found c.requires c.take_refs-found.ensures.late in
    let dangling = dangling_found c.requires c.take_refs-found.ensures.dangling in
    search rules

pub returns : goal.returns
unfolding say
returns c =
    let outside = outside_found c.requires c.first_outside.ensures in
    let back = cycle_found c.requires c.first_back.ensures in
    let late = late_found c.requires c.take_refs-found.ensures.late in
    let dangling = dangling_found c.requires c.take_refs-found.ensures.dangling in
    let exact = c.requires.exact in
    let double = double_found c.args.t exact.seen.ruled (rw exact.same at c.take_refs-found.ensures.double) in
    search rules
