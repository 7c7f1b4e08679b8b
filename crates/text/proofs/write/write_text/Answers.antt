use mathlib.Core.Path.{◌≡◌, sym, ap, ◌∙◌}
use Rattle.std.proofs.Common.{rules, Err}
use Rattle.answers.specs.Numbers.{refuses}
use Rattle.text.proofs.WriteLaws.{sizes_fit, rows_ready, written_size, written_short, written_all}
use Rattle.text.proofs.write.write_text.Goals as goal

pub returns-in_err-judge_sizes : goal.returns-in_err-judge_sizes
returns-in_err-judge_sizes c =
    let handed : c.from_residual.result ≡ Err c.in_err-judge_sizes.field-0.0 = search rules in
    rw (handed ∙ sym c.in_err-judge_sizes.was)
    (written_size c.judge_sizes.ensures (ap refuses c.in_err-judge_sizes.was))

pub counts-c-requires : goal.counts-c-requires
counts-c-requires c = sizes_fit c.judge_sizes.ensures (ap refuses c.in_ok-judge_sizes.was)

pub rows_len-requires : goal.rows_len-requires
rows_len-requires c = sizes_fit c.judge_sizes.ensures (ap refuses c.in_ok-judge_sizes.was)

pub returns-then-out-bytes : goal.returns-then-out-bytes
returns-then-out-bytes c =
    written_short c.judge_sizes.ensures (ap refuses c.in_ok-judge_sizes.was)
    (rw c.counts-c.ensures at c.head_len.ensures) c.rows_len.ensures c.if-out-bytes.true

pub write_rows-requires : goal.write_rows-requires
write_rows-requires c =
    rows_ready (sizes_fit c.judge_sizes.ensures (ap refuses c.in_ok-judge_sizes.was))
    (rw c.counts-c.ensures at c.head_len.ensures) c.rows_len.ensures c.if-out-bytes.false
    (rw c.counts-c.ensures at c.write_head-at.ensures)

pub returns : goal.returns
returns c =
    written_all c.judge_sizes.ensures (ap refuses c.in_ok-judge_sizes.was)
    (rw c.counts-c.ensures at c.head_len.ensures) c.rows_len.ensures c.if-out-bytes.false
    (rw c.counts-c.ensures at c.write_head-at.ensures) c.write_rows.ensures
