use mathlib.Core.Path.{◌∙◌, sym, ap}
use Rattle.answers.specs.Numbers.{refuses}
use Rattle.tables.proofs.GivesLaws.{sizes_pass}
use Rattle.tables.proofs.judge.judge_history.Goals as goal

pub judge_rows-requires : goal.judge_rows-requires
judge_rows-requires c =
    sizes_pass c.args.tables.now (ap (λ a. refuses a) (sym c.judge_sizes.ensures ∙ c.in_ok-judge_sizes.was))
