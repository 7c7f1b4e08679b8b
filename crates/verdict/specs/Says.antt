-- What check answers, computed. proofs/CheckedLaws.antt ties it to specs/Checked.antt.
--   check_says   codes 1 to 5, then the verdict
-- Assumes nothing.
use Rattle.answers.specs.Answers.{Answer}
use Rattle.answers.specs.Refusals.{◌⨾◌}
use Rattle.tables.specs.Tables.{Tables}
use Rattle.tables.specs.Says.{history_says}
use Rattle.history.specs.Faults.{held}
use Rattle.history.specs.Computed.{verdict}

unfoldable pub check_says : Tables → Answer
check_says L = history_says L ⨾ verdict (held L)
