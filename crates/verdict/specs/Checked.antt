-- What check answers. Assumes nothing.
use Rattle.std.specs.Prelude.{◌≡◌, true}
use Rattle.answers.specs.Answers.{Answer}
use Rattle.answers.specs.Numbers.{refuses}
use Rattle.tables.specs.Tables.{Tables}
use Rattle.tables.specs.Rules.{Obeys, Gives}
use Rattle.history.specs.Faults.{held, Verdict}

-- [01:What the calls answer] Check: "1, 2, 3, 4, 5, then faults. Writes nothing."
pub data Checked (L : Tables) : Answer → Type 0 where
  ruled_out : {a : Answer} → Gives L a → refuses a ≡ true → Checked L a
  judged : {a : Answer} → Obeys L → Verdict (held L) a → Checked L a
