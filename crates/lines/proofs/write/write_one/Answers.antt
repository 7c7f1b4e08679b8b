use Rattle.ground.proofs.ListLaws.{put_append}
use Rattle.lines.proofs.write.write_one.Goals as goal

pub returns : goal.returns
returns c = put_append c.put-i.ensures (rw c.one_form.ensures at c.write_numbers.ensures)
