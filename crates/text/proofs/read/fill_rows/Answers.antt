use Rattle.text.proofs.ReadLaws.{fill_nodes, fill_edges, fill_refs, rows_held}
use Rattle.text.proofs.read.fill_rows.Goals as goal

pub fill_lines-i-requires : goal.fill_lines-i-requires
fill_lines-i-requires c = fill_nodes c.requires

pub fill_lines-j-requires : goal.fill_lines-j-requires
fill_lines-j-requires c = fill_edges c.requires c.fill_lines-i.ensures

pub fill_lines-requires : goal.fill_lines-requires
fill_lines-requires c = fill_refs c.requires c.fill_lines-i.ensures c.fill_lines-j.ensures

pub returns : goal.returns
returns c = rows_held c.requires c.fill_lines-i.ensures c.fill_lines-j.ensures c.fill_lines.ensures
