use Rattle.group_book.proofs.LinesByGroup.{lines_of_groups}
use Rattle.group_book.proofs.laws.lines.Goals as goal

pub returns : goal.returns
returns c = lines_of_groups
