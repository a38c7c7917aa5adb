use Rattle.group_book.proofs.OwnLines.{groups_stay}
use Rattle.group_book.proofs.laws.groups.Goals as goal

pub returns : goal.returns
returns c = groups_stay
