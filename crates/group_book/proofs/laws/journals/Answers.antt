use Rattle.group_book.proofs.LinesByGroup.{journals_of_groups, merges_are_journals}
use Rattle.group_book.proofs.laws.journals.Goals as goal

pub returns-clause-parts : goal.returns-clause-parts
returns-clause-parts c = journals_of_groups

pub returns-clause-merges : goal.returns-clause-merges
returns-clause-merges c = merges_are_journals
