use Rattle.group_book.proofs.WordLemmas.{none_now}
use Rattle.group_book.proofs.words.Words.none.Goals as goal

pub returns : goal.returns
returns c = none_now _ _ c.args.places 0 c.in_ok-no_marks.ensures c.in_ok-no_values.ensures
