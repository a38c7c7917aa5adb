use Rattle.lossy_link.proofs.HistoryLemmas.{each_copy_once}
use Rattle.lossy_link.proofs.laws.each_copy_once.Goals as goal

pub returns : goal.returns
returns c = each_copy_once
