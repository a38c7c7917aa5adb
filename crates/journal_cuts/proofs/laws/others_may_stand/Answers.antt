use Rattle.journal_cuts.proofs.FileLemmas.{any_bytes}
use Rattle.journal_cuts.proofs.laws.others_may_stand.Goals as goal

pub returns : goal.returns
returns c = any_bytes
