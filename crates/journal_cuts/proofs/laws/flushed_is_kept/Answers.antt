use Rattle.journal_cuts.proofs.FileLemmas.{kept_flushed, no_more_left, trimmed_first}
use Rattle.journal_cuts.proofs.laws.flushed_is_kept.Goals as goal

pub returns-clause-kept : goal.returns-clause-kept
returns-clause-kept c = kept_flushed

pub returns-clause-no_more : goal.returns-clause-no_more
returns-clause-no_more c = no_more_left

pub returns-clause-trimmed : goal.returns-clause-trimmed
returns-clause-trimmed c = trimmed_first
