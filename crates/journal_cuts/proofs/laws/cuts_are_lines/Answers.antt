use Rattle.journal_cuts.proofs.CutLemmas.{cuts_lines}
use Rattle.journal_cuts.proofs.laws.cuts_are_lines.Goals as goal

pub returns : goal.returns
returns c = cuts_lines
