use Rattle.transcript_text.proofs.LineNumbers.{entries_have_their_lines}
use Rattle.transcript_text.proofs.entry_lines.entry_line.Goals as goal

pub returns-clause-law : goal.returns-clause-law
returns-clause-law c = entries_have_their_lines
