use Rattle.plan_files.proofs.PlainRowLemmas.{plain_rows}
use Rattle.plan_files.proofs.laws.plain_rows.Goals as goal

pub returns : goal.returns
returns c = plain_rows
