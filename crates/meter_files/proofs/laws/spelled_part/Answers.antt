use Rattle.meter_files.proofs.SpelledParts.{spelled_part}
use Rattle.meter_files.proofs.laws.spelled_part.Goals as goal

pub returns : goal.returns
returns c = spelled_part
