use Rattle.plan_files.proofs.AcceptedFiles.{accepted_readings}
use Rattle.plan_files.proofs.laws.accepted_readings.Goals as goal

pub returns : goal.returns
returns c = accepted_readings
