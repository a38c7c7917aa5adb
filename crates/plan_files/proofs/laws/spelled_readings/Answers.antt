use Rattle.plan_files.proofs.SpelledReadings.{spelled_readings}
use Rattle.plan_files.proofs.laws.spelled_readings.Goals as goal

pub returns : goal.returns
returns c = spelled_readings
