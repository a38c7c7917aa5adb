-- The files of the load maker are read as what they say.
use Rattle.plan_files.proofs.SpelledPlan.{spelled_plan}
use Rattle.plan_files.proofs.SpelledReadings.{spelled_readings}
use Rattle.load_maker.specs.Made.{made_file, made_readings}
use Rattle.load_maker.specs.MadeFiles.{MadeFilesAreRead}
use Rattle.load_maker.proofs.MadeLengths.{plan_short, readings_short}
use Rattle.load_maker.proofs.MadeValues.{file_right, lane_in_row, table_right, within_limits}
use Rattle.load_maker.proofs.SizeLemmas.{limits_of}

pub made_files : MadeFilesAreRead
unfolding made_readings
made_files seed groups meters rounds small is =
    let limits = limits_of groups meters rounds is in
    record {
      plan = spelled_plan (made_file seed groups meters rounds) (file_right seed groups meters rounds small limits) (lane_in_row seed groups meters rounds small);
      readings = spelled_readings (made_readings seed groups meters rounds) (within_limits groups meters rounds limits) (table_right seed groups meters rounds);
      short_plan = plan_short seed groups meters rounds small limits;
      short_readings = readings_short seed groups meters rounds limits;
    }
