-- What a meter file that is read always has.
use Rattle.std.specs.Prelude.{◌≡◌, ◌<◌, length, None}
use Rattle.group_plan.specs.Plans.{size}
use Rattle.meter_files.specs.PartFiles.{MeterFileView, OwnerView, missing_pair}

-- the meter that the file is about, and how many its group has
abbrev pub owner_in : MeterFileView → OwnerView
owner_in file = record { group = file.group; meter = file.meter; meters = size file.home.groups 0 }

-- the plan is that of one group, the meter is one of it, and no key of a pair is missing
pub record IsWhole (file : MeterFileView) : Type 0 where
  pub one : length file.home.groups ≡ 1
  pub is_meter : file.meter < size file.home.groups 0
  pub pairs : missing_pair (owner_in file) file.pairs ≡ None
