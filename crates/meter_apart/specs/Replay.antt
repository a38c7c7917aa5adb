-- The meter that a journal gives.
use Rattle.std.specs.Prelude.{◌≡◌, List, [], Some, Result, Ok, Err}
use Rattle.meter_apart.specs.declared.answers.Noted.{Noted}
use Rattle.meter_apart.specs.declared.keys.MeterKeys.{MeterKeys}
use Rattle.meter_apart.specs.declared.meter.MeterApart.{MeterApart}
use Rattle.meter_apart.specs.declared.replaying.ReplayError.{ReplayError}
use Rattle.meter_apart.specs.declared.replaying.ReplayError.TheVariants.{Line, Memory}
use Rattle.meter_apart.specs.Replies.{first_wrong, IsJournal}
use Rattle.meter_apart.specs.Keys.{part_of}
use Rattle.meter_apart.specs.Meter.{meter_keys, IsAfter}

-- a meter with these keys, in the state that the lines give it
pub record IsReplayed (keys : MeterKeys) (lines : List Noted) (m : MeterApart) : Type 0 where
  pub keys_are : meter_keys m ≡ keys
  pub journal : IsJournal (part_of keys) lines
  pub after : IsAfter lines m

-- the lines are a journal and give this meter, or one can't follow those before it; want of memory is free
abbrev pub Replays : MeterKeys → List Noted → Result MeterApart ReplayError → Type 0
Replays keys lines (Ok m) = IsReplayed keys lines m
Replays keys lines (Err (Line at)) = first_wrong (part_of keys) [] lines ≡ Some at
Replays keys lines (Err Memory) = Unit {0}
