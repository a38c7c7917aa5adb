-- The parts of a row of side words.
use Rattle.std.specs.Prelude.{ℕ, ◌-◌, ◌++◌, List, map, replicate, slice_index}
use Rattle.std.specs.List.{range_with_len}
use Rattle.group_plan.specs.Plans.{PlanView, size}
use Rattle.meter_frames.specs.declared.Frame.{Frame}
use Rattle.event_schedule.specs.Transcripts.{HasPlace, IsWithin}
use Rattle.register_words.specs.declared.row.SideRow.{SideRow}

-- the plan has a frame's place, and its missing set is within its group
pub record FitsFrame (plan : PlanView) (frame : Frame) : Type 0 where
  pub place : HasPlace plan frame.tag
  pub set : IsWithin (size plan.groups frame.tag.group) frame.missing

-- the row with words 1 to n - 1 of these
abbrev pub row_by : ℕ → List ℕ → ℕ → SideRow
row_by line words n = record {
  line = line;
  count = n - 1;
  words = map (slice_index words) (range_with_len 1 (n - 1)) ++ replicate (8 - n) 0;
}
