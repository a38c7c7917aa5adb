-- What has a text, and parts of a text.
use Rattle.std.specs.Prelude.{◌≡◌, ℕ, List, ◌++◌, drop, Some}
use Rattle.std.specs.List.{flat_map}
use Rattle.group_plan.specs.Plans.{PlanView}
use Rattle.meter_frames.specs.Frames.{FitsKind}
use Rattle.event_schedule.specs.declared.Line.{Line}
use Rattle.event_schedule.specs.declared.Line.TheVariants.{Send}
use Rattle.event_schedule.specs.declared.Entry.{Entry}
use Rattle.transcript_text.specs.declared.version.Version.TheVariants.{Two}
use Rattle.transcript_text.specs.Spelling.{ended, entry_text, head_text}

-- a frame of the line has the line's tag, and what its kind allows
abbrev pub IsWritable : Line → Type 0
IsWritable (Send tag (Some frame)) = (frame.tag ≡ tag) × FitsKind frame.tag.kind frame.missing frame.word
IsWritable _ = Unit {0}

-- the lines of entries, each with its newline
abbrev pub lines_text : List Entry → List ℕ
lines_text es = flat_map (λ e. ended (entry_text Two e)) es

-- the lines of the entries from a place on
abbrev pub lines_from : List Entry → ℕ → List ℕ
lines_from es at = lines_text (drop at es)

-- the text of a transcript as far as its first entries: the head and their lines
abbrev pub begun_text : PlanView → List Entry → List ℕ
begun_text plan es = head_text Two plan ++ lines_text es
