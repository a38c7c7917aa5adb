-- Side words: the words of the frames in the further registers.
use Rattle.std.specs.Prelude.{ℕ, ◌+◌, ◌-◌, if◌then◌else◌, Bool, true, false, List, [], ◌∷◌, ◌++◌, length, map, replicate, Option, Some, None}
use Rattle.std.specs.List.{range_with_len}
use Rattle.group_plan.specs.declared.Kind.{Kind}
use Rattle.group_plan.specs.declared.Kind.TheVariants.{Reading, Announcement, Answer}
use Rattle.group_plan.specs.Tables.{reading}
use Rattle.meter_frames.specs.declared.Frame.{Frame}
use Rattle.pair_keys.specs.Keys.{Keys}
use Rattle.event_schedule.specs.declared.Line.{Line}
use Rattle.event_schedule.specs.declared.Line.TheVariants.{Send}
use Rattle.event_schedule.specs.Transcript.{Contents, contents_of_tables}
use Rattle.event_schedule.specs.Transcripts.{TranscriptView}
use Rattle.event_schedule.specs.Events.{lines_of}
use Rattle.transcript_text.specs.EntryLines.{entry_line}
use Rattle.plan_files.specs.Registers.{RegistersView, table}
use Rattle.register_words.specs.declared.row.SideRow.{SideRow}
use Rattle.register_words.specs.Words.{register_streams}

-- whether frames of a kind have words of their own in the further registers: an announcement has none
abbrev pub has_words : Kind → Bool
has_words Reading = true
has_words Announcement = false
has_words Answer = true

-- the word of a frame of a kind: the reading word, or the answer word to this missing set
abbrev pub word_by_kind : Contents → Kind → (g r i : ℕ) → List ℕ → ℕ
word_by_kind c Reading g r i missing = c.reading g r i
word_by_kind c Announcement g r i missing = 0
word_by_kind c Answer g r i missing = c.answer g r i missing

abbrev pub word_for : Contents → Frame → ℕ
word_for c f = word_by_kind c f.tag.kind f.tag.group f.tag.round f.tag.meter f.missing

-- what register k says with its readings and the words of its own
abbrev pub register_contents : RegistersView → Keys → ℕ → Contents
register_contents registers keys k = contents_of_tables registers.plan.groups (reading (table registers k)) (register_streams k keys)

-- the words of a frame in registers 1 to n
abbrev pub side_words : RegistersView → Keys → ℕ → Frame → List ℕ
side_words registers keys n f = map (λ k. word_for (register_contents registers keys k) f) (range_with_len 1 n)

-- the row of a frame whose line has this number: its words in the further registers, and 0 in place of those that there aren't
abbrev pub side_row : RegistersView → Keys → ℕ → Frame → SideRow
side_row registers keys n f = record {
  line = n;
  count = length registers.tables - 1;
  words = side_words registers keys (length registers.tables - 1) f ++ replicate (8 - length registers.tables) 0;
}

-- the frame of a line, where it has words of its own in the further registers
abbrev pub worded : Frame → Option Frame
worded f = if has_words f.tag.kind then Some f else None

abbrev pub side_frame : Line → Option Frame
side_frame (Send tag (Some f)) = worded f
side_frame _ = None

-- the row of a line, where it has one, and those of the lines behind it
abbrev pub and_rows : RegistersView → Keys → ℕ → Option Frame → List SideRow → List SideRow
and_rows registers keys n None rows = rows
and_rows registers keys n (Some f) rows = side_row registers keys n f ∷ rows

-- the rows of lines, of which the first is line n of the text
unfoldable pub side_rows : RegistersView → Keys → ℕ → List Line → List SideRow
side_rows registers keys n [] = []
side_rows registers keys n (l ∷ ls) = and_rows registers keys n (side_frame l) (side_rows registers keys (n + 1) ls)

-- the rows of a transcript, each with its line's number in the text
abbrev pub rows_of : RegistersView → Keys → TranscriptView → List SideRow
rows_of registers keys t = side_rows registers keys (entry_line t.plan 0) (lines_of t.entries)
