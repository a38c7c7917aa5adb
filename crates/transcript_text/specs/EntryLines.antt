-- The number of an entry's line in the text of a transcript.
use Rattle.std.specs.Prelude.{◌≡◌, ℕ, ◌+◌, ◌-◌, List, length, slice_get, Option, Some}
use Rattle.group_plan.specs.Plans.{PlanView}
use Rattle.event_schedule.specs.declared.Entry.{Entry}
use Rattle.field_texts.specs.Parts.{parts}
use Rattle.transcript_text.specs.declared.version.Version.TheVariants.{Two}
use Rattle.event_schedule.specs.Transcripts.{TranscriptView, IsTranscript}
use Rattle.transcript_text.specs.Spelling.{stated_spans, entry_text, transcript_text}

-- how many lines stand before the first entry: the first three, one for each group, one for each span that is stated, and `begin`
abbrev pub head_lines : PlanView → ℕ
head_lines plan = 4 + length plan.groups + length (stated_spans plan)

-- the number of the line of entry k; lines are counted from 1, and entries from 0
abbrev pub entry_line : PlanView → ℕ → ℕ
entry_line plan k = head_lines plan + k + 1

-- line n of a text, without its newline
abbrev pub line_at : List ℕ → ℕ → Option (List ℕ)
line_at text n = slice_get (parts 10 text) (n - 1)

-- in the text of a transcript the line of this number is the entry's
abbrev pub EntriesHaveTheirLines : Type 0
EntriesHaveTheirLines = (t : TranscriptView) (k : ℕ) (e : Entry) → IsTranscript t → slice_get t.entries k ≡ Some e →
    line_at (transcript_text t) (entry_line t.plan k) ≡ Some (entry_text Two e)
