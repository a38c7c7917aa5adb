-- The register world of a schedule: the transcript of each register.
use Rattle.std.specs.Prelude.{ℕ, ◌-◌, List, [], ◌∷◌, map, slice_index, Option, Some, None}
use Rattle.std.specs.List.{range_with_len}
use Rattle.group_plan.specs.Plans.{Group}
use Rattle.meter_frames.specs.declared.Frame.{Frame}
use Rattle.event_schedule.specs.declared.Event.{Event}
use Rattle.event_schedule.specs.declared.Line.{Line}
use Rattle.event_schedule.specs.Tables.{Readings, Masks}
use Rattle.event_schedule.specs.Transcript.{transcript}
use Rattle.register_words.specs.declared.row.SideRow.{SideRow}
use Rattle.register_words.specs.Sides.{side_frame}

-- the transcripts of registers 0 to n - 1, each of its own readings under its own masks
abbrev pub register_world : ℕ → List Group → (ℕ → Readings) → (ℕ → Masks) → List Event → List (List Line)
register_world n groups x m events = map (λ k. transcript groups (x k) (m k) events) (range_with_len 0 n)

-- the word of a frame, with those behind it
abbrev pub and_words : Option Frame → List ℕ → List ℕ
and_words None words = words
and_words (Some f) words = f.word ∷ words

-- the words of the readings and answers that lines send
abbrev pub sent_words : List Line → List ℕ
sent_words [] = []
sent_words (l ∷ ls) = and_words (side_frame l) (sent_words ls)

-- the words of register k in the rows
abbrev pub row_words : ℕ → List SideRow → List ℕ
row_words k rows = map (λ row. slice_index row.words (k - 1)) rows
