-- A book under a reading table and a mask table: its frames have their words.
use Rattle.std.specs.Prelude.{◌≡◌, ℕ, ◌^◌, ◌<◌, List, [], ◌∷◌, ◌++◌, map, Some, is_some}
use Rattle.group_plan.specs.Tables.{PresenceView, is_present}
use Rattle.event_schedule.specs.declared.Line.{Line}
use Rattle.event_schedule.specs.declared.Line.TheVariants.{Send as SendLine}
use Rattle.event_schedule.specs.Events.{event_of}
use Rattle.event_schedule.specs.Tables.{Readings, Masks, reading_at, plain_sum}
use Rattle.event_schedule.specs.Schedule.{Shape, shape_of_presence, outcome}
use Rattle.event_schedule.specs.Transcript.{Contents, word_sent, transcript, shape_of_readings, contents_of_tables}
use Rattle.event_schedule.specs.Journal.{past_of}
use Rattle.group_book.specs.declared.answers.OutcomeState.{OutcomeState}
use Rattle.group_book.specs.Books.{BookView, past, state_of}

-- each frame of these lines has the reading word or the answer word of these contents
abbrev pub HasWordsOf : Shape → Contents → List Line → List Line → Type 0
HasWordsOf s c journal [] = Unit {0}
HasWordsOf s c journal (SendLine tag (Some f) ∷ rest) =
    (f.word ≡ word_sent s c tag.kind tag.group tag.round tag.meter (past_of journal)) × HasWordsOf s c (journal ++ SendLine tag (Some f) ∷ []) rest
HasWordsOf s c journal (l ∷ rest) = HasWordsOf s c (journal ++ l ∷ []) rest

-- readings below 2^40 of this presence, and masks under which the frames of the journal are theirs
pub record IsUnder (p : PresenceView) (x : Readings) (m : Masks) (journal : List Line) : Type 0 where
  pub present : (g r i : ℕ) → is_some (x g r i) ≡ is_present p.table g r i
  pub small : (g r i : ℕ) → reading_at x g r i < 2 ^ 40
  pub words : HasWordsOf (shape_of_presence p) (contents_of_tables p.plan.groups x m) [] journal

-- under any such tables the journal is the transcript of its events, with the plain sums
abbrev pub IsTranscriptUnder : PresenceView → List Line → Type 0
IsTranscriptUnder p journal = (x : Readings) (m : Masks) → IsUnder p x m journal → transcript p.plan.groups x m (map event_of journal) ≡ journal

-- and the outcome is the one with the plain sum of the survivors' readings
abbrev pub IsOutcomeUnder : BookView → ℕ → ℕ → OutcomeState → Type 0
IsOutcomeUnder b g r state =
    (x : Readings) (m : Masks) → IsUnder b.presence x m b.journal → state ≡ state_of (outcome (shape_of_readings b.presence.plan.groups x) (plain_sum x) g r (past b))
