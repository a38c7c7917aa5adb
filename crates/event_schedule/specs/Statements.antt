-- What the laws of this crate say. Each is proved for every plan, table and schedule.
use Rattle.std.specs.Prelude.{◌≡◌, ℕ, Bool, true, false, List, [], ◌∷◌, ◌++◌, map, reverse, is_some}
use Rattle.group_plan.specs.declared.Kind.{Kind}
use Rattle.group_plan.specs.declared.Tag.{Tag}
use Rattle.group_plan.specs.Plans.{Group}
use Rattle.round_machine.specs.declared.Verdict.TheVariants.{Void}
use Rattle.round_machine.specs.declared.Closing.TheVariants.{Already as AlreadyClosed}
use Rattle.round_machine.specs.declared.Ending.{Ending}
use Rattle.round_machine.specs.declared.Ending.TheVariants.{Total, Lacking, Thin, Already as AlreadyEnded, NotClosed}
use Rattle.event_schedule.specs.declared.Event.{Event}
use Rattle.event_schedule.specs.declared.Event.TheVariants.{End}
use Rattle.event_schedule.specs.declared.Line.{Line}
use Rattle.event_schedule.specs.declared.Line.TheVariants.{Send as SendLine, Take as TakeLine, Close as CloseLine, End as EndLine}
use Rattle.event_schedule.specs.Events.{event_of}
use Rattle.event_schedule.specs.Tables.{Readings, Masks, IsOfPlan, IsBounded}
use Rattle.event_schedule.specs.Schedule.{Shape, is_closed, is_ended, Outcome, Running, EndedThin, Published, Unpublished, outcome, is_effective, verdict, verdict_by_table, is_taken, has_fresh_take, survivors, answered, is_opened, is_published}
use Rattle.event_schedule.specs.Transcript.{Contents, ending, line, transcript, shape_of_readings, contents_of_tables}
use Rattle.event_schedule.specs.Frames.{IsPossible}
use Rattle.event_schedule.specs.Journal.{IsJournalAfter, HasFramesOf}

-- ---- verdicts

-- the verdict is that of the table, and a frame was taken in time exactly where it has a Fresh Take
pub record VerdictIsTable (s : Shape) (kind : Kind) (g r i : ℕ) (past : List Event) : Type 0 where
  pub table : verdict s kind g r i past ≡ verdict_by_table s kind g r i past
  pub fresh : is_taken s kind g r i past ≡ has_fresh_take s kind g r i past

abbrev pub VerdictsAreTable : Type 0
VerdictsAreTable = (s : Shape) (kind : Kind) (g r i : ℕ) (past : List Event) → VerdictIsTable s kind g r i past

-- ---- effective events

-- the line says that its event was effective
abbrev pub says_effective : Line → Bool
says_effective (SendLine tag frame) = is_some frame
says_effective (TakeLine tag Void) = false
says_effective (TakeLine tag _) = true
says_effective (CloseLine g r AlreadyClosed) = false
says_effective (CloseLine g r _) = true
says_effective (EndLine g r AlreadyEnded) = false
says_effective (EndLine g r NotClosed) = false
says_effective (EndLine g r _) = true

-- a line says that its event was effective exactly where it was
abbrev pub LinesSayEffective : Type 0
LinesSayEffective = (s : Shape) (c : Contents) (past : List Event) (e : Event) → says_effective (line s c past e) ≡ is_effective s e past

-- ---- outcomes

-- an outcome as an End says it
abbrev pub ending_of : Outcome → Ending
ending_of Running = NotClosed
ending_of EndedThin = Thin
ending_of (Published survivors total) = Total total
ending_of (Unpublished lacking) = Lacking lacking

-- the effective End says the outcome that its round has then, and no later event changes the outcome
pub record IsSettled (s : Shape) (c : Contents) (g r : ℕ) (past : List Event) : Type 0 where
  pub said : is_closed g r past ≡ true → is_ended g r past ≡ false → ending s c g r past ≡ ending_of (outcome s c.total g r (End g r ∷ past))
  pub lasting : is_ended g r past ≡ true → (e : Event) → outcome s c.total g r (e ∷ past) ≡ outcome s c.total g r past

abbrev pub OutcomesAreSettled : Type 0
OutcomesAreSettled = (s : Shape) (c : Contents) (g r : ℕ) (past : List Event) → IsSettled s c g r past

-- ---- shape: only presence and schedule decide

pub record SameShape (groups : List Group) (x y : Readings) (past : List Event) : Type 0 where
  pub effects : (e : Event) → is_effective (shape_of_readings groups x) e past ≡ is_effective (shape_of_readings groups y) e past
  pub verdicts : (tag : Tag) →
      verdict (shape_of_readings groups x) tag.kind tag.group tag.round tag.meter past
      ≡ verdict (shape_of_readings groups y) tag.kind tag.group tag.round tag.meter past
  pub survivors : (g r : ℕ) → survivors (shape_of_readings groups x) g r past ≡ survivors (shape_of_readings groups y) g r past
  pub answered : (g r : ℕ) → answered (shape_of_readings groups x) g r past ≡ answered (shape_of_readings groups y) g r past
  pub opened : (g r : ℕ) → is_opened (shape_of_readings groups x) g r past ≡ is_opened (shape_of_readings groups y) g r past
  pub published : (g r : ℕ) → is_published (shape_of_readings groups x) g r past ≡ is_published (shape_of_readings groups y) g r past

-- tables with the same presence give every schedule the same shape
abbrev pub ShapeAlone : Type 0
ShapeAlone = (groups : List Group) (x y : Readings) → ((g r i : ℕ) → is_some (x g r i) ≡ is_some (y g r i)) →
    (past : List Event) → SameShape groups x y past

-- ---- transcripts and journals

-- one more event is one more line
abbrev pub OneMoreLine : Type 0
OneMoreLine = (groups : List Group) (x : Readings) (m : Masks) (events : List Event) (e : Event) →
    transcript groups x m (events ++ e ∷ [])
    ≡ transcript groups x m events ++ line (shape_of_readings groups x) (contents_of_tables groups x m) (reverse events) e ∷ []

-- a journal whose frames have the words of a reading table and a mask table is their transcript, with the plain sums
abbrev pub JournalIsTranscript : Type 0
JournalIsTranscript = (groups : List Group) (x : Readings) (m : Masks) (journal : List Line) → IsOfPlan groups x → IsBounded groups x →
    IsJournalAfter (shape_of_readings groups x) [] journal →
    HasFramesOf (shape_of_readings groups x) (contents_of_tables groups x m) [] journal →
    transcript groups x m (map event_of journal) ≡ journal

-- lines that some reading table and mask table explain are possible
abbrev pub TranscriptsArePossible : Type 0
TranscriptsArePossible = (groups : List Group) (x : Readings) (m : Masks) (ls : List Line) → IsOfPlan groups x → IsBounded groups x →
    transcript groups x m (map event_of ls) ≡ ls → IsPossible groups ls
