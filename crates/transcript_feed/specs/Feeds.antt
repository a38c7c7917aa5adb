-- A text that comes piece by piece, whose entries a sink takes.
use Rattle.std.specs.Prelude.{◌≡◌, ℕ, List, ◌++◌, All, Result, Ok, Err}
use Rattle.group_plan.specs.Plans.{PlanView}
use Rattle.event_schedule.specs.declared.Entry.{Entry}
use Rattle.event_schedule.specs.Transcripts.{TranscriptView, Fits, NeverFalls, last_tick_from}
use Rattle.transcript_text.specs.declared.version.Version.{Version}
use Rattle.transcript_text.specs.declared.fault.ReadError.{ReadError}
use Rattle.transcript_text.specs.Ahead.{entries_of}
use Rattle.transcript_text.specs.Feeds.{left_with}
use Rattle.transcript_text.specs.Heads.{read_of}
use Rattle.transcript_text.specs.ReadBack.{HasHead}
use Rattle.transcript_text.specs.Reading.{Fails, before}
use Rattle.transcript_text.specs.Readers.{with_entries}
use Rattle.transcript_feed.specs.declared.body.Body.{Body}
use Rattle.transcript_feed.specs.declared.intake.Intake.{Intake}
use Rattle.transcript_feed.specs.declared.feed.TextState.{TextState}
use Rattle.transcript_feed.specs.declared.feed.TextState.TheVariants.{AtHead, AtEntries}
use Rattle.transcript_feed.specs.declared.feed.TextFeed.{TextFeed}

-- the sink has the first entries of a text, some more are read, and the others are left, however the text goes on
pub record IsBodyOf {R S : Type 0} (has : S → PlanView → List Entry → Type 0) (version : Version) (text : List ℕ) (b : Body R S) : Type 0 where
  pub taken : List Entry
  pub sink : has b.sink b.feed.reader.plan taken
  pub fits : All (Fits b.feed.reader.plan) (entries_of b.read.items)
  pub ticks : NeverFalls (last_tick_from 0 taken) (entries_of b.read.items)
  pub last : b.feed.reader.last ≡ last_tick_from 0 (taken ++ entries_of b.read.items)
  pub head : HasHead version b.feed.reader.plan
  pub left : (more : List ℕ) → read_of version (text ++ more) ≡ with_entries b.feed.reader.plan (before taken (before (entries_of b.read.items) (left_with b.feed more)))

-- the first of the bytes that have come are read, and the others wait
abbrev pub IsIntakeOf : {R S : Type 0} → (has : S → PlanView → List Entry → Type 0) → Version → List ℕ → Intake R S → Type 0
IsIntakeOf has version text intake = (front : List ℕ) × (text ≡ front ++ intake.waiting.items) × IsBodyOf has version front intake.body

-- these are the bytes that have come
abbrev pub IsStateOf : {R S : Type 0} → (has : S → PlanView → List Entry → Type 0) → Version → List ℕ → TextState R S → Type 0
IsStateOf has version text (AtHead bytes next) = text ≡ bytes.items
IsStateOf has version text (AtEntries intake) = IsIntakeOf has version text intake

-- these bytes of a text of this version have come
abbrev pub HasTaken : {R S : Type 0} → (has : S → PlanView → List Entry → Type 0) → Version → TextFeed R S → List ℕ → Type 0
HasTaken has version feed text = (feed.version ≡ version) × IsStateOf has version text feed.state

-- some bytes have come
abbrev pub CanTake : {R S : Type 0} → (has : S → PlanView → List Entry → Type 0) → TextFeed R S → Type 0
CanTake has feed = (version : Version) × (text : List ℕ) × HasTaken has version feed text

-- the text is that of a transcript, whose entries the sink has and whose plan the version can write; or this is the first fault of the text
abbrev pub FeedEnds : {S : Type 0} → (has : S → PlanView → List Entry → Type 0) → Version → List ℕ → Result S ReadError → Type 0
FeedEnds has version text (Ok sink) = (t : TranscriptView) × (read_of version text ≡ Ok t) × has sink t.plan t.entries × HasHead version t.plan
FeedEnds has version text (Err f) = Fails f (read_of version text)
