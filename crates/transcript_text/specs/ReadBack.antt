-- What has a text in a version, and that its text is read back.
use Rattle.std.specs.Prelude.{◌≡◌, ℕ, ◌≤◌, List, [], Ok}
use Rattle.group_plan.specs.Plans.{PlanView, size}
use Rattle.transcript_text.specs.declared.version.Version.{Version}
use Rattle.transcript_text.specs.declared.version.Version.TheVariants.{One, Two}
use Rattle.event_schedule.specs.Transcripts.{TranscriptView, IsTranscript}
use Rattle.transcript_text.specs.Spelling.{stated_spans, text_of}
use Rattle.transcript_text.specs.Heads.{read_of}

-- groups of up to 64 meters, each of them a member in all of the rounds
pub record IsOldPlan (plan : PlanView) : Type 0 where
  pub meters : (g : ℕ) → size plan.groups g ≤ 64
  pub spans : stated_spans plan ≡ []

-- what a version asks of plans: version 1 that they are of the old form
abbrev pub HasHead : Version → PlanView → Type 0
HasHead One plan = IsOldPlan plan
HasHead Two plan = Unit {0}

-- a transcript, of a plan that the version can write
pub record HasText (version : Version) (t : TranscriptView) : Type 0 where
  pub transcript : IsTranscript t
  pub head : HasHead version t.plan

-- each transcript of which the bytes are the text is what they are read as
unfoldable pub ReadsEach : Version → List ℕ → Type 0
ReadsEach version bytes = (t : TranscriptView) → HasText version t → bytes ≡ text_of version t → read_of version bytes ≡ Ok t
