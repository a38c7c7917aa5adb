-- What `resume` makes of the bytes of its three files: a run of the plan and the readings that begins with the entries of the cut.
use Rattle.std.specs.Prelude.{ℕ, List, ◌≡◌, Ok, ◌≢◌, ◌++◌, Err, Result, ⊤}
use Rattle.group_plan.specs.Plans.{PlanView}
use Rattle.event_schedule.specs.Transcripts.{TranscriptView}
use Rattle.transcript_text.specs.declared.version.Version.TheVariants.{Two}
use Rattle.transcript_text.specs.Heads.{read_of}
use Rattle.cut_resume.specs.Cut.{completed, CutEnds as CutIs}
use Rattle.event_schedule.specs.declared.Entry.{Entry}
use Rattle.link_lanes.specs.Lanes.{Meaning}
use Rattle.command_texts.specs.Runs.{Makes, Texts, plan_in, HasValues, AreValues, Values}
use Rattle.transcript_text.specs.declared.fault.ReadError.{ReadError}
use Rattle.mask_stream.specs.KeyStreams.{streams}
use Rattle.transcript_text.specs.EntryLines.{entry_line}
use Rattle.cut_resume.specs.OnCourse.{IsFirstOff}
use Rattle.command_words.specs.declared.outcome.Outcome.{Outcome}
use Rattle.command_words.specs.declared.outcome.Outcome.TheVariants.{NoMemory, BadText}
use Rattle.command_words.specs.declared.text_fault.TextFault.TheVariants as of_text
use Rattle.cut_resume.specs.declared.errors.CutError.{CutError}
use Rattle.cut_resume.specs.declared.errors.ResumeError.{ResumeError}
use Rattle.cut_resume.specs.declared.errors.ResumeError.TheVariants.{NotThis as IsOff, Memory}
use Rattle.command_texts.specs.declared.run.RunTexts.{RunTexts}
use Rattle.command_texts.specs.RunTexts.{texts_of}

-- the bytes of a plan file, of a readings file, and of a cut transcript
pub record ResumeBytes : Type 0 where
  pub plan : List ℕ
  pub readings : List ℕ
  pub cut : List ℕ

abbrev pub resume_bytes_of : (plan readings cut : List ℕ) → ResumeBytes
resume_bytes_of plan readings cut = record { plan = plan; readings = readings; cut = cut }

-- the text, completed, is that of this transcript of the plan
pub record IsCutOf (plan : PlanView) (bytes : List ℕ) (cut : TranscriptView) : Type 0 where
  pub read : read_of Two (completed bytes) ≡ Ok cut
  pub of_plan : cut.plan ≡ plan

-- the text, completed, is that of a transcript of another plan
pub record IsOfOtherPlan (plan : PlanView) (bytes : List ℕ) : Type 0 where
  pub cut : TranscriptView
  pub read : read_of Two (completed bytes) ≡ Ok cut
  pub other : cut.plan ≢ plan

-- the transcript is of the cut's plan, and its first entries are the cut's
pub record BeginsWith (cut t : TranscriptView) : Type 0 where
  pub of_plan : t.plan ≡ cut.plan
  pub more : List Entry
  pub begins : t.entries ≡ cut.entries ++ more

-- a run of the values of the bytes makes these texts, and begins with the entries of the cut
pub record ResumeMakes (cupboard : List Meaning) (bytes : ResumeBytes) (texts : Texts) : Type 0 where
  pub made : Makes cupboard bytes.plan bytes.readings texts
  pub cut : TranscriptView
  pub of_plan : IsCutOf (plan_in made.values) bytes.cut cut
  pub more : List Entry
  pub begins : made.entries ≡ cut.entries ++ more

-- ---- refusals

-- the plan file and the readings file have values, and the completed text of the cut has this fault
abbrev pub RefusesCut : List Meaning → ResumeBytes → ReadError → Type 0
RefusesCut cupboard bytes fault = HasValues cupboard bytes.plan bytes.readings × (read_of Two (completed bytes.cut) ≡ Err fault)

-- they have values, and the cut is one of another plan
abbrev pub HasOtherPlan : List Meaning → ResumeBytes → Type 0
HasOtherPlan cupboard bytes = (v : Values) × AreValues cupboard bytes.plan bytes.readings v × IsOfOtherPlan (plan_in v) bytes.cut

-- they have values, the cut is one of the plan, and the entry of this line is the first with which it is not on course
pub record IsNotThisRun (cupboard : List Meaning) (bytes : ResumeBytes) (line : ℕ) : Type 0 where
  pub values : Values
  pub of_bytes : AreValues cupboard bytes.plan bytes.readings values
  pub cut : TranscriptView
  pub of_plan : IsCutOf (plan_in values) bytes.cut cut
  pub entry : ℕ
  pub number : line ≡ entry_line cut.plan entry
  pub off : IsFirstOff values.readings (streams values.file.keys) values.slots cut.entries entry

-- ---- the cut, and the texts

-- the cut that these bytes under this name are, where it is one of the plan; want of memory is free
abbrev pub CutEnds : (name : List ℕ) → PlanView → (bytes : List ℕ) → Result TranscriptView Outcome → Type 0
CutEnds cut plan bytes (Ok t) = IsCutOf plan bytes t
CutEnds cut plan bytes (Err (BadText name (of_text.Transcript fault))) = (name.now ≡ cut) × (read_of Two (completed bytes) ≡ Err fault)
CutEnds cut plan bytes (Err (BadText name of_text.OtherPlan)) = (name.now ≡ cut) × IsOfOtherPlan plan bytes
CutEnds cut plan bytes (Err NoMemory) = ⊤
CutEnds cut plan bytes (Err _) = ⊥

-- a fault of the completed text of a cut ends the command so
abbrev pub CutRefused : (name : List ℕ) → CutError → Outcome → Type 0
CutRefused cut fault outcome = (plan : PlanView) (bytes : List ℕ) → CutIs (Err fault) (read_of Two (completed bytes)) → CutEnds cut plan bytes (Err outcome)

-- the texts of a run of these values that goes on from the cut, or the entry of this line is the first that is not on course; want of memory is free
abbrev pub ResumeTextsEnd : Values → TranscriptView → Result RunTexts ResumeError → Type 0
ResumeTextsEnd v cut (Ok kept) =
    (cupboard : List Meaning) (bytes : ResumeBytes) → AreValues cupboard bytes.plan bytes.readings v → IsCutOf (plan_in v) bytes.cut cut → ResumeMakes cupboard bytes (texts_of kept)
ResumeTextsEnd v cut (Err (IsOff line)) = (k : ℕ) × (line ≡ entry_line cut.plan k) × IsFirstOff v.readings (streams v.file.keys) v.slots cut.entries k
ResumeTextsEnd v cut (Err Memory) = ⊤
