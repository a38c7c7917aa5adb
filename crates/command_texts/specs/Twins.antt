-- What the bytes of the four files of `twin` come to.
use Rattle.std.specs.Prelude.{ℕ, List, ◌≡◌, Ok, Result, Err, ◌⊎◌, ⊤}
use Rattle.group_plan.specs.Tables.{ReadingsView}
use Rattle.plan_files.specs.PlanFiles.{PlanFileView, plan_of}
use Rattle.plan_files.specs.Readings.{readings_of}
use Rattle.mask_stream.specs.KeyStreams.{streams}
use Rattle.twin_worlds.specs.declared.rows.MovedRow.{MovedRow}
use Rattle.twin_worlds.specs.declared.answers.TwinError.{TwinError}
use Rattle.twin_worlds.specs.Twins.{TwinEnds, IsRecord}
use Rattle.plan_files.specs.declared.fault.FileFault.{FileFault}
use Rattle.event_schedule.specs.declared.Line.{Line}
use Rattle.ideal_masks.specs.declared.Differ.TheVariants.{Presence, Total}
use Rattle.twin_worlds.specs.declared.answers.TwinError.TheVariants as twin
use Rattle.command_words.specs.declared.outcome.Outcome.{Outcome}
use Rattle.command_words.specs.declared.outcome.Outcome.TheVariants.{NoMemory, BadPlan, BadReadings, BadText, Disagree}
use Rattle.command_words.specs.declared.text_fault.TextFault.TheVariants as of_text
use Rattle.command_words.specs.declared.disagreement.Disagreement.TheVariants as of_disagreement
use Rattle.command_words.specs.Words.{TwinNames}
use Rattle.link_lanes.specs.Lanes.{Meaning}
use Rattle.event_schedule.specs.Transcripts.{TranscriptView}
use Rattle.command_texts.specs.declared.sharing.Sharing.{Sharing}
use Rattle.command_texts.specs.Runs.{Texts, MakesBy, words_by}

-- the bytes of a plan file, of two readings files, and of a transcript
pub record TwinBytes : Type 0 where
  pub plan : List ℕ
  pub readings : List ℕ
  pub other : List ℕ
  pub transcript : List ℕ

-- what the first three say: a plan file, and two tables of readings
pub record TwinValues : Type 0 where
  pub file : PlanFileView
  pub first : ReadingsView
  pub second : ReadingsView

pub record AreTwinValues (bytes : TwinBytes) (values : TwinValues) : Type 0 where
  pub plan : plan_of bytes.plan ≡ Ok values.file
  pub first : readings_of values.file.plan bytes.readings ≡ Ok values.first
  pub second : readings_of values.file.plan bytes.other ≡ Ok values.second

-- the files have values, and under the stream words of the keys this is what `twin` answers for the two tables and the transcript
abbrev pub Compared : TwinBytes → Result (List MovedRow) TwinError → Type 0
Compared bytes result =
    (values : TwinValues) × AreTwinValues bytes values × TwinEnds (streams values.file.keys) values.first values.second bytes.transcript result

-- ---- refusals

-- the plan file has a value, and the first readings file has this fault
abbrev pub RefusesFirst : TwinBytes → FileFault → Type 0
RefusesFirst bytes fault = (file : PlanFileView) × (plan_of bytes.plan ≡ Ok file) × (readings_of file.plan bytes.readings ≡ Err fault)

-- both have values, and the second readings file has this fault
abbrev pub RefusesSecond : TwinBytes → FileFault → Type 0
RefusesSecond bytes fault =
    (file : PlanFileView) × (first : ReadingsView)
    × (plan_of bytes.plan ≡ Ok file) × (readings_of file.plan bytes.readings ≡ Ok first) × (readings_of file.plan bytes.other ≡ Err fault)

-- what the files say is refused, by its cause; want of memory is free
abbrev pub TwinRefuses : TwinNames → TwinBytes → Outcome → Type 0
TwinRefuses names bytes (BadPlan name fault) = (name.now ≡ names.plan) × (plan_of bytes.plan ≡ Err fault)
TwinRefuses names bytes (BadReadings name fault) =
    ((name.now ≡ names.readings) × RefusesFirst bytes fault) ⊎ ((name.now ≡ names.other) × RefusesSecond bytes fault)
TwinRefuses names bytes (BadText name (of_text.Transcript fault)) = (name.now ≡ names.transcript) × Compared bytes (Err (twin.Transcript fault))
TwinRefuses names bytes (BadText name of_text.OtherPlan) = (name.now ≡ names.transcript) × Compared bytes (Err twin.Head)
TwinRefuses names bytes (BadText name (of_text.OtherLine line expected)) =
    (name.now ≡ names.transcript) × ((found : Line) × Compared bytes (Err (twin.NotThis line expected.line found expected.tick expected.fate)))
TwinRefuses names bytes (Disagree (of_disagreement.Presence group round meter)) = Compared bytes (Err (twin.Differ (Presence group round meter)))
TwinRefuses names bytes (Disagree (of_disagreement.Total group round first second)) = Compared bytes (Err (twin.Differ (Total group round first second)))
TwinRefuses names bytes NoMemory = ⊤
TwinRefuses names bytes _ = ⊥

-- ---- what a run stores

-- whatever files are run, the transcript that is made is the record of the readings under the words that meters share
abbrev pub RunsAreRecorded : Type 0
RunsAreRecorded =
    (sharing : Sharing) (cupboard : List Meaning) (plan_bytes readings_bytes : List ℕ) (texts : Texts) → MakesBy sharing cupboard plan_bytes readings_bytes texts
    → (file : PlanFileView) × (readings : ReadingsView) × (t : TranscriptView)
    × (plan_of plan_bytes ≡ Ok file) × (readings_of file.plan readings_bytes ≡ Ok readings) × IsRecord (words_by sharing file.plan file.keys) readings texts.transcript t
