-- How `resume` ends.
use Rattle.desk_outside.specs.Desk.{View}
use Rattle.command_files.specs.Calls.{IsRead, Putting, putting, PutsEnd, Unwritable, after_fetches, Unread}
use Rattle.command_words.specs.Words.{ResumeNames}
use Rattle.command_texts.specs.ResumeRuns.{ResumeBytes, ResumeMakes, HasOtherPlan, IsNotThisRun, RefusesCut}
use Rattle.std.specs.Prelude.{ℕ, List, [], ◌∷◌, ◌≡◌, Err, ⊤, ◌⊎◌}
use Rattle.command_texts.specs.Runs.{Texts, IsOnly, RefusesLane, RefusesReadings, HasValues}
use Rattle.link_lanes.specs.Lanes.{Meaning}
use Rattle.command_words.specs.declared.outcome.Outcome.{Outcome}
use Rattle.plan_files.specs.PlanFiles.{plan_of}
use Rattle.command_words.specs.declared.outcome.Outcome.TheVariants.{NoMemory, BadPlan, BadReadings, BadText, BadLane}
use Rattle.command_words.specs.declared.text_fault.TextFault.TheVariants as of_text

-- they were read under these names
pub record AreResumeBytes (names : ResumeNames) (v : View) (bytes : ResumeBytes) : Type 0 where
  pub plan : IsRead (v.held names.plan) bytes.plan
  pub readings : IsRead (v.held names.readings) bytes.readings
  pub cut : IsRead (v.held names.cut) bytes.cut

-- the files that it fetches, in order
abbrev pub resume_fetched : ResumeNames → List (List ℕ)
resume_fetched names = names.plan ∷ names.readings ∷ names.cut ∷ []

-- the names of the files that it puts, in order
abbrev pub resume_named : ResumeNames → List (List ℕ)
resume_named names = names.transcript ∷ names.report ∷ []

-- the files that it puts
abbrev pub resume_put : ResumeNames → Texts → List Putting
resume_put names texts = putting names.transcript texts.transcript ∷ putting names.report texts.report ∷ []

-- a run that begins with the entries of the cut makes these texts, of which report and summary are those of `run`; they are put and said up to this end
abbrev pub ResumePut : List Meaning → ResumeNames → ResumeBytes → View → View → Outcome → Type 0
ResumePut cupboard names bytes v w outcome =
    (texts : Texts) × ResumeMakes cupboard bytes texts × IsOnly cupboard bytes.plan bytes.readings texts × PutsEnd (resume_put names texts) texts.summary v w outcome

-- what the files say is refused, by its cause; want of memory is free
abbrev pub ResumeRefuses : List Meaning → ResumeNames → ResumeBytes → Outcome → Type 0
ResumeRefuses cupboard names bytes (BadPlan name fault) = (name.now ≡ names.plan) × (plan_of bytes.plan ≡ Err fault)
ResumeRefuses cupboard names bytes (BadLane fault) = RefusesLane cupboard bytes.plan fault
ResumeRefuses cupboard names bytes (BadReadings name fault) = (name.now ≡ names.readings) × RefusesReadings cupboard bytes.plan bytes.readings fault
ResumeRefuses cupboard names bytes (BadText name (of_text.Transcript fault)) = (name.now ≡ names.cut) × RefusesCut cupboard bytes fault
ResumeRefuses cupboard names bytes (BadText name of_text.OtherPlan) = (name.now ≡ names.cut) × HasOtherPlan cupboard bytes
ResumeRefuses cupboard names bytes (BadText name (of_text.NotThisRun line)) = (name.now ≡ names.cut) × IsNotThisRun cupboard bytes line
ResumeRefuses cupboard names bytes NoMemory = ⊤
ResumeRefuses cupboard names bytes _ = ⊥

-- the files have values, but one of the names that it puts can't be written
abbrev pub ResumeUnwritable : List Meaning → ResumeNames → ResumeBytes → View → View → Outcome → Type 0
ResumeUnwritable cupboard names bytes v w outcome = HasValues cupboard bytes.plan bytes.readings × Unwritable (resume_named names) v w outcome

-- how it ends: a file is not read, or what they say is refused, or a name can't be written, or the texts are put and said
abbrev pub ResumeCommandEnds : List Meaning → ResumeNames → View → View → Outcome → Type 0
ResumeCommandEnds cupboard names v w outcome =
    Unread (resume_fetched names) v w outcome
    ⊎ ((bytes : ResumeBytes) × AreResumeBytes names v bytes
    × ((ResumeRefuses cupboard names bytes outcome × (w ≡ after_fetches (resume_fetched names) v))
    ⊎ (ResumeUnwritable cupboard names bytes (after_fetches (resume_fetched names) v) w outcome
    ⊎ ResumePut cupboard names bytes (after_fetches (resume_fetched names) v) w outcome)))
