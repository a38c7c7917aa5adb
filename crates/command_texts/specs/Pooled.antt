-- What the bytes of the four files come to against meters that share what they know. With nobody among these it is what they come to for `twin`.
use Rattle.std.specs.Prelude.{◌≡◌, true, List, Result, ◌⊎◌, false, Ok, Err, ⊤}
use Rattle.mask_stream.specs.KeyStreams.{streams}
use Rattle.twin_worlds.specs.declared.rows.MovedRow.{MovedRow}
use Rattle.twin_worlds.specs.declared.answers.PoolTwinError.{PoolTwinError}
use Rattle.twin_worlds.specs.Twins.{PooledTwinEnds}
use Rattle.command_words.specs.declared.known.KnownMeter.{KnownMeter}
use Rattle.command_words.specs.Known.{is_known, are_in_plan}
use Rattle.command_texts.specs.Twins.{TwinBytes, TwinValues, AreTwinValues}
use Rattle.pair_keys.specs.declared.KeyError.TheVariants as key
use Rattle.plan_files.specs.declared.fault.FileFault.{FileFault}
use Rattle.plan_files.specs.declared.fault.FileCause.TheVariants as cause
use Rattle.plan_files.specs.PlanFiles.{PlanFileView, plan_of}
use Rattle.plan_files.specs.Readings.{readings_of}
use Rattle.group_plan.specs.Tables.{ReadingsView}
use Rattle.event_schedule.specs.declared.Line.{Line}
use Rattle.ideal_masks.specs.declared.Differ.TheVariants.{Presence, Total}
use Rattle.twin_worlds.specs.declared.answers.TwinError.TheVariants as twin
use Rattle.twin_worlds.specs.declared.answers.PoolTwinError.TheVariants as pool_twin
use Rattle.command_words.specs.declared.outcome.Outcome.{Outcome}
use Rattle.command_words.specs.declared.outcome.Outcome.TheVariants.{NoMemory, BadPlan, BadReadings, BadText, Disagree}
use Rattle.command_words.specs.declared.text_fault.TextFault.TheVariants as of_text
use Rattle.command_words.specs.declared.disagreement.Disagreement.TheVariants as of_disagreement
use Rattle.command_words.specs.Words.{TwinNames}

-- the files have values, the plan has each known meter, and under the stream words of the keys this is what `pooled_twin` answers for the pool of these
-- meters, the two tables and the transcript
abbrev pub PooledCompared : List KnownMeter → TwinBytes → Result (List MovedRow) PoolTwinError → Type 0
PooledCompared known bytes result =
    (values : TwinValues) × AreTwinValues bytes values × (are_in_plan values.file.plan known ≡ true)
    × PooledTwinEnds (is_known known) (streams values.file.keys) values.first values.second bytes.transcript result

-- ---- refusals

-- the fault of a plan that hasn't each known meter
abbrev pub outside_plan : FileFault
outside_plan = record { row = 0; cause = cause.Key key.Range }

-- the plan file has this fault; or it has a value, but not each known meter
abbrev pub RefusesPlanFor : List KnownMeter → TwinBytes → FileFault → Type 0
RefusesPlanFor known bytes fault =
    (plan_of bytes.plan ≡ Err fault)
    ⊎ ((file : PlanFileView) × (plan_of bytes.plan ≡ Ok file) × (are_in_plan file.plan known ≡ false) × (fault ≡ outside_plan))

-- the plan has each known meter, and the first readings file has this fault
abbrev pub RefusesFirstFor : List KnownMeter → TwinBytes → FileFault → Type 0
RefusesFirstFor known bytes fault =
    (file : PlanFileView) × (plan_of bytes.plan ≡ Ok file) × (are_in_plan file.plan known ≡ true) × (readings_of file.plan bytes.readings ≡ Err fault)

-- the first has a value, too, and the second readings file has this fault
abbrev pub RefusesSecondFor : List KnownMeter → TwinBytes → FileFault → Type 0
RefusesSecondFor known bytes fault =
    (file : PlanFileView) × (first : ReadingsView) × (plan_of bytes.plan ≡ Ok file) × (are_in_plan file.plan known ≡ true)
    × (readings_of file.plan bytes.readings ≡ Ok first) × (readings_of file.plan bytes.other ≡ Err fault)

-- what the files say is refused, by its cause; want of memory is free
abbrev pub PooledRefuses : List KnownMeter → TwinNames → TwinBytes → Outcome → Type 0
PooledRefuses known names bytes (BadPlan name fault) = (name.now ≡ names.plan) × RefusesPlanFor known bytes fault
PooledRefuses known names bytes (BadReadings name fault) =
    ((name.now ≡ names.readings) × RefusesFirstFor known bytes fault) ⊎ ((name.now ≡ names.other) × RefusesSecondFor known bytes fault)
PooledRefuses known names bytes (BadText name (of_text.Transcript fault)) =
    (name.now ≡ names.transcript) × PooledCompared known bytes (Err (pool_twin.Other (twin.Transcript fault)))
PooledRefuses known names bytes (BadText name of_text.OtherPlan) = (name.now ≡ names.transcript) × PooledCompared known bytes (Err (pool_twin.Other twin.Head))
PooledRefuses known names bytes (BadText name (of_text.OtherLine line expected)) =
    (name.now ≡ names.transcript)
    × ((found : Line) × PooledCompared known bytes (Err (pool_twin.Other (twin.NotThis line expected.line found expected.tick expected.fate))))
PooledRefuses known names bytes (Disagree (of_disagreement.Presence group round meter)) =
    PooledCompared known bytes (Err (pool_twin.Other (twin.Differ (Presence group round meter))))
PooledRefuses known names bytes (Disagree (of_disagreement.Known group round meter)) = PooledCompared known bytes (Err (pool_twin.Known group round meter))
PooledRefuses known names bytes (Disagree (of_disagreement.Total group round first second)) =
    PooledCompared known bytes (Err (pool_twin.Other (twin.Differ (Total group round first second))))
PooledRefuses known names bytes NoMemory = ⊤
PooledRefuses known names bytes _ = ⊥

-- the comparison of the bytes under these names
abbrev pub BytesPooled : List KnownMeter → TwinNames → TwinBytes → Result (List MovedRow) Outcome → Type 0
BytesPooled known names bytes (Ok rows) = PooledCompared known bytes (Ok rows)
BytesPooled known names bytes (Err outcome) = PooledRefuses known names bytes outcome
