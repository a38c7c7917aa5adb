-- What two tables come to against known meters, for the values of files; and that `twin` is the case of nobody.
use Rattle.std.proofs.Common.{◌≡◌, ℕ, List, inl, inr, Result, Ok, subst, refl, Err, []}
use mathlib.Core.Path.{fun_ext}
use Rattle.ideal_masks.specs.Pools.{pool_of, nobody}
use Rattle.command_words.specs.declared.known.KnownMeter.{KnownMeter}
use Rattle.command_words.specs.Known.{is_known, AreSetsOf}
use Rattle.plan_files.specs.PlanFiles.{PlanFileView}
use Rattle.command_words.specs.declared.outcome.Outcome.{Outcome}
use Rattle.command_words.specs.declared.outcome.Outcome.TheVariants.{NoMemory, BadPlan, BadReadings, BadText}
use Rattle.command_words.specs.declared.outcome.Outcome.TheVariants as outcomes
use Rattle.command_words.specs.declared.text_fault.TextFault.TheVariants as of_text
use Rattle.command_words.specs.declared.disagreement.Disagreement.TheVariants as of_disagreement
use Rattle.command_words.specs.Words.{TwinNames}
use Rattle.command_texts.specs.Twins.{TwinBytes, Compared, TwinRefuses}
use Rattle.command_texts.specs.Pooled.{PooledRefuses, PooledCompared}
use Rattle.command_texts.specs.TwinTexts.{TablesRefused}
use Rattle.command_texts.specs.PooledParts.{IsPlanFor}
use Rattle.group_plan.specs.Tables.{ReadingsView}
use Rattle.plan_files.specs.Readings.{readings_of}
use Rattle.mask_stream.specs.KeyStreams.{streams}
use Rattle.twin_worlds.specs.declared.rows.MovedRow.{MovedRow}
use Rattle.twin_worlds.specs.declared.answers.PoolTwinError.{PoolTwinError}
use Rattle.twin_worlds.specs.Twins.{PooledTwinEnds, Disagree, DisagreeFor, TwinEnds}
use Rattle.event_schedule.specs.Transcripts.{TranscriptView}
use Rattle.ideal_masks.specs.declared.Differ.{Differ}
use Rattle.ideal_masks.specs.declared.Differ.TheVariants as differ
use Rattle.ideal_masks.proofs.PoolLemmas.{nobody-shares}
use Rattle.event_schedule.specs.Tables.{Masks}
use Rattle.twin_worlds.specs.declared.answers.TwinError.{TwinError}
use Rattle.twin_worlds.specs.declared.answers.TwinError.TheVariants as twin
use Rattle.twin_worlds.specs.declared.answers.PoolTwinError.TheVariants as pool_twin
use Rattle.std.proofs.lemmas.Bool.{false≢true}

-- ---- the values of files

-- the pool of the sets is that of the known meters
pool-is : (known : List KnownMeter) (sets : List (List ℕ)) → AreSetsOf known sets → pool_of sets ≡ is_known known
pool-is known sets are = fun_ext (λ g. fun_ext (λ i. are g i))

-- a table is refused, where the plan file is not
pub tables_refused_for : (known : List KnownMeter) (names : TwinNames) (bytes : TwinBytes) (file : PlanFileView) (sets : List (List ℕ)) (outcome : Outcome) → IsPlanFor known bytes file sets
    → TablesRefused names bytes file.plan outcome → PooledRefuses known names bytes outcome
tables_refused_for known names bytes file sets (BadReadings name fault) is (inl (named, bad)) = inl (named, (file, is.plan, is.within, bad))
tables_refused_for known names bytes file sets (BadReadings name fault) is (inr (named, (first, first_is, bad))) = inr (named, (file, first, is.plan, is.within, first_is, bad))
tables_refused_for known names bytes file sets NoMemory is refused = tt
tables_refused_for known names bytes file sets _ is refused = absurd refused

pub pooled_compared : (known : List KnownMeter) (bytes : TwinBytes) (file : PlanFileView) (sets : List (List ℕ)) (first second : ReadingsView) (result : Result (List MovedRow) PoolTwinError)
    → IsPlanFor known bytes file sets → readings_of file.plan bytes.readings ≡ Ok first → readings_of file.plan bytes.other ≡ Ok second
    → PooledTwinEnds (pool_of sets) (streams file.keys) first second bytes.transcript result → PooledCompared known bytes result
pooled_compared known bytes file sets first second result is first_is second_is ends = (
  record { file = file; first = first; second = second },
  record { plan = is.plan; first = first_is; second = second_is },
  is.within,
  subst (λ pool. PooledTwinEnds pool (streams file.keys) first second bytes.transcript result) (pool-is known sets is.sets_are) ends,
)

-- ---- nobody

-- where nobody is in the pool, the tables disagree by the same cause
disagree-nobody : (x y : ReadingsView) (t : TranscriptView) (cause : Differ) → DisagreeFor nobody x y t cause → Disagree x y t cause
disagree-nobody x y t (differ.Presence g r i) is = record { known = is.known; ends = is.ends; no_worlds = tt }
disagree-nobody x y t (differ.Total g r a b) is = record {
  known = is.known;
  ends = (is.ends.0, is.ends.2);
  no_worlds = λ m k same. is.no_worlds m k (nobody-shares m k) same;
}
disagree-nobody x y t differ.Memory is = absurd (is.known refl)

-- each answer is that of `twin`
ends-nobody : (m : Masks) (x y : ReadingsView) (text : List ℕ) (error : TwinError) → PooledTwinEnds nobody m x y text (Err (pool_twin.Other error)) → TwinEnds m x y text (Err error)
ends-nobody m x y text (twin.Transcript refusal) ends = ends
ends-nobody m x y text twin.Head ends = ends
ends-nobody m x y text (twin.NotThis line expected found tick fate) ends = ends
ends-nobody m x y text (twin.Differ cause) (t, is, differ) = (t, is, disagree-nobody x y t cause differ)
ends-nobody m x y text twin.Memory ends = ends

compared-nobody : (bytes : TwinBytes) (error : TwinError) → PooledCompared [] bytes (Err (pool_twin.Other error)) → Compared bytes (Err error)
compared-nobody bytes error (values, are, within, ends) =
    (values, are, ends-nobody (streams values.file.keys) values.first values.second bytes.transcript error ends)

-- and so is each refusal
pub refuses-nobody : (names : TwinNames) (bytes : TwinBytes) (outcome : Outcome) → PooledRefuses [] names bytes outcome → TwinRefuses names bytes outcome
refuses-nobody names bytes (BadPlan name fault) (named, inl bad) = (named, bad)
refuses-nobody names bytes (BadPlan name fault) (named, inr (file, is, outside, fault_is)) = absurd (false≢true (cc outside))
refuses-nobody names bytes (BadReadings name fault) (inl (named, (file, is, within, bad))) = inl (named, (file, is, bad))
refuses-nobody names bytes (BadReadings name fault) (inr (named, (file, first, is, within, first_is, bad))) = inr (named, (file, first, is, first_is, bad))
refuses-nobody names bytes (BadText name (of_text.Transcript fault)) (named, compared) = (named, compared-nobody bytes (twin.Transcript fault) compared)
refuses-nobody names bytes (BadText name of_text.OtherPlan) (named, compared) = (named, compared-nobody bytes twin.Head compared)
refuses-nobody names bytes (BadText name (of_text.OtherLine line expected)) (named, (found, compared)) =
    (named, (found, compared-nobody bytes (twin.NotThis line expected.line found expected.tick expected.fate) compared))
refuses-nobody names bytes (outcomes.Disagree (of_disagreement.Presence group round meter)) compared = compared-nobody bytes (twin.Differ (differ.Presence group round meter)) compared
refuses-nobody names bytes (outcomes.Disagree (of_disagreement.Known group round meter)) (values, are, within, (t, is, apart)) = absurd (false≢true apart.first.known)
refuses-nobody names bytes (outcomes.Disagree (of_disagreement.Total group round first second)) compared = compared-nobody bytes (twin.Differ (differ.Total group round first second)) compared
refuses-nobody names bytes _ ends = ends
