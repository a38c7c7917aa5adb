-- The parts of a comparison on a ring, on the way to what the bytes of its files come to.
use Rattle.std.specs.Prelude.{◌≡◌, ℕ, List, Result}
use Rattle.sparse_masks.specs.declared.RingDiffer.{RingDiffer}
use Rattle.sparse_masks.specs.declared.RingDiffer.TheVariants.{Presence, Component, Memory}
use Rattle.command_words.specs.declared.outcome.Outcome.{Outcome}
use Rattle.command_words.specs.declared.outcome.Outcome.TheVariants.{NoMemory, Disagree}
use Rattle.command_words.specs.declared.disagreement.Disagreement.TheVariants as of_disagreement
use Rattle.group_plan.specs.Tables.{ReadingsView}
use Rattle.plan_files.specs.PlanFiles.{PlanFileView}
use Rattle.twin_worlds.specs.declared.rows.MovedRow.{MovedRow}
use Rattle.command_words.specs.Words.{TwinNames}
use Rattle.command_texts.specs.Twins.{TwinBytes, AreTwinValues}
use Rattle.command_texts.specs.RingTwins.{RingBytesCompared}

-- the outcome of tables that disagree on a ring by this cause
abbrev pub IsDisagreement : RingDiffer → Outcome → Type 0
IsDisagreement (Presence g r i) outcome = outcome ≡ Disagree (of_disagreement.Presence g r i)
IsDisagreement (Component g r i a b) outcome = outcome ≡ Disagree (of_disagreement.Component g r i a b)
IsDisagreement Memory outcome = outcome ≡ NoMemory

-- the comparison of any four files with these values, this text and this name of the transcript
abbrev pub RingTablesCompared : ℕ → (name : List ℕ) → PlanFileView → (first second : ReadingsView) → (text : List ℕ) → Result (List MovedRow) Outcome → Type 0
RingTablesCompared w name file first second text result =
    (names : TwinNames) (bytes : TwinBytes) → names.transcript ≡ name → bytes.transcript ≡ text →
    AreTwinValues bytes (record { file = file; first = first; second = second }) → RingBytesCompared w names bytes result
