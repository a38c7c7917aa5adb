-- What the parts of `inspect` come to.
use Rattle.std.proofs.Common.{◌≡◌, ℕ, List, Ok, ◌≢◌, subst, Err, ◌∙◌, sym, ap, inr, Result}
use Rattle.group_plan.specs.Plans.{PlanView}
use Rattle.event_schedule.specs.Transcripts.{TranscriptView}
use Rattle.transcript_text.specs.declared.version.Version.TheVariants.{Two}
use Rattle.transcript_text.specs.Heads.{read_of}
use Rattle.command_words.specs.declared.outcome.Outcome.{Outcome}
use Rattle.command_words.specs.declared.outcome.Outcome.TheVariants.{NoMemory, BadText}
use Rattle.command_words.specs.declared.text_fault.TextFault.TheVariants as of_text
use Rattle.command_words.specs.Words.{InspectNames}
use Rattle.command_texts.specs.Audits.{ReportRefuses, AreAuditTexts}
use Rattle.command_texts.specs.Inspecting.{TextsRefuse, TimesRefuse, JudgeRefuses, InspectBytes, OfPlan, InspectRefuses, IsInspected}
use Rattle.twin_worlds.specs.Twins.{IsTextOf}
use Rattle.twin_worlds.specs.declared.answers.TwinError.{TwinError}
use Rattle.twin_worlds.specs.declared.answers.TwinError.TheVariants as twin
use Rattle.twin_worlds.specs.Ends.{HeadEnds}
use Rattle.event_schedule.specs.Frames.{IsPossible}
use Rattle.totals_report.specs.declared.row.ReportRow.{ReportRow}
use Rattle.audit_check.specs.Audits.{lines_in}
use Rattle.std.specs.Prelude.{IfOk, IfErr}
use Rattle.plan_files.specs.PlanFiles.{public_of}
use Rattle.audit_check.specs.declared.answers.Inspected.{Inspected}
use Rattle.command_texts.specs.InspectParts.{Judged}

-- the report's text is refused, where the transcript's is read
pub report_refuses : (names : InspectNames) (plan : PlanView) (tb rb : List ℕ) (t : TranscriptView) (outcome : Outcome) → read_of Two tb ≡ Ok t → ReportRefuses names.report rb outcome
    → TextsRefuse names plan tb rb outcome
report_refuses names plan tb rb t (BadText name (of_text.Report line)) is refused = (refused.0, (t, is, refused.1))
report_refuses names plan tb rb t NoMemory is refused = tt
report_refuses names plan tb rb t _ is refused = absurd refused

-- the transcript is of another plan, and the report's text is refused or not
pub other_refuses : (names : InspectNames) (rb : List ℕ) (outcome : Outcome) → ReportRefuses names.report rb outcome → (plan : PlanView) (tb : List ℕ) (t : TranscriptView) → IsTextOf t tb → t.plan ≢ plan
    → TextsRefuse names plan tb rb outcome
other_refuses names rb outcome refused plan tb t text other = report_refuses names plan tb rb t outcome text.read refused

-- the text is that of a transcript of another plan
pub head_other : (plan : PlanView) (text : List ℕ) (error : TwinError) → error ≡ twin.Head → HeadEnds plan text (Err error) → (t : TranscriptView) × IsTextOf t text × (t.plan ≢ plan)
head_other plan text error is ends = subst (λ e. HeadEnds plan text (Err e)) is ends

-- the entries are no run, where the lines are possible
pub times_refuse : (transcript : List ℕ) (t : TranscriptView) (rows : List ReportRow) (outcome : Outcome) → IsPossible t.plan.groups (lines_in t) → TimesRefuse transcript t outcome
    → JudgeRefuses transcript t rows outcome
times_refuse transcript t rows (BadText name (of_text.NotInTime line)) possible refused = (refused.0, possible, refused.1)
times_refuse transcript t rows NoMemory possible refused = tt
times_refuse transcript t rows _ possible refused = absurd refused

module _ (names : InspectNames) (bytes : InspectBytes) (plan : PlanView) (t : TranscriptView) (rows : List ReportRow) (plan_is : public_of bytes.public ≡ Ok plan)
    (same : t.plan ≡ plan) (texts : AreAuditTexts bytes.transcript bytes.report t rows) where
  -- of three files that have values, what was judged
  pub judged_in : (result : Result Inspected Outcome) → Judged names.transcript t rows result → IfOk result (λ found. OfPlan bytes (λ t rows. IsInspected t rows found))
  judged_in (Ok found) judged = (t, rows, plan_is ∙ ap Ok (sym same), texts, judged)
  judged_in (Err outcome) judged = tt

  pub refused_in : (result : Result Inspected Outcome) → Judged names.transcript t rows result → IfErr result (InspectRefuses names bytes)
  refused_in (Ok found) judged = tt
  refused_in (Err outcome) judged = inr (inr (t, rows, plan_is ∙ ap Ok (sym same), texts, judged))
