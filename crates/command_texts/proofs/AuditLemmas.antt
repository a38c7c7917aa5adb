-- What is refused of the texts of an audit.
use Rattle.std.proofs.Common.{◌≡◌, List, ℕ, Ok}
use Rattle.transcript_text.specs.declared.version.Version.TheVariants.{Two}
use Rattle.transcript_text.specs.Heads.{read_of}
use Rattle.event_schedule.specs.Transcripts.{TranscriptView}
use Rattle.command_words.specs.declared.outcome.Outcome.{Outcome}
use Rattle.command_words.specs.declared.outcome.Outcome.TheVariants.{NoMemory, BadText}
use Rattle.command_words.specs.declared.text_fault.TextFault.TheVariants as of_text
use Rattle.command_texts.specs.Audits.{ReportRefuses, AuditRefuses}

-- the report's text is refused, where the transcript's is read
pub report_refused : (transcript report tb rb : List ℕ) (t : TranscriptView) (outcome : Outcome) → read_of Two tb ≡ Ok t → ReportRefuses report rb outcome → AuditRefuses transcript report tb rb outcome
report_refused transcript report tb rb t (BadText name (of_text.Report line)) is refused = (refused.0, (t, is, refused.1))
report_refused transcript report tb rb t NoMemory is refused = tt
report_refused transcript report tb rb t _ is refused = absurd refused
