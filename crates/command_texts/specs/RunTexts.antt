-- The texts of a finished run.
use Rattle.transcript_text.specs.Spelling.{transcript_text}
use Rattle.command_texts.specs.declared.run.RunTexts.{RunTexts}
use Rattle.command_texts.specs.Runs.{Texts, IsSaidBy}
use Rattle.std.specs.Prelude.{◌≡◌, Ok}
use Rattle.group_book.specs.Books.{BookView, past, shape_of}
use Rattle.transcript_text.specs.declared.version.Version.TheVariants.{Two}
use Rattle.event_schedule.specs.Transcripts.{TranscriptView, IsTranscript}
use Rattle.transcript_text.specs.Heads.{read_of}
use Rattle.totals_report.specs.Books.{row_in, summary_in}
use Rattle.totals_report.specs.Reading.{rows_of_text}
use Rattle.totals_report.specs.Reports.{report_rows, report_text, summary_text}
use Rattle.command_texts.specs.declared.sharing.Sharing.{Sharing}

-- the texts that are kept, that of the transcript as its value
abbrev pub texts_of : RunTexts → Texts
texts_of kept = record { transcript = transcript_text kept.transcript; report = kept.report.items; summary = kept.summary.items }

-- the texts are those of a transcript and of a book's outcomes
pub record AreTextsOf (sharing : Sharing) (book : BookView) (t : TranscriptView) (texts : Texts) : Type 0 where
  pub sound : IsTranscript t
  pub transcript : texts.transcript ≡ transcript_text t
  pub read_back : read_of Two texts.transcript ≡ Ok t
  pub report : texts.report ≡ report_text book.presence.plan (row_in book)
  pub rows_back : rows_of_text texts.report ≡ Ok (report_rows book.presence.plan (row_in book))
  pub summary : IsSaidBy sharing (shape_of book) (past book) (summary_text (summary_in book)) texts.summary
