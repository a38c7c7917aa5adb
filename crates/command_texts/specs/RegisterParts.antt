-- What the parts of `registers` answer.
use Rattle.register_words.specs.SideText.{side_text}
use Rattle.transcript_text.specs.Spelling.{transcript_text}
use Rattle.command_texts.specs.declared.registers.RegisterTexts.{RegisterTexts as Kept}
use Rattle.command_texts.specs.RegisterRuns.{RegisterTexts}
use Rattle.std.specs.Prelude.{◌≡◌, List, Ok}
use Rattle.pair_keys.specs.Keys.{Keys}
use Rattle.plan_files.specs.Registers.{RegistersView}
use Rattle.register_words.specs.SideReports.{register_report}
use Rattle.register_words.specs.Sides.{rows_of}
use Rattle.totals_report.specs.declared.row.ReportRow.{ReportRow}
use Rattle.totals_report.specs.Reading.{rows_of_text}
use Rattle.event_schedule.specs.Events.{lines_of}
use Rattle.event_schedule.specs.Transcripts.{TranscriptView}
use Rattle.command_texts.specs.Runs.{Texts}

-- the texts that are kept, those of the transcript and of the side words as their values
abbrev pub register_texts_of : Kept → RegisterTexts
register_texts_of kept =
    record { transcript = transcript_text kept.transcript; words = side_text kept.words; report = kept.report.items; summary = kept.summary.items }

-- to the texts of register 0 come the side words of the registers and the report with a total of each
pub record AreWordsOf (registers : RegistersView) (keys : Keys) (t : TranscriptView) (first : Texts) (kept : Kept) : Type 0 where
  pub transcript : kept.transcript ≡ t
  pub words : kept.words ≡ rows_of registers keys t
  pub report : (rows : List ReportRow) → rows_of_text first.report ≡ Ok rows → kept.report.items ≡ register_report t.plan (lines_of t.entries) kept.words rows
  pub summary : kept.summary.items ≡ first.summary
