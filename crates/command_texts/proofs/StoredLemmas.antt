-- What a run stored: the audit finds no fault in it, and it is the record of the readings.
use Rattle.std.proofs.Common.{◌≡◌, Result, Ok, ℕ, List, subst, sym, ap, ◌∙◌, ◌≤◌, length, is_some}
use Rattle.link_lanes.specs.Lanes.{Meaning}
use Rattle.audit_check.specs.Statements.{IsHonest, FindsNone}
use Rattle.command_texts.specs.declared.sharing.Sharing.{Sharing}
use Rattle.command_texts.specs.Runs.{words_by, plan_in, readings_in, row_in, transcript_in, Texts, MakesBy, shape_in, clock_in}
use Rattle.command_texts.proofs.RunLemmas.{bounded, plan_of_readings, can_run}
use Rattle.totals_report.specs.Reports.{report_rows}
use Rattle.audit_check.specs.declared.answers.AuditCounts.{AuditCounts}
use Rattle.audit_check.specs.declared.answers.AuditError.{AuditError}
use Rattle.audit_check.specs.Audits.{AuditEnds}
use Rattle.audit_check.proofs.HonestLemmas.{honest_are_accepted}
use Rattle.transcript_text.specs.declared.version.Version.TheVariants.{Two}
use Rattle.transcript_text.specs.Heads.{read_of}
use Rattle.totals_report.specs.declared.row.ReportRow.{ReportRow}
use Rattle.totals_report.specs.Reading.{rows_of_text}
use Rattle.command_texts.specs.Audits.{Audited, RunsAreConfirmed, RunsAreShort}
use Rattle.event_schedule.specs.Transcript.{transcript, Contents, contents_of_tables}
use Rattle.event_schedule.specs.Events.{events_of}
use Rattle.command_texts.specs.Twins.{RunsAreRecorded}
use Rattle.totals_report.proofs.ReportLaws.{report_back}
use Rattle.run_rows.specs.Runs.{IsRun}
use Rattle.audit_check.proofs.RunLengths.{transcripts_short, reports_short}
use Rattle.command_words.specs.Limits.{most_bytes}

same_ok : {A E : Type 0} (r : Result A E) (a b : A) → r ≡ Ok a → r ≡ Ok b → a ≡ b
same_ok r a b first second = cc

-- a run is honest
honest : (sharing : Sharing) (cupboard : List Meaning) (p r : List ℕ) (texts : Texts) (made : MakesBy sharing cupboard p r texts)
    → IsHonest (transcript_in made.values made.entries) (readings_in made.values) (words_by sharing (plan_in made.values) made.values.file.keys) (row_in made.values made.entries)
honest sharing cupboard p r texts made = record {
  is_one = made.told.sound;
  explain = record {
    of_plan = made.sound.table.of_members;
    small = (bounded (plan_in made.values) made.values.readings.table made.sound.limits made.sound.table).readings;
    lines = made.run.lines;
  };
  rows = made.run.rows;
}

-- so an audit finds no fault in it
pub audited_well : (sharing : Sharing) (cupboard : List Meaning) (p r : List ℕ) (texts : Texts) (made : MakesBy sharing cupboard p r texts) (result : Result AuditCounts AuditError)
    → AuditEnds (transcript_in made.values made.entries) (report_rows (plan_in made.values) (row_in made.values made.entries)) result → FindsNone result
audited_well sharing cupboard p r texts made result ends =
    honest_are_accepted (transcript_in made.values made.entries) (readings_in made.values) (words_by sharing (plan_in made.values) made.values.file.keys) (row_in made.values made.entries) result
    (honest sharing cupboard p r texts made) ends

-- nor in its texts
no_fault : (sharing : Sharing) (cupboard : List Meaning) (p r : List ℕ) (texts : Texts) (made : MakesBy sharing cupboard p r texts) (result : Result AuditCounts AuditError)
    → Audited texts.transcript texts.report result → FindsNone result
no_fault sharing cupboard p r texts made result (t, rows, read, ends) =
    let mine : List ReportRow = report_rows (plan_in made.values) (row_in made.values made.entries) in
    let same_t : t ≡ transcript_in made.values made.entries = same_ok (read_of Two texts.transcript) t (transcript_in made.values made.entries) read.transcript made.told.read_back in
    let same_rows : rows ≡ mine = same_ok (rows_of_text texts.report) rows mine read.report made.told.rows_back in
    let by_t : AuditEnds (transcript_in made.values made.entries) rows result = subst (λ t. AuditEnds t rows result) same_t ends in
    let by_rows : AuditEnds (transcript_in made.values made.entries) mine result = subst (λ rows. AuditEnds (transcript_in made.values made.entries) rows result) same_rows by_t in
    audited_well sharing cupboard p r texts made result by_rows

pub runs_are_confirmed : RunsAreConfirmed
runs_are_confirmed sharing cupboard p r texts made = record {
  transcript = transcript_in made.values made.entries;
  rows = report_rows (plan_in made.values) (row_in made.values made.entries);
  read = record {
    sound = made.told.sound;
    transcript_is = made.told.transcript;
    transcript = made.told.read_back;
    report_is = made.told.report;
    report = made.told.rows_back;
  };
  none = no_fault sharing cupboard p r texts made;
}

-- the transcript of a run is the record of its readings
pub runs_are_recorded : RunsAreRecorded
runs_are_recorded sharing cupboard p r texts made =
    let plan : made.values.readings.plan ≡ plan_in made.values =
    plan_of_readings (plan_in made.values) r made.values.readings made.of_bytes.readings
    in (
      made.values.file,
      made.values.readings,
      transcript_in made.values made.entries,
      made.of_bytes.plan,
      made.of_bytes.readings,
      record {
        text_of = record { sound = made.told.sound; text_is = made.told.transcript; read = made.told.read_back };
        plan_is = sym plan;
        lines_are = made.run.lines
            ∙ ap (λ plan. transcript plan.groups (readings_in made.values) (words_by sharing (plan_in made.values) made.values.file.keys) (events_of made.entries)) (sym plan);
      },
    )

-- the texts of a run are short
pub runs_are_short : RunsAreShort
runs_are_short sharing cupboard p r texts made =
    let plan = plan_in made.values in
    let x = readings_in made.values in
    let words : Contents = contents_of_tables plan.groups x (words_by sharing (plan_in made.values) made.values.file.keys) in
    let run : IsRun (shape_in made.values) (clock_in made.values) made.values.slots words made.entries = record {
      run = made.run.ticks;
      delays = made.run.delays;
      lines = made.run.lines;
    } in
    let can = can_run plan made.values.readings.table made.sound.limits made.sound.table in (
      subst (λ text. length text ≤ most_bytes) (sym made.told.transcript)
          (transcripts_short (transcript_in made.values made.entries) (λ g r i. is_some (x g r i)) made.values.slots words made.told.sound can run),
      subst (λ text. length text ≤ most_bytes) (sym made.told.report)
          (reports_short plan (row_in made.values made.entries) made.sound.limits (report_back texts.report (report_rows plan (row_in made.values made.entries)) made.told.rows_back).1),
    )
