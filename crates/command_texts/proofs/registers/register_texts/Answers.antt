use Rattle.std.proofs.Common.{◌≡◌, ◌*◌, ◌≤◌, List, length, Ok, sym, subst}
use Rattle.std.proofs.lemmas.Result.{IfOk-weaker}
use Rattle.pair_keys.specs.Keys.{table_of}
use Rattle.totals_report.specs.declared.row.ReportRow.{ReportRow}
use Rattle.totals_report.specs.Reading.{rows_of_text}
use Rattle.event_schedule.specs.Transcripts.{TranscriptView}
use Rattle.command_texts.specs.RegisterParts.{AreWordsOf}
use Rattle.command_texts.specs.RunTexts.{texts_of}
use Rattle.command_texts.proofs.RegisterLemmas.{registers_make, rows_fit}
use Rattle.command_texts.proofs.registers.register_texts.Goals as goal

pub with_words-requires-clause-report : goal.with_words-requires-clause-report
with_words-requires-clause-report g c κs within =
    let told = c.in_ok-first.ensures in
    subst (λ (t : TranscriptView). (rows : List ReportRow) × (rows_of_text c.in_ok-first.first.report.items ≡ Ok rows) × (length rows ≤ length t.plan.groups * t.plan.rounds)) (sym told.transcript)
    (rows_fit _ (table_of c.args.input.file.keys) _ c.in-Ok.finished.book c.in-Ok.finished.transcript (texts_of c.in_ok-first.first) c.in-Ok.ensures.finished told.texts)

pub returns : goal.returns
returns g c cupboard count p r are =
    let told = c.in_ok-first.ensures in
    IfOk-weaker c.with_words.result _ _
    (λ kept words.
    registers_make cupboard count p r _ c.table.result.now c.in-Ok.finished.book c.in-Ok.finished.transcript (texts_of c.in_ok-first.first) kept are c.count-registers.ensures.sound c.table.ensures
    c.in-Ok.ensures.finished told.texts
    (subst (λ (t : TranscriptView). AreWordsOf c.args.input.tables (table_of c.args.input.file.keys) t (texts_of c.in_ok-first.first) kept) told.transcript words))
    c.with_words.ensures
