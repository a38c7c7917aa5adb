-- From what the crates below say of a run of several registers to what the program says of it.
use Rattle.std.proofs.Common.{◌-◌, ◌≡◌, ◌∙◌, ℕ, ◌+◌, ◌*◌, List, [], ◌∷◌, length, sum_by, ap, arith, ◌≤◌, sym, subst, Ok, true, reverse, Bool, false, not, if◌then◌else◌, refl, ◌&&◌, zero, suc, map, Option, Some, None, All, Err}
use Rattle.std.proofs.lemmas.List.Sums.{sum_by-cons}
use Rattle.std.specs.List.{range_with_len, filter}
use Rattle.std.proofs.lemmas.List.Concat.{length-flat_map}
use Rattle.std.proofs.lemmas.List.FromFn.{length-map-range_with_len, length-range_with_len}
use mathlib.Core.Path.{fun_ext}
use Rattle.group_plan.specs.Plans.{PlanView, size, members}
use Rattle.run_rows.specs.Report.{Row, TotalRow, row_of, outcome_row}
use Rattle.totals_report.specs.Reports.{group_rows, report_row, report_rows}
use Rattle.group_plan.specs.Tables.{PresenceView, ReadingsView, reading}
use Rattle.group_book.specs.Books.{BookView}
use Rattle.link_lanes.specs.Lanes.{Slot, Meaning}
use Rattle.tick_run.specs.Finished.{IsFinished}
use Rattle.pair_keys.specs.Keys.{Keys}
use Rattle.totals_report.specs.Books.{row_in as book_row}
use Rattle.totals_report.specs.declared.row.ReportRow.{ReportRow}
use Rattle.totals_report.specs.Reading.{rows_of_text}
use Rattle.event_schedule.specs.Transcripts.{TranscriptView}
use Rattle.command_texts.specs.RunTexts.{AreTextsOf}
use Rattle.command_texts.specs.declared.sharing.Sharing.TheVariants.{WithEach}
use Rattle.command_texts.specs.Runs.{Texts, IsRunOf, AreSound, readings_in, shape_in, AreTexts, row_in}
use Rattle.mask_stream.specs.KeyStreams.{streams}
use Rattle.plan_files.specs.Registers.{table, AreRegisters, RegistersView, RegistersEnd, tables_of}
use Rattle.register_words.specs.Statements.{first_lines}
use Rattle.event_schedule.specs.declared.Entry.{Entry}
use Rattle.event_schedule.specs.Events.{events_of, lines_of}
use Rattle.event_schedule.specs.Transcript.{transcript, shape_of_readings}
use Rattle.command_texts.specs.RegisterRuns.{RegisterValues, first_values, IsWorld, HasPlainSums, HasRowTotals, side_rows_in, AreRegisterValues, RegistersMake}
use Rattle.register_words.specs.Sides.{side_rows, and_rows, side_frame, side_row, rows_of}
use Rattle.register_words.specs.Words.{register_streams}
use Rattle.register_words.specs.Worlds.{row_words, sent_words}
use Rattle.register_words.proofs.WorldLemmas.{side_words_are_world, each_isolated}
use Rattle.transcript_text.specs.EntryLines.{entry_line}
use Rattle.register_words.specs.SideReports.{side_total, words_in, register_report}
use Rattle.register_words.proofs.TotalLemmas.{side_totals_are_plain}
use Rattle.event_schedule.specs.Schedule.{is_opened, survivors, EndedThin, Published, Running, Unpublished, Shape, all_taken, is_announced, is_ended, is_published, lacking, is_reading_taken}
use Rattle.event_schedule.specs.Tables.{Readings, plain_sum}
use Rattle.transcript_text.specs.Spelling.{transcript_text}
use Rattle.event_schedule.specs.declared.Event.{Event}
use Rattle.event_schedule.proofs.ListLemmas.{and_first}
use Rattle.missing_round.specs.Sets.{is_member, less}
use Rattle.missing_round.proofs.SetLemmas.{is_member-filter, same_filter}
use Rattle.meter_frames.specs.declared.Frame.{Frame}
use Rattle.event_schedule.specs.declared.Line.{Line}
use Rattle.std.proofs.lemmas.List.Elements.{All-cons, All-nil}
use Rattle.chacha_lanes.proofs.BlockLemmas.{map_range}
use Rattle.ideal_masks.specs.Isolation.{Isolated}
use Rattle.plan_files.specs.PlanFiles.{PlanFileView, plan_of}
use Rattle.register_words.specs.SideText.{side_text}
use Rattle.command_texts.specs.declared.registers.RegisterTexts.{RegisterTexts as Kept}
use Rattle.command_texts.specs.RegisterParts.{AreWordsOf, register_texts_of}
use Rattle.command_texts.proofs.RunLemmas.{made, with_plan}
use Rattle.link_lanes.specs.Fits.{hung_by}
use Rattle.plan_files.specs.declared.fault.FileFault.{FileFault}
use Rattle.plan_files.specs.declared.fault.FileCause.TheVariants as cause
use Rattle.command_texts.specs.Refusals.{RefusesTables}

-- ---- how many rows a report has

same_sum : (k : ℕ) (xs : List ℕ) → sum_by (λ (_ : ℕ). k) xs ≡ length xs * k
same_sum k [] = omega arith
same_sum k (x ∷ xs) = sum_by-cons (λ (_ : ℕ). k) x xs ∙ (ap (λ z. k + z) (same_sum k xs) ∙ omega arith)

pub rows_long : (plan : PlanView) (row_at : ℕ → ℕ → Row) → length (report_rows plan row_at) ≡ length plan.groups * plan.rounds
unfolding report_rows
rows_long plan row_at =
    length-flat_map (group_rows plan row_at) (range_with_len 0 (length plan.groups))
    ∙ ap (λ h. sum_by h (range_with_len 0 (length plan.groups))) (fun_ext (λ g. length-map-range_with_len (λ r. report_row plan g r (row_at g r)) 0 plan.rounds))
    ∙ same_sum plan.rounds (range_with_len 0 (length plan.groups)) ∙ ap (λ n. n * plan.rounds) (length-range_with_len 0 (length plan.groups))

-- the rows of a finished run's report, of which there is one for each group and round
pub rows_fit : (readings : ReadingsView) (keys : Keys) (slots : List Slot) (book : BookView) (t : TranscriptView) (first : Texts) → IsFinished readings keys slots book t → AreTextsOf WithEach book t first
    → (rows : List ReportRow) × (rows_of_text first.report ≡ Ok rows) × (length rows ≤ length t.plan.groups * t.plan.rounds)
rows_fit readings keys slots book t first finished written =
    let plan : t.plan ≡ book.presence.plan = finished.plan ∙ sym (ap (λ (p : PresenceView). p.plan) finished.presence) in
    let rows = report_rows book.presence.plan (book_row book) in
    let long : length rows ≡ length book.presence.plan.groups * book.presence.plan.rounds = rows_long book.presence.plan (book_row book) in
    (rows, written.rows_back, subst (λ (p : PlanView). length rows ≤ length p.groups * p.rounds) (sym plan) (omega (arith, long)))

-- ---- the words and the totals

-- the lines of the run are the transcript of register 0
lines_are : (v : RegisterValues) (entries : List Entry) → v.registers.plan ≡ v.file.plan → IsRunOf (first_values v) entries → lines_of entries ≡ first_lines v.registers v.file.keys (events_of entries)
lines_are v entries same run = run.lines ∙ ap (λ (plan : PlanView). transcript plan.groups (reading (table v.registers 0)) (streams v.file.keys) (events_of entries)) (sym same)

is_world : (v : RegisterValues) (entries : List Entry) → v.registers.plan ≡ v.file.plan → AreRegisters v.registers → IsRunOf (first_values v) entries → IsWorld v entries
is_world v entries same are run k some few =
    ap (λ ls. row_words k (side_rows v.registers v.file.keys (entry_line v.file.plan 0) ls)) (lines_are v entries same run)
    ∙ side_words_are_world v.registers v.file.keys (events_of entries) (entry_line v.file.plan 0) k are some few
    ∙ ap (λ (plan : PlanView). sent_words (transcript plan.groups (reading (table v.registers k)) (register_streams k v.file.keys) (events_of entries))) same

has_plain_sums : (v : RegisterValues) (entries : List Entry) → v.registers.plan ≡ v.file.plan → AreRegisters v.registers → AreSound (first_values v) → IsRunOf (first_values v) entries → HasPlainSums v entries
has_plain_sums v entries same are sound run k g r some few =
    let x : Readings = reading (table v.registers 0) in
    let whole = reverse (events_of entries) in
    let n = entry_line v.file.plan 0 in
    let limits : (h : ℕ) → size v.registers.plan.groups h ≤ 256 = subst (λ (plan : PlanView). (h : ℕ) → size plan.groups h ≤ 256) (sym same) sound.limits.meters in
    subst (λ (plan : PlanView). is_opened (shape_of_readings plan.groups x) g r whole ≡ true
    → side_total (lines_of entries) (side_rows v.registers v.file.keys n (lines_of entries)) g r (survivors (shape_of_readings plan.groups x) g r whole) (k - 1)
    ≡ plain_sum (reading (table v.registers k)) g r (survivors (shape_of_readings plan.groups x) g r whole)) same
    (λ opened.
    ap (λ ls. side_total ls (side_rows v.registers v.file.keys n ls) g r (survivors (shape_of_readings v.registers.plan.groups x) g r whole) (k - 1)) (lines_are v entries same run)
    ∙ side_totals_are_plain v.registers v.file.keys (events_of entries) n k g r are limits some few opened)

-- ---- rows with a total

-- a row with a total is that of a published round, with its survivors
published_row : (ended announced published : Bool) (a lacks survivors : List ℕ) (m total : ℕ)
    → row_of a (if not ended then Running else if not announced then EndedThin else if published then Published a m else Unpublished lacks) ≡ TotalRow survivors total
    → (published ≡ true) × (a ≡ survivors)
published_row false announced published a lacks survivors m total e = absurd (let h = e in cc)
published_row true false published a lacks survivors m total e = absurd (let h = e in cc)
published_row true true true a lacks survivors m total e = (refl, (let h = e in cc))
published_row true true false a lacks survivors m total e = absurd (let h = e in cc)

opened_row : (s : Shape) (sum : ℕ → ℕ → List ℕ → ℕ) (g r : ℕ) (past : List Event) (a : List ℕ) (total : ℕ) → outcome_row s sum g r past ≡ TotalRow a total
    → (is_opened s g r past ≡ true) × (survivors s g r past ≡ a)
opened_row s sum g r past a total e =
    let p = published_row (is_ended g r past) (is_announced s g r past) (is_published s g r past) (survivors s g r past) (lacking s g r past) a (sum g r (survivors s g r past)) total e in
    (and_first (is_opened s g r past) (is_ended g r past) (and_first _ (all_taken s g r past) p.0), p.1)

-- the members that are not missing are those that survived
not_missing : (q : ℕ → Bool) (ms : List ℕ) → less ms (less ms (filter q ms)) ≡ filter q ms
not_missing q ms = same_filter (λ j. not (is_member j (less ms (filter q ms)))) q ms (λ j inside. here j inside)
  where
    twice : (b : Bool) → not (not b) ≡ b
    twice true = refl
    twice false = refl

    here : (j : ℕ) → is_member j ms ≡ true → not (is_member j (less ms (filter q ms))) ≡ q j
    here j inside =
        ap not (is_member-filter (λ k. not (is_member k (filter q ms))) j ms ∙ ap (λ b. b && not (is_member j (filter q ms))) inside ∙ ap not (is_member-filter q j ms ∙ ap (λ b. b && q j) inside))
        ∙ twice (q j)

shifted : (f : ℕ → ℕ) (a n : ℕ) → map f (range_with_len (a + 1) n) ≡ map (λ k. f (k + 1)) (range_with_len a n)
shifted f a zero = refl
shifted f a (suc n) = ap (λ l. f (a + 1) ∷ l) (shifted f (a + 1) n)

-- rows have one word for each further register, or there is no row
words_few : (registers : RegistersView) (keys : Keys) (n : ℕ) (ls : List Line) → words_in (side_rows registers keys n ls) ≤ length registers.tables - 1
unfolding side_rows
words_few registers keys n [] = omega arith
words_few registers keys n (l ∷ ls) = by (side_frame l) (words_few registers keys (n + 1) ls)
  where
    by : (f : Option Frame) → words_in (side_rows registers keys (n + 1) ls) ≤ length registers.tables - 1
        → words_in (and_rows registers keys n f (side_rows registers keys (n + 1) ls)) ≤ length registers.tables - 1
    by None rest = rest
    by (Some f) rest = omega arith

all_words : (registers : RegistersView) (keys : Keys) (n : ℕ) (ls : List Line) → All (λ row. row.count ≡ length registers.tables - 1) (side_rows registers keys n ls)
unfolding side_rows
all_words registers keys n [] = All-nil _
all_words registers keys n (l ∷ ls) = by (side_frame l) (all_words registers keys (n + 1) ls)
  where
    by : (f : Option Frame) → All (λ row. row.count ≡ length registers.tables - 1) (side_rows registers keys (n + 1) ls)
        → All (λ row. row.count ≡ length registers.tables - 1) (and_rows registers keys n f (side_rows registers keys (n + 1) ls))
    by None rest = rest
    by (Some f) rest =
        All-cons (λ row. row.count ≡ length registers.tables - 1) (side_row registers keys n f) (side_rows registers keys (n + 1) ls) refl rest

has_row_totals : (v : RegisterValues) (entries : List Entry) → IsRunOf (first_values v) entries → HasPlainSums v entries → HasRowTotals v entries
has_row_totals v entries run sums g r a total g_in r_in is =
    let groups = v.file.plan.groups in
    let s = shape_in (first_values v) in
    let past = reverse (events_of entries) in
    let rows = side_rows_in v entries in
    let row = opened_row s (plain_sum (readings_in (first_values v))) g r past a total (run.rows g r g_in r_in ∙ is) in
    let again : less (members groups g r) (less (members groups g r) a) ≡ a =
    subst (λ (l : List ℕ). less (members groups g r) (less (members groups g r) l) ≡ l) row.1 (not_missing (λ i. is_reading_taken s g r i past) (members groups g r)) in
    ap (λ (l : List ℕ). map (side_total (lines_of entries) rows g r l) (range_with_len 0 (words_in rows))) again
    ∙ map_range (side_total (lines_of entries) rows g r a) (λ k. plain_sum (reading (table v.registers (k + 1))) g r a) 0 (words_in rows)
    (λ k low high.
    let few = words_few v.registers v.file.keys (entry_line v.file.plan 0) (lines_of entries) in
    let one : k + 1 - 1 ≡ k = omega arith in
    subst (λ (j : ℕ). side_total (lines_of entries) rows g r a j ≡ plain_sum (reading (table v.registers (k + 1))) g r a) one
    (subst (λ (l : List ℕ). side_total (lines_of entries) rows g r l (k + 1 - 1) ≡ plain_sum (reading (table v.registers (k + 1))) g r l) row.1
    (sums (k + 1) g r (omega arith) (omega (arith, high, few)) row.0)))
    ∙ sym (shifted (λ k. plain_sum (reading (table v.registers k)) g r a) 0 (words_in rows))

-- ---- the texts

with_entries : PlanView → List Entry → TranscriptView
with_entries plan entries = record { plan = plan; entries = entries }

pub registers_make : (cupboard : List Meaning) (count : ℕ) (p r : List ℕ) (v : RegisterValues) (readings : ReadingsView) (book : BookView) (t : TranscriptView) (first : Texts) (kept : Kept)
    → AreRegisterValues cupboard count p r v → AreRegisters v.registers → readings ≡ record { plan = v.registers.plan; table = table v.registers 0 }
    → IsFinished readings v.file.keys v.slots book t → AreTextsOf WithEach book t first → AreWordsOf v.registers v.file.keys t first kept
    → RegistersMake cupboard count p r (register_texts_of kept)
unfolding with_plan with_entries
registers_make cupboard count p r v readings book t first kept values_are are readings_are finished written words =
    let file : PlanFileView = v.file in
    let registers : RegistersView = v.registers in
    let same : registers.plan ≡ file.plan = values_are.same_plan in
    let x : ReadingsView = record { plan = registers.plan; table = table registers 0 } in
    let P : PlanView → Type 0 = λ plan. AreSound (with_plan file v.slots x plan) × IsRunOf (with_plan file v.slots x plan) t.entries × AreTexts (with_plan file v.slots x plan) t.entries first in
    let here : IsFinished x file.keys v.slots book t = subst (λ (x : ReadingsView). IsFinished x file.keys v.slots book t) readings_are finished in
    let both : P file.plan = subst P same (made WithEach file v.slots x book t first here written) in
    let plan_here : t.plan ≡ file.plan = here.plan ∙ same in
    let whole : t ≡ with_entries file.plan t.entries = ap (λ (plan : PlanView). with_entries plan t.entries) plan_here in
    let rows_here : kept.words ≡ side_rows_in v t.entries = words.words ∙ ap (rows_of registers file.keys) whole in
    record {
      values = v;
      entries = t.entries;
      of_bytes = values_are;
      registers = are;
      sound = both.0;
      run = both.1;
      told = record {
        first = first;
        told = both.2;
        transcript = ap transcript_text words.transcript ∙ ap transcript_text whole ∙ sym both.2.transcript;
        summary = words.summary;
        words = ap side_text rows_here;
        report = words.report (report_rows file.plan (row_in (first_values v) t.entries)) both.2.rows_back
            ∙ ap (λ (plan : PlanView). register_report plan (lines_of t.entries) kept.words (report_rows file.plan (row_in (first_values v) t.entries))) plan_here
            ∙ ap (λ rows. register_report file.plan (lines_of t.entries) rows (report_rows file.plan (row_in (first_values v) t.entries))) rows_here;
        world = is_world v t.entries same are both.1;
        counts = all_words registers file.keys (entry_line file.plan 0) (lines_of t.entries);
        sums = has_plain_sums v t.entries same are both.0 both.1;
        totals = has_row_totals v t.entries both.1 (has_plain_sums v t.entries same are both.0 both.1);
      };
      isolated = λ k few. subst (λ (plan : PlanView). Isolated plan (table registers k) (events_of t.entries)) same (each_isolated registers (events_of t.entries) are k few);
    }

-- ---- refusals

-- the readings file is refused, where the plan file has a value and its lanes hang
pub tables_refused : (cupboard : List Meaning) (count : ℕ) (p r : List ℕ) (file : PlanFileView) (slots : List Slot) (fault : FileFault) → plan_of p ≡ Ok file → hung_by cupboard file.lanes ≡ Ok slots
    → tables_of file.plan count r ≡ Err fault → RefusesTables cupboard count p r fault
tables_refused cupboard count p r file slots fault plan_is hang wrong = (file, slots, plan_is, hang, wrong)
