-- From what the crates below say of a run to what the program says of it.
use Rattle.group_plan.specs.Tables.{reading, ReadingsView, is_present, presence_of, Table, IsReadingTable, PresenceView}
use Rattle.std.proofs.Common.{◌≡◌, ℕ, zero, suc, List, [], ◌∷◌, map, get_or, refl, false, ap, ◌∙◌, Bool, sym, inl, inr, arith, ◌^◌, ◌<◌, true, not, ◌≤◌, ◌+◌, length, Ok, subst, ◌++◌}
use Rattle.std.specs.Prelude.{None, is_some, Option, Some, unwrap_or, if◌then◌else◌, count_by, reverse}
use Rattle.run_rows.specs.Report.{row, row_of, outcome_row, Row, fate_at}
use mathlib.Core.Path.{fun_ext}
use Rattle.event_schedule.specs.Schedule.{Shape, shape_of_presence, Running, EndedThin, Published, Unpublished, survivors, is_ended, is_announced, is_published, is_opened, all_taken, lacking}
use Rattle.event_schedule.specs.Transcript.{shape_of_readings, transcript, contents_of_tables, Contents}
use Rattle.std.proofs.lemmas.Bool.{cases_Bool, false≢true}
use Rattle.group_plan.specs.Plans.{PlanView, is_place, IsWithinLimits, Group}
use Rattle.group_plan.proofs.TableLemmas.{entry_outside}
use Rattle.group_plan.proofs.MeterNumbers.{group-lt, in_place}
use Rattle.run_rows.specs.Ticks.{clock_of, IsRunPlan, Clock, IsTickRun, posts_of}
use Rattle.event_schedule.specs.Tables.{IsBounded, Readings, Masks, IsOfPlan, plain_sum}
use Rattle.event_schedule.specs.declared.Line.{Line}
use Rattle.event_schedule.specs.Events.{event_of, events_of, lines_of}
use Rattle.event_schedule.specs.Frames.{contents_of_lines}
use Rattle.event_schedule.specs.Journal.{past_of}
use Rattle.event_schedule.proofs.ListLemmas.{and_first, flat_map_same}
use Rattle.event_schedule.proofs.JournalLemmas.{total_of_journal}
use Rattle.run_rows.specs.Summary.{Summary, all_rows, summary, summary_of_lines, is_sending, is_taking, summary_of_posts}
use Rattle.event_schedule.specs.declared.Entry.{Entry}
use Rattle.std.specs.List.{range_with_len}
use Rattle.totals_report.specs.Reports.{report_row, group_rows, report_rows, summary_text, report_text}
use Rattle.event_schedule.specs.Transcripts.{TranscriptView, IsTranscript}
use Rattle.transcript_text.specs.declared.version.Version.TheVariants.{Two}
use Rattle.transcript_text.specs.Heads.{read_of}
use Rattle.transcript_text.specs.Spelling.{transcript_text}
use Rattle.transcript_text.proofs.ReadAgain.{read_again}
use Rattle.link_lanes.specs.Lanes.{Slot, Meaning}
use Rattle.run_rows.specs.Posts.{posts_by_lanes}
use Rattle.run_rows.specs.Runs.{IsReported}
use Rattle.run_rows.proofs.RunLemmas.{reported}
use Rattle.run_rows.proofs.PostLemmas.{posts_are}
use Rattle.group_book.specs.Books.{BookView}
use Rattle.tick_run.specs.Finished.{IsFinishedUnder}
use Rattle.plan_files.specs.declared.fault.FileFault.{FileFault}
use Rattle.plan_files.specs.Faults.{unless}
use Rattle.plan_files.specs.Readings.{readings_by, Says, readings_of, rows_fault, reading_of}
use Rattle.plan_files.specs.Rows.{file_rows}
use Rattle.plan_files.specs.PlanFiles.{PlanFileView, plan_of}
use Rattle.command_texts.specs.Runs.{Values, IsIsolatedBy, words_by, IsRunBy, row_in, IsSaidBy, AreSound, Texts, AreTextsBy, AreValues, MakesBy, plan_in, readings_in, shape_in, clock_in, summary_in, least_line, IsOneSummary, IsOnlyBy}
use Rattle.event_schedule.specs.declared.Event.{Event}
use Rattle.command_texts.specs.declared.sharing.Sharing.{Sharing}
use Rattle.command_texts.specs.declared.sharing.Sharing.TheVariants.{WithEach, WithNeighbours}
use Rattle.ideal_masks.proofs.Isolation.{isolated}
use Rattle.command_texts.proofs.RingLemmas.{ring_isolated}
use Rattle.ideal_masks.proofs.FiniteTables.{is_table, keeps_lines}
use Rattle.command_texts.proofs.StreamLemmas.{words_small}
use Rattle.totals_report.specs.declared.row.ReportRow.{ReportRow}
use Rattle.totals_report.specs.Texts.{rows_text}
use Rattle.totals_report.specs.Books.{row_in as book_row, summary_in as book_summary}
use Rattle.command_texts.specs.RunTexts.{AreTextsOf}
use Rattle.link_lanes.specs.Fits.{hung_by}
use Rattle.command_words.specs.declared.outcome.Outcome.{Outcome}
use Rattle.command_words.specs.declared.outcome.Outcome.TheVariants.{NoMemory, BadReadings}
use Rattle.command_texts.specs.Refusals.{FilesRefused, ReadingsRefused}

-- ---- who has a reading

get_or-map : {A B : Type 0} (f : A → B) (xs : List A) (i : ℕ) (d : A) → get_or (map f xs) i (f d) ≡ f (get_or xs i d)
get_or-map f [] i d = refl
get_or-map f (x ∷ xs) zero d = refl
get_or-map f (x ∷ xs) (suc i) d = get_or-map f xs i d

-- a place is present where it has a reading
present-reading : (readings : ReadingsView) (g r i : ℕ) → is_present (presence_of readings).table g r i ≡ is_some (reading readings.table g r i)
present-reading readings g r i =
    let t = readings.table in
    ap (λ rows. get_or (get_or rows r []) i false) (get_or-map (map (map is_some)) t g [])
    ∙ ap (λ row. get_or row i false) (get_or-map (map is_some) (get_or t g []) r [])
    ∙ get_or-map is_some (get_or (get_or t g []) r []) i None

-- the shape by the presence is that by the readings
pub same_shape : (readings : ReadingsView) → shape_of_presence (presence_of readings) ≡ shape_of_readings readings.plan.groups (reading readings.table)
same_shape readings =
    let with : (ℕ → ℕ → ℕ → Bool) → Shape = λ present. record { groups = readings.plan.groups; present = present } in
    ap with (fun_ext (λ g. fun_ext (λ r. fun_ext (λ i. present-reading readings g r i))))

-- a plan within the limits and its readings can run
pub can_run : (plan : PlanView) (t : Table (Option ℕ)) → IsWithinLimits plan → IsReadingTable plan t → IsRunPlan (shape_of_readings plan.groups (reading t)) (clock_of plan)
can_run plan t limits fits = record {
  places = λ g r i here. elim (cases_Bool (is_place plan g r i)) [
    | inl inside ↦
        let both = in_place plan g r i inside in
        (group-lt plan.groups g i both.1, both.0, fits.of_members g r i here)
    | inr outside ↦ absurd (false≢true (sym (ap is_some (entry_outside plan t fits.shape None g r i outside)) ∙ here))
  ];
  first_window = let h = limits.w1_from in omega arith;
  open_window = let h = limits.w2_from in omega arith;
}

-- readings of a plan are within its limits
is_small : (o : Option ℕ) → ((v : ℕ) → o ≡ Some v → v < 2 ^ 40) → unwrap_or o 0 < 2 ^ 40
is_small None small = omega arith
is_small (Some v) small = small v refl

pub bounded : (plan : PlanView) (t : Table (Option ℕ)) → IsWithinLimits plan → IsReadingTable plan t → IsBounded plan.groups (reading t)
bounded plan t limits fits = record {
  meters = limits.meters;
  readings = λ g r i. is_small (reading t g r i) (fits.small g r i);
}

-- ---- outcomes with frame totals are those with plain sums

same_outcome : (ended announced published : Bool) (a lacks : List ℕ) (m n : ℕ) → (published ≡ true → m ≡ n)
    → (if not ended then Running else if not announced then EndedThin else if published then Published a m else Unpublished lacks)
    ≡ (if not ended then Running else if not announced then EndedThin else if published then Published a n else Unpublished lacks)
same_outcome false announced published a lacks m n same = refl
same_outcome true false published a lacks m n same = refl
same_outcome true true true a lacks m n same = ap (Published a) (same refl)
same_outcome true true false a lacks m n same = refl

-- the lines are the transcript of the readings under these masks
pub record IsTold (groups : List Group) (x : Readings) (m : Masks) (ls : List Line) : Type 0 where
  pub of_plan : IsOfPlan groups x
  pub bounded : IsBounded groups x
  pub told : transcript groups x m (map event_of ls) ≡ ls

-- the row of a round by the frame totals of the lines is its row by the plain sums
pub same_row : (groups : List Group) (x : Readings) (m : Masks) (ls : List Line) → IsTold groups x m ls → (g r : ℕ)
    → outcome_row (shape_of_readings groups x) (contents_of_lines ls).total g r (past_of ls) ≡ outcome_row (shape_of_readings groups x) (plain_sum x) g r (past_of ls)
same_row groups x m ls is g r =
    let s = shape_of_readings groups x in
    let p = past_of ls in
    ap (row_of (survivors s g r p))
    (same_outcome (is_ended g r p) (is_announced s g r p) (is_published s g r p) (survivors s g r p) (lacking s g r p) _ _
    (λ published. total_of_journal groups x m ls is.of_plan is.bounded is.told g r (and_first (is_opened s g r p) (is_ended g r p) (and_first _ (all_taken s g r p) published))))

-- so is the summary
pub same_summary : (groups : List Group) (x : Readings) (m : Masks) (ls : List Line) → IsTold groups x m ls → (c : Clock)
    → summary_of_lines (shape_of_readings groups x) c (contents_of_lines ls).total ls ≡ summary_of_lines (shape_of_readings groups x) c (plain_sum x) ls
same_summary groups x m ls is c =
    let s = shape_of_readings groups x in
    let by : (ℕ → ℕ → Row) → Summary = λ row_at. summary s c (all_rows s c row_at) (count_by is_sending ls) (count_by is_taking ls) in
    ap by (fun_ext (λ g. fun_ext (λ r. same_row groups x m ls is g r)))

-- ---- a run of the readings

events-lines : (entries : List Entry) → map event_of (lines_of entries) ≡ events_of entries
events-lines [] = refl
events-lines (e ∷ entries) = ap (λ es. event_of e.line ∷ es) (events-lines entries)

-- ---- the text of a report depends on the rows of the plan's rounds alone

map_same : {X : Type 0} (n a : ℕ) (f h : ℕ → X) → ((i : ℕ) → a ≤ i → i < a + n → f i ≡ h i) → map f (range_with_len a n) ≡ map h (range_with_len a n)
map_same zero a f h same = refl
map_same (suc n) a f h same =
    let here : f a ≡ h a = same a (omega arith) (omega arith) in
    let later : map f (range_with_len (a + 1) n) ≡ map h (range_with_len (a + 1) n) = map_same n (a + 1) f h (λ i from to. same i (omega arith) (omega arith)) in
    ap (λ x. x ∷ map f (range_with_len (a + 1) n)) here ∙ ap (λ xs. h a ∷ xs) later

-- rounds with the same rows make one report
pub same_report : (plan : PlanView) (f h : ℕ → ℕ → Row) → ((g r : ℕ) → g < length plan.groups → r < plan.rounds → f g r ≡ h g r) → report_rows plan f ≡ report_rows plan h
unfolding report_rows
same_report plan f h same =
    flat_map_same (length plan.groups) 0 (group_rows plan f) (group_rows plan h)
    (λ g from to. map_same plan.rounds 0 _ _ (λ r from' to'. ap (report_row plan g r) (same g r (omega arith) (omega arith))))

-- ---- the text of a transcript

-- it is read back
pub text_is_read : (t : TranscriptView) → IsTranscript t → length t.entries < 2 ^ 63 → read_of Two (transcript_text t) ≡ Ok t
text_is_read t is few = read_again Two t (record { transcript = is; head = tt }) (omega (arith, few))

-- ---- a finished run

told : (readings : ReadingsView) (m : Masks) (entries : List Entry) → IsWithinLimits readings.plan → IsReadingTable readings.plan readings.table
    → lines_of entries ≡ transcript readings.plan.groups (reading readings.table) m (events_of entries)
    → IsTold readings.plan.groups (reading readings.table) m (lines_of entries)
told readings m entries limits fits lines = record {
  of_plan = fits.of_members;
  bounded = bounded readings.plan readings.table limits fits;
  told = ap (transcript readings.plan.groups (reading readings.table) m) (events-lines entries) ∙ sym lines;
}

-- the tick run, its posts, its rows and its summary, all by the readings
record IsGood (readings : ReadingsView) (m : Masks) (slots : List Slot) (entries : List Entry) : Type 0 where
  ticks : IsTickRun (shape_of_readings readings.plan.groups (reading readings.table)) (clock_of readings.plan) slots entries
  posts : posts_of entries ≡ posts_by_lanes (shape_of_readings readings.plan.groups (reading readings.table)) (clock_of readings.plan) slots
  reports : IsReported (shape_of_readings readings.plan.groups (reading readings.table)) (clock_of readings.plan) slots (contents_of_tables readings.plan.groups (reading readings.table) m) entries

good : (readings : ReadingsView) (m : Masks) (slots : List Slot) (book : BookView) (t : TranscriptView) → IsFinishedUnder readings m slots book t → IsGood readings m slots t.entries
good readings m slots book t finished =
    let s : Shape = shape_of_readings readings.plan.groups (reading readings.table) in
    let c : Clock = clock_of readings.plan in
    let words : Contents = contents_of_tables readings.plan.groups (reading readings.table) m in
    let runs : IsRunPlan s c = can_run readings.plan readings.table finished.limits finished.table in
    let P : Shape → Type 0 = λ shape. IsTickRun shape c slots t.entries in
    let ticks : IsTickRun s c slots t.entries = subst P (same_shape readings) finished.ticks in
    record {
      ticks = ticks;
      posts = posts_are s c slots t.entries runs finished.delays ticks;
      reports = reported s c slots words t.entries runs (record { run = ticks; delays = finished.delays; lines = finished.lines });
    }

-- ---- from the files to the texts

-- the readings of a file are of the plan that they are read for
plan_of_value : (o : Option FileFault) (says : Says) (plan : PlanView) (rows : List (List (List ℕ))) (readings : ReadingsView) → unless o (readings_by says plan rows) ≡ Ok readings → readings.plan ≡ plan
plan_of_value None says plan rows readings is = let e : readings_by says plan rows ≡ readings = cc in sym (ap (λ r. r.plan) e)
plan_of_value (Some fault) says plan rows readings is = absurd cc

pub plan_of_readings : (plan : PlanView) (bytes : List ℕ) (readings : ReadingsView) → readings_of plan bytes ≡ Ok readings → readings.plan ≡ plan
unfolding readings_of
plan_of_readings plan bytes readings is = plan_of_value (rows_fault reading_of plan 0 (file_rows bytes)) reading_of plan (file_rows bytes) readings is

-- the values with this plan in place of the file's
unfoldable pub with_plan : PlanFileView → List Slot → ReadingsView → PlanView → Values
with_plan file slots readings plan = record { file = record file { plan = plan }; slots = slots; readings = readings }

-- each table is isolated
isolated_by : (sharing : Sharing) (readings : ReadingsView) (file : PlanFileView) (slots : List Slot) (events : List Event) → IsWithinLimits readings.plan → IsReadingTable readings.plan readings.table
    → IsIsolatedBy sharing (with_plan file slots readings readings.plan) events
unfolding with_plan
isolated_by WithEach readings file slots events limits fits = isolated readings.plan readings.table events fits
isolated_by (WithNeighbours w) readings file slots events limits fits =
    ring_isolated w readings.plan readings.table events fits.of_members (λ y fits. bounded readings.plan y limits fits) (bounded readings.plan readings.table limits fits)

-- the run of a finished run
run_of : (sharing : Sharing) (readings : ReadingsView) (file : PlanFileView) (slots : List Slot) (book : BookView) (t : TranscriptView)
    → IsFinishedUnder readings (words_by sharing readings.plan file.keys) slots book t → IsGood readings (words_by sharing readings.plan file.keys) slots t.entries
    → IsRunBy sharing (with_plan file slots readings readings.plan) t.entries
unfolding with_plan
run_of sharing readings file slots book t finished is =
    let m : Masks = words_by sharing readings.plan file.keys in
    let s : Shape = shape_of_readings readings.plan.groups (reading readings.table) in
    let c : Clock = clock_of readings.plan in
    record {
      ticks = is.ticks;
      delays = finished.delays;
      lines = finished.lines;
      words = is_table readings.plan m (words_small sharing readings.plan file.keys);
      finite = finished.lines ∙ sym (keeps_lines readings.plan readings.table m (events_of t.entries) finished.table);
      fates = is.posts;
      rows = λ g r g_in r_in.
          is.reports.rows g r g_in r_in ∙ sym (ap (λ posts. row s c (fate_at posts) (plain_sum (reading readings.table)) g r) is.posts);
      isolated = isolated_by sharing readings file slots (events_of t.entries) finished.limits finished.table;
    }

-- the rows of a book, and its summary
told_rows : PresenceView → List Line → List ReportRow
told_rows p j = report_rows p.plan (λ g r. outcome_row (shape_of_presence p) (contents_of_lines j).total g r (past_of j))

told_summary : PresenceView → List Line → List ℕ
told_summary p j = summary_text (summary_of_lines (shape_of_presence p) (clock_of p.plan) (contents_of_lines j).total j)

report_is : (sharing : Sharing) (readings : ReadingsView) (m : Masks) (file : PlanFileView) (slots : List Slot) (book : BookView) (t : TranscriptView)
    → IsTold readings.plan.groups (reading readings.table) m (lines_of t.entries)
    → IsFinishedUnder readings m slots book t → IsRunBy sharing (with_plan file slots readings readings.plan) t.entries
    → told_rows book.presence book.journal ≡ report_rows readings.plan (row_in (with_plan file slots readings readings.plan) t.entries)
unfolding told_rows with_plan
report_is sharing readings m file slots book t is finished run =
    let x : Readings = reading readings.table in
    let s : Shape = shape_of_readings readings.plan.groups x in
    let ls : List Line = lines_of t.entries in
    let by_shape : Shape → List ReportRow = λ shape. report_rows readings.plan (λ g r. outcome_row shape (contents_of_lines ls).total g r (past_of ls)) in
    ap (λ p. told_rows p book.journal) finished.presence
    ∙ ap (told_rows (presence_of readings)) finished.journal
    ∙ ap by_shape (same_shape readings)
    ∙ same_report readings.plan _ _ (λ g r g_in r_in.
    same_row readings.plan.groups x m ls is g r
    ∙ ap (λ es. outcome_row s (plain_sum x) g r (reverse es)) (events-lines t.entries)
    ∙ run.rows g r g_in r_in)

summary_is : (readings : ReadingsView) (m : Masks) (slots : List Slot) (book : BookView) (t : TranscriptView)
    → IsTold readings.plan.groups (reading readings.table) m (lines_of t.entries)
    → IsFinishedUnder readings m slots book t → IsGood readings m slots t.entries
    → told_summary book.presence book.journal
    ≡ summary_text (summary_of_posts (shape_of_readings readings.plan.groups (reading readings.table)) (clock_of readings.plan) (plain_sum (reading readings.table)) (posts_of t.entries))
unfolding told_summary
summary_is readings m slots book t is finished well =
    let x : Readings = reading readings.table in
    let s : Shape = shape_of_readings readings.plan.groups x in
    let c : Clock = clock_of readings.plan in
    let ls : List Line = lines_of t.entries in
    let by_shape : Shape → List ℕ = λ shape. summary_text (summary_of_lines shape c (contents_of_lines ls).total ls) in
    ap (λ p. told_summary p book.journal) finished.presence
    ∙ ap (told_summary (presence_of readings)) finished.journal
    ∙ ap by_shape (same_shape readings)
    ∙ ap summary_text (same_summary readings.plan.groups x m ls is c
    ∙ well.reports.summary
    ∙ sym (ap (summary_of_posts s c (plain_sum x)) well.posts))

-- what is said of a book is what is said of its entries
said_is : (sharing : Sharing) (s z : Shape) (p q : List Event) (one other text : List ℕ) → s ≡ z → p ≡ q → one ≡ other → IsSaidBy sharing s p one text → IsSaidBy sharing z q other text
said_is sharing s z p q one other text shape past same said =
    subst (λ summary. IsSaidBy sharing z q summary text) same (subst (λ whole. IsSaidBy sharing z whole one text) past (subst (λ shape. IsSaidBy sharing shape p one text) shape said))

-- the texts of a finished run of the values of the files are those that the files make
pub made : (sharing : Sharing) (file : PlanFileView) (slots : List Slot) (readings : ReadingsView) (book : BookView) (t : TranscriptView) (texts : Texts)
    → IsFinishedUnder readings (words_by sharing readings.plan file.keys) slots book t → AreTextsOf sharing book t texts
    → AreSound (with_plan file slots readings readings.plan) × IsRunBy sharing (with_plan file slots readings readings.plan) t.entries × AreTextsBy sharing (with_plan file slots readings readings.plan) t.entries texts
unfolding with_plan told_rows told_summary book_row book_summary
made sharing file slots readings book t texts finished written =
    let m : Masks = words_by sharing readings.plan file.keys in
    let well : IsGood readings m slots t.entries = good readings m slots book t finished in
    let is = told readings m t.entries finished.limits finished.table finished.lines in
    let run = run_of sharing readings file slots book t finished well in
    let with_entries : PlanView → TranscriptView = λ plan. record { plan = plan; entries = t.entries } in (
      record { limits = finished.limits; table = finished.table },
      run,
      record {
        sound = subst (λ plan. IsTranscript (with_entries plan)) finished.plan written.sound;
        transcript = written.transcript ∙ ap (λ plan. transcript_text (with_entries plan)) finished.plan;
        read_back = written.read_back ∙ ap (λ plan. Ok (with_entries plan)) finished.plan;
        report = written.report ∙ ap rows_text (report_is sharing readings m file slots book t is finished run);
        rows_back = written.rows_back ∙ ap Ok (report_is sharing readings m file slots book t is finished run);
        summary = said_is sharing _ _ _ _ _ _ texts.summary (ap shape_of_presence finished.presence ∙ same_shape readings)
            (ap past_of finished.journal ∙ ap reverse (events-lines t.entries)) (summary_is readings m slots book t is finished well) written.summary;
      },
    )

-- the same, of the values of bytes
pub all_told : (sharing : Sharing) (cupboard : List Meaning) (p r : List ℕ) (v : Values) (book : BookView) (t : TranscriptView) (texts : Texts) → AreValues cupboard p r v
    → IsFinishedUnder v.readings (words_by sharing v.readings.plan v.file.keys) v.slots book t → AreTextsOf sharing book t texts
    → AreSound v × IsRunBy sharing v t.entries × AreTextsBy sharing v t.entries texts
unfolding with_plan
all_told sharing cupboard p r v book t texts are finished written =
    let P : PlanView → Type 0 = λ plan. AreSound (with_plan v.file v.slots v.readings plan) × IsRunBy sharing (with_plan v.file v.slots v.readings plan) t.entries × AreTextsBy sharing (with_plan v.file v.slots v.readings plan) t.entries texts in
    subst P (plan_of_readings v.file.plan r v.readings are.readings) (made sharing v.file v.slots v.readings book t texts finished written)

pub makes : (sharing : Sharing) (cupboard : List Meaning) (p r : List ℕ) (v : Values) (book : BookView) (t : TranscriptView) (texts : Texts) → AreValues cupboard p r v
    → IsFinishedUnder v.readings (words_by sharing v.readings.plan v.file.keys) v.slots book t → AreTextsOf sharing book t texts → MakesBy sharing cupboard p r texts
makes sharing cupboard p r v book t texts are finished written =
    let all = all_told sharing cupboard p r v book t texts are finished written in
    record { values = v; entries = t.entries; of_bytes = are; sound = all.0; run = all.1; told = all.2 }

-- ---- refusals

-- the readings file is refused, where the plan file has a value and its lanes hang
pub readings_refuse : (cupboard : List Meaning) (plan readings p r : List ℕ) (file : PlanFileView) (slots : List Slot) (outcome : Outcome) → plan_of p ≡ Ok file → hung_by cupboard file.lanes ≡ Ok slots
    → ReadingsRefused readings file.plan r outcome → FilesRefused cupboard plan readings p r outcome
readings_refuse cupboard plan readings p r file slots (BadReadings name fault) plan_is hang is = (is.0, (file, slots, plan_is, hang, is.1))
readings_refuse cupboard plan readings p r file slots NoMemory plan_is hang is = tt
readings_refuse cupboard plan readings p r file slots _ plan_is hang is = absurd is

-- ---- what the files and the lanes alone decide

pub same_values : (cupboard : List Meaning) (p r : List ℕ) (v w : Values) → AreValues cupboard p r v → AreValues cupboard p r w → v ≡ w
same_values cupboard p r v w first second =
    let file : v.file ≡ w.file = (let one = first.plan in let two = second.plan in cc) in
    let slots : v.slots ≡ w.slots =
    (let one = first.lanes in
    let two : hung_by cupboard v.file.lanes ≡ Ok w.slots = ap (λ f. hung_by cupboard f.lanes) file ∙ second.lanes in
    cc)
    in
    let readings : v.readings ≡ w.readings =
    (let one = first.readings in
    let two : readings_of v.file.plan r ≡ Ok w.readings = ap (λ f. readings_of f.plan r) file ∙ second.readings in
    cc)
    in
    ap (λ f. record { file = f; slots = v.slots; readings = v.readings }) file
    ∙ ap (λ s. record { file = w.file; slots = s; readings = v.readings }) slots
    ∙ ap (λ x. record { file = w.file; slots = w.slots; readings = x }) readings

-- the report and the summary by the posts that the lanes give
report_of : Values → List ℕ
report_of v =
    report_text (plan_in v) (λ g r. row (shape_in v) (clock_in v) (fate_at (posts_by_lanes (shape_in v) (clock_in v) v.slots)) (plain_sum (readings_in v)) g r)

summary_of : Values → List ℕ
summary_of v = summary_text (summary_of_posts (shape_in v) (clock_in v) (plain_sum (readings_in v)) (posts_by_lanes (shape_in v) (clock_in v) v.slots))

report_decided : (sharing : Sharing) (v : Values) (entries : List Entry) (texts : Texts) → IsRunBy sharing v entries → AreTextsBy sharing v entries texts → texts.report ≡ report_of v
unfolding report_of
report_decided sharing v entries texts run told =
    told.report ∙ ap (λ posts. report_text (plan_in v) (λ g r. row (shape_in v) (clock_in v) (fate_at posts) (plain_sum (readings_in v)) g r)) run.fates

summary_decided : (sharing : Sharing) (v : Values) (entries : List Entry) → IsRunBy sharing v entries → summary_in v entries ≡ summary_of v
unfolding summary_of
summary_decided sharing v entries run =
    ap (λ posts. summary_text (summary_of_posts (shape_in v) (clock_in v) (plain_sum (readings_in v)) posts)) run.fates

one_summary : (sharing : Sharing) (s z : Shape) (p q : List Event) (first second one other : List ℕ) → first ≡ second → IsSaidBy sharing s p first one → IsSaidBy sharing z q second other → IsOneSummary sharing one other
one_summary WithEach s z p q first second one other same mine yours = mine ∙ same ∙ sym yours
one_summary (WithNeighbours w) s z p q first second one other same (j, is_j, mine) (k, is_k, yours) = (second, j, k, mine ∙ ap (λ summary. summary ++ least_line j) same, yours)

pub is_only : (sharing : Sharing) (cupboard : List Meaning) (p r : List ℕ) (texts : Texts) → MakesBy sharing cupboard p r texts → IsOnlyBy sharing cupboard p r texts
is_only sharing cupboard p r texts made = record {
  report = λ others theirs.
      report_decided sharing theirs.values theirs.entries others theirs.run theirs.told
      ∙ ap report_of (same_values cupboard p r theirs.values made.values theirs.of_bytes made.of_bytes)
      ∙ sym (report_decided sharing made.values made.entries texts made.run made.told);
  summary = λ others theirs.
      one_summary sharing _ _ _ _ (summary_in theirs.values theirs.entries) (summary_in made.values made.entries) _ _
      (summary_decided sharing theirs.values theirs.entries theirs.run
      ∙ ap summary_of (same_values cupboard p r theirs.values made.values theirs.of_bytes made.of_bytes)
      ∙ sym (summary_decided sharing made.values made.entries made.run))
      theirs.told.summary made.told.summary;
}
