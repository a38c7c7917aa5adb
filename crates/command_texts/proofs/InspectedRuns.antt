-- What a run stored is a run of its plan, and no inspection finds a fault in it.
use Rattle.std.proofs.Common.{◌≡◌, ◌+◌, List, ◌∷◌, length, map, ap, ◌∙◌, length-append, ◌≤◌, ℕ, arith, false, refl, [], sym, All, drop, subst, inl, inr, is_some, Err}
use Rattle.std.proofs.lemmas.List.{length-map, take-append-drop}
use Rattle.group_plan.specs.declared.Tag.{Tag}
use Rattle.link_lanes.specs.declared.Post.{Post}
use Rattle.event_schedule.specs.declared.Entry.{Entry}
use Rattle.event_schedule.specs.Events.{event_of, lines_of}
use Rattle.run_rows.specs.Ticks.{tags_of, posts_of}
use Rattle.std.specs.Prelude.{cond, Some, None, ◌+◌}
use Rattle.event_schedule.specs.declared.Line.{Line}
use Rattle.event_schedule.specs.declared.Line.TheVariants.{Send as SendLine, Take as TakeLine, Close as CloseLine, End as EndLine}
use Rattle.run_rows.specs.Summary.{is_sending, Summary}
use Rattle.run_course.specs.Beginnings.{is_void_send, IsSomeRun}
use Rattle.std.specs.List.{count_by}
use Rattle.std.proofs.lemmas.List.Sums.{sum_by-cons}
use Rattle.std.proofs.lemmas.List.Elements.{All-nil, All-cons, All-head, All-tail}
use Rattle.link_lanes.specs.Fates.{IsFate}
use Rattle.event_schedule.specs.Transcripts.{IsEntry, TranscriptView}
use Rattle.command_texts.specs.Inspecting.{IsNotInTime, JudgeRefuses, RunsAreInspected}
use Rattle.link_lanes.specs.Lanes.{Meaning}
use Rattle.event_schedule.specs.Transcript.{Contents, contents_of_tables}
use Rattle.run_rows.proofs.SummaryLemmas.{summaries}
use Rattle.command_texts.specs.declared.sharing.Sharing.{Sharing}
use Rattle.command_texts.specs.Runs.{words_by, plan_in, readings_in, shape_in, clock_in, Texts, MakesBy, row_in, transcript_in}
use Rattle.command_texts.proofs.RunLemmas.{can_run}
use Rattle.plan_files.proofs.SpelledPlan.{spelled_public}
use Rattle.totals_report.specs.declared.row.ReportRow.{ReportRow}
use Rattle.totals_report.specs.Reports.{report_rows}
use Rattle.audit_check.specs.declared.answers.AuditError.TheVariants as audit
use Rattle.command_words.specs.declared.outcome.Outcome.{Outcome}
use Rattle.command_words.specs.declared.outcome.Outcome.TheVariants.{NoMemory, BadText, OtherRow}
use Rattle.command_words.specs.declared.text_fault.TextFault.TheVariants as of_text
use Rattle.command_texts.proofs.StoredLemmas.{audited_well}

-- ---- each Send has a frame

posts_more : (e : Entry) (rest : List Entry) → length (posts_of (e ∷ rest)) ≡ length (tags_of (event_of e.line)) + length (posts_of rest)
posts_more e rest =
    let post : Tag → Post = λ tag. record { tick = e.tick; tag = tag; fate = e.fate } in
    length-append (map post (tags_of (event_of e.line))) (posts_of rest) ∙ ap (λ n. n + length (posts_of rest)) (length-map (tags_of (event_of e.line)) post)

one_less : (l : Line) (c p : ℕ) → c ≤ p → cond (is_sending l) 1 0 + c ≤ length (tags_of (event_of l)) + p
one_less (SendLine tag None) c p le = omega (arith, le)
one_less (SendLine tag (Some f)) c p le = omega (arith, le)
one_less (TakeLine tag v) c p le = omega (arith, le)
one_less (CloseLine g r a) c p le = omega (arith, le)
one_less (EndLine g r a) c p le = omega (arith, le)

one_framed : (l : Line) (c p : ℕ) → c ≤ p → cond (is_sending l) 1 0 + c ≡ length (tags_of (event_of l)) + p → (is_void_send l ≡ false) × (c ≡ p)
one_framed (SendLine tag None) c p le same = absurd (omega (arith, le, same))
one_framed (SendLine tag (Some f)) c p le same = (refl, omega (arith, same))
one_framed (TakeLine tag v) c p le same = (refl, omega (arith, same))
one_framed (CloseLine g r a) c p le same = (refl, omega (arith, same))
one_framed (EndLine g r a) c p le same = (refl, omega (arith, same))

count_more : (e : Entry) (rest : List Entry) → count_by is_sending (lines_of (e ∷ rest)) ≡ cond (is_sending e.line) 1 0 + count_by is_sending (lines_of rest)
count_more e rest = sum_by-cons (λ l. cond (is_sending l) 1 0) e.line (lines_of rest)

few_framed : (entries : List Entry) → count_by is_sending (lines_of entries) ≤ length (posts_of entries)
few_framed [] = omega arith
few_framed (e ∷ rest) =
    let here = one_less e.line (count_by is_sending (lines_of rest)) (length (posts_of rest)) (few_framed rest) in
    let count = count_more e rest in
    let posts = posts_more e rest in
    omega (arith, here, count, posts)

-- where as many Sends have a frame as there are posts, each has one
all_framed : (entries : List Entry) → count_by is_sending (lines_of entries) ≡ length (posts_of entries) → All (λ e. is_void_send e.line ≡ false) entries
all_framed [] same = All-nil (λ (e : Entry). is_void_send e.line ≡ false)
all_framed (e ∷ rest) same =
    let here = one_framed e.line (count_by is_sending (lines_of rest)) (length (posts_of rest)) (few_framed rest) (sym (count_more e rest) ∙ same ∙ posts_more e rest) in
    All-cons (λ (x : Entry). is_void_send x.line ≡ false) e rest here.0 (all_framed rest here.1)

all_fates : (entries : List Entry) → All IsEntry entries → All (λ e. IsFate e.fate) entries
all_fates [] are = All-nil (λ (e : Entry). IsFate e.fate)
all_fates (e ∷ rest) are = All-cons (λ (x : Entry). IsFate x.fate) e rest (All-head IsEntry e rest are).fate (all_fates rest (All-tail IsEntry e rest are))

-- ---- a run that is stored

-- a run begins with all of its entries, and is whole
pub no_line_late : (t : TranscriptView) (line : ℕ) → IsSomeRun t.plan t.entries → IsNotInTime t line → ⊥
no_line_late t line run (inl (k, number, first)) = first.here (drop (k + 1) t.entries, subst (IsSomeRun t.plan) (sym (take-append-drop (k + 1) t.entries)) run)
no_line_late t line run (inr (number, goes_on)) = goes_on.unfinished run

is_run : (sharing : Sharing) (cupboard : List Meaning) (p r : List ℕ) (texts : Texts) (made : MakesBy sharing cupboard p r texts) → IsSomeRun (plan_in made.values) made.entries
is_run sharing cupboard p r texts made =
    let plan = plan_in made.values in
    let x = readings_in made.values in
    let words : Contents = contents_of_tables plan.groups x (words_by sharing plan made.values.file.keys) in
    let can = can_run plan made.values.readings.table made.sound.limits made.sound.table in
    let counts = summaries (shape_in made.values) (clock_in made.values) made.values.slots made.entries words can made.run.delays made.run.ticks in
    record {
      present = λ g r i. is_some (x g r i);
      slots = made.values.slots;
      within = can;
      run = made.run.ticks;
      fates = all_fates made.entries made.told.sound.entries;
      posted = all_framed made.entries (ap (count_by is_sending) made.run.lines ∙ ap (λ (s : Summary). s.sends) counts);
    }

pub runs_are_inspected : RunsAreInspected
runs_are_inspected sharing cupboard p r texts made =
    let plan = plan_in made.values in
    let rows : List ReportRow = report_rows plan (row_in made.values made.entries) in
    let run = is_run sharing cupboard p r texts made in
    record {
      file = made.values.file;
      transcript = transcript_in made.values made.entries;
      rows = rows;
      plan = made.of_bytes.plan;
      public = spelled_public plan made.sound.limits;
      read = record {
        sound = made.told.sound;
        transcript_is = made.told.transcript;
        transcript = made.told.read_back;
        report_is = made.told.report;
        report = made.told.rows_back;
      };
      run = run;
      none = λ name outcome refused. nothing name outcome run refused;
    }
  where
    nothing : (name : List ℕ) (outcome : Outcome) → IsSomeRun (plan_in made.values) made.entries
        → JudgeRefuses name (transcript_in made.values made.entries) (report_rows (plan_in made.values) (row_in made.values made.entries)) outcome → outcome ≡ NoMemory
    nothing name NoMemory run refused = refl
    nothing name (BadText named (of_text.Impossible line)) run refused = absurd (audited_well sharing cupboard p r texts made (Err (audit.Line line)) refused.1)
    nothing name (BadText named (of_text.NotInTime line)) run refused = absurd (no_line_late (transcript_in made.values made.entries) line run refused.2)
    nothing name (OtherRow at one other) run refused = absurd (audited_well sharing cupboard p r texts made (Err (audit.Row at one other)) refused.1)
    nothing name _ run refused = absurd refused
