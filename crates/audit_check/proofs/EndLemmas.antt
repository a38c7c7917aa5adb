-- How the parts of an audit end, put together.
use Rattle.std.proofs.Common.{◌≡◌, ℕ, zero, suc, ◌+◌, ◌*◌, ◌^◌, ◌<◌, ◌≤◌, List, [], ◌∷◌, ◌++◌, length, take, reverse, get_or, refl, sym, ap, ◌∙◌, subst, arith, length-append, append-nil}
use Rattle.std.specs.Prelude.{Some, None, Result, Ok, Err}
use Rattle.std.specs.List.{flat_map, range_with_len}
use mathlib.Core.Path.{fun_ext}
use Rattle.std.proofs.lemmas.Bool.{false≢true}
use Rattle.std.proofs.lemmas.Nat.{mul-le}
use Rattle.std.proofs.lemmas.List.{length-map}
use Rattle.std.proofs.lemmas.List.FromFn.{length-map-range_with_len, length-range_with_len}
use Rattle.group_plan.specs.Plans.{Group, PlanView, IsWithinLimits}
use Rattle.group_plan.specs.Tables.{PresenceView}
use Rattle.event_schedule.specs.declared.Entry.{Entry}
use Rattle.event_schedule.specs.declared.Line.{Line}
use Rattle.event_schedule.specs.Events.{once, lines_of}
use Rattle.event_schedule.specs.Transcript.{lines_after}
use Rattle.event_schedule.specs.Frames.{shape_of_lines, contents_of_lines, IsPossible}
use Rattle.event_schedule.specs.Journal.{past_of}
use Rattle.event_schedule.specs.Transcripts.{TranscriptView, IsTranscript}
use Rattle.group_book.specs.Books.{BookView, past}
use Rattle.run_rows.specs.Report.{Row, outcome_row}
use Rattle.totals_report.specs.declared.row.ReportRow.{ReportRow}
use Rattle.totals_report.specs.Books.{row_in}
use Rattle.totals_report.specs.Reports.{group_rows, report_row, report_rows}
use Rattle.audit_check.specs.declared.answers.AuditCounts.{AuditCounts}
use Rattle.audit_check.specs.declared.answers.AuditError.{AuditError}
use Rattle.audit_check.specs.declared.answers.AuditError.TheVariants as audit
use Rattle.audit_check.specs.Audits.{lines_in, rows_by_frames, IsFirstImpossible, DifferFirst, AuditEnds}
use Rattle.audit_check.specs.Ends.{Holds, LinesEnd, IsReplayed, RowsEnd}
use Rattle.audit_check.specs.Steps.{MayFollow}
use Rattle.audit_check.specs.Following.{IsReplay}
use Rattle.audit_check.proofs.HonestLemmas.{events_lines, explained_possible, possible_explained, rows_exact}
use Rattle.audit_check.proofs.PossibleLemmas.{possible-push, possible-pop, possible_up_to}

-- ---- line by line

pub none_possible : (groups : List Group) → IsPossible groups []
unfolding once lines_after
none_possible groups = record { lines = refl; totals = λ g r opened. absurd (false≢true opened) }

-- the line of an entry comes after those of the entries before it
splits : (entries : List Entry) (at : ℕ) (d : Entry) → at < length entries → take (at + 1) (lines_of entries) ≡ take at (lines_of entries) ++ (get_or entries at d).line ∷ []
splits [] at d lt = absurd (omega (arith, lt))
splits (x ∷ entries) zero d lt = refl
splits (x ∷ entries) (suc at) d lt =
    let next : suc (at + 1) ≡ suc at + 1 = omega arith in
    ap (λ k. take k (lines_of (x ∷ entries))) (sym next) ∙ ap (λ ls. x.line ∷ ls) (splits entries at d (omega (arith, lt)))

-- possible lines, with one that may follow
goes_on : (groups : List Group) (j : List Line) (l : Line) → IsPossible groups j → MayFollow (shape_of_lines groups (j ++ l ∷ [])) j l → IsPossible groups (j ++ l ∷ [])
goes_on groups j l possible may = possible-push groups j l [] possible (subst (λ x. MayFollow (shape_of_lines groups x) j l) (sym (append-nil (j ++ l ∷ []))) may)

-- and with one that may not
stops : (groups : List Group) (j : List Line) (l : Line) → (¬ MayFollow (shape_of_lines groups (j ++ l ∷ [])) j l) → ¬ IsPossible groups (j ++ l ∷ [])
stops groups j l may_not possible = may_not (subst (λ x. MayFollow (shape_of_lines groups x) j l) (append-nil (j ++ l ∷ [])) (possible-pop groups j l [] possible))

module _ (plan : PlanView) (q : PlanView) (front j : List Line) (l : Line) (same : q ≡ plan) (journal : j ≡ front) where
  follows_here : MayFollow (shape_of_lines q.groups (j ++ l ∷ [])) j l → MayFollow (shape_of_lines plan.groups (front ++ l ∷ [])) front l
  follows_here may =
      subst (λ x. MayFollow (shape_of_lines plan.groups (x ++ l ∷ [])) x l) journal (subst (λ (x : PlanView). MayFollow (shape_of_lines x.groups (j ++ l ∷ [])) j l) same may)

  follows_there : MayFollow (shape_of_lines plan.groups (front ++ l ∷ [])) front l → MayFollow (shape_of_lines q.groups (j ++ l ∷ [])) j l
  follows_there may =
      subst (λ (x : PlanView). MayFollow (shape_of_lines x.groups (j ++ l ∷ [])) j l) (sym same) (subst (λ x. MayFollow (shape_of_lines plan.groups (x ++ l ∷ [])) x l) (sym journal) may)

  pub more_possible : IsPossible plan.groups front → MayFollow (shape_of_lines q.groups (j ++ l ∷ [])) j l → IsPossible plan.groups (front ++ l ∷ [])
  more_possible possible may = goes_on plan.groups front l possible (follows_here may)

  pub not_possible : (¬ MayFollow (shape_of_lines q.groups (j ++ l ∷ [])) j l) → ¬ IsPossible plan.groups (front ++ l ∷ [])
  not_possible may_not = stops plan.groups front l (λ may. may_not (follows_there may))

-- the next of some entries
pub next_line : (entries : List Entry) (at : ℕ) (e : Entry) → at < length entries → e ≡ get_or entries at e → take (at + 1) (lines_of entries) ≡ take at (lines_of entries) ++ e.line ∷ []
next_line entries at e lt here = splits entries at e lt ∙ ap (λ (x : Entry). take at (lines_of entries) ++ x.line ∷ []) (sym here)

-- what is kept once all lines are replayed
pub holds : (plan : PlanView) (ls : List Line) (b : BookView) (seen : PresenceView) (sets : List (List ℕ)) → b.presence.plan ≡ plan → b.journal ≡ ls → IsReplay b.presence b.journal seen sets → Holds plan ls b
holds plan ls b seen sets same journal is = record {
  plan_is = same;
  shape_is = is.shape ∙ ap (λ (q : PlanView). shape_of_lines q.groups b.journal) same ∙ ap (shape_of_lines plan.groups) journal;
  journal_is = journal;
}

pub lines_long : (entries : List Entry) → length (lines_of entries) ≡ length entries
lines_long entries = length-map entries (λ (e : Entry). e.line)

-- ---- all lines

take-take : (n k : ℕ) (xs : List Line) → n ≤ k → take n (take k xs) ≡ take n xs
take-take zero k xs le = refl
take-take (suc n) zero xs le = absurd (omega (arith, le))
take-take (suc n) (suc k) [] le = refl
take-take (suc n) (suc k) (x ∷ xs) le = ap (λ q. x ∷ q) (take-take n k xs (omega (arith, le)))

pub first_found : (t : TranscriptView) (k : ℕ) (b : BookView) → IsTranscript t → LinesEnd t.plan (lines_in t) (Some k) b → IsFirstImpossible t k
first_found t k b is ends =
    let long = lines_long t.entries in
    let lt = ends.0 in
    record {
      within = omega (arith, lt, long);
      before = λ n le. subst (IsPossible t.plan.groups) (take-take n k (lines_in t) le) (possible_up_to t.plan.groups (take k (lines_in t)) n ends.1);
      here = ends.2;
      unexplained = λ explained. ends.2 (possible_explained t.plan.groups (take (k + 1) (lines_in t)) is.plan.limits.meters explained);
    }

pub all_replayed : (t : TranscriptView) (b : BookView) → IsTranscript t → LinesEnd t.plan (lines_in t) None b → IsReplayed t b
all_replayed t b is ends = record { limits = is.plan.limits; holds = ends.0; possible = ends.1; explained = explained_possible t is ends.1 }

-- ---- rows

pub few_rows : (plan : PlanView) (row_at : ℕ → ℕ → Row) → IsWithinLimits plan → length (report_rows plan row_at) < 2 ^ 31
unfolding report_rows
few_rows plan row_at limits =
    let groups = limits.groups in
    let rounds = limits.rounds in
    let long = all_long (range_with_len 0 (length plan.groups)) in
    let many = length-range_with_len 0 (length plan.groups) in
    let product : length (range_with_len 0 (length plan.groups)) * plan.rounds ≤ 256 * 4096 = mul-le (length (range_with_len 0 (length plan.groups))) plan.rounds 256 4096 (omega (arith, groups, many)) rounds in
    omega (arith, long, product)
  where
    all_long : (gs : List ℕ) → length (flat_map (group_rows plan row_at) gs) ≡ length gs * plan.rounds
    all_long [] = omega arith
    all_long (g ∷ gs) =
        let one = length-map-range_with_len (λ r. report_row plan g r (row_at g r)) 0 plan.rounds in
        let rest = all_long gs in
        let both = length-append (group_rows plan row_at g) (flat_map (group_rows plan row_at) gs) in
        omega (arith, one, rest, both)

pub rows_held : (t : TranscriptView) (b : BookView) → Holds t.plan (lines_in t) b → report_rows b.presence.plan (row_in b) ≡ rows_by_frames t
unfolding row_in rows_by_frames
rows_held t b holds =
    ap (λ plan. report_rows plan (row_in b)) holds.plan_is
    ∙ ap (report_rows t.plan) (fun_ext (λ g. fun_ext (λ r.
    ap (λ s. outcome_row s (contents_of_lines b.journal).total g r (past b)) holds.shape_is
    ∙ ap (λ j. outcome_row (shape_of_lines t.plan.groups (lines_in t)) (contents_of_lines j).total g r (past_of j)) holds.journal_is
    ∙ ap (λ es. outcome_row (shape_of_lines t.plan.groups (lines_in t)) (contents_of_lines (lines_in t)).total g r (reverse es)) (events_lines t.entries))))

pub audited : (t : TranscriptView) (b : BookView) (rows report : List ReportRow) (result : Result AuditCounts AuditError) → IsReplayed t b → rows ≡ rows_by_frames t → RowsEnd rows report result → AuditEnds t report result
audited t b rows report (Ok counts) is same ends = record {
  possible = is.possible;
  explained = is.explained;
  report = ends.0 ∙ same;
  exact = λ x m explain. ends.0 ∙ same ∙ rows_exact t x m is.limits explain;
  rows_are = ends.1;
  totals_are = ends.2;
}
audited t b rows report (Err (audit.Row at one other)) is same ends = record { possible = is.possible; first = subst (λ xs. DifferFirst xs report at one other) same ends }
audited t b rows report (Err (audit.Line n)) is same ends = absurd ends
audited t b rows report (Err audit.Memory) is same ends = absurd ends
