-- The lines of readings and masks: they are possible, and their rows by frames are those of the outcomes with the plain sums.
use Rattle.std.proofs.Common.{◌≡◌, ℕ, ◌+◌, ◌-◌, ◌^◌, ◌<◌, ◌≤◌, Bool, true, false, not, ◌&&◌, ◌||◌, List, [], ◌∷◌, length, map, All, refl, sym, ap, ◌∙◌, arith}
use Rattle.std.specs.Prelude.{if◌then◌else◌, is_some, Some, None, reverse, slice_get, Result, Ok, Err}
use Rattle.std.specs.List.{list_all}
use mathlib.Core.Path.{fun_ext}
use Rattle.std.proofs.lemmas.List.Elements.{All-head, All-tail}
use Rattle.group_plan.specs.declared.Kind.TheVariants.{Answer}
use Rattle.group_plan.specs.Plans.{Group, PlanView, IsWithinLimits, size}
use Rattle.event_schedule.specs.declared.Event.{Event}
use Rattle.event_schedule.specs.declared.Entry.{Entry}
use Rattle.event_schedule.specs.declared.Line.{Line}
use Rattle.event_schedule.specs.declared.Line.TheVariants.{Send as SendLine, Take as TakeLine, Close as CloseLine, End as EndLine}
use Rattle.event_schedule.specs.Events.{once, is_send, is_take, event_of, frame_of, events_of, lines_of}
use Rattle.event_schedule.specs.Tables.{Readings, Masks, plain_sum, IsBounded}
use Rattle.event_schedule.specs.Schedule.{Shape, is_ended, is_announced, is_opened, is_published, is_answer_sent, is_answer_taken, all_taken, lacking, survivors, Running, EndedThin, Published, Unpublished}
use Rattle.event_schedule.specs.Transcript.{shape_of_readings, transcript}
use Rattle.event_schedule.specs.Frames.{word_or_zero, first_word, shape_of_lines, contents_of_lines, IsPossible, HasWordsOf64Bits}
use Rattle.event_schedule.proofs.FrameLemmas.{possible, shapes_agree, totals_told}
use Rattle.event_schedule.proofs.ListLemmas.{and_first, flat_map_same, tabulate_same}
use Rattle.event_schedule.proofs.ScheduleLemmas.{after, after-reverse, once-more}
use Rattle.event_schedule.proofs.ShapeLemmas.{AgreeOn, announced_agree, reply_agree, survivors_agree}
use Rattle.event_schedule.specs.Transcripts.{TranscriptView, IsTranscript, IsEntry, IsLine}
use Rattle.ideal_masks.specs.Statements.{IsExplained}
use Rattle.ideal_masks.proofs.Explained.{explained}
use Rattle.run_rows.specs.Report.{Row, row_of, outcome_row}
use Rattle.totals_report.specs.Reports.{report_row, group_rows, report_rows}
use Rattle.audit_check.specs.declared.answers.AuditCounts.{AuditCounts}
use Rattle.audit_check.specs.declared.answers.AuditError.{AuditError}
use Rattle.audit_check.specs.declared.answers.AuditError.TheVariants as audit
use Rattle.audit_check.specs.Audits.{lines_in, row_by_frames, rows_by_frames, Explain, row_by_readings, AuditEnds}
use Rattle.audit_check.specs.Statements.{FindsNone, IsHonest, HonestAreAccepted}
use Rattle.audit_check.proofs.TellLemmas.{opened_agree}
use Rattle.audit_check.proofs.PossibleLemmas.{possible_up_to}

-- ---- entries

pub events_lines : (entries : List Entry) → map event_of (lines_of entries) ≡ events_of entries
events_lines [] = refl
events_lines (e ∷ entries) = ap (λ es. event_of e.line ∷ es) (events_lines entries)

frame_word : (l : Line) → IsLine l → word_or_zero (frame_of l) < 2 ^ 64
frame_word (SendLine tag (Some f)) is = is.1
frame_word (SendLine tag None) is = omega arith
frame_word (TakeLine tag v) is = omega arith
frame_word (CloseLine g r v) is = omega arith
frame_word (EndLine g r v) is = omega arith

-- each word of a transcript's frames has 64 bits
pub words_are : (entries : List Entry) → All IsEntry entries → HasWordsOf64Bits (lines_of entries)
words_are [] are g r i kind = omega arith
words_are (e ∷ entries) are g r i kind =
    by_case (is_send g r i kind (event_of e.line) && is_some (frame_of e.line)) (frame_word e.line (All-head IsEntry e entries are).line) (words_are entries (All-tail IsEntry e entries are) g r i kind)
  where
    by_case : (q : Bool) → word_or_zero (frame_of e.line) < 2 ^ 64 → first_word g r i kind (lines_of entries) < 2 ^ 64
        → (if q then word_or_zero (frame_of e.line) else first_word g r i kind (lines_of entries)) < 2 ^ 64
    by_case true here later = here
    by_case false here later = later

-- ---- readings and masks

-- lines that some readings and some masks explain are possible
pub possible_explained : (groups : List Group) (ls : List Line) → ((g : ℕ) → size groups g ≤ 256) → IsExplained groups ls → IsPossible groups ls
possible_explained groups ls meters is = possible groups is.0 is.1 ls is.2 (record { meters = meters; readings = is.3 }) is.5

pub explained_possible : (t : TranscriptView) → IsTranscript t → IsPossible t.plan.groups (lines_in t) → IsExplained t.plan.groups (lines_in t)
explained_possible t is possible = explained t.plan.groups (lines_in t) (words_are t.entries is.entries) possible

-- ---- answers that were taken, in a shape that differs at no reading that was sent

once_same : (test other : Event → List Event → Bool) (H : List Event → Type 0) → ((e : Event) (p : List Event) → H (e ∷ p) → H p)
    → ((e : Event) (p : List Event) → H p → test e p ≡ other e p) → (p : List Event) → H p → once test p ≡ once other p
unfolding once
once_same test other H less same [] h = refl
once_same test other H less same (e ∷ p) h =
    ap (λ q. q || once test p) (same e p (less e p h)) ∙ ap (λ q. other e p || q) (once_same test other H less same p (less e p h))

less_agree : (s t : Shape) (e : Event) (p : List Event) → AgreeOn s t (e ∷ p) → AgreeOn s t p
unfolding AgreeOn
less_agree s t e p agree g r i sent = agree g r i (once-more _ e p sent)

module _ (groups : List Group) (one two : ℕ → ℕ → ℕ → Bool) where
  abbrev s : Shape
  s = record { groups = groups; present = one }

  abbrev t : Shape
  t = record { groups = groups; present = two }

  taken_agree : (g r i : ℕ) (p : List Event) → AgreeOn s t p → is_answer_taken s g r i p ≡ is_answer_taken t g r i p
  taken_agree g r i p agree =
      once_same (λ e q. is_take g r i Answer e && is_answer_sent s g r i q && not (is_ended g r q)) (λ e q. is_take g r i Answer e && is_answer_sent t g r i q && not (is_ended g r q)) (AgreeOn s t) (less_agree s t)
      (λ e q h. ap (λ z. is_take g r i Answer e && z && not (is_ended g r q)) (reply_agree groups one two g r i q h)) p agree

  published_agree : (g r : ℕ) (p : List Event) → AgreeOn s t p → is_published s g r p ≡ is_published t g r p
  published_agree g r p agree =
      ap (λ q. q && is_ended g r p && all_taken s g r p) (opened_agree groups one two g r p agree)
      ∙ ap (λ f. is_opened t g r p && is_ended g r p && list_all f (survivors s g r p)) (fun_ext (λ i. taken_agree g r i p agree))
      ∙ ap (λ a. is_opened t g r p && is_ended g r p && list_all (λ i. is_answer_taken t g r i p) a) (survivors_agree groups one two g r p agree)

  same_row : (ended announced published : Bool) (a lacks others : List ℕ) (x y : ℕ) → (published ≡ true → x ≡ y)
      → row_of a (if not ended then Running else if not announced then EndedThin else if published then Published a x else Unpublished lacks)
      ≡ row_of a (if not ended then Running else if not announced then EndedThin else if published then Published a y else Unpublished others)
  same_row false announced published a lacks others x y same = refl
  same_row true false published a lacks others x y same = refl
  same_row true true true a lacks others x y same = ap (λ n. row_of a (Published a n)) (same refl)
  same_row true true false a lacks others x y same = refl

  -- the row of a round, where the totals of opened rounds are the same
  pub row_agree : (f h : ℕ → ℕ → List ℕ → ℕ) (g r : ℕ) (p : List Event) → AgreeOn s t p
      → (is_opened t g r p ≡ true → f g r (survivors t g r p) ≡ h g r (survivors t g r p)) → outcome_row s f g r p ≡ outcome_row t h g r p
  row_agree f h g r p agree same =
      let row : Bool → Bool → List ℕ → Row = λ announced published a. row_of a (if not (is_ended g r p) then Running else if not announced then EndedThin else if published then Published a (f g r a) else Unpublished (lacking s g r p)) in
      ap (λ q. row q (is_published s g r p) (survivors s g r p)) (announced_agree groups one two g r p agree)
      ∙ ap (λ q. row (is_announced t g r p) q (survivors s g r p)) (published_agree g r p agree)
      ∙ ap (λ a. row (is_announced t g r p) (is_published t g r p) a) (survivors_agree groups one two g r p agree)
      ∙ same_row (is_ended g r p) (is_announced t g r p) (is_published t g r p) (survivors t g r p) (lacking s g r p) (lacking t g r p) (f g r (survivors t g r p)) (h g r (survivors t g r p))
      (λ published. same (and_first (is_opened t g r p) (is_ended g r p) (and_first (is_opened t g r p && is_ended g r p) (all_taken t g r p) published)))

-- ---- the rows of a plan

pub rows_same : (plan : PlanView) (f h : ℕ → ℕ → Row) → ((g r : ℕ) → g < length plan.groups → r < plan.rounds → f g r ≡ h g r) → report_rows plan f ≡ report_rows plan h
unfolding report_rows
rows_same plan f h same =
    flat_map_same (length plan.groups) 0 (group_rows plan f) (group_rows plan h)
    (λ g _ group. tabulate_same plan.rounds 0 (λ r. report_row plan g r (f g r)) (λ r. report_row plan g r (h g r))
    (λ r _ round. ap (report_row plan g r) (same g r (omega (arith, group)) (omega (arith, round)))))

-- ---- readings that explain a transcript

module _ (t : TranscriptView) (x : Readings) (m : Masks) (limits : IsWithinLimits t.plan) (explain : Explain t x m) where
  abbrev ls : List Line
  ls = lines_in t

  bounded : IsBounded t.plan.groups x
  bounded = record { meters = limits.meters; readings = explain.small }

  told : transcript t.plan.groups x m (map event_of ls) ≡ ls
  told = ap (transcript t.plan.groups x m) (events_lines t.entries) ∙ sym explain.lines

  past : after [] (map event_of ls) ≡ reverse (events_of t.entries)
  past = after-reverse (map event_of ls) ∙ ap reverse (events_lines t.entries)

  row_is : (g r : ℕ) → row_by_frames t g r ≡ row_by_readings t x g r
  row_is g r =
      let here = row_agree t.plan.groups (shape_of_readings t.plan.groups x).present (shape_of_lines t.plan.groups ls).present (plain_sum x) (contents_of_lines ls).total g r (after [] (map event_of ls))
      (shapes_agree t.plan.groups x m ls explain.of_plan bounded told) (totals_told t.plan.groups x m ls explain.of_plan bounded told g r) in
      ap (outcome_row (shape_of_lines t.plan.groups ls) (contents_of_lines ls).total g r) (sym past) ∙ sym here ∙ ap (outcome_row (shape_of_readings t.plan.groups x) (plain_sum x) g r) past

  pub rows_exact : rows_by_frames t ≡ report_rows t.plan (row_by_readings t x)
  unfolding rows_by_frames
  rows_exact = rows_same t.plan (row_by_frames t) (row_by_readings t x) (λ g r group round. row_is g r)

  all_possible : IsPossible t.plan.groups ls
  all_possible = possible t.plan.groups x m ls explain.of_plan bounded told

-- ---- honest runs

module _ (t : TranscriptView) (x : Readings) (m : Masks) (row_at : ℕ → ℕ → Row) (honest : IsHonest t x m row_at) where
  rows_are : rows_by_frames t ≡ report_rows t.plan row_at
  rows_are = rows_exact t x m honest.is_one.plan.limits honest.explain ∙ rows_same t.plan (row_by_readings t x) row_at honest.rows

  pub finds_none : (result : Result AuditCounts AuditError) → AuditEnds t (report_rows t.plan row_at) result → FindsNone result
  finds_none (Ok counts) ends = tt
  finds_none (Err (audit.Line n)) ends = ends.2.here (possible_up_to t.plan.groups (lines_in t) (ends.0 + 1) (all_possible t x m honest.is_one.plan.limits honest.explain))
  finds_none (Err (audit.Row at one other)) ends = ends.first.differ (sym ends.first.one_is ∙ ap (λ rows. slice_get rows (at - 1)) rows_are ∙ ends.first.other_is)
  finds_none (Err audit.Memory) ends = tt

pub honest_are_accepted : HonestAreAccepted
honest_are_accepted t x m row_at result honest ends = finds_none t x m row_at honest result ends
