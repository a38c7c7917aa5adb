-- All that is said has a line.
use Rattle.std.proofs.Common.{◌≡◌, ◌+◌, ℕ, Bool, true, false, List, [], ◌∷◌, map, refl, subst}
use Rattle.std.specs.Prelude.{All, length, ◌==◌, Option, Some, None, Result, Ok, Err, if◌then◌else◌}
use Rattle.std.specs.List.{flat_map, range_with_len}
use Rattle.std.proofs.lemmas.List.Elements.{All-nil, All-cons, All-append}
use Rattle.group_plan.specs.Plans.{PlanView}
use Rattle.head_end.specs.declared.answers.Logged.{Logged}
use Rattle.head_end.specs.declared.answers.TickLine.{TickLine}
use Rattle.head_end.specs.declared.answers.TickLine.TheVariants.{Lacking, Row}
use Rattle.totals_report.specs.Reports.{report_row}
use Rattle.head_end.specs.Journal.{is_ended, is_announced, survivors, missing}
use Rattle.head_end.specs.Lines.{announcement, lacking_in, lacking_lines, end_lines, announced_lines, close_lines, closed_line, row_in, by_groups, round_before, ended_in, closed_in, again_of}
use Rattle.missing_round.specs.Masks.{Masks}
use Rattle.meter_core.specs.declared.Heard.{Heard}
use Rattle.meter_core.specs.declared.Heard.TheVariants.{Answer, AnswerAgain, Refused}
use Rattle.meter_frames.specs.declared.Frame.{Frame}
use Rattle.meter_frames.specs.Frames.{FitsKind}
use Rattle.meter_apart.specs.declared.part.Part.{Part}
use Rattle.meter_apart.specs.declared.answers.ReadingRefusal.{ReadingRefusal}
use Rattle.meter_apart.specs.declared.answers.ReadingRefusal.TheVariants as unread
use Rattle.meter_apart.specs.declared.answers.FrameRefusal.TheVariants as unanswered
use Rattle.meter_apart.specs.Journal.{marked}
use Rattle.meter_apart.specs.Parts.{is_to_me}
use Rattle.meter_apart.specs.Replies.{reading_frame, standing, said_after, to_reading, said_to, heard, to_frame}
use Rattle.apart_lines.specs.Said.{CanSayLine}
use Rattle.apart_lines.specs.Statements.{TicksCanBeSaid, AnnouncementsCanBeSaid, ReadingsCanBeSaid, AnswersCanBeSaid}

all_flat : {X : Type 0} (f : X → List TickLine) (xs : List X) → ((x : X) → All CanSayLine (f x)) → All CanSayLine (flat_map f xs)
all_flat f [] each = All-nil CanSayLine
all_flat f (x ∷ xs) each = All-append CanSayLine (f x) (flat_map f xs) (each x) (all_flat f xs each)

announcements : (g r : ℕ) (set meters : List ℕ) → All CanSayLine (map (announcement g r set) meters)
announcements g r set [] = All-nil CanSayLine
announcements g r set (i ∷ meters) = All-cons CanSayLine (announcement g r set i) (map (announcement g r set) meters) refl (announcements g r set meters)

lacking_said : (g r : ℕ) (set : List ℕ) → All CanSayLine (lacking_lines g r set)
lacking_said g r [] = All-nil CanSayLine
lacking_said g r (i ∷ set) = All-cons CanSayLine (Lacking g r (i ∷ set)) [] tt (All-nil CanSayLine)

ends_said : (plan : PlanView) (journal : List Logged) (r g : ℕ) → All CanSayLine (end_lines plan journal r g)
ends_said plan journal r g =
    All-append CanSayLine (lacking_lines g r (lacking_in plan journal g r)) (Row (report_row plan g r (row_in plan journal g r)) ∷ []) (lacking_said g r (lacking_in plan journal g r))
    (All-cons CanSayLine (Row (report_row plan g r (row_in plan journal g r))) [] tt (All-nil CanSayLine))

closes_said : (plan : PlanView) (journal : List Logged) (r g : ℕ) → All CanSayLine (close_lines plan journal r g)
closes_said plan journal r g = All-cons CanSayLine (closed_line plan journal r g) (announced_lines plan journal r g) tt (by (is_announced plan journal g r))
  where
    by : (b : Bool) → All CanSayLine (if b then map (announcement g r (missing plan journal g r)) (survivors plan journal g r) else [])
    by true = announcements g r (missing plan journal g r) (survivors plan journal g r)
    by false = All-nil CanSayLine

groups_said : (plan : PlanView) (lines : ℕ → ℕ → List TickLine) (round : Option ℕ) → ((r g : ℕ) → All CanSayLine (lines r g)) → All CanSayLine (by_groups plan lines round)
groups_said plan lines None each = All-nil CanSayLine
groups_said plan lines (Some r) each = all_flat (lines r) (range_with_len 0 (length plan.groups)) (each r)

pub ticks_said : TicksCanBeSaid
ticks_said plan journal t =
    All-append CanSayLine (ended_in plan journal t) (closed_in plan journal t)
    (groups_said plan (end_lines plan journal) (round_before plan.rounds (plan.w1 + plan.w2) t) (ends_said plan journal))
    (groups_said plan (close_lines plan journal) (round_before plan.rounds plan.w1 t) (closes_said plan journal))

again_said : (plan : PlanView) (journal : List Logged) (r g : ℕ) → All CanSayLine (again_of plan journal r g)
again_said plan journal r g = by (is_ended plan journal r)
  where
    by : (b : Bool) → All CanSayLine (if b then [] else map (announcement g r (missing plan journal g r)) (lacking_in plan journal g r))
    by true = All-nil CanSayLine
    by false = announcements g r (missing plan journal g r) (lacking_in plan journal g r)

pub announcements_said : AnnouncementsCanBeSaid
announcements_said plan journal =
    all_flat (λ r. by_groups plan (again_of plan journal) (Some r)) (range_with_len 0 plan.rounds) (λ r. groups_said plan (again_of plan journal) (Some r) (again_said plan journal))

-- ---- the meter

abbrev frame_fits : {E : Type 0} → Result Frame E → Type 0
frame_fits (Ok f) = FitsKind f.tag.kind f.missing f.word
frame_fits (Err e) = Unit {0}

fits_of : {E : Type 0} (said : Result Frame E) (f : Frame) → said ≡ Ok f → frame_fits said → FitsKind f.tag.kind f.missing f.word
fits_of said f is fits = subst (λ (x : Result Frame _). frame_fits x) is fits

reading_fits : (part : Part) (m : Masks) (found : Result (Option ℕ) ReadingRefusal) (r reading : ℕ) → frame_fits (said_after part m found r reading)
reading_fits part m (Err refusal) r reading = tt
reading_fits part m (Ok None) r reading = refl
reading_fits part m (Ok (Some before)) r reading = by (before == reading)
  where
    by : (b : Bool) → frame_fits (if b then Ok (reading_frame part m r reading) else Err unread.Twice)
    by true = refl
    by false = tt

pub readings_said : ReadingsCanBeSaid
readings_said part m journal r reading f is = fits_of (to_reading part m journal r reading) f is (reading_fits part m (standing part (marked journal r) r reading) r reading)

answer_fits : (part : Part) (m : Masks) (heard : Heard) (r : ℕ) (set : List ℕ) → frame_fits (said_to part m heard r set)
answer_fits part m Answer r set = tt
answer_fits part m AnswerAgain r set = tt
answer_fits part m (Refused why) r set = tt

pub answers_said : AnswersCanBeSaid
answers_said part m journal g f is = fits_of (to_frame part m journal g) f is (by (is_to_me part g.tag))
  where
    by : (b : Bool) → frame_fits (if b then said_to part m (heard part journal g.tag.round g.missing) g.tag.round g.missing else Err unanswered.Tag)
    by true = answer_fits part m (heard part journal g.tag.round g.missing) g.tag.round g.missing
    by false = tt
