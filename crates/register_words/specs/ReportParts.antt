-- Where the first row of each tag stands among the rows of side words.
use Rattle.std.specs.Prelude.{◌≡◌, ℕ, ◌+◌, ◌&&◌, true, drop, if◌then◌else◌, List, [], ◌∷◌, length, slice_index_or, slice_set, Option, Some, None, is_some}
use Rattle.group_plan.specs.declared.Kind.{Kind}
use Rattle.group_plan.specs.declared.Kind.TheVariants.{Reading, Answer}
use Rattle.group_plan.specs.Places.{place_at, places}
use Rattle.group_plan.specs.Plans.{PlanView, is_place}
use Rattle.event_schedule.specs.declared.Line.{Line}
use Rattle.meter_frames.specs.declared.Frame.{Frame}
use Rattle.event_schedule.specs.Events.{event_of, frame_of, is_send, same_kind}
use Rattle.register_words.specs.declared.row.SideRow.{SideRow}
use Rattle.register_words.specs.declared.report.Firsts.{Firsts}
use Rattle.register_words.specs.SideReports.{first_word_of, row_count}

-- the place of the row of the first frame of a tag, where the rows of these lines begin at place n
abbrev pub first_row : (g r i : ℕ) → Kind → ℕ → List Line → Option ℕ
first_row g r i kind n [] = None
first_row g r i kind n (l ∷ ls) = if is_send g r i kind (event_of l) && is_some (frame_of l) then Some n else first_row g r i kind (n + row_count l) ls

-- word k of the row at a place
abbrev pub word_from : ℕ → List SideRow → Option ℕ → ℕ
word_from k rows None = 0
word_from k rows (Some n) = first_word_of k (drop n rows)

-- the places of the first rows of each place's frames of a kind are noted
pub record AreFirsts (plan : PlanView) (kind : Kind) (ls : List Line) (kept : List (Option ℕ)) : Type 0 where
  pub long : length kept ≡ places plan
  pub each : (g r i : ℕ) → is_place plan g r i ≡ true → slice_index_or kept (place_at plan g r i) None ≡ first_row g r i kind 0 ls

-- for readings and for answers
pub record KnowsFirsts (plan : PlanView) (ls : List Line) (firsts : Firsts) : Type 0 where
  pub readings : AreFirsts plan Reading ls firsts.readings.items
  pub answers : AreFirsts plan Answer ls firsts.answers.items

-- the row is noted at a place, unless there is one before it
abbrev pub noted : Option ℕ → ℕ → Option ℕ
noted None row = Some row
noted (Some first) row = Some first

abbrev pub Notes : List (Option ℕ) → (place row : ℕ) → List (Option ℕ) → Type 0
Notes old place row new = new ≡ slice_set old place (noted (slice_index_or old place None) row)

-- the row of a frame is noted at its place, where the frame is of the kind
abbrev pub frame_noted : PlanView → Kind → Frame → ℕ → List (Option ℕ) → List (Option ℕ)
frame_noted plan kind f row old =
    if same_kind f.tag.kind kind
    then slice_set old (place_at plan f.tag.group f.tag.round f.tag.meter) (noted (slice_index_or old (place_at plan f.tag.group f.tag.round f.tag.meter) None) row)
    else old
