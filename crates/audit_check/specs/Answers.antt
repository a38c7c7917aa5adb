-- The answers of a round, and whether the last of them opens it.
use Rattle.std.specs.Prelude.{◌≡◌, ◌⊎◌, ℕ, Bool, true, false, List, [], set, slice_index_or, if◌then◌else◌, is_some, Option, Some, None}
use Rattle.missing_round.specs.Sets.{is_member, joined}
use Rattle.group_plan.specs.declared.Tag.{Tag}
use Rattle.group_plan.specs.declared.Kind.TheVariants.{Answer}
use Rattle.meter_frames.specs.declared.Frame.{Frame}
use Rattle.event_schedule.specs.declared.Line.{Line}
use Rattle.event_schedule.specs.declared.Line.TheVariants.{Send as SendLine}
use Rattle.event_schedule.specs.Events.{event_of, frame_of, is_send}
use Rattle.event_schedule.specs.Schedule.{survivors}
use Rattle.group_book.specs.Books.{BookView, shape_of, past}
use Rattle.group_book.specs.Places.{page_at}
use Rattle.audit_check.specs.Steps.{IsWithinReadings}

-- where these meters are the survivors, their frame total is no more than their readings can be
abbrev pub MayOpen : BookView → ℕ → ℕ → List ℕ → Bool → Type 0
MayOpen b g r answered true = survivors (shape_of b) g r (past b) ≡ answered → IsWithinReadings (shape_of b) b.journal g r
MayOpen b g r answered false = (survivors (shape_of b) g r (past b) ≡ answered) × (¬ IsWithinReadings (shape_of b) b.journal g r)

-- the place of a tag's round among the sets, and what stands there
abbrev pub place_of : BookView → Tag → ℕ
place_of b tag = page_at b.presence.plan tag.group tag.round

-- the meter's answer is an old one, and nothing changes
pub record IsOld (b : BookView) (tag : Tag) (sets : List (List ℕ)) (may : Bool) (new : List (List ℕ)) : Type 0 where
  pub among : is_member tag.meter (slice_index_or sets (place_of b tag) []) ≡ true
  pub stays : new ≡ sets
  pub may_is : may ≡ true

-- the meter joins those that have answered
pub record IsNew (b : BookView) (tag : Tag) (sets : List (List ℕ)) (may : Bool) (new : List (List ℕ)) : Type 0 where
  pub not_among : is_member tag.meter (slice_index_or sets (place_of b tag) []) ≡ false
  pub joins : new ≡ set sets (place_of b tag) (joined tag.meter (slice_index_or sets (place_of b tag) []))
  pub opens : MayOpen b tag.group tag.round (joined tag.meter (slice_index_or sets (place_of b tag) [])) may

abbrev pub AnswerEnds : BookView → Tag → List (List ℕ) → Bool → List (List ℕ) → Type 0
AnswerEnds b tag sets may new = IsOld b tag sets may new ⊎ IsNew b tag sets may new

-- the line posts no answer
abbrev pub HasNoAnswer : Line → Type 0
HasNoAnswer l = (g r i : ℕ) → is_some (if is_send g r i Answer (event_of l) then frame_of l else None) ≡ false

-- the tag of a line that posts an answer, where it does
abbrev pub IsAnswerOf : Line → Option Tag → Type 0
IsAnswerOf l (Some tag) = (tag.kind ≡ Answer) × ((f : Frame) × (l ≡ SendLine tag (Some f)))
IsAnswerOf l None = HasNoAnswer l
