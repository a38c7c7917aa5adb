-- Lines that are replayed, one after another, by the book of the lines so far, and who has sent an answer in each round.
use Rattle.std.specs.Prelude.{◌≡◌, ℕ, ◌+◌, ◌<◌, ◌≤◌, Bool, true, false, List, [], ◌∷◌, ◌++◌, length, filter, slice_index_or, is_some, None, Some}
use Rattle.group_plan.specs.declared.Kind.TheVariants.{Answer}
use Rattle.group_plan.specs.Plans.{PlanView, members, is_place}
use Rattle.event_schedule.specs.declared.Line.{Line}
use Rattle.event_schedule.specs.declared.Line.TheVariants.{Send as SendLine, Take as TakeLine, Close as CloseLine, End as EndLine}
use Rattle.meter_frames.specs.declared.Frame.{Frame}
use Rattle.meter_frames.specs.Frames.{FitsKind}
use Rattle.group_plan.specs.declared.Tag.{Tag}
use Rattle.group_book.specs.Books.{BookView, shape_of, posted, posted_of, IsFree}
use Rattle.group_book.specs.Places.{all_rounds, page_at, is_round}
use Rattle.audit_check.specs.Steps.{IsTold, MayFollow}

-- the plan has the places of the line, and a frame has the line's tag, and what its kind allows
abbrev pub FitsPlan : PlanView → Line → Type 0
FitsPlan plan (SendLine tag None) = is_place plan tag.group tag.round tag.meter ≡ true
FitsPlan plan (SendLine tag (Some f)) = (is_place plan tag.group tag.round tag.meter ≡ true) × (f.tag ≡ tag) × FitsKind f.tag.kind f.missing f.word
FitsPlan plan (TakeLine tag verdict) = is_place plan tag.group tag.round tag.meter ≡ true
FitsPlan plan (CloseLine g r closing) = is_round plan g r ≡ true
FitsPlan plan (EndLine g r ending) = is_round plan g r ≡ true

abbrev pub FitsBook : BookView → Line → Type 0
FitsBook b l = FitsPlan b.presence.plan l

-- the frame is the one that is posted under the tag, or one of the tag where none is posted
pub record IsPostedOrEmpty (b : BookView) (tag : Tag) (f : Frame) : Type 0 where
  pub tag_is : f.tag ≡ tag
  pub free : IsFree (posted_of b tag) f

-- the line is added, and all else stays
pub record Gains (b : BookView) (l : Line) (c : BookView) : Type 0 where
  pub presence : c.presence ≡ b.presence
  pub journal : c.journal ≡ b.journal ++ l ∷ []
  pub spare : b.spare ≤ c.spare + 1

-- the book says the same line; or the line isn't what its frames make of its event, and of the book nothing is said
abbrev pub Says : BookView → Line → Bool → BookView → Type 0
Says b l true c = Gains b l c × IsTold (shape_of b) b.journal l
Says b l false c = ¬ IsTold (shape_of b) b.journal l

-- the meters of a round that have sent an answer
abbrev pub answered_in : PlanView → List Line → ℕ → ℕ → List ℕ
answered_in plan journal g r = filter (λ i. is_some (posted g r i Answer journal)) (members plan.groups g r)

-- of each round the meters that have sent an answer
pub record AreAnswered (plan : PlanView) (journal : List Line) (sets : List (List ℕ)) : Type 0 where
  pub long : length sets ≡ all_rounds plan
  pub answered : (g r : ℕ) (d : List ℕ) → g < length plan.groups → r < plan.rounds → slice_index_or sets (page_at plan g r) d ≡ answered_in plan journal g r

-- a line is replayed: it may follow, or not, and then of the book nothing is said
abbrev pub Replays : BookView → Line → Bool → BookView → List (List ℕ) → Type 0
Replays b l true c sets = Gains b l c × MayFollow (shape_of b) b.journal l × AreAnswered c.presence.plan c.journal sets
Replays b l false c sets = ¬ MayFollow (shape_of b) b.journal l
