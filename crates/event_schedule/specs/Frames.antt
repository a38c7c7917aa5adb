-- What lines say by their frames alone, with no reading and no mask: frame totals, and lines that are possible.
use Rattle.std.specs.Prelude.{◌≡◌, ℕ, ◌-◌, ◌*◌, ◌^◌, ◌<◌, ◌≤◌, true, ◌&&◌, List, [], ◌∷◌, length, map, reverse, take, Option, Some, None, is_some, if◌then◌else◌}
use Rattle.missing_round.specs.Words.{frame_total}
use Rattle.group_plan.specs.declared.Kind.{Kind}
use Rattle.group_plan.specs.declared.Kind.TheVariants.{Reading, Answer}
use Rattle.group_plan.specs.Plans.{Group, is_member}
use Rattle.meter_frames.specs.declared.Frame.{Frame}
use Rattle.event_schedule.specs.declared.Line.{Line}
use Rattle.event_schedule.specs.Events.{event_of, frame_of, is_send}
use Rattle.event_schedule.specs.Schedule.{Shape, is_opened, survivors}
use Rattle.event_schedule.specs.Transcript.{Contents, lines_after}

-- the frame of the first Send of a reading, where it has one
abbrev pub first_frame : ℕ → ℕ → ℕ → List Line → Option Frame
first_frame g r i [] = None
first_frame g r i (l ∷ ls) = if is_send g r i Reading (event_of l) then frame_of l else first_frame g r i ls

abbrev pub word_or_zero : Option Frame → ℕ
word_or_zero None = 0
word_or_zero (Some f) = f.word

-- the word of the first frame of a tag, 0 where there is none
abbrev pub first_word : ℕ → ℕ → ℕ → Kind → List Line → ℕ
first_word g r i kind [] = 0
first_word g r i kind (l ∷ ls) =
    if is_send g r i kind (event_of l) && is_some (frame_of l) then word_or_zero (frame_of l) else first_word g r i kind ls

-- a place counts as present where its meter is a member of the round and the first Send of its reading has a frame
abbrev pub shape_of_lines : List Group → List Line → Shape
shape_of_lines groups ls = record { groups = groups; present = λ g r i. is_member groups g r i && is_some (first_frame g r i ls) }

-- the words of the frames, and the frame total: reading words less answer words
abbrev pub contents_of_lines : List Line → Contents
contents_of_lines ls = record {
  reading = λ g r i. first_word g r i Reading ls;
  answer = λ g r i set. first_word g r i Answer ls;
  total = λ g r meters. frame_total (λ i. first_word g r i Reading ls) (λ i. first_word g r i Answer ls) meters;
}

-- the lines are what their own frames make of their events, and no frame total of an opened round is more than its survivors' readings can be
pub record IsPossible (groups : List Group) (ls : List Line) : Type 0 where
  pub lines : lines_after (shape_of_lines groups ls) (contents_of_lines ls) [] (map event_of ls) ≡ ls
  pub totals : (g r : ℕ) → is_opened (shape_of_lines groups ls) g r (reverse (map event_of ls)) ≡ true →
      (contents_of_lines ls).total g r (survivors (shape_of_lines groups ls) g r (reverse (map event_of ls)))
      ≤ (2 ^ 40 - 1) * length (survivors (shape_of_lines groups ls) g r (reverse (map event_of ls)))

-- the lines are possible up to line n, counted from 1
abbrev pub IsPossibleUpTo : List Group → ℕ → List Line → Type 0
IsPossibleUpTo groups n ls = IsPossible groups (take n ls)

-- each word of a frame has 64 bits
abbrev pub HasWordsOf64Bits : List Line → Type 0
HasWordsOf64Bits ls = (g r i : ℕ) (kind : Kind) → first_word g r i kind ls < 2 ^ 64
