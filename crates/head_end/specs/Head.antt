-- The state that a journal gives a head end.
use Rattle.std.specs.Prelude.{◌≡◌, ℕ, ◌<◌, true, false, List, [], ◌∷◌, ◌++◌, length, filter, sum_by, slice_index_or, slice_set, if◌then◌else◌, Bool}
use Rattle.missing_round.specs.Words.{word}
use Rattle.missing_round.specs.Sets.{is_member}
use Rattle.group_plan.specs.declared.Kind.{Kind}
use Rattle.group_plan.specs.declared.Kind.TheVariants.{Reading, Answer}
use Rattle.group_plan.specs.declared.Tag.{Tag}
use Rattle.group_plan.specs.Plans.{PlanView, members, floor_of, is_place}
use Rattle.group_plan.specs.Places.{place_at}
use Rattle.meter_frames.specs.declared.Frame.{Frame}
use Rattle.round_machine.specs.Rounds.{RoundView}
use Rattle.group_book.specs.Places.{page_at}
use Rattle.head_end.specs.declared.answers.Logged.{Logged}
use Rattle.head_end.specs.declared.answers.Logged.TheVariants.{Passed}
use Rattle.head_end.specs.declared.answers.Reply.{Reply}
use Rattle.head_end.specs.declared.head.HeadEnd.{HeadEnd}
use Rattle.head_end.specs.Journal.{passed, is_closed, is_ended, is_taken, word_taken}
use Rattle.head_end.specs.Replies.{reply, replied, can_pass, can_follow}

-- the meters and the sums of a round are those of the frames that were taken; only survivors have answered
pub record IsOf (plan : PlanView) (journal : List Logged) (g r : ℕ) (s : RoundView) : Type 0 where
  pub members_are : s.members ≡ members plan.groups g r
  pub floor : s.floor ≡ floor_of plan.groups g
  pub taken : s.taken ≡ filter (is_taken g r Reading journal) (members plan.groups g r)
  pub answered : s.answered ≡ filter (is_taken g r Answer journal) (members plan.groups g r)
  pub readings : s.reading_sum ≡ word (sum_by (word_taken g r Reading journal) s.taken)
  pub answers : s.answer_sum ≡ word (sum_by (word_taken g r Answer journal) s.answered)
  pub asked : (i : ℕ) → is_member i (members plan.groups g r) ≡ true → is_taken g r Answer journal i ≡ true → is_taken g r Reading journal i ≡ true

-- the round as it is now
pub record IsNow (plan : PlanView) (journal : List Logged) (g r : ℕ) (s : RoundView) : Type 0 where
  pub of : IsOf plan journal g r s
  pub closed : s.closed ≡ is_closed plan journal r
  pub ended : s.ended ≡ is_ended plan journal r

-- the round as it is kept: it may still be open, since the ticks say when it closes and ends
pub record IsKept (plan : PlanView) (journal : List Logged) (g r : ℕ) (s : RoundView) : Type 0 where
  pub of : IsOf plan journal g r s
  pub closed : s.closed ≡ true → is_closed plan journal r ≡ true
  pub running : s.ended ≡ false

-- at each place stands the word that was taken there
abbrev pub AreWords : PlanView → List Logged → Kind → List ℕ → Type 0
AreWords plan journal kind words = (g r i d : ℕ) → is_place plan g r i ≡ true → slice_index_or words (place_at plan g r i) d ≡ word_taken g r kind journal i

-- what is kept is what the journal says
pub record IsState (plan : PlanView) (ticks : ℕ) (rounds : List RoundView) (readings answers : List ℕ) (journal : List Logged) : Type 0 where
  pub ticks_are : ticks ≡ passed journal
  pub rounds_are : (g r : ℕ) (d : RoundView) → g < length plan.groups → r < plan.rounds → IsKept plan journal g r (slice_index_or rounds (page_at plan g r) d)
  pub readings_are : AreWords plan journal Reading readings
  pub answers_are : AreWords plan journal Answer answers

-- the head end is in the state that the journal gives
abbrev pub IsAfter : List Logged → HeadEnd → Type 0
IsAfter journal h = IsState h.plan h.ticks h.rounds.items h.readings.items h.answers.items journal

-- the reply to a frame, and the state that it leaves: that of the journal with what was appended
pub record Replies (old : HeadEnd) (journal : List Logged) (f : Frame) (said : Reply) (new : HeadEnd) : Type 0 where
  pub plan : new.plan ≡ old.plan
  pub said_is : said ≡ reply old.plan journal f
  pub after : IsAfter (replied said f journal) new

-- whether a tick passes, and the state that it leaves
pub record Passes (old : HeadEnd) (journal : List Logged) (passes : Bool) (new : HeadEnd) : Type 0 where
  pub plan : new.plan ≡ old.plan
  pub passes_is : passes ≡ can_pass old.plan journal
  pub after : IsAfter (if passes then journal ++ Passed ∷ [] else journal) new

-- whether a line follows, and the state that it leaves
pub record Follows (old : HeadEnd) (journal : List Logged) (line : Logged) (follows : Bool) (new : HeadEnd) : Type 0 where
  pub plan : new.plan ≡ old.plan
  pub follows_is : follows ≡ can_follow old.plan journal line
  pub after : IsAfter (if follows then journal ++ line ∷ [] else journal) new

-- ---- what is kept of a frame

-- a round is kept, with the word of a reading
pub record KeepsReading (old : HeadEnd) (tag : Tag) (round : RoundView) (w : ℕ) (new : HeadEnd) : Type 0 where
  pub plan : new.plan ≡ old.plan
  pub ticks : new.ticks ≡ old.ticks
  pub rounds : new.rounds.items ≡ slice_set old.rounds.items (page_at old.plan tag.group tag.round) round
  pub readings : new.readings.items ≡ slice_set old.readings.items (place_at old.plan tag.group tag.round tag.meter) w
  pub answers : new.answers.items ≡ old.answers.items

-- a round is kept, with the word of an answer
pub record KeepsAnswer (old : HeadEnd) (tag : Tag) (round : RoundView) (w : ℕ) (new : HeadEnd) : Type 0 where
  pub plan : new.plan ≡ old.plan
  pub ticks : new.ticks ≡ old.ticks
  pub rounds : new.rounds.items ≡ slice_set old.rounds.items (page_at old.plan tag.group tag.round) round
  pub readings : new.readings.items ≡ old.readings.items
  pub answers : new.answers.items ≡ slice_set old.answers.items (place_at old.plan tag.group tag.round tag.meter) w
