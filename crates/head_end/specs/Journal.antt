-- What a head end's journal says of each round: whose frames were taken, whether it is closed, announced and ended, and its total.
-- A line is a frame that was taken fresh, or a tick that has passed, so no definition asks for their order.
use Rattle.std.specs.Prelude.{ℕ, ◌+◌, nat_lt, nat_le, Bool, true, false, not, ◌&&◌, if◌then◌else◌, List, [], ◌∷◌, length, filter, count_by}
use Rattle.std.specs.List.{list_any}
use Rattle.missing_round.specs.Words.{frame_total}
use Rattle.group_plan.specs.declared.Kind.{Kind}
use Rattle.group_plan.specs.declared.Kind.TheVariants.{Reading, Answer}
use Rattle.group_plan.specs.Plans.{PlanView, members, floor_of}
use Rattle.event_schedule.specs.Events.{is_tag}
use Rattle.head_end.specs.declared.answers.Logged.{Logged}
use Rattle.head_end.specs.declared.answers.Logged.TheVariants.{Took, Passed}

-- ---- ticks

-- whether the line is a tick
abbrev pub is_tick : Logged → Bool
is_tick (Took f) = false
is_tick Passed = true

-- how many ticks have passed
unfoldable pub passed : List Logged → ℕ
passed journal = count_by is_tick journal

-- the ticks of a plan: after them every round has ended
abbrev pub all_ticks : PlanView → ℕ
all_ticks plan = plan.rounds + plan.w1 + plan.w2

-- round r closes in tick r + w1
abbrev pub is_closed : PlanView → List Logged → ℕ → Bool
is_closed plan journal r = nat_lt (r + plan.w1) (passed journal)

-- and ends in tick r + w1 + w2
abbrev pub is_ended : PlanView → List Logged → ℕ → Bool
is_ended plan journal r = nat_lt (r + plan.w1 + plan.w2) (passed journal)

-- ---- frames

-- whether the line is the frame of a place and kind
abbrev pub is_frame : ℕ → ℕ → Kind → ℕ → Logged → Bool
is_frame g r kind i (Took f) = is_tag g r i kind f.tag
is_frame g r kind i Passed = false

-- whether a frame of meter i was taken
unfoldable pub is_taken : ℕ → ℕ → Kind → List Logged → ℕ → Bool
is_taken g r kind journal i = list_any (is_frame g r kind i) journal

-- the word of a line's frame
abbrev pub word_in : Logged → ℕ
word_in (Took f) = f.word
word_in Passed = 0

-- the word of that frame, 0 where none was taken
unfoldable pub word_taken : ℕ → ℕ → Kind → List Logged → ℕ → ℕ
word_taken g r kind [] i = 0
word_taken g r kind (l ∷ ls) i = if is_frame g r kind i l then word_in l else word_taken g r kind ls i

-- ---- rounds

-- the survivors: the members whose reading was taken
abbrev pub survivors : PlanView → List Logged → ℕ → ℕ → List ℕ
survivors plan journal g r = filter (is_taken g r Reading journal) (members plan.groups g r)

-- the missing set: the other members
abbrev pub missing : PlanView → List Logged → ℕ → ℕ → List ℕ
missing plan journal g r = filter (λ i. not (is_taken g r Reading journal i)) (members plan.groups g r)

-- whether the survivors are as many as the floor asks
abbrev pub reaches_floor : PlanView → List Logged → ℕ → ℕ → Bool
reaches_floor plan journal g r = nat_le (floor_of plan.groups g) (length (survivors plan journal g r))

-- a closed round is announced where its survivors reach the floor
abbrev pub is_announced : PlanView → List Logged → ℕ → ℕ → Bool
is_announced plan journal g r = is_closed plan journal r && reaches_floor plan journal g r

-- the survivors whose answer was not taken
abbrev pub lacking : PlanView → List Logged → ℕ → ℕ → List ℕ
lacking plan journal g r = filter (λ i. not (is_taken g r Answer journal i)) (survivors plan journal g r)

-- the sum of the survivors' reading words less the sum of their answer words, modulo 2^64
abbrev pub total : List Logged → ℕ → ℕ → List ℕ → ℕ
total journal g r meters = frame_total (word_taken g r Reading journal) (word_taken g r Answer journal) meters
