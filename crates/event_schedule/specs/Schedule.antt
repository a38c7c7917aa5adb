-- What a schedule of events makes of each round. Each definition reads the past: the events before a moment, the newest first.
-- The order is reading, Close, announcement, answer, End; each is defined by those before it.
use Rattle.std.specs.Prelude.{ℕ, nat_le, Bool, false, not, ◌&&◌, List, length, filter, slice_get, if◌then◌else◌}
use Rattle.std.specs.List.{list_all}
use Rattle.group_plan.specs.declared.Kind.{Kind}
use Rattle.group_plan.specs.declared.Kind.TheVariants.{Reading, Announcement, Answer}
use Rattle.group_plan.specs.Plans.{Group, floor_or, members}
use Rattle.group_plan.specs.Tables.{PresenceView, is_present}
use Rattle.round_machine.specs.declared.Verdict.{Verdict}
use Rattle.round_machine.specs.declared.Verdict.TheVariants.{Fresh, Again, Late, Void}
use Rattle.round_machine.specs.declared.Closing.{Closing}
use Rattle.round_machine.specs.declared.Closing.TheVariants.{Announced, Thin, Already}
use Rattle.event_schedule.specs.declared.Event.{Event}
use Rattle.event_schedule.specs.declared.Event.TheVariants.{Send, Take, Close, End}
use Rattle.event_schedule.specs.Events.{is_send, is_take, is_close, is_end, once}

-- all that a schedule's meaning depends on besides its events: the groups, and who has a reading
pub record Shape : Type 0 where
  pub groups : List Group
  pub present : ℕ → ℕ → ℕ → Bool

-- the shape of a plan and a presence of it
abbrev pub shape_of_presence : PresenceView → Shape
shape_of_presence p = record { groups = p.plan.groups; present = is_present p.table }

-- the members of a round, and the floor of a group (0 outside the plan)
abbrev pub members_of : Shape → ℕ → ℕ → List ℕ
members_of s g r = members s.groups g r

abbrev pub floor_of : Shape → ℕ → ℕ
floor_of s g = floor_or (slice_get s.groups g)

-- ---- the reading and the Close

-- a Close of the round came: the first one is effective
abbrev pub is_closed : ℕ → ℕ → List Event → Bool
is_closed g r past = once (λ e before. is_close g r e) past

-- an effective Send of the reading: the reading is present
abbrev pub is_reading_sent : Shape → ℕ → ℕ → ℕ → List Event → Bool
is_reading_sent s g r i past = once (λ e before. is_send g r i Reading e && s.present g r i) past

-- the reading was taken: an effective Take of it came before any Close
abbrev pub is_reading_taken : Shape → ℕ → ℕ → ℕ → List Event → Bool
is_reading_taken s g r i past =
    once (λ e before. is_take g r i Reading e && is_reading_sent s g r i before && not (is_closed g r before)) past

-- A, the survivors: the members whose reading was taken
abbrev pub survivors : Shape → ℕ → ℕ → List Event → List ℕ
survivors s g r past = filter (λ i. is_reading_taken s g r i past) (members_of s g r)

-- M, the missing set: the other members
abbrev pub missing : Shape → ℕ → ℕ → List Event → List ℕ
missing s g r past = filter (λ i. not (is_reading_taken s g r i past)) (members_of s g r)

-- ---- the announcement

abbrev pub reaches_floor : Shape → ℕ → ℕ → List Event → Bool
reaches_floor s g r past = nat_le (floor_of s g) (length (survivors s g r past))

-- a closed round is announced where its survivors reach the floor, and thin otherwise
abbrev pub is_announced : Shape → ℕ → ℕ → List Event → Bool
is_announced s g r past = is_closed g r past && reaches_floor s g r past

-- a Send of the announcement to this meter is effective now: the round is announced and the meter is a survivor
abbrev pub may_announce : Shape → ℕ → ℕ → ℕ → List Event → Bool
may_announce s g r i past = is_announced s g r past && is_reading_taken s g r i past

-- an effective Send of the announcement
abbrev pub is_announcement_sent : Shape → ℕ → ℕ → ℕ → List Event → Bool
is_announcement_sent s g r i past = once (λ e before. is_send g r i Announcement e && may_announce s g r i before) past

-- the announcement was taken: an announcement is never late
abbrev pub is_announcement_taken : Shape → ℕ → ℕ → ℕ → List Event → Bool
is_announcement_taken s g r i past = once (λ e before. is_take g r i Announcement e && is_announcement_sent s g r i before) past

-- ---- the answer and the End

-- an effective Send of the answer: the meter took its announcement before
abbrev pub is_answer_sent : Shape → ℕ → ℕ → ℕ → List Event → Bool
is_answer_sent s g r i past = once (λ e before. is_send g r i Answer e && is_announcement_taken s g r i before) past

-- an effective End: a Close came before it
abbrev pub is_ended : ℕ → ℕ → List Event → Bool
is_ended g r past = once (λ e before. is_end g r e && is_closed g r before) past

-- the answer was taken: an effective Take of it came before any effective End
abbrev pub is_answer_taken : Shape → ℕ → ℕ → ℕ → List Event → Bool
is_answer_taken s g r i past =
    once (λ e before. is_take g r i Answer e && is_answer_sent s g r i before && not (is_ended g r before)) past

-- B, the answered: the survivors that sent their answer, whether or not it arrived
abbrev pub answered : Shape → ℕ → ℕ → List Event → List ℕ
answered s g r past = filter (λ i. is_answer_sent s g r i past) (survivors s g r past)

-- B is A
abbrev pub all_answered : Shape → ℕ → ℕ → List Event → Bool
all_answered s g r past = list_all (λ i. is_answer_sent s g r i past) (survivors s g r past)

-- C is A, where C are the survivors whose answer was taken
abbrev pub all_taken : Shape → ℕ → ℕ → List Event → Bool
all_taken s g r past = list_all (λ i. is_answer_taken s g r i past) (survivors s g r past)

-- the survivors that are not in C
abbrev pub lacking : Shape → ℕ → ℕ → List Event → List ℕ
lacking s g r past = filter (λ i. not (is_answer_taken s g r i past)) (survivors s g r past)

-- an announced round is opened where B is A, and published where besides it has ended and C is A
abbrev pub is_opened : Shape → ℕ → ℕ → List Event → Bool
is_opened s g r past = is_announced s g r past && all_answered s g r past

abbrev pub is_published : Shape → ℕ → ℕ → List Event → Bool
is_published s g r past = is_opened s g r past && is_ended g r past && all_taken s g r past

-- ---- what a round comes to

-- not ended yet; ended thin; published with its survivors and their total; or ended with these survivors' answers lacking
pub data Outcome : Type 0 where
  Running : Outcome
  EndedThin : Outcome
  Published : (survivors : List ℕ) (total : ℕ) → Outcome
  Unpublished : (lacking : List ℕ) → Outcome

-- the outcome, where `total` gives the total of a set of meters: the plain sum, or what frames alone give
abbrev pub outcome : Shape → (ℕ → ℕ → List ℕ → ℕ) → ℕ → ℕ → List Event → Outcome
outcome s total g r past =
    if not (is_ended g r past) then Running else
    if not (is_announced s g r past) then EndedThin else
    if is_published s g r past then Published (survivors s g r past) (total g r (survivors s g r past)) else
    Unpublished (lacking s g r past)

-- ---- by kind

-- a Send of this kind is effective now
abbrev pub may_send : Shape → Kind → ℕ → ℕ → ℕ → List Event → Bool
may_send s Reading g r i past = s.present g r i
may_send s Announcement g r i past = may_announce s g r i past
may_send s Answer g r i past = is_announcement_taken s g r i past

-- an effective Send came before, so a Take is effective now
abbrev pub is_sent : Shape → Kind → ℕ → ℕ → ℕ → List Event → Bool
is_sent s Reading g r i past = is_reading_sent s g r i past
is_sent s Announcement g r i past = is_announcement_sent s g r i past
is_sent s Answer g r i past = is_answer_sent s g r i past

-- an effective Take came before and in time
abbrev pub is_taken : Shape → Kind → ℕ → ℕ → ℕ → List Event → Bool
is_taken s Reading g r i past = is_reading_taken s g r i past
is_taken s Announcement g r i past = is_announcement_taken s g r i past
is_taken s Answer g r i past = is_answer_taken s g r i past

-- a Take comes too late now: a reading after the Close, an answer after the End, an announcement never
abbrev pub is_late : Kind → ℕ → ℕ → List Event → Bool
is_late Reading g r past = is_closed g r past
is_late Announcement g r past = false
is_late Answer g r past = is_ended g r past

-- the event is effective now; every other event is void
abbrev pub is_effective : Shape → Event → List Event → Bool
is_effective s (Send tag) past = may_send s tag.kind tag.group tag.round tag.meter past
is_effective s (Take tag) past = is_sent s tag.kind tag.group tag.round tag.meter past
is_effective s (Close g r) past = not (is_closed g r past)
is_effective s (End g r) past = is_closed g r past && not (is_ended g r past)

-- ---- verdicts and closings

-- an effective Take came before
abbrev pub has_effective_take : Shape → Kind → ℕ → ℕ → ℕ → List Event → Bool
has_effective_take s kind g r i past = once (λ e before. is_take g r i kind e && is_sent s kind g r i before) past

-- a Take is Fresh now: it is the first effective one, and not too late
abbrev pub is_fresh : Shape → Kind → ℕ → ℕ → ℕ → List Event → Bool
is_fresh s kind g r i past =
    is_sent s kind g r i past && not (has_effective_take s kind g r i past) && not (is_late kind g r past)

-- a Fresh Take came before
abbrev pub has_fresh_take : Shape → Kind → ℕ → ℕ → ℕ → List Event → Bool
has_fresh_take s kind g r i past = once (λ e before. is_take g r i kind e && is_fresh s kind g r i before) past

-- the verdict of a Take now
abbrev pub verdict : Shape → Kind → ℕ → ℕ → ℕ → List Event → Verdict
verdict s kind g r i past =
    if not (is_sent s kind g r i past) then Void else
    if is_fresh s kind g r i past then Fresh else
    if has_fresh_take s kind g r i past then Again else Late

-- the verdict by the table of the protocol: the columns Void, Again and Late in this order, and Fresh otherwise
abbrev pub verdict_by_table : Shape → Kind → ℕ → ℕ → ℕ → List Event → Verdict
verdict_by_table s kind g r i past =
    if not (is_sent s kind g r i past) then Void else
    if is_taken s kind g r i past then Again else
    if is_late kind g r past then Late else Fresh

-- what a Close says now
abbrev pub closing : Shape → ℕ → ℕ → List Event → Closing
closing s g r past =
    if is_closed g r past then Already else
    if reaches_floor s g r past then Announced (missing s g r past) else Thin (missing s g r past)
