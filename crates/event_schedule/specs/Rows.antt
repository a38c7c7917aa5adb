-- Worked rows: one group of three meters with floor 2, and what its schedules give.
use Rattle.std.specs.Prelude.{ℕ, zero, suc, ◌+◌, ◌-◌, ◌*◌, ◌^◌, List, [], ◌∷◌, ◌++◌, map, Some, None, codes}
use Rattle.group_plan.specs.declared.Kind.{Kind}
use Rattle.group_plan.specs.declared.Kind.TheVariants.{Reading, Announcement, Answer}
use Rattle.group_plan.specs.declared.Tag.{Tag}
use Rattle.group_plan.specs.Plans.{Rounds, Group}
use Rattle.round_machine.specs.declared.Verdict.{Verdict}
use Rattle.round_machine.specs.declared.Verdict.TheVariants.{Fresh, Again, Late, Void}
use Rattle.round_machine.specs.declared.Closing.TheVariants.{Announced, Thin as ThinClosing, Already as AlreadyClosed}
use Rattle.round_machine.specs.declared.Ending.TheVariants.{Total, Lacking, Thin, Already, NotClosed}
use Rattle.event_schedule.specs.declared.Event.{Event}
use Rattle.event_schedule.specs.declared.Event.TheVariants.{Send, Take, Close, End}
use Rattle.event_schedule.specs.declared.Line.{Line}
use Rattle.event_schedule.specs.declared.Line.TheVariants.{Send as SendLine, Take as TakeLine, Close as CloseLine, End as EndLine}
use Rattle.event_schedule.specs.Tables.{Readings, Masks}

-- ---- the plan, the readings and the masks

-- a meter that is a member in rounds 0 and 1
abbrev pub always : Rounds
always = record { from = 0; until = 2 }

-- three meters, members in both rounds
abbrev pub three : List Group
three = record { name = codes "north"; floor = 2; spans = always ∷ always ∷ always ∷ [] } ∷ []

-- the same, but meter 2 joins in round 1
abbrev pub joining : List Group
joining = record { name = codes "north"; floor = 2; spans = always ∷ always ∷ record { from = 1; until = 2 } ∷ [] } ∷ []

-- the readings of three meters, the same in each round
abbrev pub readings_of : ℕ → ℕ → ℕ → Readings
readings_of a b c g r zero = Some a
readings_of a b c g r (suc zero) = Some b
readings_of a b c g r (suc (suc i)) = Some c

-- 10, 20 and 30 watt-hours
abbrev pub readings : Readings
readings = readings_of 10 20 30

-- 10 and 20 in round 0, where meter 2 has none, and 1, 2, 3 in round 1
abbrev pub joining_readings : Readings
joining_readings g zero (suc (suc i)) = None
joining_readings g zero i = readings g zero i
joining_readings g (suc r) i = readings_of 1 2 3 g r i

-- the own words 100, 200, 300, and the pair words 5 of meters 0 and 1, 7 of 0 and 2, 11 of 1 and 2
abbrev pub pair_words : ℕ → ℕ → ℕ → ℕ → ℕ
pair_words g r zero (suc zero) = 5
pair_words g r zero j = 7
pair_words g r i j = 11

abbrev pub masks : Masks
masks = record { own = λ g r i. 100 * (i + 1); pair = pair_words }

-- ---- events and lines of a round of this group

abbrev pub tag : ℕ → Kind → ℕ → Tag
tag r kind i = record { group = 0; round = r; meter = i; kind = kind }

abbrev pub sends : ℕ → Kind → List ℕ → List Event
sends r kind meters = map (λ i. Send (tag r kind i)) meters

abbrev pub takes : ℕ → Kind → List ℕ → List Event
takes r kind meters = map (λ i. Take (tag r kind i)) meters

abbrev pub all : List ℕ
all = 0 ∷ 1 ∷ 2 ∷ []

abbrev pub first_two : List ℕ
first_two = 0 ∷ 1 ∷ []

-- a Send with its frame, and a void one
abbrev pub sent : ℕ → Kind → List ℕ → ℕ → ℕ → Line
sent r kind missing i word = SendLine (tag r kind i) (Some (record { tag = tag r kind i; missing = missing; word = word }))

abbrev pub not_sent : ℕ → Kind → ℕ → Line
not_sent r kind i = SendLine (tag r kind i) None

-- Takes with one verdict
abbrev pub took : ℕ → Kind → Verdict → List ℕ → List Line
took r kind v meters = map (λ i. TakeLine (tag r kind i) v) meters

-- announcements to these meters
abbrev pub announced_to : ℕ → List ℕ → List ℕ → List Line
announced_to r missing meters = map (λ i. sent r Announcement missing i 0) meters

-- ---- three_meters_total_60: every frame arrives

abbrev pub whole : List Event
whole =
    sends 0 Reading all ++ takes 0 Reading all ++ Close 0 0 ∷ []
    ++ sends 0 Announcement all ++ takes 0 Announcement all ++ sends 0 Answer all ++ takes 0 Answer all ++ End 0 0 ∷ []

abbrev pub whole_lines : List Line
whole_lines =
    sent 0 Reading [] 0 122 ∷ sent 0 Reading [] 1 226 ∷ sent 0 Reading [] 2 312 ∷ []
    ++ took 0 Reading Fresh all ++ CloseLine 0 0 (Announced []) ∷ []
    ++ announced_to 0 [] all ++ took 0 Announcement Fresh all
    ++ sent 0 Answer [] 0 100 ∷ sent 0 Answer [] 1 200 ∷ sent 0 Answer [] 2 300 ∷ []
    ++ took 0 Answer Fresh all ++ EndLine 0 0 (Total 60) ∷ []

-- ---- late_reading_left_out: the reading of meter 2 is taken after the Close; a Send of its answer is void

abbrev pub late : List Event
late =
    sends 0 Reading all ++ takes 0 Reading first_two ++ Close 0 0 ∷ [] ++ takes 0 Reading all
    ++ sends 0 Announcement all ++ takes 0 Announcement first_two ++ sends 0 Answer all ++ takes 0 Answer first_two ++ End 0 0 ∷ []

abbrev pub late_lines : List Line
late_lines =
    sent 0 Reading [] 0 122 ∷ sent 0 Reading [] 1 226 ∷ sent 0 Reading [] 2 312 ∷ []
    ++ took 0 Reading Fresh first_two ++ CloseLine 0 0 (Announced (2 ∷ [])) ∷ took 0 Reading Again first_two ++ took 0 Reading Late (2 ∷ [])
    ++ announced_to 0 (2 ∷ []) first_two ++ not_sent 0 Announcement 2 ∷ took 0 Announcement Fresh first_two
    ++ sent 0 Answer (2 ∷ []) 0 107 ∷ sent 0 Answer (2 ∷ []) 1 211 ∷ not_sent 0 Answer 2 ∷ []
    ++ took 0 Answer Fresh first_two ++ EndLine 0 0 (Total 30) ∷ []

-- ---- lost_answer_gives_none: the answer of meter 1 is sent and comes after the End

abbrev pub unanswered : List Event
unanswered =
    sends 0 Reading all ++ takes 0 Reading all ++ Close 0 0 ∷ [] ++ sends 0 Announcement all ++ takes 0 Announcement all
    ++ sends 0 Answer all ++ takes 0 Answer (0 ∷ 2 ∷ []) ++ End 0 0 ∷ takes 0 Answer first_two

abbrev pub unanswered_end : List Line
unanswered_end =
    took 0 Answer Fresh (0 ∷ 2 ∷ []) ++ EndLine 0 0 (Lacking (1 ∷ [])) ∷ took 0 Answer Again (0 ∷ []) ++ took 0 Answer Late (1 ∷ [])

-- ---- lost_announcement_gives_none: meter 1 takes its announcement only after the End, and answers then

abbrev pub deaf : List Event
deaf =
    sends 0 Reading all ++ takes 0 Reading all ++ Close 0 0 ∷ [] ++ sends 0 Announcement all ++ takes 0 Announcement (0 ∷ 2 ∷ [])
    ++ sends 0 Answer all ++ takes 0 Answer (0 ∷ 2 ∷ []) ++ End 0 0 ∷ []

abbrev pub deaf_end : List Line
deaf_end =
    sent 0 Answer [] 0 100 ∷ not_sent 0 Answer 1 ∷ sent 0 Answer [] 2 300 ∷ []
    ++ took 0 Answer Fresh (0 ∷ 2 ∷ []) ++ EndLine 0 0 (Lacking (1 ∷ [])) ∷ []

abbrev pub waking : List Event
waking = takes 0 Announcement (1 ∷ []) ++ sends 0 Answer (1 ∷ []) ++ takes 0 Answer (1 ∷ [])

abbrev pub waking_lines : List Line
waking_lines = took 0 Announcement Fresh (1 ∷ []) ++ sent 0 Answer [] 1 200 ∷ took 0 Answer Late (1 ∷ [])

-- ---- book_call_by_call: an End before the Close, a Take before the Send, and a thin round

abbrev pub calls : List Event
calls =
    End 0 0 ∷ takes 0 Reading (0 ∷ []) ++ sends 0 Reading (0 ∷ []) ++ takes 0 Reading (0 ∷ 0 ∷ [])
    ++ Close 0 0 ∷ Close 0 0 ∷ sends 0 Announcement (0 ∷ []) ++ End 0 0 ∷ End 0 0 ∷ []

abbrev pub call_lines : List Line
call_lines =
    EndLine 0 0 NotClosed ∷ took 0 Reading Void (0 ∷ []) ++ sent 0 Reading [] 0 122 ∷ took 0 Reading Fresh (0 ∷ []) ++ took 0 Reading Again (0 ∷ [])
    ++ CloseLine 0 0 (ThinClosing (1 ∷ 2 ∷ [])) ∷ CloseLine 0 0 AlreadyClosed ∷ not_sent 0 Announcement 0 ∷ EndLine 0 0 Thin ∷ EndLine 0 0 Already ∷ []

-- ---- meter_joins_in_round_1: two members in round 0 and three in round 1

abbrev pub joining_round : ℕ → List ℕ → List Event
joining_round r meters =
    sends r Reading all ++ takes r Reading all ++ Close 0 r ∷ []
    ++ sends r Announcement meters ++ takes r Announcement meters ++ sends r Answer meters ++ takes r Answer meters ++ End 0 r ∷ []

abbrev pub joining_lines_0 : List Line
joining_lines_0 =
    sent 0 Reading [] 0 115 ∷ sent 0 Reading [] 1 215 ∷ not_sent 0 Reading 2 ∷ []
    ++ took 0 Reading Fresh first_two ++ took 0 Reading Void (2 ∷ []) ++ CloseLine 0 0 (Announced []) ∷ []
    ++ announced_to 0 [] first_two ++ took 0 Announcement Fresh first_two
    ++ sent 0 Answer [] 0 100 ∷ sent 0 Answer [] 1 200 ∷ took 0 Answer Fresh first_two ++ EndLine 0 0 (Total 30) ∷ []

abbrev pub joining_lines_1 : List Line
joining_lines_1 =
    sent 1 Reading [] 0 113 ∷ sent 1 Reading [] 1 208 ∷ sent 1 Reading [] 2 285 ∷ []
    ++ took 1 Reading Fresh all ++ CloseLine 0 1 (Announced []) ∷ []
    ++ announced_to 1 [] all ++ took 1 Announcement Fresh all
    ++ sent 1 Answer [] 0 100 ∷ sent 1 Answer [] 1 200 ∷ sent 1 Answer [] 2 300 ∷ took 1 Answer Fresh all ++ EndLine 0 1 (Total 6) ∷ []

-- ---- lines by their frames alone: the whole round, with the word of the first reading raised and this total at the End

abbrev pub raised : ℕ → ℕ → List Line
raised more total =
    sent 0 Reading [] 0 (122 + more) ∷ sent 0 Reading [] 1 226 ∷ sent 0 Reading [] 2 312 ∷ []
    ++ took 0 Reading Fresh all ++ CloseLine 0 0 (Announced []) ∷ []
    ++ announced_to 0 [] all ++ took 0 Announcement Fresh all
    ++ sent 0 Answer [] 0 100 ∷ sent 0 Answer [] 1 200 ∷ sent 0 Answer [] 2 300 ∷ []
    ++ took 0 Answer Fresh all ++ EndLine 0 0 (Total total) ∷ []

-- what three readings can be at most
abbrev pub most : ℕ
most = 3 * (2 ^ 40 - 1)

-- a reading of meter 2, which is no member of round 0
abbrev pub frame_of_no_member : List Line
frame_of_no_member = sent 0 Reading [] 2 1 ∷ []
