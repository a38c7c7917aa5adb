-- What happens to a head end and to the meters of a plan that stand apart, as a list with the newest first; the journals and the
-- schedule that it makes.
use Rattle.std.specs.Prelude.{◌≡◌, ◌⊎◌, ℕ, ◌+◌, ◌==◌, ◌&&◌, if◌then◌else◌, List, [], ◌∷◌, ◌++◌, length, map, Option, Some, None}
use Rattle.std.specs.List.{range_with_len}
use Rattle.group_plan.specs.declared.Kind.TheVariants.{Announcement}
use Rattle.group_plan.specs.declared.Tag.{Tag}
use Rattle.group_plan.specs.Plans.{PlanView}
use Rattle.meter_frames.specs.declared.Frame.{Frame}
use Rattle.event_schedule.specs.declared.Event.{Event}
use Rattle.event_schedule.specs.declared.Event.TheVariants.{Send, Take, Close, End}
use Rattle.event_schedule.specs.Tables.{Readings}
use Rattle.head_end.specs.declared.answers.Logged.{Logged}
use Rattle.head_end.specs.declared.answers.Logged.TheVariants.{Took, Passed}
use Rattle.head_end.specs.Journal.{passed}
use Rattle.head_end.specs.Lines.{round_before}
use Rattle.meter_apart.specs.declared.answers.Noted.{Noted}
use Rattle.meter_apart.specs.declared.answers.Noted.TheVariants.{Read, Kept}
use Rattle.meter_apart.specs.Journal.{marked}

-- a line of the head end's journal, a line of a meter's, or a frame that one of them says
pub data Happening : Type 0 where
  Headed : (line : Logged) → Happening
  Noticed : (g i : ℕ) (line : Noted) → Happening
  Said : (frame : Frame) → Happening

-- ---- the journals

-- the journal of the head end
abbrev pub head_journal : List Happening → List Logged
head_journal [] = []
head_journal (Headed line ∷ before) = head_journal before ++ line ∷ []
head_journal (Noticed g i line ∷ before) = head_journal before
head_journal (Said frame ∷ before) = head_journal before

-- the journal of meter i of group g
abbrev pub meter_journal : ℕ → ℕ → List Happening → List Noted
meter_journal g i [] = []
meter_journal g i (Headed line ∷ before) = meter_journal g i before
meter_journal g i (Noticed h j line ∷ before) = if (h == g) && (j == i) then meter_journal g i before ++ line ∷ [] else meter_journal g i before
meter_journal g i (Said frame ∷ before) = meter_journal g i before

-- the frame was said
abbrev pub WasSaid : Frame → List Happening → Type 0
WasSaid f [] = ⊥
WasSaid f (h ∷ before) = (h ≡ Said f) ⊎ WasSaid f before

-- the readings that the meters have marked
abbrev pub marks : List Happening → Readings
marks log g r i = marked (meter_journal g i log) r

-- ---- the schedule

-- the past after these events came, in order
abbrev pub and_then : List Event → List Event → List Event
and_then past [] = past
and_then past (e ∷ rest) = and_then (e ∷ past) rest

-- an event of each group in a round, where there is one
abbrev pub of_groups : PlanView → (ℕ → ℕ → Event) → Option ℕ → List Event
of_groups plan event None = []
of_groups plan event (Some r) = map (λ g. event g r) (range_with_len 0 (length plan.groups))

-- the Ends and the Closes of tick t
abbrev pub ends : PlanView → ℕ → List Event
ends plan t = of_groups plan End (round_before plan.rounds (plan.w1 + plan.w2) t)

abbrev pub closes : PlanView → ℕ → List Event
closes plan t = of_groups plan Close (round_before plan.rounds plan.w1 t)

-- the tag of an announcement
abbrev pub told_tag : ℕ → ℕ → ℕ → Tag
told_tag g r i = record { group = g; round = r; meter = i; kind = Announcement }

-- the events of what happens after a log
abbrev pub events : PlanView → List Happening → Happening → List Event
events plan before (Headed (Took f)) = Take f.tag ∷ []
events plan before (Headed Passed) = ends plan (passed (head_journal before)) ++ closes plan (passed (head_journal before))
events plan before (Noticed g i (Read r reading)) = []
events plan before (Noticed g i (Kept r set)) = Take (told_tag g r i) ∷ []
events plan before (Said f) = Send f.tag ∷ []

-- all events, the newest first
abbrev pub past : PlanView → List Happening → List Event
past plan [] = []
past plan (h ∷ before) = and_then (past plan before) (events plan before h)
