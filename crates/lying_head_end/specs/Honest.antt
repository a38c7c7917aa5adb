-- Honest schedules: the head end tells a meter the missing set of the round, and nothing else. `past` has the events before a moment, the
-- newest first.
use Rattle.std.specs.Prelude.{◌↔◌, ℕ, List, [], ◌∷◌, ◌++◌, reverse, if◌then◌else◌}
use Rattle.group_plan.specs.declared.Kind.{Kind}
use Rattle.group_plan.specs.declared.Kind.TheVariants.{Reading, Announcement, Answer}
use Rattle.group_plan.specs.Plans.{Group}
use Rattle.event_schedule.specs.declared.Event.{Event}
use Rattle.event_schedule.specs.declared.Event.TheVariants.{Send}
use Rattle.event_schedule.specs.Schedule.{Shape, is_announcement_taken, missing}
use Rattle.event_schedule.specs.Tables.{Readings}
use Rattle.event_schedule.specs.Transcript.{shape_of_readings}
use Rattle.ideal_masks.specs.Pools.{Pool}
use Rattle.ideal_masks.specs.Offsets.{AgreeFor}
use Rattle.lying_head_end.specs.Acts.{Act, Read, Tell}
use Rattle.lying_head_end.specs.Offsets.{AgreeTold}

-- the act that a Send makes of a meter: it reads, or it answers the missing set of the round, once it took its announcement
abbrev pub act_sent : Shape → Kind → ℕ → ℕ → ℕ → List Event → List Act
act_sent s Reading g r i past = Read g r i ∷ []
act_sent s Announcement g r i past = []
act_sent s Answer g r i past = if is_announcement_taken s g r i past then Tell g r i (missing s g r past) ∷ [] else []

-- the act of an event, where it is one
abbrev pub acts_of : Shape → List Event → Event → List Act
acts_of s past (Send tag) = act_sent s tag.kind tag.group tag.round tag.meter past
acts_of s past _ = []

-- the acts that the events of a past are
abbrev pub acts_in : Shape → List Event → List Act
acts_in s [] = []
acts_in s (e ∷ past) = acts_of s past e ++ acts_in s past

-- on an honest schedule tables agree before a head end that lies exactly where they agree
abbrev pub HonestAgree : Type 0
HonestAgree = (pool : Pool) (groups : List Group) (x y : Readings) (events : List Event) →
    AgreeFor pool groups x y (reverse events) ↔ AgreeTold pool groups x y (acts_in (shape_of_readings groups x) (reverse events))
