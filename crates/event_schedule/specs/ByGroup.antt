-- Events and lines cut by groups.
use Rattle.std.specs.Prelude.{ℕ, ◌==◌, List, filter}
use Rattle.event_schedule.specs.declared.Event.{Event}
use Rattle.event_schedule.specs.declared.Event.TheVariants.{Send, Take, Close, End}
use Rattle.event_schedule.specs.declared.Line.{Line}
use Rattle.event_schedule.specs.Events.{event_of}

-- the group of an event
abbrev pub group_of : Event → ℕ
group_of (Send tag) = tag.group
group_of (Take tag) = tag.group
group_of (Close g r) = g
group_of (End g r) = g

-- the events of a group among these, in their order
abbrev pub events_in : ℕ → List Event → List Event
events_in g events = filter (λ e. group_of e == g) events

-- the lines of a group among these, in their order
abbrev pub lines_in : ℕ → List Line → List Line
lines_in g lines = filter (λ l. group_of (event_of l) == g) lines
