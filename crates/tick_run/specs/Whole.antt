-- A run between ticks, as a value.
use Rattle.std.specs.Prelude.{◌≡◌, ℕ, ◌+◌, List, [], ◌++◌, length}
use Rattle.missing_round.specs.Masks.{Masks}
use Rattle.group_plan.specs.Tables.{ReadingsView, presence_of}
use Rattle.plan_meters.specs.Meters.{AreOfGroup}
use Rattle.event_schedule.specs.declared.Entry.{Entry}
use Rattle.event_schedule.specs.Events.{lines_of}
use Rattle.event_schedule.specs.Transcripts.{TranscriptView}
use Rattle.tick_run.specs.declared.running.Group.{Group}
use Rattle.tick_run.specs.declared.running.Running.{Running}
use Rattle.shared_book.specs.declared.parts.SharedBook.{SharedBook}
use Rattle.shared_book.specs.declared.parts.Pass.{Pass}
use Rattle.shared_book.specs.Ends.{opening, view, IsPassOf}
use Rattle.shared_book.specs.Passes.{new_pass}
use Rattle.tick_run.specs.ByGroups.{AllStand, AreWhole}
use Rattle.tick_run.specs.GroupRuns.{past_in}
use Rattle.tick_run.specs.Sharing.{leading}

-- a run's shared book was opened with no line, and a pass was split from its first one for each of so many groups
pub record IsShared (readings : ReadingsView) (book : SharedBook) (first : Pass) : Type 0 where
  pub presence : (opening book).presence ≡ presence_of readings
  pub empty : (opening book).journal ≡ []
  pub pass : IsPassOf book first
  pub leads : view first ≡ leading (length readings.plan.groups)

-- the ticks before tick t of a run of these readings are made: its entries are of all groups, the journal has their lines, and each group stands by its part of them,
-- whose lines its pass has made in the history of the shared book
pub record RunsAt (readings : ReadingsView) (m : Masks) (t : ℕ) (run : Running) : Type 0 where
  pub shared : IsShared readings run.shared run.first
  pub plan : run.transcript.plan ≡ readings.plan
  pub journal : run.journal.items ≡ lines_of run.transcript.entries
  pub whole : AreWhole (length readings.plan.groups) t run.transcript.entries
  pub stand : AllStand run.shared readings m t run.transcript.entries run.groups.items

-- group g before the first tick: its pass has seen and made nothing, its meters have read nothing, and nothing was sent
pub record IsFirst (book : SharedBook) (readings : ReadingsView) (g : ℕ) (it : Group) : Type 0 where
  pub number : it.number ≡ g
  pub pass : IsPassOf book it.pass
  pub new : view it.pass ≡ new_pass (g + 1) []
  pub meters : AreOfGroup (presence_of readings) (past_in []) 0 g it.work.meters.meters.items
  pub link : it.work.link ≡ []
  pub frames : it.work.frames.items ≡ []
  pub fates : it.work.fates.items ≡ []

-- the transcript with some more entries
pub record Extends (before after : TranscriptView) : Type 0 where
  pub more : List Entry
  pub is : after ≡ record before { entries = before.entries ++ more }
