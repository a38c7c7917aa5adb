-- A run as a value, between its ticks.
use Rattle.std.specs.Prelude.{◌≡◌, ℕ, ◌+◌, ◌<◌, ◌≤◌, List, [], ◌++◌}
use Rattle.missing_round.specs.Masks.{Masks}
use Rattle.group_plan.specs.Plans.{PlanView, last_tick}
use Rattle.group_plan.specs.Tables.{ReadingsView}
use Rattle.link_lanes.specs.declared.Post.{Post}
use Rattle.link_lanes.specs.Lanes.{Slot}
use Rattle.event_schedule.specs.declared.Entry.{Entry}
use Rattle.event_schedule.specs.Transcripts.{TranscriptView}
use Rattle.plan_meters.specs.Hidden.{IsOfOnePlan}
use Rattle.tick_run.specs.declared.context.Context.{Context}
use Rattle.tick_run.specs.declared.running.Running.{Running}
use Rattle.tick_run.specs.GroupRuns.{script_of}
use Rattle.tick_run.specs.Sending.{KeptFates}
use Rattle.tick_run.specs.Whole.{RunsAt}

-- a run of these readings under the words of these masks: the tick that comes next, and the entries so far
pub record RunView (M : Type 0) : Type 0 where
  pub readings : ReadingsView
  pub masks : M
  pub tick : ℕ
  pub entries : List Entry

-- before its first tick
abbrev pub before_ticks : {M : Type 0} → ReadingsView → M → RunView M
before_ticks readings masks = record { readings = readings; masks = masks; tick = 0; entries = [] }

-- so many more ticks are made: their entries stand behind those before
pub record MakesTicks {M : Type 0} (count : ℕ) (before after : RunView M) : Type 0 where
  pub more : List Entry
  pub is : after ≡ record before { tick = before.tick + count; entries = before.entries ++ more }

-- all of its ticks are made
abbrev pub IsOver : {M : Type 0} → RunView M → Type 0
IsOver run = run.tick ≡ last_tick run.readings.plan + 1

-- its frames met the fates that the lanes `first` give; these lanes hang now, and these posts have passed
abbrev pub HaveMet : {M : Type 0} → List Slot → RunView M → List Slot → List Post → Type 0
HaveMet first run lanes posts = KeptFates first run.tick run.entries lanes posts

-- the transcript so far
abbrev pub told_by : {M : Type 0} → RunView M → TranscriptView
told_by run = script_of run.readings run.entries

-- what never changes in a run: what the meters have is of one plan, and there are threads
pub record IsOfRun {R M G : Type 0} (plan_of : M → PlanView) (words_of : M → Masks) (context : Context R M G) : Type 0 where
  pub known : IsOfOnePlan plan_of words_of context.known
  pub some : 0 < context.threads

-- a run before this tick, which is at most one beyond the last: all of its groups stand there
pub record IsRun {R M G : Type 0} (plan_of : M → PlanView) (words_of : M → Masks) (context : Context R M G) (running : Running) (tick : ℕ) : Type 0 where
  pub of : IsOfRun plan_of words_of context
  pub within : tick ≤ last_tick context.known.readings.now.plan + 1
  pub runs : RunsAt context.known.readings.now (words_of context.known.masks.now) tick running
