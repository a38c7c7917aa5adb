-- Transcripts: a plan and entries that fit it.
use Rattle.std.specs.Prelude.{◌≡◌, ℕ, ◌^◌, ◌<◌, ◌≤◌, IsTrue, List, [], ◌∷◌, ◌++◌, length, map, All, Some, None, Result, Ok, Err}
use Rattle.std.specs.List.{list_all}
use Rattle.missing_round.specs.Sets.{IsSet}
use Rattle.group_plan.specs.declared.tag.Tag.{Tag}
use Rattle.group_plan.specs.Plans.{PlanView, size, is_place, IsWithinLimits}
use Rattle.group_plan.specs.NewPlans.{first_fault, stated}
use Rattle.meter_frames.specs.declared.Frame.{Frame}
use Rattle.meter_frames.specs.Frames.{FitsKind}
use Rattle.round_machine.specs.declared.Closing.{Closing}
use Rattle.round_machine.specs.declared.Closing.TheVariants as closing
use Rattle.round_machine.specs.declared.Ending.{Ending}
use Rattle.round_machine.specs.declared.Ending.TheVariants as ending
use Rattle.link_lanes.specs.Fates.{IsFate}
use Rattle.event_schedule.specs.declared.Line.{Line}
use Rattle.event_schedule.specs.declared.Line.TheVariants.{Send, Take, Close, End}
use Rattle.event_schedule.specs.declared.Entry.{Entry}

-- a plan, and the entries of a run of it
pub record TranscriptView : Type 0 where
  pub plan : PlanView
  pub entries : List Entry

-- ---- what `push` asks of an entry

-- the plan has the tag's group, round and meter
abbrev pub HasPlace : PlanView → Tag → Type 0
HasPlace plan tag = IsTrue (is_place plan tag.group tag.round tag.meter)

-- the plan has this group and round
pub record HasRound (plan : PlanView) (g r : ℕ) : Type 0 where
  pub group : g < length plan.groups
  pub round : r < plan.rounds

-- each member of a set is a meter of a group of n
abbrev pub IsWithin : ℕ → List ℕ → Type 0
IsWithin n set = All (λ i. i < n) set

-- a frame has the tag under which it is sent, what its kind allows, and a set within its group
pub record FitsTag (plan : PlanView) (tag : Tag) (frame : Frame) : Type 0 where
  pub same : frame.tag ≡ tag
  pub fits : FitsKind frame.tag.kind frame.missing frame.word
  pub set : IsWithin (size plan.groups tag.group) frame.missing

-- the missing set of a closing is within a group of n
abbrev pub FitsClosing : ℕ → Closing → Type 0
FitsClosing n (closing.Announced set) = IsWithin n set
FitsClosing n (closing.Thin set) = IsWithin n set
FitsClosing n closing.Already = Unit {0}

-- the lacking set of an ending is within a group of n
abbrev pub FitsEnding : ℕ → Ending → Type 0
FitsEnding n (ending.Lacking set) = IsWithin n set
FitsEnding n _ = Unit {0}

-- the places, the frame and the sets of a line fit the plan, and only a Send with a frame has copies
abbrev pub FitsLine : PlanView → List ℕ → Line → Type 0
FitsLine plan fate (Send tag None) = HasPlace plan tag × (fate ≡ [])
FitsLine plan fate (Send tag (Some frame)) = HasPlace plan tag × FitsTag plan tag frame
FitsLine plan fate (Take tag verdict) = HasPlace plan tag × (fate ≡ [])
FitsLine plan fate (Close g r c) = HasRound plan g r × FitsClosing (size plan.groups g) c × (fate ≡ [])
FitsLine plan fate (End g r e) = HasRound plan g r × FitsEnding (size plan.groups g) e × (fate ≡ [])

abbrev pub Fits : PlanView → Entry → Type 0
Fits plan e = FitsLine plan e.fate e.line

-- the tick of the last of some entries, or the tick before them
abbrev pub last_tick_from : ℕ → List Entry → ℕ
last_tick_from last [] = last
last_tick_from last (e ∷ es) = last_tick_from e.tick es

-- no entry's tick is below that of the one before, nor below this one
abbrev pub NeverFalls : ℕ → List Entry → Type 0
NeverFalls last [] = Unit {0}
NeverFalls last (e ∷ es) = (last ≤ e.tick) × NeverFalls e.tick es

-- ---- what the types of an entry's parts say of them

-- the sets, the word and the total of a line are ones
abbrev pub IsLine : Line → Type 0
IsLine (Send tag (Some frame)) = IsSet frame.missing × (frame.word < 2 ^ 64)
IsLine (Close g r (closing.Announced set)) = IsSet set
IsLine (Close g r (closing.Thin set)) = IsSet set
IsLine (End g r (ending.Total total)) = total < 2 ^ 64
IsLine (End g r (ending.Lacking set)) = IsSet set
IsLine _ = Unit {0}

pub record IsEntry (e : Entry) : Type 0 where
  pub tick : e.tick < 2 ^ 32
  pub fate : IsFate e.fate
  pub line : IsLine e.line

-- ---- transcripts

-- what is true of every plan
pub record IsPlan (plan : PlanView) : Type 0 where
  pub sound : first_fault (map stated plan.groups) plan.rounds plan.w1 plan.w2 ≡ None
  pub limits : IsWithinLimits plan

-- what is true of every transcript
pub record IsTranscript (t : TranscriptView) : Type 0 where
  pub plan : IsPlan t.plan
  pub fit : All (Fits t.plan) t.entries
  pub entries : All IsEntry t.entries
  pub ticks : NeverFalls 0 t.entries

-- the transcript of a plan before its first entry
abbrev pub no_entries : PlanView → TranscriptView
no_entries plan = record { plan = plan; entries = [] }

-- the entry is the last one now; or memory ran out, and nothing has changed
abbrev pub Pushes : {T E : Type 0} → TranscriptView → Entry → Result T E → TranscriptView → Type 0
Pushes old e (Ok _) new = new ≡ record old { entries = old.entries ++ e ∷ [] }
Pushes old e (Err _) new = new ≡ old
