-- How the parts of a twin end.
use Rattle.std.specs.Prelude.{◌≡◌, ◌≢◌, ℕ, List, reverse, Result, Ok, Err, ⊤}
use Rattle.group_plan.specs.Plans.{PlanView}
use Rattle.group_plan.specs.Tables.{ReadingsView, reading}
use Rattle.event_schedule.specs.declared.Event.{Event}
use Rattle.event_schedule.specs.Events.{lines_of, events_of}
use Rattle.event_schedule.specs.Tables.{Masks}
use Rattle.transcript_text.specs.declared.version.Version.TheVariants.{Two}
use Rattle.transcript_text.specs.declared.fault.ReadError.TheVariants as fault
use Rattle.event_schedule.specs.Transcripts.{TranscriptView}
use Rattle.transcript_text.specs.EntryLines.{entry_line}
use Rattle.transcript_text.specs.Heads.{read_of}
use Rattle.group_book.specs.Books.{BookView}
use Rattle.ideal_masks.specs.declared.Offset.{Offset}
use Rattle.ideal_masks.specs.Pools.{Pool}
use Rattle.ideal_masks.specs.Offsets.{AgreeFor, Agree}
use Rattle.ideal_masks.specs.Order.{AreOfPlan}
use Rattle.ideal_masks.specs.Isolation.{offsets_between_for, offsets_between}
use Rattle.ideal_masks.specs.Replaying.{HasEvents}
use Rattle.twin_worlds.specs.declared.answers.TwinError.{TwinError}
use Rattle.twin_worlds.specs.declared.answers.TwinError.TheVariants as twin
use Rattle.twin_worlds.specs.declared.answers.PoolTwinError.{PoolTwinError}
use Rattle.twin_worlds.specs.declared.answers.PoolTwinError.TheVariants as pool_twin
use Rattle.twin_worlds.specs.Twins.{IsTextOf, lines_under, IsFirstOther, DisagreeAfter, DisagreeForAfter, KnowsApart}

-- the bytes are the text of a transcript, or are refused so; want of memory is free
abbrev pub TextEnds : List ℕ → Result TranscriptView TwinError → Type 0
TextEnds text (Ok t) = IsTextOf t text
TextEnds text (Err (twin.Transcript refusal)) = (refusal ≢ fault.Memory) × (read_of Two text ≡ Err refusal)
TextEnds text (Err twin.Memory) = ⊤
TextEnds text (Err _) = ⊥

-- the bytes are the text of a transcript of this plan, or of another one
abbrev pub HeadEnds : PlanView → List ℕ → Result TranscriptView TwinError → Type 0
HeadEnds plan text (Ok t) = IsTextOf t text × (t.plan ≡ plan)
HeadEnds plan text (Err (twin.Transcript refusal)) = (refusal ≢ fault.Memory) × (read_of Two text ≡ Err refusal)
HeadEnds plan text (Err twin.Head) = (t : TranscriptView) × IsTextOf t text × (t.plan ≢ plan)
HeadEnds plan text (Err twin.Memory) = ⊤
HeadEnds plan text (Err _) = ⊥

-- a transcript is refused for its text or its plan, or for want of memory
abbrev pub IsHeadRefusal : TwinError → Type 0
IsHeadRefusal (twin.Transcript refusal) = ⊤
IsHeadRefusal twin.Head = ⊤
IsHeadRefusal twin.Memory = ⊤
IsHeadRefusal _ = ⊥

-- the lines are those of x under m, or this is the first that isn't
abbrev pub LinesEnd : Masks → ReadingsView → TranscriptView → Result (Unit {0}) TwinError → Type 0
LinesEnd m x t (Ok done) = lines_of t.entries ≡ lines_under x m t
LinesEnd m x t (Err (twin.NotThis line expected found tick fate)) = (k : ℕ) × (line ≡ entry_line t.plan k) × IsFirstOther m x t k expected found tick fate
LinesEnd m x t (Err twin.Memory) = ⊤
LinesEnd m x t (Err _) = ⊥

-- a book of the events of t, whose lines are those of x under m; or the lines end so
abbrev pub BookEnds : Masks → ReadingsView → TranscriptView → Result BookView TwinError → Type 0
BookEnds m x t (Ok b) = (lines_of t.entries ≡ lines_under x m t) × HasEvents x (events_of t.entries) b
BookEnds m x t (Err e) = LinesEnd m x t (Err e)

-- a book of the events of t, which is of the plan of x and whose lines are those of x under m; or why there is none
abbrev pub RecordBookEnds : Masks → ReadingsView → TranscriptView → Result BookView TwinError → Type 0
RecordBookEnds m x t (Ok b) = (t.plan ≡ x.plan) × (lines_of t.entries ≡ lines_under x m t) × HasEvents x (events_of t.entries) b
RecordBookEnds m x t (Err twin.Head) = t.plan ≢ x.plan
RecordBookEnds m x t (Err twin.Memory) = ⊤
RecordBookEnds m x t (Err e) = (t.plan ≡ x.plan) × LinesEnd m x t (Err e)

-- after these events the tables agree, and these are their offsets; or they don't, by this cause
abbrev pub AgreementEnds : ReadingsView → ReadingsView → List Event → Result (List Offset) TwinError → Type 0
AgreementEnds x y events (Ok list) =
    Agree x.plan.groups (reading x.table) (reading y.table) (reverse events)
    × (list ≡ offsets_between x.plan x.table y.table events) × AreOfPlan x.plan list
AgreementEnds x y events (Err (twin.Differ cause)) = DisagreeAfter x y events cause
AgreementEnds x y events (Err twin.Memory) = ⊤
AgreementEnds x y events (Err _) = ⊥

-- the same for a pool
abbrev pub PooledAgreementEnds : Pool → ReadingsView → ReadingsView → List Event → Result (List Offset) PoolTwinError → Type 0
PooledAgreementEnds pool x y events (Ok list) =
    AgreeFor pool x.plan.groups (reading x.table) (reading y.table) (reverse events)
    × (list ≡ offsets_between_for pool x.plan x.table y.table events) × AreOfPlan x.plan list
PooledAgreementEnds pool x y events (Err (pool_twin.Known g r i)) = KnowsApart pool x y g r i
PooledAgreementEnds pool x y events (Err (pool_twin.Other (twin.Differ cause))) = DisagreeForAfter pool x y events cause
PooledAgreementEnds pool x y events (Err (pool_twin.Other twin.Memory)) = ⊤
PooledAgreementEnds pool x y events (Err _) = ⊥
