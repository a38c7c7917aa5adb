-- How a meter goes on by its journal, and starts.
use Rattle.std.specs.Prelude.{◌≡◌, ◌⊎◌, ℕ, false, List, [], ◌∷◌, Option, Result, Ok, Err, ⊤}
use Rattle.meter_apart.specs.declared.answers.Noted.{Noted}
use Rattle.meter_apart.specs.declared.keys.MeterKeys.{MeterKeys}
use Rattle.meter_apart.specs.declared.meter.MeterApart.{MeterApart}
use Rattle.meter_apart.specs.Keys.{part_of}
use Rattle.meter_apart.specs.Meter.{IsAfter, meter_keys}
use Rattle.meter_apart.specs.Replies.{can_follow}
use Rattle.apart_lines.specs.declared.said.MeterSays.TheVariants as says
use Rattle.apart_lines.specs.Heads.{meter_journal_head}
use Rattle.apart_lines.specs.Journals.{noted_of}
use Rattle.apart_lines.specs.Said.{meter_text}
use Rattle.desk_outside.specs.Wire.{WireView, after_steps}
use Rattle.desk_outside.specs.declared.wire.WireStep.{WireStep}
use Rattle.desk_outside.specs.declared.wire.WireStep.TheVariants.{Flushed, Said}
use Rattle.apart_roles.specs.declared.outcome.RoleError.{RoleError}
use Rattle.apart_roles.specs.declared.outcome.Start.{Start}
use Rattle.apart_roles.specs.declared.outcome.Start.TheVariants as starts
use Rattle.apart_roles.specs.Inputs.{Came, follow_came}
use Rattle.apart_roles.specs.MeterTurns.{HasJournal}
use Rattle.apart_roles.specs.Starts.{Opens}
use Rattle.apart_roles.specs.Steps.{Stops, said_steps}

-- the meter with these keys is in the state that a journal gives
pub record IsMeter (keys : MeterKeys) (journal : List Noted) (meter : MeterApart) : Type 0 where
  pub keys_are : meter_keys meter ≡ keys
  pub after : IsAfter journal meter

-- the journal of a meter with the line that came
abbrev pub follow_noted : MeterKeys → List Noted → Came → Option (List Noted)
follow_noted keys = follow_came noted_of (can_follow (part_of keys))

-- a meter opens its journal
abbrev pub MeterOpens : MeterKeys → List ℕ → WireView → WireView → Result (Start MeterApart) RoleError → Type 0
MeterOpens keys name v w result = Opens (follow_noted keys) (IsMeter keys) name (meter_journal_head (part_of keys)) v w result

-- ---- what is said at the start

-- a line that a killed program may have begun is ended
abbrev pub greeting : List WireStep
greeting = Said (10 ∷ []) false ∷ said_steps (meter_text says.Ready)

-- the journal is on the disk before anything is said
abbrev pub welcome_steps : List WireStep
welcome_steps = Flushed false ∷ greeting

pub record IsStarted (keys : MeterKeys) (name : List ℕ) (v w : WireView) (new : MeterApart) : Type 0 where
  pub view : WireView
  pub opens : MeterOpens keys name v view (Ok (starts.Ready new))
  pub steps : w ≡ after_steps view welcome_steps

pub record StopsAtStart (keys : MeterKeys) (name : List ℕ) (error : RoleError) (v w : WireView) : Type 0 where
  pub meter : MeterApart
  pub view : WireView
  pub opens : MeterOpens keys name v view (Ok (starts.Ready meter))
  pub stops : Stops error welcome_steps view w

abbrev pub MeterStarts : MeterKeys → List ℕ → WireView → WireView → Result (Start MeterApart) RoleError → Type 0
MeterStarts keys name v w (Ok (starts.Ready new)) = IsStarted keys name v w new
MeterStarts keys name v w (Ok (starts.Line number)) = MeterOpens keys name v w (Ok (starts.Line number))
MeterStarts keys name v w (Ok starts.Unreadable) = MeterOpens keys name v w (Ok starts.Unreadable)
MeterStarts keys name v w (Ok (starts.Head number)) = MeterOpens keys name v w (Ok (starts.Head number))
MeterStarts keys name v w (Err error) = MeterOpens keys name v w (Err error) ⊎ StopsAtStart keys name error v w

-- a meter that is ready is in the state that some journal gives
abbrev pub IfReady : Result (Start MeterApart) RoleError → Type 0
IfReady (Ok (starts.Ready new)) = HasJournal new
IfReady (Ok (starts.Line number)) = ⊤
IfReady (Ok starts.Unreadable) = ⊤
IfReady (Ok (starts.Head number)) = ⊤
IfReady (Err error) = ⊤
