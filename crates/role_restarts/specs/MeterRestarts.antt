-- How a meter starts over what is left of its journal.
use Rattle.std.specs.Prelude.{◌≡◌, ◌≤◌, ℕ, List, [], ◌++◌, length, Result, Ok, Err, ⊤}
use Rattle.meter_apart.specs.declared.answers.Noted.{Noted}
use Rattle.meter_apart.specs.declared.keys.MeterKeys.{MeterKeys}
use Rattle.meter_apart.specs.declared.meter.MeterApart.{MeterApart}
use Rattle.meter_apart.specs.declared.part.Part.{Part}
use Rattle.meter_apart.specs.Keys.{part_of}
use Rattle.meter_apart.specs.Meter.{IsAfter}
use Rattle.meter_apart.specs.Replies.{can_follow}
use Rattle.apart_lines.specs.Heads.{meter_journal_head}
use Rattle.apart_lines.specs.Journals.{noted_of, noted_text}
use Rattle.desk_outside.specs.Desk.{IsPrefixOf}
use Rattle.desk_outside.specs.Wire.{WireView, after_steps}
use Rattle.apart_roles.specs.declared.outcome.RoleError.{RoleError}
use Rattle.apart_roles.specs.declared.outcome.Start.{Start}
use Rattle.apart_roles.specs.declared.outcome.Start.TheVariants as starts
use Rattle.apart_roles.specs.Inputs.{lines_in, number_behind}
use Rattle.apart_roles.specs.MeterStarts.{IsMeter, welcome_steps}
use Rattle.journal_cuts.specs.Cuts.{bytes_by}
use Rattle.role_restarts.specs.Restarts.{AreLines, IsRestored}

-- the bytes of lines of a journal, each with its newline
abbrev pub noted_bytes : List Noted → List ℕ
noted_bytes lines = bytes_by noted_text lines

-- these are lines of a journal, and each can follow those before it
abbrev pub AreNoted : Part → List Noted → Type 0
AreNoted part lines = AreLines noted_of noted_text (can_follow part) [] lines

-- the journal is these lines, and gives the meter its state
abbrev pub IsRestoredMeter : MeterKeys → List Noted → WireView → MeterApart → Type 0
IsRestoredMeter keys lines w meter = IsRestored noted_text (IsMeter keys) (meter_journal_head (part_of keys)) lines w meter

-- the meter started in the state that these lines give, and its journal is them: it is brought to the disk before anything is said
pub record IsRestarted (keys : MeterKeys) (lines : List Noted) (w : WireView) (new : MeterApart) : Type 0 where
  pub restored : IsRestoredMeter keys lines w new
  pub view : WireView
  pub says : w ≡ after_steps view welcome_steps

-- it starts so, unless memory runs out or the outside fails
abbrev pub RestartsWith : MeterKeys → List Noted → WireView → Result (Start MeterApart) RoleError → Type 0
RestartsWith keys lines w (Ok (starts.Ready new)) = IsRestarted keys lines w new
RestartsWith keys lines w (Ok (starts.Line number)) = ⊥
RestartsWith keys lines w (Ok starts.Unreadable) = ⊤
RestartsWith keys lines w (Ok (starts.Head number)) = ⊥
RestartsWith keys lines w (Err error) = ⊤

-- the meter went on by these lines, and by others that stand behind them
pub record IsRestartedFrom (keys : MeterKeys) (bytes : List ℕ) (lines : List Noted) (w : WireView) (new : MeterApart) : Type 0 where
  pub others : List Noted
  pub are : AreLines noted_of noted_text (can_follow (part_of keys)) lines others
  pub stand : IsPrefixOf (meter_journal_head (part_of keys) ++ noted_bytes (lines ++ others)) bytes
  pub restarted : IsRestarted keys (lines ++ others) w new

-- it does so, or a line behind these is wrong, unless memory runs out or the outside fails
abbrev pub RestartsFrom : MeterKeys → List ℕ → List Noted → WireView → Result (Start MeterApart) RoleError → Type 0
RestartsFrom keys bytes lines w (Ok (starts.Ready new)) = IsRestartedFrom keys bytes lines w new
RestartsFrom keys bytes lines w (Ok (starts.Line number)) = number_behind (number_behind (lines_in (meter_journal_head (part_of keys))) 1) (length lines) ≤ number
RestartsFrom keys bytes lines w (Ok starts.Unreadable) = ⊤
RestartsFrom keys bytes lines w (Ok (starts.Head number)) = ⊥
RestartsFrom keys bytes lines w (Err error) = ⊤

-- the journal is such lines, and gives the meter with this part of a plan its state
pub record HasLines (part : Part) (w : WireView) (meter : MeterApart) : Type 0 where
  pub lines : List Noted
  pub are : AreNoted part lines
  pub restored : IsRestored noted_text IsAfter (meter_journal_head part) lines w meter
