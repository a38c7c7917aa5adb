-- What the parts of the two commands answer.
use Rattle.std.specs.Prelude.{◌≡◌, ◌≤◌, ◌⊎◌, ℕ, List, [], ◌∷◌, Result, Ok, Err, ⊤}
use Rattle.group_plan.specs.Plans.{PlanView}
use Rattle.group_plan.specs.declared.plan.Plan.{Plan}
use Rattle.plan_files.specs.PlanFiles.{public_of}
use Rattle.head_end.specs.declared.answers.Logged.{Logged}
use Rattle.head_end.specs.declared.head.HeadEnd.{HeadEnd}
use Rattle.meter_apart.specs.declared.keys.MeterKeys.{MeterKeys}
use Rattle.meter_apart.specs.declared.meter.MeterApart.{MeterApart}
use Rattle.meter_files.specs.PartFiles.{MeterFileView, part_of}
use Rattle.desk_outside.specs.Desk.{View, Stored, after_step}
use Rattle.desk_outside.specs.Wire.{WireView}
use Rattle.apart_roles.specs.declared.head_end_run.Pause.{Pause}
use Rattle.apart_roles.specs.declared.head_end_run.Pause.TheVariants as pauses
use Rattle.apart_roles.specs.declared.outcome.Start.TheVariants.{Ready}
use Rattle.apart_roles.specs.HeadEndStarts.{HeadEndStarts}
use Rattle.apart_roles.specs.HeadEndTurns.{IsHeadEnd, IsSomewhere}
use Rattle.apart_roles.specs.MeterStarts.{MeterStarts}
use Rattle.command_words.specs.Words.{CollectNames}
use Rattle.command_words.specs.declared.outcome.Outcome.{Outcome}
use Rattle.command_files.specs.Calls.{IsRead, Unread, Unwritable, after_fetches}
use Rattle.command_texts.specs.Inspecting.{PublicTextRefuses}
use Rattle.role_commands.specs.CollectEnds.{IsTurn, Place, StopsInTurn, place}
use Rattle.role_commands.specs.MeterEnds.{AreKeysOf, MeterRefuses}
use Rattle.role_commands.specs.Told.{NotStarted}

-- ---- files

-- a file is read, and it has this value; or it is not read, or it is refused
abbrev pub FileEnds : {A : Type 0} → (name : List ℕ) → (says : List ℕ → A → Type 0) → (refuses : List ℕ → Outcome → Type 0) → View → View → Result A Outcome → Type 0
FileEnds name says refuses v w (Ok value) = (bytes : List ℕ) × IsRead (v.held name) bytes × says bytes value × (w ≡ after_fetches (name ∷ []) v)
FileEnds name says refuses v w (Err outcome) =
    Unread (name ∷ []) v w outcome ⊎ ((bytes : List ℕ) × IsRead (v.held name) bytes × refuses bytes outcome × (w ≡ after_fetches (name ∷ []) v))

-- a file of these bytes has this public plan
abbrev pub SaysPlan : List ℕ → PlanView → Type 0
SaysPlan bytes plan = public_of bytes ≡ Ok plan

-- and these keys of a meter
abbrev pub SaysKeys : List ℕ → MeterKeys → Type 0
SaysKeys bytes keys = (file : MeterFileView) × (part_of bytes ≡ Ok file) × AreKeysOf file keys

-- ---- starts

abbrev pub HeadEndBegins : PlanView → (journal : List ℕ) → WireView → WireView → Result HeadEnd Outcome → Type 0
HeadEndBegins plan journal x y (Ok head) = HeadEndStarts plan journal x y (Ok (Ready head))
HeadEndBegins plan journal x y (Err outcome) = NotStarted journal (HeadEndStarts plan journal x y) outcome

abbrev pub MeterBegins : MeterKeys → (journal : List ℕ) → WireView → WireView → Result MeterApart Outcome → Type 0
MeterBegins keys journal x y (Ok meter) = MeterStarts keys journal x y (Ok (Ready meter))
MeterBegins keys journal x y (Err outcome) = NotStarted journal (MeterStarts keys journal x y) outcome

-- ---- turns

-- a file is put, or it is not
abbrev pub Puts : (name bytes : List ℕ) → View → View → Result (Unit {0}) Outcome → Type 0
Puts name bytes v w (Ok done) = w ≡ after_step v (Stored name bytes)
Puts name bytes v w (Err outcome) = Unwritable (name ∷ []) v w outcome

-- a turn is taken, or it stops
abbrev pub TakesTurn : PlanView → CollectNames → Place → View → WireView → Result Pause Outcome → HeadEnd → Type 0
TakesTurn plan names a w y (Ok pause) new = (journal : List Logged) × IsTurn plan names.report pause a (place journal w y) × IsHeadEnd plan journal new
TakesTurn plan names a w y (Err outcome) new = StopsInTurn plan names a w y outcome
