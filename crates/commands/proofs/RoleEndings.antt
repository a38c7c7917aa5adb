-- How the commands end that hear lines.
use Rattle.std.proofs.Common.{◌≡◌, ℕ, List, [], ◌∷◌, Option, Result, Ok, Err, inl, inr}
use Rattle.std.specs.Prelude.{⊤}
use Rattle.desk_outside.specs.Desk.{View}
use Rattle.desk_outside.specs.Wire.{WireView}
use Rattle.group_plan.specs.Plans.{PlanView}
use Rattle.head_end.specs.declared.answers.Logged.{Logged}
use Rattle.head_end.specs.declared.head.HeadEnd.{HeadEnd}
use Rattle.meter_apart.specs.declared.answers.Noted.{Noted}
use Rattle.meter_apart.specs.declared.keys.MeterKeys.{MeterKeys}
use Rattle.meter_apart.specs.declared.meter.MeterApart.{MeterApart}
use Rattle.apart_lines.specs.declared.heads.HeadFound.{HeadFound}
use Rattle.apart_lines.specs.declared.heads.HeadFound.TheVariants.{Whole, Begun, Other}
use Rattle.apart_lines.specs.Heads.{head_found}
use Rattle.apart_roles.specs.declared.outcome.RoleError.{RoleError}
use Rattle.apart_roles.specs.declared.outcome.Start.{Start}
use Rattle.apart_roles.specs.declared.outcome.Start.TheVariants.{Ready}
use Rattle.apart_roles.specs.Inputs.{Came}
use Rattle.apart_roles.specs.Starts.{GoesOnBy, Opens}
use Rattle.apart_roles.specs.HeadEndTurns.{IsHeadEnd}
use Rattle.apart_roles.specs.HeadEndStarts.{HeadEndStarts}
use Rattle.apart_roles.specs.MeterStarts.{IsMeter, MeterStarts}
use Rattle.command_words.specs.Words.{CollectNames}
use Rattle.command_words.specs.declared.outcome.Outcome.{Outcome}
use Rattle.command_words.specs.declared.outcome.Outcome.TheVariants.{Done, NoMemory, Unwritten, BadPlan, BadText}
use Rattle.command_words.specs.declared.outcome.Outcome.TheVariants as outcomes
use Rattle.command_words.specs.declared.text_fault.TextFault.TheVariants as of_text
use Rattle.command_files.specs.Calls.{Unread, Unwritable}
use Rattle.command_texts.specs.Inspecting.{PublicTextRefuses}
use Rattle.apart_roles.specs.MeterRuns.{StopsInRun}
use Rattle.apart_roles.specs.Steps.{Stops}
use Rattle.role_commands.specs.CollectEnds.{CollectEnds, CollectsBy, LastTurn, Place, StopsInLines, due_steps}
use Rattle.role_commands.specs.MeterEnds.{MeterEnds, MeterRefuses, MetersBy, RunEnds}
use Rattle.role_commands.specs.Told.{NotStarted, Stopped}

-- ---- a role that is ready is in the state that some journal gives

by_head : {L R : Type 0} (found : HeadFound) (follow : List L → Came → Option (List L)) (is : List L → R → Type 0) (head : List ℕ) (v w : WireView) (new : R)
    → GoesOnBy found follow is head v w (Ok (Ready new)) → (journal : List L) × is journal new
by_head Whole follow is head v w new read = (read.ready.journal, read.ready.after)
by_head Begun follow is head v w new begun = ([], begun.after)
by_head (Other line) follow is head v w new (same, kept) = absurd cc

opened : {L R : Type 0} (follow : List L → Came → Option (List L)) (is : List L → R → Type 0) (name head : List ℕ) (v w : WireView) (new : R)
    → Opens follow is name head v w (Ok (Ready new)) → (journal : List L) × is journal new
opened follow is name head v w new (inl none) = absurd none
opened follow is name head v w new (inr found) = by_head (head_found 1 head found.front) follow is head found.view w new found.goes_on

pub head_end_somewhere : (plan : PlanView) (name : List ℕ) (v w : WireView) (head : HeadEnd) → HeadEndStarts plan name v w (Ok (Ready head)) → (journal : List Logged) × IsHeadEnd plan journal head
head_end_somewhere plan name v w head starts = opened _ _ name _ v starts.view head starts.opens

pub meter_somewhere : (keys : MeterKeys) (name : List ℕ) (v w : WireView) (meter : MeterApart) → MeterStarts keys name v w (Ok (Ready meter)) → (lines : List Noted) × IsMeter keys lines meter
meter_somewhere keys name v w meter starts = opened _ _ name _ v starts.view meter starts.opens

-- ---- which outcomes there are

-- the outcomes to which a command comes that hears lines
abbrev pub IsOfRole : Outcome → Type 0
IsOfRole Done = ⊤
IsOfRole NoMemory = ⊤
IsOfRole (outcomes.Unread unread) = ⊤
IsOfRole (Unwritten unwritten) = ⊤
IsOfRole (BadPlan name fault) = ⊤
IsOfRole (BadText name (of_text.JournalHead line)) = ⊤
IsOfRole (BadText name (of_text.JournalLine line)) = ⊤
IsOfRole _ = ⊥

unread_by_role : (names : List (List ℕ)) (v w : View) (outcome : Outcome) → Unread names v w outcome → IsOfRole outcome
unread_by_role names v w NoMemory ends = tt
unread_by_role names v w (outcomes.Unread unread) ends = tt
unread_by_role names v w _ ends = absurd ends

stopped_by_role : (journal : List ℕ) (stops : RoleError → Type 0) (outcome : Outcome) → Stopped journal stops outcome → IsOfRole outcome
stopped_by_role journal stops NoMemory ends = tt
stopped_by_role journal stops (outcomes.Unread unread) ends = tt
stopped_by_role journal stops (Unwritten unwritten) ends = tt
stopped_by_role journal stops _ ends = absurd ends

not_started_by_role : {R : Type 0} (journal : List ℕ) (gives : Result (Start R) RoleError → Type 0) (outcome : Outcome) → NotStarted journal gives outcome → IsOfRole outcome
not_started_by_role journal gives (outcomes.Unread unread) ends = tt
not_started_by_role journal gives (BadText name (of_text.JournalHead line)) ends = tt
not_started_by_role journal gives (BadText name (of_text.JournalLine line)) ends = tt
not_started_by_role journal gives outcome ends = stopped_by_role journal (λ error. gives (Err error)) outcome ends

unwritable_by_role : (names : List (List ℕ)) (v w : View) (outcome : Outcome) → Unwritable names v w outcome → IsOfRole outcome
unwritable_by_role names v w NoMemory ends = tt
unwritable_by_role names v w (Unwritten unwritten) ends = tt
unwritable_by_role names v w _ ends = absurd ends

last_of_role : (plan : PlanView) (names : CollectNames) (a : Place) (w : View) (y : WireView) (outcome : Outcome) → LastTurn plan names a w y outcome → IsOfRole outcome
last_of_role plan names a w y Done ends = tt
last_of_role plan names a w y outcome (inl (stopped, kept)) = stopped_by_role names.journal (StopsInLines plan a.journal a.wire y) outcome stopped
last_of_role plan names a w y outcome (inr (inl unput)) = unwritable_by_role (names.report ∷ []) a.desk w outcome unput.unput
last_of_role plan names a w y outcome (inr (inr unsaid)) = stopped_by_role names.journal (λ error. Stops error (due_steps plan unsaid.journal unsaid.pause) unsaid.heard y) outcome unsaid.unsaid

collects_of_role : (plan : PlanView) (names : CollectNames) (v w : View) (x y : WireView) (outcome : Outcome) → CollectsBy plan names v w x y outcome → IsOfRole outcome
collects_of_role plan names v w x y outcome (inl (stopped, kept)) = not_started_by_role names.journal (HeadEndStarts plan names.journal x y) outcome stopped
collects_of_role plan names v w x y outcome (inr collects) =
    let some = head_end_somewhere plan names.journal x collects.started collects.head collects.starts in
    let course = collects.course some.0 some.1 in
    last_of_role plan names course.last w y outcome course.ends

refused_by_role : (public bytes : List ℕ) (outcome : Outcome) → PublicTextRefuses public bytes outcome → IsOfRole outcome
refused_by_role public bytes NoMemory ends = tt
refused_by_role public bytes (BadPlan name fault) ends = tt
refused_by_role public bytes _ ends = absurd ends

pub collect_of_role : (names : CollectNames) (v w : View) (x y : WireView) (outcome : Outcome) → CollectEnds names v w x y outcome → IsOfRole outcome
collect_of_role names v w x y outcome (inl (unread, kept)) = unread_by_role (names.public ∷ []) v w outcome unread
collect_of_role names v w x y outcome (inr (bytes, read, inl refused)) = refused_by_role names.public bytes outcome refused.0
collect_of_role names v w x y outcome (inr (bytes, read, inr (plan, value, ends))) = collects_of_role plan names _ w x y outcome ends

run_of_role : (meter : MeterApart) (lines : List Noted) (journal : List ℕ) (x y : WireView) (outcome : Outcome) → RunEnds meter lines journal x y outcome → IsOfRole outcome
run_of_role meter lines journal x y Done ends = tt
run_of_role meter lines journal x y outcome ends = stopped_by_role journal (λ error. StopsInRun meter lines error x y) outcome ends

meters_of_role : (keys : MeterKeys) (journal : List ℕ) (x y : WireView) (outcome : Outcome) → MetersBy keys journal x y outcome → IsOfRole outcome
meters_of_role keys journal x y outcome (inl stopped) = not_started_by_role journal (MeterStarts keys journal x y) outcome stopped
meters_of_role keys journal x y outcome (inr meters) =
    let some = meter_somewhere keys journal x meters.started meters.meter meters.starts in
    run_of_role meters.meter some.0 journal meters.started y outcome (meters.runs some.0 some.1)

own_refused_by_role : (meter bytes : List ℕ) (outcome : Outcome) → MeterRefuses meter bytes outcome → IsOfRole outcome
own_refused_by_role meter bytes NoMemory ends = tt
own_refused_by_role meter bytes (BadPlan name fault) ends = tt
own_refused_by_role meter bytes _ ends = absurd ends

pub meter_of_role : (meter journal : List ℕ) (v w : View) (x y : WireView) (outcome : Outcome) → MeterEnds meter journal v w x y outcome → IsOfRole outcome
meter_of_role meter journal v w x y outcome (inl (unread, kept)) = unread_by_role (meter ∷ []) v w outcome unread
meter_of_role meter journal v w x y outcome (inr (bytes, read, after, inl refused)) = own_refused_by_role meter bytes outcome refused.0
meter_of_role meter journal v w x y outcome (inr (bytes, read, after, inr (file, value, keys, of, ends))) = meters_of_role keys journal x y outcome ends
