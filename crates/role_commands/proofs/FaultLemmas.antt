-- The faults of a wire: steps that are done leave their count, and a step that fails raises it.
use Rattle.std.proofs.Common.{◌≡◌, ◌≤◌, ◌+◌, ◌-◌, ◌^◌, ℕ, Bool, true, false, List, [], ◌∷◌, ◌++◌, refl, sym, ap, ◌∙◌, subst, arith, ⊎_elim}
use Rattle.std.specs.Prelude.{◌⊎◌, Option, Some, None, Result, Ok, Err, min, ⊤}
use Rattle.group_plan.specs.Plans.{PlanView}
use Rattle.missing_round.specs.Masks.{Masks}
use Rattle.head_end.specs.declared.answers.Logged.{Logged}
use Rattle.head_end.specs.declared.head.HeadEnd.{HeadEnd}
use Rattle.head_end.specs.Head.{IsAfter}
use Rattle.head_end.specs.Journal.{passed}
use Rattle.meter_apart.specs.declared.answers.Noted.{Noted}
use Rattle.meter_apart.specs.declared.keys.MeterKeys.{MeterKeys}
use Rattle.meter_apart.specs.declared.meter.MeterApart.{MeterApart}
use Rattle.meter_apart.specs.declared.part.Part.{Part}
use Rattle.meter_apart.specs.Keys.{part_of}
use Rattle.meter_apart.specs.Meter.{meter_masks, meter_part}
use Rattle.apart_lines.specs.declared.heads.HeadFound.{HeadFound}
use Rattle.apart_lines.specs.declared.heads.HeadFound.TheVariants.{Whole, Begun, Other}
use Rattle.apart_lines.specs.declared.heard.ToHeadEnd.{ToHeadEnd}
use Rattle.apart_lines.specs.declared.heard.ToMeter.{ToMeter}
use Rattle.apart_lines.specs.declared.said.MeterSays.{MeterSays}
use Rattle.apart_lines.specs.Heads.{head_found, journal_head, meter_journal_head}
use Rattle.desk_outside.specs.Desk.{Rose, one_more}
use Rattle.desk_outside.specs.Wire.{WireView, after_step, after_steps, has_failed}
use Rattle.desk_outside.specs.declared.wire.WireStep.{WireStep}
use Rattle.desk_outside.specs.declared.wire.WireStep.TheVariants.{Opened, Unopened, Recalled, Unrecalled, Emptied, Trimmed, Appended, Flushed, Heard, Unheard, Said}
use Rattle.apart_roles.specs.declared.head_end_run.Pause.{Pause}
use Rattle.apart_roles.specs.declared.head_end_run.Pause.TheVariants as pauses
use Rattle.apart_roles.specs.declared.outcome.RoleError.{RoleError}
use Rattle.apart_roles.specs.declared.outcome.RoleError.TheVariants.{Input, Journal, Output, Memory}
use Rattle.apart_roles.specs.declared.outcome.Start.{Start}
use Rattle.apart_roles.specs.declared.outcome.Start.TheVariants as starts
use Rattle.apart_roles.specs.HeadEndRuns as heads
use Rattle.apart_roles.specs.HeadEndStarts.{HeadEndStarts, IfHeadEndReady, follow_logged, greeting, welcome_steps}
use Rattle.apart_roles.specs.HeadEndTurns.{Answer, IsHeadEnd, IsSomewhere, is_flushed_to, logged_to, said_to, steps_flushed, steps_logged, steps_said, turn_steps}
use Rattle.apart_roles.specs.Inputs.{Came, recall_steps, steps_of_all, with_last}
use Rattle.apart_roles.specs.MeterRuns as meters
use Rattle.apart_roles.specs.MeterStarts.{IsMeter, MeterStarts, follow_noted}
use Rattle.apart_roles.specs.MeterStarts as meter_starts
use Rattle.apart_roles.specs.MeterTurns as meter_turns
use Rattle.apart_roles.specs.Starts.{GoesOnBy, NotOpened, Opens, begin_steps}
use Rattle.apart_roles.specs.Steps.{Does, FailsAt, Stops}
use Rattle.apart_roles.proofs.StartLemmas.{ready_has}
use Rattle.role_commands.specs.CollectEnds.{due_steps}

-- ---- steps that don't fail

abbrev pub Quiet : List WireStep → Type 0
Quiet [] = Unit {0}
Quiet (step ∷ steps) = (has_failed step ≡ false) × Quiet steps

pub quiet_join : (first others : List WireStep) → Quiet first → Quiet others → Quiet (first ++ others)
quiet_join [] others one two = two
quiet_join (step ∷ first) others one two = (one.0, quiet_join first others one.1 two)

quiet_front : (first others : List WireStep) → Quiet (first ++ others) → Quiet first
quiet_front [] others all = tt
quiet_front (step ∷ first) others all = (all.0, quiet_front first others all.1)

quiet_step : (v : WireView) (step : WireStep) → has_failed step ≡ false → (after_step v step).faults ≡ v.faults
unfolding after_step
quiet_step v step quiet = rw quiet refl

pub quiet_same : (v : WireView) (steps : List WireStep) → Quiet steps → (after_steps v steps).faults ≡ v.faults
quiet_same v [] quiet = refl
quiet_same v (step ∷ steps) quiet = quiet_same (after_step v step) steps quiet.1 ∙ quiet_step v step quiet.0

pub done_same : (v w : WireView) (steps : List WireStep) → Quiet steps → w ≡ after_steps v steps → w.faults ≡ v.faults
done_same v w steps quiet done = ap (λ (x : WireView). x.faults) done ∙ quiet_same v steps quiet

-- ---- a step that fails

rose_by : (before now : ℕ) → now ≡ one_more before → Rose before now
rose_by before now is = omega (arith, is)

failed_step : (v w : WireView) (step : WireStep) → has_failed step ≡ true → w ≡ after_step v step → Rose v.faults w.faults
unfolding after_step
failed_step v w step failed is = rose_by v.faults w.faults (ap (λ (x : WireView). x.faults) is ∙ rw failed refl)

-- want of memory is no fault; any other cause is one
abbrev pub FaultsBy : RoleError → WireView → WireView → Type 0
FaultsBy Memory v w = Unit {0}
FaultsBy error v w = Rose v.faults w.faults

abbrev pub from_same : (error : RoleError) (v u w : WireView) → u.faults ≡ v.faults → FaultsBy error u w → FaultsBy error v w
from_same Memory v u w same faults = tt
from_same Input v u w same faults = subst (λ n. Rose n w.faults) same faults
from_same Journal v u w same faults = subst (λ n. Rose n w.faults) same faults
from_same Output v u w same faults = subst (λ n. Rose n w.faults) same faults

fails_fault : (error : RoleError) (due : List WireStep) (v w : WireView) → FailsAt error due v w → FaultsBy error v w
fails_fault Memory due v w fails = tt
fails_fault Journal (Appended bytes failed ∷ due) v w fails = failed_step v w (Appended fails.0 true) refl fails.2
fails_fault Journal (Flushed failed ∷ due) v w fails = failed_step v w (Flushed true) refl fails
fails_fault Journal (Emptied failed ∷ due) v w fails = failed_step v w (Emptied true) refl fails
fails_fault Journal (Trimmed failed ∷ due) v w fails = failed_step v w (Trimmed true) refl fails
fails_fault Output (Said bytes failed ∷ due) v w fails = failed_step v w (Said fails.0 true) refl fails.2
fails_fault Input (Heard what text ∷ due) v w fails = failed_step v w Unheard refl fails
fails_fault error due v w fails = absurd fails

pub stops_fault : (error : RoleError) (due : List WireStep) (v w : WireView) → Quiet due → Stops error due v w → FaultsBy error v w
stops_fault error due v w quiet stops =
    let front = quiet_front stops.first stops.others (subst Quiet stops.are_due quiet) in
    from_same error v (after_steps v stops.first) w (quiet_same v stops.first front) (fails_fault error stops.others (after_steps v stops.first) w stops.fails)

-- what is done or stops
abbrev pub DoneFaults : {A : Type 0} → Result A RoleError → WireView → WireView → Type 0
DoneFaults (Ok done) v w = w.faults ≡ v.faults
DoneFaults (Err error) v w = FaultsBy error v w

pub does_faults : {A : Type 0} (due : List WireStep) (v w : WireView) (result : Result A RoleError) → Quiet due → Does due v w result → DoneFaults result v w
does_faults due v w (Ok done) quiet does = done_same v w due quiet does
does_faults due v w (Err error) quiet does = stops_fault error due v w quiet does

-- ---- all that came

quiet_all : {J : Type 0} (steps : J → Came → List WireStep) (next : J → Came → J) → ((journal : J) (came : Came) → Quiet (steps journal came)) → (journal : J) (lines : List Came)
    → Quiet (steps_of_all steps next journal lines)
quiet_all steps next each journal [] = tt
quiet_all steps next each journal (came ∷ others) = quiet_join (steps journal came) (steps_of_all steps next (next journal came) others) (each journal came) (quiet_all steps next each (next journal came) others)

quiet_recalls : (lines : List Came) → Quiet (recall_steps lines)
quiet_recalls [] = tt
quiet_recalls (came ∷ lines) = (refl, quiet_recalls lines)

-- ---- a start

opened_same : {L R : Type 0} (follow : List L → Came → Option (List L)) (is : List L → R → Type 0) (head : List ℕ) (found : HeadFound) (v w : WireView) (new : R)
    → GoesOnBy found follow is head v w (Ok (starts.Ready new)) → w.faults ≡ v.faults
opened_same follow is head Whole v w new goes =
    ap (λ (x : WireView). x.faults) goes.trimmed ∙ quiet_step goes.view (Trimmed false) refl
    ∙ done_same v goes.view (recall_steps (with_last goes.ready.lines goes.ready.last)) (quiet_recalls (with_last goes.ready.lines goes.ready.last)) goes.ready.steps
opened_same follow is head Begun v w new goes = done_same v w (begin_steps head) (refl, (refl, tt)) goes.steps
opened_same follow is head (Other line) v w new goes = absurd cc

pub opens_same : {L R : Type 0} (follow : List L → Came → Option (List L)) (is : List L → R → Type 0) (name head : List ℕ) (v w : WireView) (new : R) → Opens follow is name head v w (Ok (starts.Ready new))
    → w.faults ≡ v.faults
opens_same follow is name head v w new opens = ⊎_elim (λ none. absurd none)
    (λ opened.
    opened_same follow is head (head_found 1 head opened.front) opened.view w new opened.goes_on
    ∙ ap (λ (x : WireView). x.faults) opened.step ∙ quiet_step v (Opened name opened.front) refl)
    opens

rose_from : (v u w : WireView) → u.faults ≡ v.faults → Rose u.faults w.faults → Rose v.faults w.faults
rose_from v u w same rose = subst (λ n. Rose n w.faults) same rose

unread_rose : {L R : Type 0} (follow : List L → Came → Option (List L)) (is : List L → R → Type 0) (head : List ℕ) (found : HeadFound) (v w : WireView)
    → GoesOnBy found follow is head v w (Ok starts.Unreadable) → Rose v.faults w.faults
unread_rose follow is head Whole v w goes =
    rose_from v goes.view w (done_same v goes.view (recall_steps goes.part.lines) (quiet_recalls goes.part.lines) goes.part.steps) (failed_step goes.view w Unrecalled refl goes.step)
unread_rose follow is head Begun v w goes = absurd goes
unread_rose follow is head (Other line) v w goes = absurd cc

pub opens_unread : {L R : Type 0} (follow : List L → Came → Option (List L)) (is : List L → R → Type 0) (name head : List ℕ) (v w : WireView) → Opens follow is name head v w (Ok starts.Unreadable)
    → Rose v.faults w.faults
opens_unread follow is name head v w opens = ⊎_elim (λ none. failed_step v w (Unopened name) refl none)
    (λ opened.
    rose_from v opened.view w (ap (λ (x : WireView). x.faults) opened.step ∙ quiet_step v (Opened name opened.front) refl)
    (unread_rose follow is head (head_found 1 head opened.front) opened.view w opened.goes_on))
    opens

stopped_fault : {L R : Type 0} (follow : List L → Came → Option (List L)) (is : List L → R → Type 0) (head : List ℕ) (found : HeadFound) (v w : WireView) (error : RoleError)
    → GoesOnBy {L = L} {R = R} found follow is head v w (Err error) → FaultsBy error v w
stopped_fault follow is head Whole v w error goes = ⊎_elim (λ part. subst (λ e. FaultsBy e v w) (sym part.0) tt)
    (λ stops.
    from_same error v stops.view w
    (done_same v stops.view (recall_steps (with_last stops.ready.lines stops.ready.last)) (quiet_recalls (with_last stops.ready.lines stops.ready.last)) stops.ready.steps)
    (stops_fault error (Trimmed false ∷ []) stops.view w (refl, tt) stops.stops))
    goes
stopped_fault follow is head Begun v w error goes = stops_fault error (begin_steps head) v w (refl, (refl, tt)) goes
stopped_fault follow is head (Other line) v w error goes = absurd cc

unopened_fault : (R : Type 0) (name : List ℕ) (v w : WireView) (error : RoleError) → NotOpened {R = R} name v w (Err error) → FaultsBy error v w
unopened_fault R name v w Memory none = tt
unopened_fault R name v w Input none = absurd none
unopened_fault R name v w Journal none = absurd none
unopened_fault R name v w Output none = absurd none

pub opens_fault : {L R : Type 0} (follow : List L → Came → Option (List L)) (is : List L → R → Type 0) (name head : List ℕ) (v w : WireView) (error : RoleError)
    → Opens {L = L} {R = R} follow is name head v w (Err error) → FaultsBy error v w
opens_fault {L} {R} follow is name head v w error opens = ⊎_elim (λ none. unopened_fault R name v w error none)
    (λ opened.
    from_same error v opened.view w (ap (λ (x : WireView). x.faults) opened.step ∙ quiet_step v (Opened name opened.front) refl)
    (stopped_fault follow is head (head_found 1 head opened.front) opened.view w error opened.goes_on))
    opens

-- ---- the start of a head end

pub head_end_ready : (plan : PlanView) (name : List ℕ) (v w : WireView) (new : HeadEnd) → IsSomewhere new → HeadEndStarts plan name v w (Ok (starts.Ready new)) → w.faults ≡ v.faults
head_end_ready plan name v w new some started =
    done_same started.view w (welcome_steps plan (passed some.journal)) (refl, (refl, (refl, tt))) (started.steps some.journal some.after)
    ∙ opens_same (follow_logged plan) (IsHeadEnd plan) name (journal_head plan) v started.view new started.opens

pub head_end_unread : (plan : PlanView) (name : List ℕ) (v w : WireView) → HeadEndStarts plan name v w (Ok starts.Unreadable) → Rose v.faults w.faults
head_end_unread plan name v w opens = opens_unread (follow_logged plan) (IsHeadEnd plan) name (journal_head plan) v w opens

pub head_end_fault : (plan : PlanView) (name : List ℕ) (v w : WireView) (error : RoleError) → HeadEndStarts plan name v w (Err error) → FaultsBy error v w
head_end_fault plan name v w error started = ⊎_elim (λ opens. opens_fault (follow_logged plan) (IsHeadEnd plan) name (journal_head plan) v w error opens)
    (λ stops.
    let has = ready_has (follow_logged plan) (IsHeadEnd plan) name (journal_head plan) v stops.view stops.head stops.opens in
    from_same error v stops.view w (opens_same (follow_logged plan) (IsHeadEnd plan) name (journal_head plan) v stops.view stops.head stops.opens)
    (stops_fault error (welcome_steps plan (passed has.journal)) stops.view w (refl, (refl, (refl, tt))) (stops.stops has.journal has.after.after)))
    started

-- ---- the run of a head end

quiet_logged : (logged : Option Logged) → Quiet (steps_logged logged)
quiet_logged None = tt
quiet_logged (Some line) = (refl, tt)

quiet_flushed : (b : Bool) → Quiet (steps_flushed b)
quiet_flushed true = (refl, tt)
quiet_flushed false = tt

quiet_said : (plan : PlanView) (said : Option Answer) → Quiet (steps_said plan said)
quiet_said plan None = tt
quiet_said plan (Some answer) = (refl, tt)

quiet_turn : (plan : PlanView) (journal : List Logged) (heard : ToHeadEnd) → Quiet (turn_steps plan journal heard)
quiet_turn plan journal heard =
    let logged = steps_logged (logged_to plan journal heard) in
    let flushed = steps_flushed (is_flushed_to journal heard) in
    quiet_join (logged ++ flushed) (steps_said plan (said_to plan journal heard))
    (quiet_join logged flushed (quiet_logged (logged_to plan journal heard)) (quiet_flushed (is_flushed_to journal heard))) (quiet_said plan (said_to plan journal heard))

quiet_came : (plan : PlanView) (journal : List Logged) (came : Came) → Quiet (heads.came_steps plan journal came)
quiet_came plan journal came = (refl, quiet_turn plan journal (heads.said_in came))

quiet_run : (plan : PlanView) (journal : List Logged) (lines : List Came) → Quiet (heads.run_steps plan journal lines)
quiet_run plan journal lines = quiet_all (heads.came_steps plan) (heads.with_came plan) (quiet_came plan) journal lines

heard_same : (plan : PlanView) (journal : List Logged) (v w : WireView) (pause : Pause) (new : HeadEnd) → heads.HasHeard plan journal v w pause new → w.faults ≡ v.faults
heard_same plan journal v w pause new heard = done_same v w (heads.run_steps plan journal (with_last heard.lines heard.last)) (quiet_run plan journal (with_last heard.lines heard.last)) heard.steps

pub run_same : (plan : PlanView) (journal : List Logged) (v w : WireView) (pause : Pause) (new : HeadEnd) → heads.IsRun plan journal v w pause new → w.faults ≡ v.faults
run_same plan journal v w pause new run = done_same run.view w (Flushed false ∷ []) (refl, tt) run.steps ∙ heard_same plan journal v run.view pause new run.heard

pub run_fault : (plan : PlanView) (journal : List Logged) (error : RoleError) (v w : WireView) → heads.StopsInRun plan journal error v w ⊎ heads.StopsAtFlush plan journal error v w → FaultsBy error v w
run_fault plan journal error v w stops = ⊎_elim
    (λ run.
    from_same error v run.view w (done_same v run.view (heads.run_steps plan journal run.lines) (quiet_run plan journal run.lines) run.steps)
    (stops_fault error (heads.came_steps plan (heads.run_journal plan journal run.lines) run.stops.came) run.view w (quiet_came plan (heads.run_journal plan journal run.lines) run.stops.came) run.stops.stops))
    (λ flush. from_same error v flush.view w (heard_same plan journal v flush.view flush.pause flush.head flush.heard) (stops_fault error (Flushed false ∷ []) flush.view w (refl, tt) flush.stops))
    stops

-- what is due behind a pause
pub quiet_due : (plan : PlanView) (journal : List Logged) (pause : Pause) → Quiet (due_steps plan journal pause)
quiet_due plan journal pauses.Report = (refl, tt)
quiet_due plan journal pauses.Over = (refl, tt)

-- ---- a meter

pub meter_ready : (keys : MeterKeys) (name : List ℕ) (v w : WireView) (new : MeterApart) → MeterStarts keys name v w (Ok (starts.Ready new)) → w.faults ≡ v.faults
meter_ready keys name v w new started =
    done_same started.view w meter_starts.welcome_steps (refl, (refl, (refl, tt))) started.steps
    ∙ opens_same (follow_noted keys) (IsMeter keys) name (meter_journal_head (part_of keys)) v started.view new started.opens

pub meter_unread : (keys : MeterKeys) (name : List ℕ) (v w : WireView) → MeterStarts keys name v w (Ok starts.Unreadable) → Rose v.faults w.faults
meter_unread keys name v w opens = opens_unread (follow_noted keys) (IsMeter keys) name (meter_journal_head (part_of keys)) v w opens

pub meter_fault : (keys : MeterKeys) (name : List ℕ) (v w : WireView) (error : RoleError) → MeterStarts keys name v w (Err error) → FaultsBy error v w
meter_fault keys name v w error started = ⊎_elim (λ opens. opens_fault (follow_noted keys) (IsMeter keys) name (meter_journal_head (part_of keys)) v w error opens)
    (λ stops.
    from_same error v stops.view w (opens_same (follow_noted keys) (IsMeter keys) name (meter_journal_head (part_of keys)) v stops.view stops.meter stops.opens)
    (stops_fault error meter_starts.welcome_steps stops.view w (refl, (refl, (refl, tt))) stops.stops))
    started

quiet_noted : (noted : Option Noted) → Quiet (meter_turns.steps_noted noted)
quiet_noted None = tt
quiet_noted (Some line) = (refl, (refl, tt))

quiet_meter_said : (said : Option MeterSays) → Quiet (meter_turns.steps_said said)
quiet_meter_said None = tt
quiet_meter_said (Some says) = (refl, tt)

quiet_meter_turn : (part : Part) (m : Masks) (journal : List Noted) (heard : ToMeter) → Quiet (meter_turns.turn_steps part m journal heard)
quiet_meter_turn part m journal heard =
    quiet_join (meter_turns.steps_noted (meter_turns.noted_to part journal heard)) (meter_turns.steps_said (meter_turns.said_to part m journal heard)) (quiet_noted (meter_turns.noted_to part journal heard))
    (quiet_meter_said (meter_turns.said_to part m journal heard))

quiet_meter_came : (part : Part) (m : Masks) (journal : List Noted) (came : Came) → Quiet (meters.came_steps part m journal came)
quiet_meter_came part m journal came = (refl, quiet_meter_turn part m journal (meters.said_in came))

pub meter_run_fault : (old : MeterApart) (journal : List Noted) (error : RoleError) (v w : WireView) → meters.StopsInRun old journal error v w → FaultsBy error v w
meter_run_fault old journal error v w stops =
    let part = meter_part old in
    let m = meter_masks old in
    from_same error v stops.view w
    (done_same v stops.view (meters.run_steps part m journal stops.lines) (quiet_all (meters.came_steps part m) (meters.with_came part) (quiet_meter_came part m) journal stops.lines) stops.steps)
    (stops_fault error (meters.came_steps part m (meters.run_journal part journal stops.lines) stops.stops.came) stops.view w
    (quiet_meter_came part m (meters.run_journal part journal stops.lines) stops.stops.came) stops.stops.stops)
