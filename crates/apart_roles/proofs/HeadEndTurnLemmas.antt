-- What a head end logs, flushes and says, one behind another.
use Rattle.std.proofs.Common.{◌≡◌, ℕ, ◌&&◌, ◌<◌, ◌≤◌, false, List, [], ◌∷◌, ◌++◌, refl, sym, ap, ◌∙◌, subst, append-nil, arith}
use Rattle.std.specs.Prelude.{if◌then◌else◌, All, Option, Some, None, Result, Ok, Err}
use Rattle.std.proofs.lemmas.Bool.{le-leb, lt-leb, ne_eqb}
use Rattle.group_plan.specs.Plans.{PlanView}
use Rattle.meter_frames.specs.declared.Frame.{Frame}
use Rattle.head_end.specs.declared.answers.Logged.{Logged}
use Rattle.head_end.specs.declared.answers.Logged.TheVariants.{Passed}
use Rattle.head_end.specs.declared.answers.Reply.{Reply}
use Rattle.head_end.specs.declared.answers.TickLine.{TickLine}
use Rattle.head_end.specs.declared.head.HeadEnd.{HeadEnd}
use Rattle.head_end.specs.Journal.{passed}
use Rattle.head_end.specs.Lines.{again_lines, tick_lines}
use Rattle.head_end.specs.Replies.{can_pass, reply}
use Rattle.apart_lines.specs.declared.heard.ToHeadEnd.{ToHeadEnd}
use Rattle.apart_lines.specs.declared.heard.ToHeadEnd.TheVariants as hears
use Rattle.apart_lines.specs.declared.said.HeadEndSays.{HeadEndSays}
use Rattle.apart_lines.specs.declared.said.HeadEndSays.TheVariants as says
use Rattle.apart_lines.specs.Said.{CanSayLine, head_end_text}
use Rattle.apart_lines.proofs.LawLemmas.{announcements_said, ticks_said}
use Rattle.desk_outside.specs.Wire.{WireView, after_steps}
use Rattle.desk_outside.specs.declared.wire.WireStep.TheVariants.{Flushed}
use Rattle.apart_roles.specs.declared.outcome.RoleError.{RoleError}
use Rattle.apart_roles.specs.HeadEndTurns.{Answer, Answers, Flushes, IsHeadEnd, IsLogged, IsOnDisk, IsSomewhere, again_answer, answer_steps, is_flushed_to, logged_frame, logged_tick, logged_to, only, said_to, steps_flushed, steps_logged, steps_said, tick_answer, turn_steps, with_logged}
use Rattle.apart_roles.specs.Steps.{Does, Stops, said_steps}
use Rattle.apart_roles.proofs.StepLemmas.{done_behind, stops_behind, stops_first}

-- ---- lines

-- a line of the plan's head end
pub told_as : (p plan : PlanView) (s t : HeadEndSays) (v w : WireView) (result : Result (Unit {0}) RoleError) → p ≡ plan → s ≡ t → Does (said_steps (head_end_text p s)) v w result
    → Does (said_steps (head_end_text plan t)) v w result
told_as p plan s t v w result plan_is says_is does =
    subst (λ x. Does (said_steps (head_end_text plan x)) v w result) says_is (subst (λ (x : PlanView). Does (said_steps (head_end_text x s)) v w result) plan_is does)

pub answer_as : (p plan : PlanView) (a b : Answer) (v w : WireView) (result : Result (Unit {0}) RoleError) → p ≡ plan → a ≡ b → Does (answer_steps p a) v w result → Does (answer_steps plan b) v w result
answer_as p plan a b v w result plan_is answer_is does =
    subst (λ (x : Answer). Does (answer_steps plan x) v w result) answer_is (subst (λ (x : PlanView). Does (answer_steps x a) v w result) plan_is does)

pub tick_can_be_said : (head : HeadEnd) (t : ℕ) (lines : List TickLine) (somewhere : IsSomewhere head) → lines ≡ tick_lines head.plan somewhere.journal t → All CanSayLine lines
tick_can_be_said head t lines somewhere is = subst (All CanSayLine) (sym is) (ticks_said head.plan somewhere.journal t)

pub again_can_be_said : (head : HeadEnd) (lines : List TickLine) (somewhere : IsSomewhere head) → lines ≡ again_lines head.plan somewhere.journal → All CanSayLine lines
again_can_be_said head lines somewhere is = subst (All CanSayLine) (sym is) (announcements_said head.plan somewhere.journal)

pub tick_said : (plan : PlanView) (journal : List Logged) (head : HeadEnd) (p : PlanView) (t : ℕ) (lines : List TickLine) (v w : WireView) (result : Result (Unit {0}) RoleError) → IsHeadEnd plan journal head
    → p ≡ head.plan → lines ≡ tick_lines head.plan journal t → Does (answer_steps p (record { lines = lines; last = says.Ticked t })) v w result → Does (answer_steps plan (tick_answer plan journal t)) v w result
tick_said plan journal head p t lines v w result is plan_is lines_are does =
    answer_as p plan (record { lines = lines; last = says.Ticked t }) (tick_answer plan journal t) v w result (plan_is ∙ is.plan_is)
    (ap (λ ls. record { lines = ls; last = says.Ticked t }) (lines_are ∙ ap (λ (q : PlanView). tick_lines q journal t) is.plan_is)) does

pub again_said : (plan : PlanView) (journal : List Logged) (head : HeadEnd) (p : PlanView) (ticks : ℕ) (lines : List TickLine) (v w : WireView) (result : Result (Unit {0}) RoleError) → IsHeadEnd plan journal head
    → p ≡ head.plan → lines ≡ again_lines head.plan journal → ticks ≡ passed journal → Does (answer_steps p (record { lines = lines; last = says.Ready ticks })) v w result
    → Does (answer_steps plan (again_answer plan journal)) v w result
again_said plan journal head p ticks lines v w result is plan_is lines_are ticks_are does =
    answer_as p plan (record { lines = lines; last = says.Ready ticks }) (again_answer plan journal) v w result (plan_is ∙ is.plan_is)
    (ap (λ ls. record { lines = ls; last = says.Ready ticks }) (lines_are ∙ ap (λ (q : PlanView). again_lines q journal) is.plan_is)
    ∙ ap (λ n. record { lines = again_lines plan journal; last = says.Ready n }) ticks_are)
    does

-- ---- then it is on the disk

pub then_flushed : (plan : PlanView) (journal : List Logged) (logged : Option Logged) (v u w : WireView) (result : Result (Unit {0}) RoleError) (new : HeadEnd) → IsLogged plan journal logged v u new
    → Does (Flushed false ∷ []) u w result → Flushes plan journal logged v w result new
then_flushed plan journal logged v u w (Ok done) new logs does =
    record { steps = done_behind v u w (steps_logged logged) (Flushed false ∷ []) logs.steps does; after = logs.after }
then_flushed plan journal logged v u w (Err error) new logs does = stops_behind error (steps_logged logged) (Flushed false ∷ []) v u w logs.steps does

pub not_flushed : (logged : Option Logged) (v w : WireView) (error : RoleError) → Stops error (steps_logged logged) v w → Stops error (steps_logged logged ++ Flushed false ∷ []) v w
not_flushed logged v w error stops = stops_first error (steps_logged logged) (Flushed false ∷ []) v w stops

-- ---- then it is said

turn_is : (plan : PlanView) (journal : List Logged) (heard : ToHeadEnd) (answer : Answer) → said_to plan journal heard ≡ Some answer
    → (steps_logged (logged_to plan journal heard) ++ steps_flushed (is_flushed_to journal heard)) ++ answer_steps plan answer ≡ turn_steps plan journal heard
turn_is plan journal heard answer says =
    ap (λ s. (steps_logged (logged_to plan journal heard) ++ steps_flushed (is_flushed_to journal heard)) ++ steps_said plan s) (sym says)

-- what is to be said is said behind what is logged and flushed
pub answered : (plan : PlanView) (journal : List Logged) (heard : ToHeadEnd) (answer : Answer) (v u w : WireView) (result : Result (Unit {0}) RoleError) (new : HeadEnd)
    → said_to plan journal heard ≡ Some answer → u ≡ after_steps v (steps_logged (logged_to plan journal heard) ++ steps_flushed (is_flushed_to journal heard))
    → IsHeadEnd plan (with_logged journal (logged_to plan journal heard)) new → Does (answer_steps plan answer) u w result → Answers plan journal heard v w result new
answered plan journal heard answer v u w (Ok done) new says one after does = record {
  steps = done_behind v u w (steps_logged (logged_to plan journal heard) ++ steps_flushed (is_flushed_to journal heard)) (answer_steps plan answer) one does
      ∙ ap (after_steps v) (turn_is plan journal heard answer says);
  after = after;
}
answered plan journal heard answer v u w (Err error) new says one after does =
    subst (λ steps. Stops error steps v w) (turn_is plan journal heard answer says)
    (stops_behind error (steps_logged (logged_to plan journal heard) ++ steps_flushed (is_flushed_to journal heard)) (answer_steps plan answer) v u w one does)

-- what is to be logged and flushed is not
pub unanswered : (plan : PlanView) (journal : List Logged) (heard : ToHeadEnd) (answer : Answer) (v w : WireView) (error : RoleError) → said_to plan journal heard ≡ Some answer
    → Stops error (steps_logged (logged_to plan journal heard) ++ steps_flushed (is_flushed_to journal heard)) v w → Stops error (turn_steps plan journal heard) v w
unanswered plan journal heard answer v w error says stops =
    subst (λ steps. Stops error steps v w) (turn_is plan journal heard answer says)
    (stops_first error (steps_logged (logged_to plan journal heard) ++ steps_flushed (is_flushed_to journal heard)) (answer_steps plan answer) v w stops)

-- what is said at once
pub said_at_once : (plan : PlanView) (journal : List Logged) (heard : ToHeadEnd) (answer : Answer) (v w : WireView) (result : Result (Unit {0}) RoleError) (head : HeadEnd) → IsHeadEnd plan journal head
    → said_to plan journal heard ≡ Some answer → logged_to plan journal heard ≡ None → is_flushed_to journal heard ≡ false → Does (answer_steps plan answer) v w result
    → Answers plan journal heard v w result head
said_at_once plan journal heard answer v w result head is says none unflushed does =
    answered plan journal heard answer v v w result head says
    (ap (λ b. after_steps v (steps_flushed b)) (sym unflushed) ∙ ap (λ logged. after_steps v (steps_logged logged ++ steps_flushed (is_flushed_to journal heard))) (sym none))
    (subst (λ logged. IsHeadEnd plan (with_logged journal logged) head) (sym none) is) does

pub told_at_once : (plan : PlanView) (journal : List Logged) (heard : ToHeadEnd) (says : HeadEndSays) (v w : WireView) (result : Result (Unit {0}) RoleError) (p : PlanView) (head : HeadEnd)
    → IsHeadEnd plan journal head → p ≡ head.plan → said_to plan journal heard ≡ Some (only says) → logged_to plan journal heard ≡ None → is_flushed_to journal heard ≡ false
    → Does (said_steps (head_end_text p says)) v w result → Answers plan journal heard v w result head
told_at_once plan journal heard says v w result p head is plan_is says_is none unflushed does =
    said_at_once plan journal heard (only says) v w result head is says_is none unflushed (told_as p plan says says v w result (plan_is ∙ is.plan_is) refl does)

-- ---- a frame

pub frame_answered : (plan : PlanView) (journal : List Logged) (f : Frame) (said : Reply) (v u w : WireView) (result : Result (Unit {0}) RoleError) (p : PlanView) (new : HeadEnd)
    → said ≡ reply plan journal f → IsLogged plan journal (logged_frame (reply plan journal f) f) v u new → p ≡ new.plan
    → Does (said_steps (head_end_text p (says.Reply said))) u w result → Answers plan journal (hears.Frame (Ok f)) v w result new
frame_answered plan journal f said v u w result p new said_is logged plan_is does =
    answered plan journal (hears.Frame (Ok f)) (only (says.Reply (reply plan journal f))) v u w result new refl
    (logged.steps ∙ ap (after_steps v) (sym (append-nil (steps_logged (logged_frame (reply plan journal f) f))))) logged.after
    (told_as p plan (says.Reply said) (says.Reply (reply plan journal f)) u w result (plan_is ∙ logged.after.plan_is) (ap says.Reply said_is) does)

pub frame_stops : (plan : PlanView) (journal : List Logged) (f : Frame) (v w : WireView) (error : RoleError) (result : Result (Unit {0}) RoleError) (new : HeadEnd) → result ≡ Err error
    → Stops error (steps_logged (logged_frame (reply plan journal f) f)) v w → Answers plan journal (hears.Frame (Ok f)) v w result new
frame_stops plan journal f v w error result new is stops =
    subst (λ (r : Result (Unit {0}) RoleError). Answers plan journal (hears.Frame (Ok f)) v w r new) (sym is)
    (unanswered plan journal (hears.Frame (Ok f)) (only (says.Reply (reply plan journal f))) v w error refl
    (stops_first error (steps_logged (logged_frame (reply plan journal f) f)) [] v w stops))

-- ---- a tick

-- to a tick that has passed, or is the next one
abbrev pub tick_answer_to : PlanView → List Logged → ℕ → Answer
tick_answer_to plan journal t = tick_answer plan (with_logged journal (logged_tick plan journal t)) t

due_tick : (plan : PlanView) (journal : List Logged) (t : ℕ) → t ≤ passed journal → said_to plan journal (hears.Tick t) ≡ Some (tick_answer_to plan journal t)
due_tick plan journal t le = ap (λ b. Some (if b then tick_answer_to plan journal t else only says.WrongTick)) (le-leb t (passed journal) le)

due_flush : (plan : PlanView) (journal : List Logged) (t : ℕ) → t ≤ passed journal
    → steps_logged (logged_tick plan journal t) ++ Flushed false ∷ [] ≡ steps_logged (logged_tick plan journal t) ++ steps_flushed (is_flushed_to journal (hears.Tick t))
due_flush plan journal t le = ap (λ b. steps_logged (logged_tick plan journal t) ++ steps_flushed b) (sym (le-leb t (passed journal) le))

pub tick_answered : (plan : PlanView) (journal : List Logged) (t : ℕ) (v u w : WireView) (result : Result (Unit {0}) RoleError) (new : HeadEnd) → t ≤ passed journal
    → IsOnDisk plan journal (logged_tick plan journal t) v u new → Does (answer_steps plan (tick_answer_to plan journal t)) u w result → Answers plan journal (hears.Tick t) v w result new
tick_answered plan journal t v u w result new le on_disk does =
    answered plan journal (hears.Tick t) (tick_answer_to plan journal t) v u w result new (due_tick plan journal t le)
    (on_disk.steps ∙ ap (after_steps v) (due_flush plan journal t le)) on_disk.after does

pub tick_stops : (plan : PlanView) (journal : List Logged) (t : ℕ) (v w : WireView) (error : RoleError) (result : Result (Unit {0}) RoleError) (new : HeadEnd) → result ≡ Err error → t ≤ passed journal
    → Stops error (steps_logged (logged_tick plan journal t) ++ Flushed false ∷ []) v w → Answers plan journal (hears.Tick t) v w result new
tick_stops plan journal t v w error result new is le stops =
    subst (λ (r : Result (Unit {0}) RoleError). Answers plan journal (hears.Tick t) v w r new) (sym is)
    (unanswered plan journal (hears.Tick t) (tick_answer_to plan journal t) v w error (due_tick plan journal t le)
    (subst (λ steps. Stops error steps v w) (due_flush plan journal t le) stops))

-- a tick behind the next one
pub wrong_tick : (plan : PlanView) (journal : List Logged) (t : ℕ) (v w : WireView) (result : Result (Unit {0}) RoleError) (p : PlanView) (head : HeadEnd) → IsHeadEnd plan journal head → p ≡ head.plan
    → passed journal < t → Does (said_steps (head_end_text p says.WrongTick)) v w result → Answers plan journal (hears.Tick t) v w result head
wrong_tick plan journal t v w result p head is plan_is lt does =
    told_at_once plan journal (hears.Tick t) says.WrongTick v w result p head is plan_is
    (ap (λ b. Some (if b then tick_answer_to plan journal t else only says.WrongTick)) (lt-leb t (passed journal) lt))
    (ap (λ b. if b && can_pass plan journal then Some Passed else None) (ne_eqb t (passed journal) (λ same. omega (arith, lt, same))))
    (lt-leb t (passed journal) lt) does
