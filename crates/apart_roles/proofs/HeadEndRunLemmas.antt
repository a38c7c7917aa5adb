-- Lines of a head end, one after another.
use Rattle.std.proofs.Common.{◌≡◌, ℕ, ◌+◌, ◌-◌, ◌^◌, Bool, true, false, List, [], ◌∷◌, ◌++◌, length, refl, sym, ap, ◌∙◌, subst, length-append, arith}
use Rattle.std.proofs.lemmas.Bool.{and_from, and_parts}
use Rattle.std.specs.Prelude.{Option, Some, None, Result, Ok, Err}
use Rattle.group_plan.specs.Plans.{PlanView}
use Rattle.head_end.specs.declared.answers.Logged.{Logged}
use Rattle.head_end.specs.declared.head.HeadEnd.{HeadEnd}
use Rattle.apart_lines.specs.declared.heard.ToHeadEnd.{ToHeadEnd}
use Rattle.apart_lines.specs.declared.heard.ToHeadEnd.TheVariants as hears
use Rattle.apart_lines.specs.Heard.{to_head_end}
use Rattle.desk_outside.specs.Wire.{HearEnds, IsNext, WireView, after_step, after_steps}
use Rattle.desk_outside.specs.declared.wire.Coming.{Coming}
use Rattle.desk_outside.specs.declared.wire.Coming.TheVariants.{Line, TooLong, Rest, End}
use Rattle.desk_outside.specs.declared.wire.WireStep.TheVariants.{Heard, Unheard}
use Rattle.apart_roles.specs.declared.head_end_run.Pause.{Pause}
use Rattle.apart_roles.specs.declared.head_end_run.Pause.TheVariants as pauses
use Rattle.apart_roles.specs.declared.head_end_run.Turn.{Turn}
use Rattle.apart_roles.specs.declared.head_end_run.Turn.TheVariants as turns
use Rattle.apart_roles.specs.declared.outcome.RoleError.{RoleError}
use Rattle.apart_roles.specs.declared.outcome.RoleError.TheVariants.{Input, Memory}
use Rattle.apart_roles.specs.Steps.{Stops}
use Rattle.apart_roles.specs.Inputs.{AreNext, Came}
use Rattle.apart_roles.specs.HeadEndTurns.{Answer, IsAnswered, IsHeadEnd, IsSomewhere, is_flushed_to, logged_to, said_to, steps_flushed, steps_logged, steps_said, turn_steps, with_logged}
use Rattle.apart_roles.specs.HeadEndRuns.{AnswersLine, HasHeard, IsTurn, PausesAt, StopsInRun, StopsInTurn, TakesTurn, all_more, came_steps, is_more, run_journal, run_steps, said_in, turn_of, turn_of_line, with_came}
use Rattle.apart_roles.proofs.InputLemmas.{PassInput, all_heard, all_journal_join, all_steps_join, came_of, heard_input, is_next, next_of, same_source}
use Rattle.apart_roles.proofs.StepLemmas.{done_behind, steps_join, stops_behind, stops_here}

-- ---- a turn

-- what comes next was not heard
pub turn_unheard : (plan : PlanView) (journal : List Logged) (v w : WireView) → w ≡ after_step v Unheard → StopsInTurn plan Input journal v w
turn_unheard plan journal v w is = record {
  came = next_of v.input;
  next = is_next v.input;
  stops = stops_here Input (came_steps plan journal (next_of v.input)) v w is;
}

pub turn_memory : (plan : PlanView) (journal : List Logged) (v w : WireView) → w ≡ v → StopsInTurn plan Memory journal v w
turn_memory plan journal v w is = record {
  came = next_of v.input;
  next = is_next v.input;
  stops = stops_here Memory (came_steps plan journal (next_of v.input)) v w is;
}

-- what came next was heard, and what it says was answered
pub turn_answered : (plan : PlanView) (journal : List Logged) (came : Came) (v u w : WireView) (turn : Turn) (new : HeadEnd) → u ≡ after_step v (Heard came.what came.text) → IsNext v.input came.what came.text
    → turn ≡ turn_of came → IsAnswered plan journal (said_in came) u w new → IsTurn plan journal v w turn new
turn_answered plan journal came v u w turn new heard next turn_is answered = record {
  came = came;
  turn_is = turn_is;
  next = next;
  steps = done_behind v u w (Heard came.what came.text ∷ []) (turn_steps plan journal (said_in came)) heard answered.steps;
  after = answered.after;
}

-- what came next was heard, and its answer stopped
pub turn_stopped : (plan : PlanView) (journal : List Logged) (came : Came) (v u w : WireView) (error : RoleError) → u ≡ after_step v (Heard came.what came.text) → IsNext v.input came.what came.text
    → Stops error (turn_steps plan journal (said_in came)) u w → StopsInTurn plan error journal v w
turn_stopped plan journal came v u w error heard next stops = record {
  came = came;
  next = next;
  stops = stops_behind error (Heard came.what came.text ∷ []) (turn_steps plan journal (said_in came)) v u w heard stops;
}

-- a line was heard and answered, or its answer stopped
pub line_taken : (plan : PlanView) (journal : List Logged) (what : Coming) (text told : List ℕ) (v u w : WireView) (result : Result Turn RoleError) (new : HeadEnd) → what ≡ Line → HearEnds v u text (Ok what) → told ≡ text
    → AnswersLine plan journal (to_head_end told) u w result new → TakesTurn plan journal v w result new
line_taken plan journal what text told v u w result new is heard told_is answers =
    by result (subst (λ k. HearEnds v u text (Ok k)) is heard) (subst (λ t. AnswersLine plan journal (to_head_end t) u w result new) told_is answers)
  where
    by : (result : Result Turn RoleError) → HearEnds v u text (Ok Line) → AnswersLine plan journal (to_head_end text) u w result new → TakesTurn plan journal v w result new
    by (Ok turn) line answers = turn_answered plan journal (came_of Line text) v u w turn new line.0 line.1 answers.turn_is answers.answered
    by (Err error) line answers = turn_stopped plan journal (came_of Line text) v u w error line.0 line.1 answers

-- a line that is too long
pub long_taken : (plan : PlanView) (journal : List Logged) (what : Coming) (text : List ℕ) (v u w : WireView) (result : Result Turn RoleError) (new : HeadEnd) → what ≡ TooLong → HearEnds v u text (Ok what)
    → AnswersLine plan journal hears.Unknown u w result new → TakesTurn plan journal v w result new
long_taken plan journal what text v u w result new is heard answers = by result (subst (λ k. HearEnds v u text (Ok k)) is heard) answers
  where
    by : (result : Result Turn RoleError) → HearEnds v u text (Ok TooLong) → AnswersLine plan journal hears.Unknown u w result new → TakesTurn plan journal v w result new
    by (Ok turn) line answers = turn_answered plan journal (came_of TooLong text) v u w turn new line.0 line.1 answers.turn_is answers.answered
    by (Err error) line answers = turn_stopped plan journal (came_of TooLong text) v u w error line.0 line.1 answers

-- what is no line
pub rest_taken : (plan : PlanView) (journal : List Logged) (what : Coming) (text : List ℕ) (v u : WireView) (head : HeadEnd) → IsHeadEnd plan journal head → what ≡ Rest → HearEnds v u text (Ok what)
    → IsTurn plan journal v u turns.Over head
rest_taken plan journal what text v u head after is heard =
    let rest = subst (λ k. HearEnds v u text (Ok k)) is heard in
    turn_answered plan journal (came_of Rest text) v u u turns.Over head rest.0 rest.1 refl (record { steps = refl; after = after })

pub end_taken : (plan : PlanView) (journal : List Logged) (what : Coming) (text : List ℕ) (v u : WireView) (head : HeadEnd) → IsHeadEnd plan journal head → what ≡ End → HearEnds v u text (Ok what)
    → IsTurn plan journal v u turns.Over head
end_taken plan journal what text v u head after is heard =
    let end = subst (λ k. HearEnds v u text (Ok k)) is heard in
    turn_answered plan journal (came_of End text) v u u turns.Over head end.0 end.1 refl (record { steps = refl; after = after })

-- ---- the input

logged_input : (v : WireView) (logged : Option Logged) → (after_steps v (steps_logged logged)).input ≡ v.input
unfolding after_step
logged_input v None = refl
logged_input v (Some line) = same_source v.input

flushed_input : (v : WireView) (b : Bool) → (after_steps v (steps_flushed b)).input ≡ v.input
unfolding after_step
flushed_input v true = same_source v.input
flushed_input v false = refl

said_input : (v : WireView) (plan : PlanView) (said : Option Answer) → (after_steps v (steps_said plan said)).input ≡ v.input
unfolding after_step
said_input v plan None = refl
said_input v plan (Some answer) = same_source v.input

turn_input : (v : WireView) (plan : PlanView) (journal : List Logged) (heard : ToHeadEnd) → (after_steps v (turn_steps plan journal heard)).input ≡ v.input
turn_input v plan journal heard =
    let logged = steps_logged (logged_to plan journal heard) in
    let flushed = steps_flushed (is_flushed_to journal heard) in
    let u = after_steps v logged in
    ap (λ (x : WireView). x.input) (steps_join v (logged ++ flushed) (steps_said plan (said_to plan journal heard)))
    ∙ ap (λ x. (after_steps x (steps_said plan (said_to plan journal heard))).input) (steps_join v logged flushed)
    ∙ said_input (after_steps u flushed) plan (said_to plan journal heard)
    ∙ flushed_input u (is_flushed_to journal heard)
    ∙ logged_input v (logged_to plan journal heard)

came_input : (plan : PlanView) → PassInput (came_steps plan)
came_input plan v journal came = turn_input (after_step v (Heard came.what came.text)) plan journal (said_in came) ∙ heard_input v came

-- ---- a run

-- so many lines were heard and answered
pub record HasAnswered (plan : PlanView) (journal : List Logged) (v : WireView) (count : ℕ) (w : WireView) (new : HeadEnd) : Type 0 where
  pub lines : List Came
  pub count_is : count ≡ length lines
  pub more : all_more lines ≡ true
  pub next : AreNext v.input lines
  pub steps : w ≡ after_steps v (run_steps plan journal lines)
  pub after : IsHeadEnd plan (run_journal plan journal lines) new

pub nothing_answered : (plan : PlanView) (journal : List Logged) (v : WireView) (head : HeadEnd) → IsHeadEnd plan journal head → HasAnswered plan journal v 0 v head
nothing_answered plan journal v head after = record { lines = []; count_is = refl; more = refl; next = tt; steps = refl; after = after }

-- the head end is in the state that some journal gives
pub taken_somewhere : (plan : PlanView) (journal : List Logged) (v w : WireView) (turn : Turn) (head : HeadEnd) → IsTurn plan journal v w turn head → IsSomewhere head
taken_somewhere plan journal v w turn head taken = record { journal = with_came plan journal taken.came; after = taken.after.after }

pub is_somewhere : (plan : PlanView) (journal : List Logged) (v : WireView) (count : ℕ) (w : WireView) (head : HeadEnd) → HasAnswered plan journal v count w head → IsSomewhere head
is_somewhere plan journal v count w head has = record { journal = run_journal plan journal has.lines; after = has.after.after }

pub heard_somewhere : (plan : PlanView) (journal : List Logged) (v w : WireView) (pause : Pause) (head : HeadEnd) → HasHeard plan journal v w pause head → IsSomewhere head
heard_somewhere plan journal v w pause head has = record { journal = run_journal plan journal has.lines; after = has.after.after }

all_steps : (plan : PlanView) (journal : List Logged) (lines : List Came) (came : Came) (v u w : WireView) → u ≡ after_steps v (run_steps plan journal lines)
    → w ≡ after_steps u (came_steps plan (run_journal plan journal lines) came) → w ≡ after_steps v (run_steps plan journal (lines ++ came ∷ []))
all_steps plan journal lines came v u w one two =
    done_behind v u w (run_steps plan journal lines) (came_steps plan (run_journal plan journal lines) came) one two
    ∙ ap (after_steps v) (sym (all_steps_join (came_steps plan) (with_came plan) journal lines came))

all_next : (plan : PlanView) (journal : List Logged) (lines : List Came) (came : Came) (v u : WireView) → u ≡ after_steps v (run_steps plan journal lines) → AreNext v.input lines → IsNext u.input came.what came.text
    → AreNext v.input (lines ++ came ∷ [])
all_next plan journal lines came v u one are is = all_heard (came_steps plan) (with_came plan) (came_input plan) journal lines came v u one are is

more_join : (lines : List Came) (came : Came) → all_more lines ≡ true → is_more (turn_of came) ≡ true → all_more (lines ++ came ∷ []) ≡ true
more_join [] came all one = and_from (is_more (turn_of came)) true one refl
more_join (first ∷ lines) came all one =
    let both = and_parts (is_more (turn_of first)) (all_more lines) all in
    and_from (is_more (turn_of first)) (all_more (lines ++ came ∷ [])) both.0 (more_join lines came both.1 one)

-- one more line was answered
pub one_more : (plan : PlanView) (journal : List Logged) (v : WireView) (count : ℕ) (u w : WireView) (turn : Turn) (mid new : HeadEnd) (has : HasAnswered plan journal v count u mid)
    → IsTurn plan (run_journal plan journal has.lines) u w turn new → turn ≡ turns.More → HasAnswered plan journal v (count + 1) w new
one_more plan journal v count u w turn mid new has taken is = record {
  lines = has.lines ++ taken.came ∷ [];
  count_is = let before = has.count_is in let longer = length-append has.lines (taken.came ∷ []) in omega (arith, before, longer);
  more = more_join has.lines taken.came has.more (ap is_more (sym taken.turn_is ∙ is));
  next = all_next plan journal has.lines taken.came v u has.steps has.next taken.next;
  steps = all_steps plan journal has.lines taken.came v u w has.steps taken.steps;
  after = subst (λ j. IsHeadEnd plan j new) (sym (all_journal_join (with_came plan) journal has.lines taken.came)) taken.after;
}

-- nothing is logged of a line that asks for the report, and of what is no line
pub with_pause : (plan : PlanView) (journal : List Logged) (what : Coming) (text : List ℕ) → is_more (turn_of (came_of what text)) ≡ false → with_came plan journal (came_of what text) ≡ journal
with_pause plan journal Line text off = by (to_head_end text) off
  where
    by : (heard : ToHeadEnd) → is_more (turn_of_line heard) ≡ false → with_logged journal (logged_to plan journal heard) ≡ journal
    by (hears.Frame frame) off = absurd cc
    by (hears.Tick t) off = absurd cc
    by hears.Again off = absurd cc
    by hears.Report off = refl
    by hears.Nothing off = absurd cc
    by hears.Unknown off = absurd cc
with_pause plan journal TooLong text off = absurd cc
with_pause plan journal Rest text off = refl
with_pause plan journal End text off = refl

pub run_paused : (plan : PlanView) (journal : List Logged) (v : WireView) (count : ℕ) (u w : WireView) (turn : Turn) (pause : Pause) (mid new : HeadEnd) (has : HasAnswered plan journal v count u mid)
    → (taken : IsTurn plan (run_journal plan journal has.lines) u w turn new) → is_more turn ≡ false → PausesAt pause has.lines (Some taken.came) → HasHeard plan journal v w pause new
run_paused plan journal v count u w turn pause mid new has taken off pauses = record {
  lines = has.lines;
  last = Some taken.came;
  more = has.more;
  pauses = pauses;
  next = all_next plan journal has.lines taken.came v u has.steps has.next taken.next;
  steps = all_steps plan journal has.lines taken.came v u w has.steps taken.steps;
  after = subst (λ j. IsHeadEnd plan j new) (with_pause plan (run_journal plan journal has.lines) taken.came.what taken.came.text (ap is_more (sym taken.turn_is) ∙ off)) taken.after;
}

pub run_reported : (plan : PlanView) (journal : List Logged) (v : WireView) (count : ℕ) (u w : WireView) (turn : Turn) (mid new : HeadEnd) (has : HasAnswered plan journal v count u mid)
    → IsTurn plan (run_journal plan journal has.lines) u w turn new → turn ≡ turns.Report → HasHeard plan journal v w pauses.Report new
run_reported plan journal v count u w turn mid new has taken is =
    run_paused plan journal v count u w turn pauses.Report mid new has taken (ap is_more is) (sym taken.turn_is ∙ is)

pub run_over : (plan : PlanView) (journal : List Logged) (v : WireView) (count : ℕ) (u w : WireView) (turn : Turn) (mid new : HeadEnd) (has : HasAnswered plan journal v count u mid)
    → IsTurn plan (run_journal plan journal has.lines) u w turn new → turn ≡ turns.Over → HasHeard plan journal v w pauses.Over new
run_over plan journal v count u w turn mid new has taken is =
    run_paused plan journal v count u w turn pauses.Over mid new has taken (ap is_more is) (sym taken.turn_is ∙ is)

-- so many lines were answered that no more are heard
pub run_full : (plan : PlanView) (journal : List Logged) (v : WireView) (count : ℕ) (w : WireView) (mid : HeadEnd) → HasAnswered plan journal v count w mid → count ≡ 2 ^ 64 - 1 → HasHeard plan journal v w pauses.Over mid
run_full plan journal v count w mid has full = record {
  lines = has.lines;
  last = None;
  more = has.more;
  pauses = sym has.count_is ∙ full;
  next = has.next;
  steps = has.steps;
  after = has.after;
}

-- a turn stopped
pub run_stopped : (plan : PlanView) (journal : List Logged) (error : RoleError) (v : WireView) (count : ℕ) (u w : WireView) (mid : HeadEnd) (has : HasAnswered plan journal v count u mid)
    → StopsInTurn plan error (run_journal plan journal has.lines) u w → StopsInRun plan journal error v w
run_stopped plan journal error v count u w mid has stops = record {
  lines = has.lines;
  view = u;
  more = has.more;
  next = has.next;
  steps = has.steps;
  stops = stops;
}
