-- Lines one after another.
use Rattle.std.proofs.Common.{◌≡◌, ℕ, ◌+◌, ◌-◌, ◌^◌, Bool, true, false, List, [], ◌∷◌, ◌++◌, length, refl, sym, ap, ◌∙◌, subst, length-append, arith, ⊎_elim}
use Rattle.std.specs.Prelude.{◌⊎◌, Option, Some, None, Result, Ok, Err}
use Rattle.std.specs.Option.{option_map}
use Rattle.missing_round.specs.Masks.{Masks}
use Rattle.meter_apart.specs.declared.answers.Noted.{Noted}
use Rattle.meter_apart.specs.declared.keys.MeterKeys.{MeterKeys}
use Rattle.meter_apart.specs.declared.meter.MeterApart.{MeterApart}
use Rattle.meter_apart.specs.declared.part.Part.{Part}
use Rattle.meter_apart.specs.Keys.{part_of, words_of}
use Rattle.meter_apart.specs.Meter.{IsAfter, meter_keys, meter_masks, meter_part}
use Rattle.apart_lines.specs.declared.heard.ToMeter.{ToMeter}
use Rattle.apart_lines.specs.declared.said.MeterSays.{MeterSays}
use Rattle.apart_lines.specs.declared.said.MeterSays.TheVariants.{UnknownLine}
use Rattle.apart_lines.specs.Heard.{to_meter}
use Rattle.apart_lines.specs.Said.{meter_text}
use Rattle.desk_outside.specs.Wire.{HearEnds, IsNext, WireView, after_step, after_steps}
use Rattle.desk_outside.specs.declared.wire.Coming.{Coming}
use Rattle.desk_outside.specs.declared.wire.Coming.TheVariants.{Line, TooLong, Rest, End}
use Rattle.desk_outside.specs.declared.wire.WireStep.TheVariants.{Heard, Unheard}
use Rattle.apart_roles.specs.declared.outcome.RoleError.{RoleError}
use Rattle.apart_roles.specs.declared.outcome.RoleError.TheVariants.{Input, Memory}
use Rattle.apart_roles.specs.Steps.{Stops, said_steps}
use Rattle.apart_roles.specs.MeterTurns.{IsAnswered, HasJournal, noted_to, said_to, steps_noted, steps_said, turn_steps}
use Rattle.apart_roles.specs.Inputs.{AreNext, Came, are_lines, is_line}
use Rattle.apart_roles.specs.MeterRuns.{IsRun, IsTurn, StopsInRun, StopsInTurn, TakesTurn, came_steps, run_journal, run_steps, said_in, with_came}
use Rattle.apart_roles.proofs.InputLemmas.{PassInput, all_heard, all_journal_join, all_steps_join, heard_input, is_next, lines_join, next_of, same_source}
use Rattle.apart_roles.proofs.StepLemmas.{done_behind, steps_join, stops_behind, stops_here}

-- ---- a turn

-- what came next was heard, and what it says was answered
pub turn_answered : (old new : MeterApart) (journal : List Noted) (came : Came) (v u w : WireView) → u ≡ after_step v (Heard came.what came.text) → IsNext v.input came.what came.text
    → IsAnswered old journal (said_in came) u w new → IsTurn old journal v w (is_line came.what) new
turn_answered old new journal came v u w heard next answered = record {
  came = came;
  more_is = refl;
  next = next;
  steps = done_behind v u w (Heard came.what came.text ∷ []) (turn_steps (meter_part old) (meter_masks old) journal (said_in came)) heard answered.steps;
  after = answered.after;
}

-- what came next was heard, and its answer stopped
pub turn_stopped : (part : Part) (m : Masks) (journal : List Noted) (came : Came) (v u w : WireView) (error : RoleError) → u ≡ after_step v (Heard came.what came.text) → IsNext v.input came.what came.text
    → Stops error (turn_steps part m journal (said_in came)) u w → StopsInTurn part m error journal v w
turn_stopped part m journal came v u w error heard next stops = record {
  came = came;
  next = next;
  stops = stops_behind error (Heard came.what came.text ∷ []) (turn_steps part m journal (said_in came)) v u w heard stops;
}

-- what comes next was not heard
pub turn_unheard : (part : Part) (m : Masks) (journal : List Noted) (v w : WireView) → w ≡ after_step v Unheard → StopsInTurn part m Input journal v w
turn_unheard part m journal v w is = record {
  came = next_of v.input;
  next = is_next v.input;
  stops = stops_here Input (came_steps part m journal (next_of v.input)) v w is;
}

pub turn_memory : (part : Part) (m : Masks) (journal : List Noted) (v w : WireView) → w ≡ v → StopsInTurn part m Memory journal v w
turn_memory part m journal v w is = record {
  came = next_of v.input;
  next = is_next v.input;
  stops = stops_here Memory (came_steps part m journal (next_of v.input)) v w is;
}

-- a line was heard and answered
pub line_answered : (old new : MeterApart) (journal : List Noted) (what : Coming) (text told : List ℕ) (v u w : WireView) → what ≡ Line → HearEnds v u text (Ok what) → told ≡ text
    → IsAnswered old journal (to_meter told) u w new → IsTurn old journal v w true new
line_answered old new journal what text told v u w is heard told_is answered =
    let line = subst (λ k. HearEnds v u text (Ok k)) is heard in
    turn_answered old new journal (record { what = Line; text = text }) v u w line.0 line.1 (subst (λ t. IsAnswered old journal (to_meter t) u w new) told_is answered)

pub line_stopped : (old new : MeterApart) (journal : List Noted) (what : Coming) (text told : List ℕ) (v u w : WireView) (error : RoleError) (result : Result Bool RoleError) → result ≡ Err error → what ≡ Line
    → HearEnds v u text (Ok what) → told ≡ text → Stops error (turn_steps (meter_part old) (meter_masks old) journal (to_meter told)) u w → TakesTurn old journal v w result new
line_stopped old new journal what text told v u w error result result_is is heard told_is stops =
    let line = subst (λ k. HearEnds v u text (Ok k)) is heard in
    subst (λ (r : Result Bool RoleError). TakesTurn old journal v w r new) (sym result_is)
    (turn_stopped (meter_part old) (meter_masks old) journal (record { what = Line; text = text }) v u w error line.0 line.1
    (subst (λ t. Stops error (turn_steps (meter_part old) (meter_masks old) journal (to_meter t)) u w) told_is stops))

-- a line that is too long
pub long_answered : (old : MeterApart) (journal : List Noted) (what : Coming) (text : List ℕ) (v u w : WireView) → IsAfter journal old → what ≡ TooLong → HearEnds v u text (Ok what)
    → w ≡ after_steps u (said_steps (meter_text UnknownLine)) → IsTurn old journal v w true old
long_answered old journal what text v u w after is heard said =
    let line = subst (λ k. HearEnds v u text (Ok k)) is heard in
    turn_answered old old journal (record { what = TooLong; text = text }) v u w line.0 line.1 (record { steps = said; after = after })

pub long_stopped : (old new : MeterApart) (journal : List Noted) (what : Coming) (text : List ℕ) (v u w : WireView) (error : RoleError) (result : Result Bool RoleError) → result ≡ Err error → what ≡ TooLong
    → HearEnds v u text (Ok what) → Stops error (said_steps (meter_text UnknownLine)) u w → TakesTurn old journal v w result new
long_stopped old new journal what text v u w error result result_is is heard stops =
    let line = subst (λ k. HearEnds v u text (Ok k)) is heard in
    subst (λ (r : Result Bool RoleError). TakesTurn old journal v w r new) (sym result_is)
    (turn_stopped (meter_part old) (meter_masks old) journal (record { what = TooLong; text = text }) v u w error line.0 line.1 stops)

-- what is no line
pub no_line : (old : MeterApart) (journal : List Noted) (what : Coming) (text : List ℕ) (v w : WireView) → IsAfter journal old → (what ≡ Rest) ⊎ (what ≡ End) → HearEnds v w text (Ok what)
    → IsTurn old journal v w false old
no_line old journal what text v w after is heard = ⊎_elim
    (λ rest. let ends = subst (λ k. HearEnds v w text (Ok k)) rest heard in
    turn_answered old old journal (record { what = Rest; text = text }) v w w ends.0 ends.1 (record { steps = refl; after = after }))
    (λ end. let ends = subst (λ k. HearEnds v w text (Ok k)) end heard in
    turn_answered old old journal (record { what = End; text = text }) v w w ends.0 ends.1 (record { steps = refl; after = after }))
    is

-- ---- the input

noted_input : (v : WireView) (noted : Option Noted) → (after_steps v (steps_noted noted)).input ≡ v.input
unfolding after_step
noted_input v None = refl
noted_input v (Some line) = same_source (option_map (λ s. s) v.input) ∙ same_source v.input

said_input : (v : WireView) (says : Option MeterSays) → (after_steps v (steps_said says)).input ≡ v.input
unfolding after_step
said_input v None = refl
said_input v (Some says) = same_source v.input

turn_input : (v : WireView) (part : Part) (m : Masks) (journal : List Noted) (heard : ToMeter) → (after_steps v (turn_steps part m journal heard)).input ≡ v.input
turn_input v part m journal heard =
    ap (λ (x : WireView). x.input) (steps_join v (steps_noted (noted_to part journal heard)) (steps_said (said_to part m journal heard)))
    ∙ said_input (after_steps v (steps_noted (noted_to part journal heard))) (said_to part m journal heard)
    ∙ noted_input v (noted_to part journal heard)

came_input : (part : Part) (m : Masks) → PassInput (came_steps part m)
came_input part m v journal came = turn_input (after_step v (Heard came.what came.text)) part m journal (said_in came) ∙ heard_input v came

-- ---- a run

-- so many lines were heard and answered
pub record HasAnswered (old : MeterApart) (journal : List Noted) (v : WireView) (count : ℕ) (w : WireView) (new : MeterApart) : Type 0 where
  pub lines : List Came
  pub count_is : count ≡ length lines
  pub lines_are : are_lines lines ≡ true
  pub next : AreNext v.input lines
  pub steps : w ≡ after_steps v (run_steps (meter_part old) (meter_masks old) journal lines)
  pub after : IsAfter (run_journal (meter_part old) journal lines) new
  pub keys : meter_keys new ≡ meter_keys old

pub nothing_answered : (old : MeterApart) (journal : List Noted) (v : WireView) → IsAfter journal old → HasAnswered old journal v 0 v old
nothing_answered old journal v after = record { lines = []; count_is = refl; lines_are = refl; next = tt; steps = refl; after = after; keys = refl }

-- the meter is in the state that some journal gives
pub has_journal : (old : MeterApart) (journal : List Noted) (v : WireView) (count : ℕ) (w : WireView) (mid : MeterApart) → HasAnswered old journal v count w mid → HasJournal mid
has_journal old journal v count w mid has = record { journal = run_journal (meter_part old) journal has.lines; after = has.after }

-- the steps of what comes next are those of the keys that the meter began with
turn_steps_are : (old mid : MeterApart) (journal : List Noted) (came : Came) (u : WireView) → meter_keys mid ≡ meter_keys old
    → after_steps u (came_steps (meter_part mid) (meter_masks mid) journal came) ≡ after_steps u (came_steps (meter_part old) (meter_masks old) journal came)
turn_steps_are old mid journal came u keys = ap (λ (k : MeterKeys). after_steps u (came_steps (part_of k) (words_of k) journal came)) keys

all_steps : (old mid : MeterApart) (journal : List Noted) (lines : List Came) (came : Came) (v u w : WireView) → meter_keys mid ≡ meter_keys old
    → u ≡ after_steps v (run_steps (meter_part old) (meter_masks old) journal lines)
    → w ≡ after_steps u (came_steps (meter_part mid) (meter_masks mid) (run_journal (meter_part old) journal lines) came)
    → w ≡ after_steps v (run_steps (meter_part old) (meter_masks old) journal (lines ++ came ∷ []))
all_steps old mid journal lines came v u w keys one two =
    done_behind v u w (run_steps (meter_part old) (meter_masks old) journal lines) (came_steps (meter_part old) (meter_masks old) (run_journal (meter_part old) journal lines) came) one
    (two ∙ turn_steps_are old mid (run_journal (meter_part old) journal lines) came u keys)
    ∙ ap (after_steps v) (sym (all_steps_join (came_steps (meter_part old) (meter_masks old)) (with_came (meter_part old)) journal lines came))

all_next : (part : Part) (m : Masks) (journal : List Noted) (lines : List Came) (came : Came) (v u : WireView) → u ≡ after_steps v (run_steps part m journal lines)
    → AreNext v.input lines → IsNext u.input came.what came.text → AreNext v.input (lines ++ came ∷ [])
all_next part m journal lines came v u one are is = all_heard (came_steps part m) (with_came part) (came_input part m) journal lines came v u one are is

-- one more line was answered
pub one_more : (old mid new : MeterApart) (journal : List Noted) (v : WireView) (count : ℕ) (u w : WireView) (more : Bool) (has : HasAnswered old journal v count u mid) → meter_keys new ≡ meter_keys mid
    → IsTurn mid (run_journal (meter_part old) journal has.lines) u w more new → more ≡ true → HasAnswered old journal v (count + 1) w new
one_more old mid new journal v count u w more has same turn is = record {
  lines = has.lines ++ turn.came ∷ [];
  count_is = let before = has.count_is in let longer = length-append has.lines (turn.came ∷ []) in omega (arith, before, longer);
  lines_are = lines_join has.lines turn.came has.lines_are (sym turn.more_is ∙ is);
  next = all_next (meter_part old) (meter_masks old) journal has.lines turn.came v u has.steps has.next turn.next;
  steps = all_steps old mid journal has.lines turn.came v u w has.keys has.steps turn.steps;
  after = subst (λ j. IsAfter j new)
      (ap (λ (k : MeterKeys). with_came (part_of k) (run_journal (meter_part old) journal has.lines) turn.came) has.keys ∙ sym (all_journal_join (with_came (meter_part old)) journal has.lines turn.came)) turn.after;
  keys = same ∙ has.keys;
}

-- what is no line is answered by nothing, and nothing is noted of it
pub with_no_line : (part : Part) (journal : List Noted) (what : Coming) (text : List ℕ) → is_line what ≡ false → with_came part journal (record { what = what; text = text }) ≡ journal
with_no_line part journal Rest text over = refl
with_no_line part journal End text over = refl
with_no_line part journal Line text over = absurd cc
with_no_line part journal TooLong text over = absurd cc

-- the input has ended
pub run_ended : (old mid new : MeterApart) (journal : List Noted) (v : WireView) (count : ℕ) (u w : WireView) (more : Bool) (has : HasAnswered old journal v count u mid)
    → IsTurn mid (run_journal (meter_part old) journal has.lines) u w more new → more ≡ false → IsRun old journal v w new
run_ended old mid new journal v count u w more has turn is =
    let over : is_line turn.came.what ≡ false = sym turn.more_is ∙ is in
    record {
      lines = has.lines;
      last = Some turn.came;
      lines_are = has.lines_are;
      ends = over;
      next = all_next (meter_part old) (meter_masks old) journal has.lines turn.came v u has.steps has.next turn.next;
      steps = all_steps old mid journal has.lines turn.came v u w has.keys has.steps turn.steps;
      after = subst (λ j. IsAfter j new) (with_no_line (meter_part mid) (run_journal (meter_part old) journal has.lines) turn.came.what turn.came.text over) turn.after;
    }

-- so many lines were answered that no more are heard
pub run_full : (old mid : MeterApart) (journal : List Noted) (v : WireView) (count : ℕ) (w : WireView) → HasAnswered old journal v count w mid → count ≡ 2 ^ 64 - 1 → IsRun old journal v w mid
run_full old mid journal v count w has full = record {
  lines = has.lines;
  last = None;
  lines_are = has.lines_are;
  ends = sym has.count_is ∙ full;
  next = has.next;
  steps = has.steps;
  after = has.after;
}

-- a turn stopped
pub run_stopped : (old mid : MeterApart) (journal : List Noted) (error : RoleError) (v : WireView) (count : ℕ) (u w : WireView) (has : HasAnswered old journal v count u mid)
    → StopsInTurn (meter_part mid) (meter_masks mid) error (run_journal (meter_part old) journal has.lines) u w → StopsInRun old journal error v w
run_stopped old mid journal error v count u w has stops = record {
  lines = has.lines;
  view = u;
  lines_are = has.lines_are;
  next = has.next;
  steps = has.steps;
  stops = subst (λ (k : MeterKeys). StopsInTurn (part_of k) (words_of k) error (run_journal (meter_part old) journal has.lines) u w) has.keys stops;
}
