-- A head end that starts over what is left of its journal.
use Rattle.std.proofs.Common.{◌≡◌, ℕ, ◌<◌, ◌≤◌, Bool, true, false, ◌&&◌, List, [], ◌∷◌, ◌++◌, length, take, refl, sym, ap, ◌∙◌, subst, append_assoc, append-nil, length-append, arith}
use Rattle.std.specs.Prelude.{◌==◌, bytes_eq, codes, if◌then◌else◌, Option, Some, None, Result, Ok, Err}
use Rattle.std.specs.List.{list_all}
use Rattle.std.specs.Option.{option_map}
use Rattle.group_plan.specs.Plans.{PlanView}
use Rattle.meter_frames.specs.declared.Frame.{Frame}
use Rattle.meter_frames.specs.declared.FrameError.{FrameError}
use Rattle.meter_frames.specs.Frames.{IsFrame}
use Rattle.field_texts.specs.Parts.{parts}
use Rattle.transcript_text.specs.Spelling.{ended}
use Rattle.head_end.specs.declared.answers.Logged.{Logged}
use Rattle.head_end.specs.declared.answers.Logged.TheVariants.{Took, Passed}
use Rattle.head_end.specs.declared.head.HeadEnd.{HeadEnd}
use Rattle.head_end.specs.Head.{IsAfter}
use Rattle.head_end.specs.Journal.{passed as ticks_in}
use Rattle.head_end.specs.Replies.{can_follow, can_pass, is_fresh, reply}
use Rattle.apart_lines.specs.declared.heard.ToHeadEnd.{ToHeadEnd}
use Rattle.apart_lines.specs.declared.heard.ToHeadEnd.TheVariants as hears
use Rattle.apart_lines.specs.declared.said.HeadEndSays.TheVariants as says
use Rattle.apart_lines.specs.Frames.{frame_in}
use Rattle.apart_lines.specs.Heads.{journal_head}
use Rattle.apart_lines.specs.Heard.{told_number, frame_to_head_end, is_answer, tick_to_head_end, to_head_end, to_head_end_alone, to_head_end_by, to_head_end_other, to_head_end_pair}
use Rattle.apart_lines.specs.Journals.{HasLogged, logged_of, logged_text}
use Rattle.apart_lines.specs.Said.{head_end_text}
use Rattle.desk_outside.specs.Wire.{newline_in, Source, WireView, after_step, after_steps}
use Rattle.desk_outside.specs.declared.wire.Coming.{Coming}
use Rattle.desk_outside.specs.declared.wire.Coming.TheVariants.{Line, TooLong, Rest, End}
use Rattle.desk_outside.specs.declared.wire.WireStep.{WireStep}
use Rattle.desk_outside.specs.declared.wire.WireStep.TheVariants.{Flushed, Heard, Said}
use Rattle.apart_roles.specs.declared.head_end_run.Pause.{Pause}
use Rattle.apart_roles.specs.declared.head_end_run.Pause.TheVariants as pauses_by
use Rattle.apart_roles.specs.declared.outcome.RoleError.{RoleError}
use Rattle.apart_roles.specs.declared.outcome.Start.{Start}
use Rattle.apart_roles.specs.declared.outcome.Start.TheVariants as starts
use Rattle.apart_roles.specs.Inputs.{Came, most_lines, with_last}
use Rattle.apart_roles.specs.HeadEndRuns.{PausesAt, came_steps, is_more, run_journal, run_steps, said_by, said_in, with_came}
use Rattle.apart_roles.specs.HeadEndStarts.{HeadEndStarts, welcome_steps}
use Rattle.apart_roles.specs.HeadEndTurns.{Answer, IsHeadEnd, is_flushed_to, logged_to, said_to, steps_flushed, steps_logged, steps_said, with_logged}
use Rattle.apart_roles.proofs.HeadEndRunLemmas.{with_pause}
use Rattle.apart_roles.proofs.InputLemmas.{all_journal_join, same_source}
use Rattle.apart_roles.proofs.WrittenLemmas.{logged_text_back}
use Rattle.journal_cuts.specs.Cuts.{whole_in}
use Rattle.journal_cuts.specs.Files.{JournalFile, KeepsFirst, file_behind, is_onward}
use Rattle.journal_cuts.proofs.FileLemmas.{kept_flushed, onward_spare}
use Rattle.apart_roles.proofs.StepLemmas.{done_behind}
use Rattle.role_restarts.specs.Restarts.{AreLines, IsRestored}
use Rattle.role_restarts.specs.HeadEndRestarts.{AreLogged, IsRestarted, RestartsFrom, RestartsWith, logged_bytes}
use Rattle.role_restarts.specs.Statements.{HeadEndBeginsAnew, HeadEndCrashes, HeadEndGoesOn, HeadEndKilled, HeadEndRestarts, HeadEndRunsHaveLines, HeadEndSaysTheSame, HeadEndSettles, HeadEndStartCrashes, HeadEndStartsHaveLines}
use Rattle.role_restarts.proofs.RestartLemmas.{opens_along, opens_begun, opens_cut, opens_first, opens_found}
use Rattle.role_restarts.proofs.LineLemmas.{cut_fits, frame_read, lines_first, lines_join, logged_line}
use Rattle.role_restarts.proofs.FileLemmas.{AreQuiet, IsAlong, IsRunAlong, IsThere, IsTurnAlong, along_join, along_taken, bytes_first, onward_first, onward_quiet, onward_run, run_along, run_join, settled_flushed, told_behind, turn_along, welcome_along}

-- ---- what is said at the start

welcomed : (v : WireView) (said : List ℕ) → (after_steps v (Flushed false ∷ Said (10 ∷ []) false ∷ Said said false ∷ [])).journal ≡ v.journal
unfolding after_step
welcomed v said = same_source (option_map (λ s. s) (option_map (λ s. s) v.journal)) ∙ same_source (option_map (λ s. s) v.journal) ∙ same_source v.journal

restarted : (plan : PlanView) (lines : List Logged) (view w : WireView) (new : HeadEnd) → IsRestored logged_text (IsHeadEnd plan) (journal_head plan) lines view new
    → ((journal : List Logged) → IsAfter journal new → w ≡ after_steps view (welcome_steps plan (ticks_in journal))) → IsRestarted plan lines w new
restarted plan lines view w new restored steps = record {
  restored = record {
    source = restored.source;
    told = ap (λ (x : WireView). x.journal) (steps lines restored.after.after) ∙ welcomed view (ended (head_end_text plan (says.Ready (ticks_in lines)))) ∙ restored.told;
    bytes = restored.bytes;
    after = restored.after;
  };
  view = view;
  says = steps lines restored.after.after;
}

-- ---- cuts

starts_cut : (plan : PlanView) (name : List ℕ) (lines : List Logged) (more : List ℕ) (v w : WireView) (source : Source) (told : v.journal ≡ Some source) → source.bytes ≡ journal_head plan ++ (logged_bytes lines ++ more)
    → AreLogged plan lines → length lines ≤ most_lines → newline_in more ≡ None → (result : Result (Start HeadEnd) RoleError) → HeadEndStarts plan name v w result → RestartsWith plan lines w result
starts_cut plan name lines more v w source told bytes_are are few none (Ok (starts.Ready new)) started =
    restarted plan lines started.view w new
    (opens_cut logged_of logged_text (can_follow plan) logged_text_back (IsHeadEnd plan) name (journal_head plan) v source told lines more bytes_are are few none started.view (Ok (starts.Ready new)) started.opens) started.steps
starts_cut plan name lines more v w source told bytes_are are few none (Ok (starts.Line number)) opens =
    opens_cut logged_of logged_text (can_follow plan) logged_text_back (IsHeadEnd plan) name (journal_head plan) v source told lines more bytes_are are few none w (Ok (starts.Line number)) opens
starts_cut plan name lines more v w source told bytes_are are few none (Ok starts.Unreadable) opens = tt
starts_cut plan name lines more v w source told bytes_are are few none (Ok (starts.Head number)) opens =
    opens_cut logged_of logged_text (can_follow plan) logged_text_back (IsHeadEnd plan) name (journal_head plan) v source told lines more bytes_are are few none w (Ok (starts.Head number)) opens
starts_cut plan name lines more v w source told bytes_are are few none (Err error) opens = tt

pub restarts : HeadEndRestarts
restarts plan name lines n v w source result are few told bytes_are started =
    let cut = cut_fits logged_of logged_text (can_follow plan) lines n are in
    let fewer = cut.fewer in
    starts_cut plan name (whole_in logged_text lines n) cut.rest v w source told (bytes_are ∙ ap (λ t. journal_head plan ++ t) cut.bytes) cut.are (omega (arith, few, fewer)) cut.over result started

starts_begun : (plan : PlanView) (name : List ℕ) (n : ℕ) (v w : WireView) (source : Source) (told : v.journal ≡ Some source) → n < length (journal_head plan) → source.bytes ≡ take n (journal_head plan)
    → (result : Result (Start HeadEnd) RoleError) → HeadEndStarts plan name v w result → RestartsWith plan [] w result
starts_begun plan name n v w source told lt bytes_are (Ok (starts.Ready new)) started =
    restarted plan [] started.view w new
    (opens_begun logged_of logged_text (can_follow plan) logged_text_back (IsHeadEnd plan) name (journal_head plan) v source told n lt bytes_are started.view (Ok (starts.Ready new)) started.opens) started.steps
starts_begun plan name n v w source told lt bytes_are (Ok (starts.Line number)) opens =
    opens_begun logged_of logged_text (can_follow plan) logged_text_back (IsHeadEnd plan) name (journal_head plan) v source told n lt bytes_are w (Ok (starts.Line number)) opens
starts_begun plan name n v w source told lt bytes_are (Ok starts.Unreadable) opens = tt
starts_begun plan name n v w source told lt bytes_are (Ok (starts.Head number)) opens =
    opens_begun logged_of logged_text (can_follow plan) logged_text_back (IsHeadEnd plan) name (journal_head plan) v source told n lt bytes_are w (Ok (starts.Head number)) opens
starts_begun plan name n v w source told lt bytes_are (Err error) opens = tt

pub begins_anew : HeadEndBeginsAnew
begins_anew plan name n v w source result lt told bytes_are started = starts_begun plan name n v w source told lt bytes_are result started

-- ---- what a journal has

pub starts_have : HeadEndStartsHaveLines
starts_have plan name v w source new told started =
    let found = opens_found logged_of logged_text (can_follow plan) logged_text_back (IsHeadEnd plan) name (journal_head plan) v source told started.view new started.opens in
    record { lines = found.lines; are = found.are; restored = (restarted plan found.lines started.view w new found.restored started.steps).restored }

-- a frame that is heard has a spelling

alone_no_frame : (word : List ℕ) (f : Frame) → to_head_end_alone word ≡ hears.Frame (Ok f) → IsFrame f
alone_no_frame word f is = by (bytes_eq word (codes "")) (bytes_eq word (codes "again")) (bytes_eq word (codes "report")) (is_answer word) is
  where
    by : (a b c d : Bool) → (if a then hears.Nothing else if b then hears.Again else if c then hears.Report else if d then hears.Nothing else hears.Unknown) ≡ hears.Frame (Ok f) → IsFrame f
    by true b c d found = absurd cc
    by false true c d found = absurd cc
    by false false true d found = absurd cc
    by false false false true found = absurd cc
    by false false false false found = absurd cc

other_no_frame : (word : List ℕ) (f : Frame) → to_head_end_other word ≡ hears.Frame (Ok f) → IsFrame f
other_no_frame word f is = by (is_answer word) is
  where
    by : (b : Bool) → (if b then hears.Nothing else hears.Unknown) ≡ hears.Frame (Ok f) → IsFrame f
    by true found = absurd cc
    by false found = absurd cc

pair_frame : (word rest : List ℕ) (f : Frame) → to_head_end_pair word rest ≡ hears.Frame (Ok f) → IsFrame f
pair_frame word rest f is = by (bytes_eq word (codes "frame")) (bytes_eq word (codes "tick")) is
  where
    by_frame : (read : Option (Result Frame FrameError)) → frame_in rest ≡ read → frame_to_head_end read ≡ hears.Frame (Ok f) → IsFrame f
    by_frame None in_rest found = absurd cc
    by_frame (Some read) in_rest found = let e : read ≡ Ok f = cc in frame_read rest f (in_rest ∙ ap Some e)

    by_tick : (tick : Option ℕ) → tick_to_head_end tick ≡ hears.Frame (Ok f) → IsFrame f
    by_tick None found = absurd cc
    by_tick (Some t) found = absurd cc

    by : (a b : Bool) → (if a then frame_to_head_end (frame_in rest) else if b then tick_to_head_end (told_number rest) else to_head_end_other word) ≡ hears.Frame (Ok f) → IsFrame f
    by true b found = by_frame (frame_in rest) refl found
    by false true found = by_tick (told_number rest) found
    by false false found = other_no_frame word f found

fields_frame : (fields : List (List ℕ)) (f : Frame) → to_head_end_by fields ≡ hears.Frame (Ok f) → IsFrame f
fields_frame [] f is = absurd cc
fields_frame (word ∷ []) f is = alone_no_frame word f is
fields_frame (word ∷ rest ∷ []) f is = pair_frame word rest f is
fields_frame (word ∷ second ∷ third ∷ rest) f is = other_no_frame word f is

heard_frame : (what : Coming) (text : List ℕ) (f : Frame) → said_by what text ≡ hears.Frame (Ok f) → IsFrame f
unfolding to_head_end
heard_frame Line text f is = fields_frame (parts 44 text) f is
heard_frame TooLong text f is = absurd cc
heard_frame Rest text f is = absurd cc
heard_frame End text f is = absurd cc

-- what is logged is a line that can follow
logged_is : (plan : PlanView) (journal : List Logged) (heard : ToHeadEnd) (line : Logged) → ((f : Frame) → heard ≡ hears.Frame (Ok f) → IsFrame f) → logged_to plan journal heard ≡ Some line
    → HasLogged line × (can_follow plan journal line ≡ true)
logged_is plan journal (hears.Frame (Ok f)) line sound is = by (is_fresh (reply plan journal f)) refl is
  where
    by : (b : Bool) → is_fresh (reply plan journal f) ≡ b → (if b then Some (Took f) else None) ≡ Some line → HasLogged line × (can_follow plan journal line ≡ true)
    by true fresh found =
        let e : Took f ≡ line = cc in
        subst (λ (l : Logged). HasLogged l × (can_follow plan journal l ≡ true)) e (sound f refl, fresh)
    by false stale found = absurd cc
logged_is plan journal (hears.Frame (Err rule)) line sound is = absurd cc
logged_is plan journal (hears.Tick t) line sound is = by (t == ticks_in journal) (can_pass plan journal) refl is
  where
    by : (a b : Bool) → can_pass plan journal ≡ b → (if a && b then Some Passed else None) ≡ Some line → HasLogged line × (can_follow plan journal line ≡ true)
    by true true may found =
        let e : Passed ≡ line = cc in
        subst (λ (l : Logged). HasLogged l × (can_follow plan journal l ≡ true)) e (tt, may)
    by true false may found = absurd cc
    by false b may found = absurd cc
logged_is plan journal hears.Again line sound is = absurd cc
logged_is plan journal hears.Report line sound is = absurd cc
logged_is plan journal hears.Nothing line sound is = absurd cc
logged_is plan journal hears.Unknown line sound is = absurd cc

came_logged : (plan : PlanView) (journal : List Logged) (came : Came) → AreLogged plan journal → AreLogged plan (with_came plan journal came)
came_logged plan journal came are = by (logged_to plan journal (said_in came)) refl
  where
    by : (o : Option Logged) → logged_to plan journal (said_in came) ≡ o → AreLogged plan (with_logged journal o)
    by None is = are
    by (Some line) is =
        let sound = logged_is plan journal (said_in came) line (λ f heard. heard_frame came.what came.text f heard) is in
        lines_join logged_of logged_text (can_follow plan) [] journal line are (logged_line line sound.0) sound.1

pub run_logged : (plan : PlanView) (journal : List Logged) (came : List Came) → AreLogged plan journal → AreLogged plan (run_journal plan journal came)
run_logged plan journal [] are = are
run_logged plan journal (one ∷ others) are = run_logged plan (with_came plan journal one) others (came_logged plan journal one are)

-- ---- along a run

said_quiet : (plan : PlanView) (said : Option Answer) → AreQuiet (steps_said plan said)
said_quiet plan None = tt
said_quiet plan (Some answer) = tt

turn_by : (plan : PlanView) (o : Option Logged) (b : Bool) (journal flushed : List Logged) (file : JournalFile) (what : Coming) (text : List ℕ) (said : List WireStep) → AreQuiet said
    → IsThere logged_text (journal_head plan) journal flushed file
    → IsTurnAlong logged_text (journal_head plan) journal (with_logged journal o) file (Heard what text ∷ ((steps_logged o ++ steps_flushed b) ++ said))
turn_by plan None true journal flushed file what text said quiet there = turn_along logged_text (journal_head plan) None true journal flushed file what text said quiet there
turn_by plan None false journal flushed file what text said quiet there = turn_along logged_text (journal_head plan) None false journal flushed file what text said quiet there
turn_by plan (Some line) true journal flushed file what text said quiet there = turn_along logged_text (journal_head plan) (Some line) true journal flushed file what text said quiet there
turn_by plan (Some line) false journal flushed file what text said quiet there = turn_along logged_text (journal_head plan) (Some line) false journal flushed file what text said quiet there

each_turn : (plan : PlanView) (journal flushed : List Logged) (file : JournalFile) (came : Came) → IsThere logged_text (journal_head plan) journal flushed file
    → IsTurnAlong logged_text (journal_head plan) journal (with_came plan journal came) file (came_steps plan journal came)
each_turn plan journal flushed file came there =
    let heard = said_in came in
    turn_by plan (logged_to plan journal heard) (is_flushed_to journal heard) journal flushed file came.what came.text (steps_said plan (said_to plan journal heard)) (said_quiet plan (said_to plan journal heard)) there

all_along : (plan : PlanView) (journal : List Logged) (came : List Came) (file : JournalFile) → file.flushed ≡ file.source.bytes → file.source.bytes ≡ journal_head plan ++ logged_bytes journal
    → IsRunAlong logged_text (journal_head plan) (came_steps plan) (with_came plan) (each_turn plan) journal file came
all_along plan journal came file flushed bytes_are =
    run_along logged_text (journal_head plan) (came_steps plan) (with_came plan) (each_turn plan) journal journal file came
    (record { later = []; is = sym (append-nil journal); flushed_is = flushed ∙ bytes_are; bytes_are = bytes_are })

pub killed : HeadEndKilled
killed plan journal came n file are settled bytes_are =
    let run = all_along plan journal came file settled.flushed bytes_are in
    let all = run_journal plan journal came in
    let here = along_taken (IsAlong logged_text (journal_head plan) all) file (run_steps plan journal came) n run.along in (
      run_logged plan journal came are,
      (
        length (logged_bytes here.journal),
        here.there.bytes_are ∙ ap (λ t. journal_head plan ++ t) (sym (bytes_first logged_text all here.journal here.behind here.all_is)),
      ),
    )

-- what comes last is logged no more
last_journal : (plan : PlanView) (journal : List Logged) (pause : Pause) (lines : List Came) (last : Option Came) → PausesAt pause lines last → run_journal plan journal (with_last lines last) ≡ run_journal plan journal lines
last_journal plan journal pause lines None pauses = refl
last_journal plan journal pauses_by.Report lines (Some came) is =
    all_journal_join (with_came plan) journal lines came ∙ with_pause plan (run_journal plan journal lines) came.what came.text (ap is_more is)
last_journal plan journal pauses_by.Over lines (Some came) is =
    all_journal_join (with_came plan) journal lines came ∙ with_pause plan (run_journal plan journal lines) came.what came.text (ap is_more is)

flushed_same : (v : WireView) → (after_steps v (Flushed false ∷ [])).journal ≡ v.journal
unfolding after_step
flushed_same v = same_source v.journal

pub runs_have : HeadEndRunsHaveLines
runs_have plan v w old new pause has runs =
    let journal = has.lines in
    let run = runs journal has.restored.after in
    let heard = run.heard in
    let all = with_last heard.lines heard.last in
    let file : JournalFile = record { source = has.restored.source; flushed = has.restored.source.bytes; since = [] } in
    let along = all_along plan journal all file refl has.restored.bytes in
    record {
      lines = run_journal plan journal heard.lines;
      are = run_logged plan journal heard.lines has.are;
      restored = record {
        source = (file_behind file (run_steps plan journal all)).source;
        told = ap (λ (x : WireView). x.journal) run.steps ∙ flushed_same run.view ∙ ap (λ (x : WireView). x.journal) heard.steps ∙ told_behind v file (run_steps plan journal all) has.restored.told;
        bytes = along.there.bytes_are ∙ ap (λ j. journal_head plan ++ logged_bytes j) (last_journal plan journal pause heard.lines heard.last heard.pauses);
        after = heard.after;
      };
    }

-- ---- what is said from then on

pub says_the_same : HeadEndSaysTheSame
says_the_same plan journal v u x y pause wait new other one two same =
    (run_steps plan journal (with_last one.lines one.last), one.steps, two.steps ∙ ap (λ lines. after_steps x (run_steps plan journal lines)) (sym same))

pub goes_on : HeadEndGoesOn
goes_on plan journal earlier later = run_join (came_steps plan) (with_came plan) journal earlier later

-- ---- crashes

starts_first : (plan : PlanView) (name : List ℕ) (lines : List Logged) (more : List ℕ) (v w : WireView) (source : Source) (told : v.journal ≡ Some source) → source.bytes ≡ journal_head plan ++ (logged_bytes lines ++ more)
    → AreLogged plan lines → length lines ≤ most_lines → (result : Result (Start HeadEnd) RoleError) → HeadEndStarts plan name v w result → RestartsFrom plan source.bytes lines w result
starts_first plan name lines more v w source told bytes_are are few (Ok (starts.Ready new)) started =
    let first = opens_first logged_of logged_text (can_follow plan) logged_text_back (IsHeadEnd plan) name (journal_head plan) v source told lines more bytes_are are few started.view (Ok (starts.Ready new)) started.opens in
    record {
      others = first.others;
      are = first.others_are;
      stand = first.stand;
      restarted = restarted plan (lines ++ first.others) started.view w new first.restored started.steps;
    }
starts_first plan name lines more v w source told bytes_are are few (Ok (starts.Line number)) opens =
    opens_first logged_of logged_text (can_follow plan) logged_text_back (IsHeadEnd plan) name (journal_head plan) v source told lines more bytes_are are few w (Ok (starts.Line number)) opens
starts_first plan name lines more v w source told bytes_are are few (Ok starts.Unreadable) opens = tt
starts_first plan name lines more v w source told bytes_are are few (Ok (starts.Head number)) opens =
    opens_first logged_of logged_text (can_follow plan) logged_text_back (IsHeadEnd plan) name (journal_head plan) v source told lines more bytes_are are few w (Ok (starts.Head number)) opens
starts_first plan name lines more v w source told bytes_are are few (Err error) opens = tt

onward_by : (o : Option Logged) (b : Bool) (what : Coming) (text : List ℕ) (said : List WireStep) → AreQuiet said → list_all is_onward (Heard what text ∷ ((steps_logged o ++ steps_flushed b) ++ said)) ≡ true
onward_by None true what text said quiet = onward_quiet said quiet
onward_by None false what text said quiet = onward_quiet said quiet
onward_by (Some line) true what text said quiet = onward_quiet said quiet
onward_by (Some line) false what text said quiet = onward_quiet said quiet

onward_turn : (plan : PlanView) (journal : List Logged) (came : Came) → list_all is_onward (came_steps plan journal came) ≡ true
onward_turn plan journal came =
    let heard = said_in came in
    onward_by (logged_to plan journal heard) (is_flushed_to journal heard) came.what came.text (steps_said plan (said_to plan journal heard)) (said_quiet plan (said_to plan journal heard))

pub crashes : HeadEndCrashes
crashes plan name journal came n file left v w source result are few settled bytes_are leaves told left_is started =
    let run = all_along plan journal came file settled.flushed bytes_are in
    let all = run_journal plan journal came in
    let steps = take n (run_steps plan journal came) in
    let here = along_taken (IsAlong logged_text (journal_head plan) all) file (run_steps plan journal came) n run.along in
    let there = here.there in
    let spare = onward_spare file steps (onward_first n (run_steps plan journal came) (onward_run (came_steps plan) (with_came plan) (onward_turn plan) journal came)) in
    let kept = (kept_flushed file steps settled spare).left left leaves in
    let all_is : all ≡ here.flushed ++ (there.later ++ here.behind) = here.all_is ∙ ap (λ j. j ++ here.behind) there.is ∙ append_assoc here.flushed there.later here.behind in
    let long = ap length all_is ∙ length-append here.flushed (there.later ++ here.behind) in
    let now : source.bytes ≡ journal_head plan ++ (logged_bytes here.flushed ++ kept.behind)
    = left_is ∙ kept.is ∙ ap (λ t. t ++ kept.behind) there.flushed_is ∙ append_assoc (journal_head plan) (logged_bytes here.flushed) kept.behind in
    let flushed_are : AreLogged plan here.flushed
    = lines_first logged_of logged_text (can_follow plan) [] here.flushed (there.later ++ here.behind) (subst (λ j. AreLines logged_of logged_text (can_follow plan) [] j) all_is (run_logged plan journal came are)) in (
      here.flushed,
      there.flushed_is,
      subst (λ t. RestartsFrom plan t here.flushed w result) left_is (starts_first plan name here.flushed kept.behind v w source told now flushed_are (omega (arith, few, long)) result started),
    )

-- ---- on the disk

pub settles : HeadEndSettles
settles plan ticks file = (settled_flushed file (Said (10 ∷ []) false ∷ Said (ended (head_end_text plan (says.Ready ticks))) false ∷ []) tt, settled_flushed file [] tt)

pub start_crashes : HeadEndStartCrashes
start_crashes plan name lines file v w new are few keeps told started =
    let first = journal_head plan ++ logged_bytes lines in
    let short : length lines ≤ most_lines = omega (arith, few) in
    let more = keeps.bytes.behind in
    let bytes_are : file.source.bytes ≡ journal_head plan ++ (logged_bytes lines ++ more) = keeps.bytes.is ∙ append_assoc (journal_head plan) (logged_bytes lines) more in
    let opened = opens_along logged_of logged_text (can_follow plan) logged_text_back (IsHeadEnd plan) name (journal_head plan) v file.source told lines more bytes_are are short file refl keeps started.view new started.opens in
    let found = opens_found logged_of logged_text (can_follow plan) logged_text_back (IsHeadEnd plan) name (journal_head plan) v file.source told started.view new started.opens in
    let ready = ended (head_end_text plan (says.Ready (ticks_in found.lines))) in
    let welcome : List WireStep = Flushed false ∷ Said (10 ∷ []) false ∷ Said ready false ∷ [] in
    let along = along_join (KeepsFirst first) file opened.steps welcome opened.along (welcome_along first (file_behind file opened.steps) (10 ∷ []) ready opened.end) in (
      opened.steps ++ welcome,
      done_behind v started.view w opened.steps welcome opened.steps_are (started.steps found.lines found.restored.after.after),
      λ n. along_taken (KeepsFirst first) file (opened.steps ++ welcome) n along,
    )
