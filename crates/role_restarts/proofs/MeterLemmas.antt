-- A meter that starts over what is left of its journal.
use Rattle.std.proofs.Common.{◌≡◌, ℕ, ◌^◌, ◌<◌, ◌≤◌, Bool, true, false, ◌&&◌, List, [], ◌∷◌, ◌++◌, length, take, refl, sym, ap, ◌∙◌, subst, append_assoc, append-nil, length-append, arith}
use Rattle.std.proofs.lemmas.Bool.{ltb-true}
use Rattle.std.specs.Prelude.{bytes_eq, codes, nat_lt, if◌then◌else◌, Option, Some, None, Result, Ok, Err}
use Rattle.std.specs.List.{list_all}
use Rattle.std.specs.Option.{option_map}
use Rattle.missing_round.specs.Masks.{Masks}
use Rattle.group_plan.specs.Plans.{IsWithinLimits, is_member}
use Rattle.meter_frames.specs.declared.Frame.{Frame}
use Rattle.meter_frames.specs.declared.FrameError.{FrameError}
use Rattle.meter_frames.specs.Frames.{IsFrame}
use Rattle.field_texts.specs.Parts.{parts}
use Rattle.transcript_text.specs.Spelling.{ended}
use Rattle.meter_apart.specs.declared.answers.Noted.{Noted}
use Rattle.meter_apart.specs.declared.answers.Noted.TheVariants.{Read, Kept}
use Rattle.meter_apart.specs.declared.answers.ReadingRefusal.TheVariants as unread
use Rattle.meter_apart.specs.declared.keys.MeterKeys.{MeterKeys}
use Rattle.meter_apart.specs.declared.meter.MeterApart.{MeterApart}
use Rattle.meter_apart.specs.declared.part.Part.{Part}
use Rattle.meter_apart.specs.Journal.{marked}
use Rattle.meter_apart.specs.Keys.{part_of, words_of}
use Rattle.meter_apart.specs.Meter.{meter_masks, meter_part}
use Rattle.meter_apart.specs.Parts.{is_to_me}
use Rattle.meter_apart.specs.Replies.{can_follow, is_first}
use Rattle.apart_lines.specs.declared.heard.ToMeter.{ToMeter}
use Rattle.apart_lines.specs.declared.heard.ToMeter.TheVariants as hears
use Rattle.apart_lines.specs.declared.said.MeterSays.{MeterSays}
use Rattle.apart_lines.specs.declared.said.MeterSays.TheVariants as says
use Rattle.apart_lines.specs.Frames.{frame_in}
use Rattle.apart_lines.specs.Heads.{meter_journal_head}
use Rattle.apart_lines.specs.Heard.{told_number, frame_to_meter, is_answer, reading_to_meter, to_meter, to_meter_alone, to_meter_by, to_meter_other, to_meter_pair, to_meter_three}
use Rattle.apart_lines.specs.Journals.{HasNoted, noted_of, noted_text}
use Rattle.apart_lines.specs.Said.{meter_text}
use Rattle.desk_outside.specs.Wire.{newline_in, Source, WireView, after_step, after_steps}
use Rattle.desk_outside.specs.declared.wire.Coming.{Coming}
use Rattle.desk_outside.specs.declared.wire.Coming.TheVariants.{Line, TooLong, Rest, End}
use Rattle.desk_outside.specs.declared.wire.WireStep.{WireStep}
use Rattle.desk_outside.specs.declared.wire.WireStep.TheVariants.{Appended, Flushed, Heard, Said}
use Rattle.apart_roles.specs.declared.outcome.RoleError.{RoleError}
use Rattle.apart_roles.specs.declared.outcome.Start.{Start}
use Rattle.apart_roles.specs.declared.outcome.Start.TheVariants as starts
use Rattle.apart_roles.specs.Inputs.{Came, IsEnd, most_lines, with_last}
use Rattle.apart_roles.specs.MeterRuns.{came_steps, run_journal, run_steps, said_by, said_in, with_came}
use Rattle.apart_roles.specs.MeterStarts.{IsMeter, MeterStarts, welcome_steps}
use Rattle.apart_roles.specs.MeterTurns.{noted_frame, noted_line, noted_to, said_to, steps_noted, steps_said, with_noted}
use Rattle.apart_roles.proofs.InputLemmas.{all_journal_join, same_source}
use Rattle.apart_roles.proofs.RunLemmas.{with_no_line}
use Rattle.apart_roles.proofs.WrittenLemmas.{noted_text_back}
use Rattle.journal_cuts.specs.Cuts.{whole_in}
use Rattle.journal_cuts.specs.Files.{IsSettled, JournalFile, KeepsFirst, file_after, file_behind, is_onward}
use Rattle.journal_cuts.proofs.FileLemmas.{kept_flushed, onward_spare}
use Rattle.apart_roles.proofs.StepLemmas.{done_behind}
use Rattle.role_restarts.specs.Restarts.{AreLines, IsRestored}
use Rattle.role_restarts.specs.MeterRestarts.{AreNoted, IsRestarted, RestartsFrom, RestartsWith, noted_bytes}
use Rattle.role_restarts.specs.Statements.{MeterBeginsAnew, MeterCrashes, MeterGoesOn, MeterKilled, MeterRestarts, MeterRunsHaveLines, MeterSaysTheSame, MeterSettles, MeterStartCrashes, MeterStartsHaveLines}
use Rattle.role_restarts.proofs.RestartLemmas.{opens_along, opens_begun, opens_cut, opens_first, opens_found}
use Rattle.role_restarts.proofs.LineLemmas.{cut_fits, frame_read, lines_first, lines_join, noted_line_is}
use Rattle.role_restarts.proofs.FileLemmas.{AreQuiet, IsAlong, IsRunAlong, IsThere, IsTurnAlong, along_join, along_taken, bytes_first, onward_first, onward_quiet, onward_run, run_along, run_join, settled_flushed, settled_heard, settled_run, told_behind, turn_along, welcome_along}

-- ---- what is said at the start

welcomed : (v : WireView) (said : List ℕ) → (after_steps v (Flushed false ∷ Said (10 ∷ []) false ∷ Said said false ∷ [])).journal ≡ v.journal
unfolding after_step
welcomed v said = same_source (option_map (λ s. s) (option_map (λ s. s) v.journal)) ∙ same_source (option_map (λ s. s) v.journal) ∙ same_source v.journal

restarted : (keys : MeterKeys) (lines : List Noted) (view w : WireView) (new : MeterApart) → IsRestored noted_text (IsMeter keys) (meter_journal_head (part_of keys)) lines view new
    → w ≡ after_steps view welcome_steps → IsRestarted keys lines w new
restarted keys lines view w new restored steps = record {
  restored = record {
    source = restored.source;
    told = ap (λ (x : WireView). x.journal) steps ∙ welcomed view (ended (meter_text says.Ready)) ∙ restored.told;
    bytes = restored.bytes;
    after = restored.after;
  };
  view = view;
  says = steps;
}

-- ---- cuts

starts_cut : (keys : MeterKeys) (name : List ℕ) (lines : List Noted) (more : List ℕ) (v w : WireView) (source : Source) (told : v.journal ≡ Some source) → source.bytes ≡ meter_journal_head (part_of keys) ++ (noted_bytes lines ++ more)
    → AreNoted (part_of keys) lines → length lines ≤ most_lines → newline_in more ≡ None → (result : Result (Start MeterApart) RoleError) → MeterStarts keys name v w result → RestartsWith keys lines w result
starts_cut keys name lines more v w source told bytes_are are few none (Ok (starts.Ready new)) started =
    restarted keys lines started.view w new
    (opens_cut noted_of noted_text (can_follow (part_of keys)) noted_text_back (IsMeter keys) name (meter_journal_head (part_of keys)) v source told lines more bytes_are are few none started.view (Ok (starts.Ready new)) started.opens) started.steps
starts_cut keys name lines more v w source told bytes_are are few none (Ok (starts.Line number)) opens =
    opens_cut noted_of noted_text (can_follow (part_of keys)) noted_text_back (IsMeter keys) name (meter_journal_head (part_of keys)) v source told lines more bytes_are are few none w (Ok (starts.Line number)) opens
starts_cut keys name lines more v w source told bytes_are are few none (Ok starts.Unreadable) opens = tt
starts_cut keys name lines more v w source told bytes_are are few none (Ok (starts.Head number)) opens =
    opens_cut noted_of noted_text (can_follow (part_of keys)) noted_text_back (IsMeter keys) name (meter_journal_head (part_of keys)) v source told lines more bytes_are are few none w (Ok (starts.Head number)) opens
starts_cut keys name lines more v w source told bytes_are are few none (Err error) opens = tt

pub restarts : MeterRestarts
restarts keys name lines n v w source result are few told bytes_are started =
    let cut = cut_fits noted_of noted_text (can_follow (part_of keys)) lines n are in
    let fewer = cut.fewer in
    starts_cut keys name (whole_in noted_text lines n) cut.rest v w source told (bytes_are ∙ ap (λ t. meter_journal_head (part_of keys) ++ t) cut.bytes) cut.are (omega (arith, few, fewer)) cut.over result started

starts_begun : (keys : MeterKeys) (name : List ℕ) (n : ℕ) (v w : WireView) (source : Source) (told : v.journal ≡ Some source) → n < length (meter_journal_head (part_of keys)) → source.bytes ≡ take n (meter_journal_head (part_of keys))
    → (result : Result (Start MeterApart) RoleError) → MeterStarts keys name v w result → RestartsWith keys [] w result
starts_begun keys name n v w source told lt bytes_are (Ok (starts.Ready new)) started =
    restarted keys [] started.view w new
    (opens_begun noted_of noted_text (can_follow (part_of keys)) noted_text_back (IsMeter keys) name (meter_journal_head (part_of keys)) v source told n lt bytes_are started.view (Ok (starts.Ready new)) started.opens) started.steps
starts_begun keys name n v w source told lt bytes_are (Ok (starts.Line number)) opens =
    opens_begun noted_of noted_text (can_follow (part_of keys)) noted_text_back (IsMeter keys) name (meter_journal_head (part_of keys)) v source told n lt bytes_are w (Ok (starts.Line number)) opens
starts_begun keys name n v w source told lt bytes_are (Ok starts.Unreadable) opens = tt
starts_begun keys name n v w source told lt bytes_are (Ok (starts.Head number)) opens =
    opens_begun noted_of noted_text (can_follow (part_of keys)) noted_text_back (IsMeter keys) name (meter_journal_head (part_of keys)) v source told n lt bytes_are w (Ok (starts.Head number)) opens
starts_begun keys name n v w source told lt bytes_are (Err error) opens = tt

pub begins_anew : MeterBeginsAnew
begins_anew keys name n v w source result lt told bytes_are started = starts_begun keys name n v w source told lt bytes_are result started

-- ---- what a journal has

pub starts_have : MeterStartsHaveLines
starts_have keys name v w source new told started =
    let found = opens_found noted_of noted_text (can_follow (part_of keys)) noted_text_back (IsMeter keys) name (meter_journal_head (part_of keys)) v source told started.view new started.opens in
    let all = (restarted keys found.lines started.view w new found.restored started.steps).restored in
    record { lines = found.lines; are = found.are; restored = record { source = all.source; told = all.told; bytes = all.bytes; after = all.after.after } }

-- a frame that is heard has a spelling

alone_no_frame : (word : List ℕ) (f : Frame) → to_meter_alone word ≡ hears.Frame (Ok f) → IsFrame f
alone_no_frame word f is = by (bytes_eq word (codes "")) (is_answer word) is
  where
    by : (a b : Bool) → (if a then hears.Nothing else if b then hears.Nothing else hears.Unknown) ≡ hears.Frame (Ok f) → IsFrame f
    by true b found = absurd cc
    by false true found = absurd cc
    by false false found = absurd cc

other_no_frame : (word : List ℕ) (f : Frame) → to_meter_other word ≡ hears.Frame (Ok f) → IsFrame f
other_no_frame word f is = by (is_answer word) is
  where
    by : (b : Bool) → (if b then hears.Nothing else hears.Unknown) ≡ hears.Frame (Ok f) → IsFrame f
    by true found = absurd cc
    by false found = absurd cc

pair_frame : (word rest : List ℕ) (f : Frame) → to_meter_pair word rest ≡ hears.Frame (Ok f) → IsFrame f
pair_frame word rest f is = by (bytes_eq word (codes "frame")) is
  where
    by_frame : (read : Option (Result Frame FrameError)) → frame_in rest ≡ read → frame_to_meter read ≡ hears.Frame (Ok f) → IsFrame f
    by_frame None in_rest found = absurd cc
    by_frame (Some read) in_rest found = let e : read ≡ Ok f = cc in frame_read rest f (in_rest ∙ ap Some e)

    by : (a : Bool) → (if a then frame_to_meter (frame_in rest) else to_meter_other word) ≡ hears.Frame (Ok f) → IsFrame f
    by true found = by_frame (frame_in rest) refl found
    by false found = other_no_frame word f found

three_no_frame : (word second third : List ℕ) (f : Frame) → to_meter_three word second third ≡ hears.Frame (Ok f) → IsFrame f
three_no_frame word second third f is = by (bytes_eq word (codes "reading")) is
  where
    by_reading : (r x : Option ℕ) → reading_to_meter r x ≡ hears.Frame (Ok f) → IsFrame f
    by_reading (Some r) (Some x) found = absurd cc
    by_reading (Some r) None found = absurd cc
    by_reading None x found = absurd cc

    by : (a : Bool) → (if a then reading_to_meter (told_number second) (told_number third) else to_meter_other word) ≡ hears.Frame (Ok f) → IsFrame f
    by true found = by_reading (told_number second) (told_number third) found
    by false found = other_no_frame word f found

fields_frame : (fields : List (List ℕ)) (f : Frame) → to_meter_by fields ≡ hears.Frame (Ok f) → IsFrame f
fields_frame [] f is = absurd cc
fields_frame (word ∷ []) f is = alone_no_frame word f is
fields_frame (word ∷ second ∷ []) f is = pair_frame word second f is
fields_frame (word ∷ second ∷ third ∷ []) f is = three_no_frame word second third f is
fields_frame (word ∷ second ∷ third ∷ fourth ∷ rest) f is = other_no_frame word f is

heard_frame : (what : Coming) (text : List ℕ) (f : Frame) → said_by what text ≡ hears.Frame (Ok f) → IsFrame f
unfolding to_meter
heard_frame Line text f is = fields_frame (parts 44 text) f is
heard_frame TooLong text f is = absurd cc
heard_frame Rest text f is = absurd cc
heard_frame End text f is = absurd cc

-- what is noted is a line that can follow

reading_fits : (part : Part) (journal : List Noted) (r x : ℕ) → IsWithinLimits part.home → can_follow part journal (Read r x) ≡ true → HasNoted (Read r x)
reading_fits part journal r x limits may = by (nat_lt r part.home.rounds) (is_member part.home.groups 0 r part.meter) (nat_lt x (2 ^ 40)) refl refl may
  where
    by : (a b c : Bool) → nat_lt r part.home.rounds ≡ a → nat_lt x (2 ^ 40) ≡ c
        → is_first (if a && b then if c then Ok (marked journal r) else Err unread.Range else Err unread.Round) ≡ true → (r < 2 ^ 32) × (x < 2 ^ 64)
    by true true true in_plan small first =
        let below = ltb-true r part.home.rounds in_plan in
        let few = limits.rounds in
        let under = ltb-true x (2 ^ 40) small in
        (omega (arith, below, few), omega (arith, under))
    by true true false in_plan small first = absurd cc
    by true false c in_plan small first = absurd cc
    by false b c in_plan small first = absurd cc

line_noted : (part : Part) (journal : List Noted) (due line : Noted) → (can_follow part journal due ≡ true → HasNoted due) → noted_line part journal due ≡ Some line → HasNoted line × (can_follow part journal line ≡ true)
line_noted part journal due line fits is = by (can_follow part journal due) refl is
  where
    by : (b : Bool) → can_follow part journal due ≡ b → (if b then Some due else None) ≡ Some line → HasNoted line × (can_follow part journal line ≡ true)
    by true may found = let e : due ≡ line = cc in subst (λ (l : Noted). HasNoted l × (can_follow part journal l ≡ true)) e (fits may, may)
    by false not_ found = absurd cc

frame_noted : (part : Part) (journal : List Noted) (f : Frame) (line : Noted) → IsFrame f → noted_frame part journal f ≡ Some line → HasNoted line × (can_follow part journal line ≡ true)
frame_noted part journal f line is noted = by (is_to_me part f.tag) noted
  where
    by : (b : Bool) → (if b then noted_line part journal (Kept f.tag.round f.missing) else None) ≡ Some line → HasNoted line × (can_follow part journal line ≡ true)
    by true found = line_noted part journal (Kept f.tag.round f.missing) line (λ may. (is.round, is.set)) found
    by false found = absurd cc

noted_is : (part : Part) (journal : List Noted) (heard : ToMeter) (line : Noted) → IsWithinLimits part.home → ((f : Frame) → heard ≡ hears.Frame (Ok f) → IsFrame f) → noted_to part journal heard ≡ Some line
    → HasNoted line × (can_follow part journal line ≡ true)
noted_is part journal (hears.Reading r x) line limits sound is = line_noted part journal (Read r x) line (reading_fits part journal r x limits) is
noted_is part journal (hears.Frame (Ok f)) line limits sound is = frame_noted part journal f line (sound f refl) is
noted_is part journal (hears.Frame (Err rule)) line limits sound is = absurd cc
noted_is part journal hears.Nothing line limits sound is = absurd cc
noted_is part journal hears.Unknown line limits sound is = absurd cc

came_noted : (part : Part) (journal : List Noted) (came : Came) → IsWithinLimits part.home → AreNoted part journal → AreNoted part (with_came part journal came)
came_noted part journal came limits are = by (noted_to part journal (said_in came)) refl
  where
    by : (o : Option Noted) → noted_to part journal (said_in came) ≡ o → AreNoted part (with_noted journal o)
    by None is = are
    by (Some line) is =
        let sound = noted_is part journal (said_in came) line limits (λ f heard. heard_frame came.what came.text f heard) is in
        lines_join noted_of noted_text (can_follow part) [] journal line are (noted_line_is line sound.0) sound.1

pub run_noted : (part : Part) (journal : List Noted) (came : List Came) → IsWithinLimits part.home → AreNoted part journal → AreNoted part (run_journal part journal came)
run_noted part journal [] limits are = are
run_noted part journal (one ∷ others) limits are = run_noted part (with_came part journal one) others limits (came_noted part journal one limits are)

-- ---- along a run

said_quiet : (said : Option MeterSays) → AreQuiet (steps_said said)
said_quiet None = tt
said_quiet (Some says) = tt

turn_by : (head : List ℕ) (o : Option Noted) (journal flushed : List Noted) (file : JournalFile) (what : Coming) (text : List ℕ) (said : List WireStep) → AreQuiet said → IsThere noted_text head journal flushed file
    → IsTurnAlong noted_text head journal (with_noted journal o) file (Heard what text ∷ (steps_noted o ++ said))
turn_by head None journal flushed file what text said quiet there = turn_along noted_text head None false journal flushed file what text said quiet there
turn_by head (Some line) journal flushed file what text said quiet there = turn_along noted_text head (Some line) true journal flushed file what text said quiet there

each_turn : (part : Part) (m : Masks) (journal flushed : List Noted) (file : JournalFile) (came : Came) → IsThere noted_text (meter_journal_head part) journal flushed file
    → IsTurnAlong noted_text (meter_journal_head part) journal (with_came part journal came) file (came_steps part m journal came)
each_turn part m journal flushed file came there =
    let heard = said_in came in
    turn_by (meter_journal_head part) (noted_to part journal heard) journal flushed file came.what came.text (steps_said (said_to part m journal heard)) (said_quiet (said_to part m journal heard)) there

all_along : (part : Part) (m : Masks) (journal : List Noted) (came : List Came) (file : JournalFile) → file.flushed ≡ file.source.bytes → file.source.bytes ≡ meter_journal_head part ++ noted_bytes journal
    → IsRunAlong noted_text (meter_journal_head part) (came_steps part m) (with_came part) (each_turn part m) journal file came
all_along part m journal came file flushed bytes_are =
    run_along noted_text (meter_journal_head part) (came_steps part m) (with_came part) (each_turn part m) journal journal file came
    (record { later = []; is = sym (append-nil journal); flushed_is = flushed ∙ bytes_are; bytes_are = bytes_are })

pub killed : MeterKilled
killed part m journal came n file limits are settled bytes_are =
    let run = all_along part m journal came file settled.flushed bytes_are in
    let all = run_journal part journal came in
    let here = along_taken (IsAlong noted_text (meter_journal_head part) all) file (run_steps part m journal came) n run.along in (
      run_noted part journal came limits are,
      (
        length (noted_bytes here.journal),
        here.there.bytes_are ∙ ap (λ t. meter_journal_head part ++ t) (sym (bytes_first noted_text all here.journal here.behind here.all_is)),
      ),
    )

-- what comes last is noted no more
last_noted : (part : Part) (journal : List Noted) (lines : List Came) (last : Option Came) → IsEnd lines last → run_journal part journal (with_last lines last) ≡ run_journal part journal lines
last_noted part journal lines None ends = refl
last_noted part journal lines (Some came) ends = all_journal_join (with_came part) journal lines came ∙ with_no_line part (run_journal part journal lines) came.what came.text ends

pub runs_have : MeterRunsHaveLines
runs_have v w old new limits has runs =
    let part = meter_part old in
    let m = meter_masks old in
    let journal = has.lines in
    let run = runs journal has.restored.after in
    let all = with_last run.lines run.last in
    let file : JournalFile = record { source = has.restored.source; flushed = has.restored.source.bytes; since = [] } in
    let along = all_along part m journal all file refl has.restored.bytes in
    record {
      lines = run_journal part journal run.lines;
      are = run_noted part journal run.lines limits has.are;
      restored = record {
        source = (file_behind file (run_steps part m journal all)).source;
        told = ap (λ (x : WireView). x.journal) run.steps ∙ told_behind v file (run_steps part m journal all) has.restored.told;
        bytes = along.there.bytes_are ∙ ap (λ j. meter_journal_head part ++ noted_bytes j) (last_noted part journal run.lines run.last run.ends);
        after = run.after;
      };
    }

-- ---- what is said from then on

pub says_the_same : MeterSaysTheSame
says_the_same keys journal v u x y old older new newer is are one two same = (
  run_steps (meter_part old) (meter_masks old) journal (with_last one.lines one.last),
  one.steps,
  two.steps ∙ ap (λ (k : MeterKeys). after_steps x (run_steps k.part (words_of k) journal (with_last two.lines two.last))) (are ∙ sym is)
      ∙ ap (λ lines. after_steps x (run_steps (meter_part old) (meter_masks old) journal lines)) (sym same),
)

pub goes_on : MeterGoesOn
goes_on part m journal earlier later = run_join (came_steps part m) (with_came part) journal earlier later

-- ---- crashes

starts_first : (keys : MeterKeys) (name : List ℕ) (lines : List Noted) (more : List ℕ) (v w : WireView) (source : Source) (told : v.journal ≡ Some source) → source.bytes ≡ meter_journal_head (part_of keys) ++ (noted_bytes lines ++ more)
    → AreNoted (part_of keys) lines → length lines ≤ most_lines → (result : Result (Start MeterApart) RoleError) → MeterStarts keys name v w result → RestartsFrom keys source.bytes lines w result
starts_first keys name lines more v w source told bytes_are are few (Ok (starts.Ready new)) started =
    let first = opens_first noted_of noted_text (can_follow (part_of keys)) noted_text_back (IsMeter keys) name (meter_journal_head (part_of keys)) v source told lines more bytes_are are few started.view (Ok (starts.Ready new)) started.opens in
    record {
      others = first.others;
      are = first.others_are;
      stand = first.stand;
      restarted = restarted keys (lines ++ first.others) started.view w new first.restored started.steps;
    }
starts_first keys name lines more v w source told bytes_are are few (Ok (starts.Line number)) opens =
    opens_first noted_of noted_text (can_follow (part_of keys)) noted_text_back (IsMeter keys) name (meter_journal_head (part_of keys)) v source told lines more bytes_are are few w (Ok (starts.Line number)) opens
starts_first keys name lines more v w source told bytes_are are few (Ok starts.Unreadable) opens = tt
starts_first keys name lines more v w source told bytes_are are few (Ok (starts.Head number)) opens =
    opens_first noted_of noted_text (can_follow (part_of keys)) noted_text_back (IsMeter keys) name (meter_journal_head (part_of keys)) v source told lines more bytes_are are few w (Ok (starts.Head number)) opens
starts_first keys name lines more v w source told bytes_are are few (Err error) opens = tt

onward_by : (o : Option Noted) (what : Coming) (text : List ℕ) (said : List WireStep) → AreQuiet said → list_all is_onward (Heard what text ∷ (steps_noted o ++ said)) ≡ true
onward_by None what text said quiet = onward_quiet said quiet
onward_by (Some line) what text said quiet = onward_quiet said quiet

onward_turn : (part : Part) (m : Masks) (journal : List Noted) (came : Came) → list_all is_onward (came_steps part m journal came) ≡ true
onward_turn part m journal came =
    let heard = said_in came in
    onward_by (noted_to part journal heard) came.what came.text (steps_said (said_to part m journal heard)) (said_quiet (said_to part m journal heard))

pub crashes : MeterCrashes
crashes keys m name journal came n file left v w source result limits are few settled bytes_are leaves told left_is started =
    let part = part_of keys in
    let run = all_along part m journal came file settled.flushed bytes_are in
    let all = run_journal part journal came in
    let steps = take n (run_steps part m journal came) in
    let here = along_taken (IsAlong noted_text (meter_journal_head part) all) file (run_steps part m journal came) n run.along in
    let there = here.there in
    let spare = onward_spare file steps (onward_first n (run_steps part m journal came) (onward_run (came_steps part m) (with_came part) (onward_turn part m) journal came)) in
    let kept = (kept_flushed file steps settled spare).left left leaves in
    let all_is : all ≡ here.flushed ++ (there.later ++ here.behind) = here.all_is ∙ ap (λ j. j ++ here.behind) there.is ∙ append_assoc here.flushed there.later here.behind in
    let long = ap length all_is ∙ length-append here.flushed (there.later ++ here.behind) in
    let now : source.bytes ≡ meter_journal_head part ++ (noted_bytes here.flushed ++ kept.behind)
    = left_is ∙ kept.is ∙ ap (λ t. t ++ kept.behind) there.flushed_is ∙ append_assoc (meter_journal_head part) (noted_bytes here.flushed) kept.behind in
    let flushed_are : AreNoted part here.flushed
    = lines_first noted_of noted_text (can_follow part) [] here.flushed (there.later ++ here.behind) (subst (λ j. AreLines noted_of noted_text (can_follow part) [] j) all_is (run_noted part journal came limits are)) in (
      here.flushed,
      there.flushed_is,
      subst (λ t. RestartsFrom keys t here.flushed w result) left_is (starts_first keys name here.flushed kept.behind v w source told now flushed_are (omega (arith, few, long)) result started),
    )

-- ---- on the disk

settled_by : (o : Option Noted) (file : JournalFile) (what : Coming) (text : List ℕ) (said : List WireStep) → AreQuiet said → IsSettled file → IsSettled (file_behind file (Heard what text ∷ (steps_noted o ++ said)))
settled_by None file what text said quiet settled = settled_heard file what text said quiet settled
settled_by (Some line) file what text said quiet settled = settled_flushed (file_after (file_after file (Heard what text)) (Appended (ended (noted_text line)) false)) said quiet

settled_turn : (part : Part) (m : Masks) (journal : List Noted) (file : JournalFile) (came : Came) → IsSettled file → IsSettled (file_behind file (came_steps part m journal came))
settled_turn part m journal file came settled =
    let heard = said_in came in
    settled_by (noted_to part journal heard) file came.what came.text (steps_said (said_to part m journal heard)) (said_quiet (said_to part m journal heard)) settled

pub settles : MeterSettles
settles part m journal came file = (
  settled_flushed file (Said (10 ∷ []) false ∷ Said (ended (meter_text says.Ready)) false ∷ []) tt,
  λ settled. settled_run (came_steps part m) (with_came part) (settled_turn part m) journal file came settled,
)

pub start_crashes : MeterStartCrashes
start_crashes keys name lines file v w new are few keeps told started =
    let head = meter_journal_head (part_of keys) in
    let first = head ++ noted_bytes lines in
    let short : length lines ≤ most_lines = omega (arith, few) in
    let more = keeps.bytes.behind in
    let bytes_are : file.source.bytes ≡ head ++ (noted_bytes lines ++ more) = keeps.bytes.is ∙ append_assoc head (noted_bytes lines) more in
    let opened = opens_along noted_of noted_text (can_follow (part_of keys)) noted_text_back (IsMeter keys) name head v file.source told lines more bytes_are are short file refl keeps started.view new started.opens in
    let ready = ended (meter_text says.Ready) in
    let welcome : List WireStep = Flushed false ∷ Said (10 ∷ []) false ∷ Said ready false ∷ [] in
    let along = along_join (KeepsFirst first) file opened.steps welcome opened.along (welcome_along first (file_behind file opened.steps) (10 ∷ []) ready opened.end) in (
      opened.steps ++ welcome,
      done_behind v started.view w opened.steps welcome opened.steps_are started.steps,
      λ n. along_taken (KeepsFirst first) file (opened.steps ++ welcome) n along,
    )
