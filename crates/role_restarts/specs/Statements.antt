-- What holds of every start over what is left of a journal.
use Rattle.std.specs.Prelude.{◌≡◌, ◌<◌, ◌^◌, ℕ, List, [], ◌++◌, length, take, Some, Result, Ok, false, ◌∷◌}
use Rattle.group_plan.specs.Plans.{IsWithinLimits, PlanView}
use Rattle.missing_round.specs.Masks.{Masks}
use Rattle.head_end.specs.declared.answers.Logged.{Logged}
use Rattle.head_end.specs.declared.head.HeadEnd.{HeadEnd}
use Rattle.meter_apart.specs.declared.answers.Noted.{Noted}
use Rattle.meter_apart.specs.declared.keys.MeterKeys.{MeterKeys}
use Rattle.meter_apart.specs.declared.meter.MeterApart.{MeterApart}
use Rattle.meter_apart.specs.declared.part.Part.{Part}
use Rattle.meter_apart.specs.Keys.{part_of}
use Rattle.meter_apart.specs.Meter.{IsAfter, meter_part}
use Rattle.apart_lines.specs.Heads.{journal_head, meter_journal_head}
use Rattle.apart_lines.specs.Journals.{logged_text, noted_text}
use Rattle.desk_outside.specs.Wire.{Source, WireView, after_steps}
use Rattle.desk_outside.specs.declared.wire.WireStep.{WireStep}
use Rattle.desk_outside.specs.declared.wire.WireStep.TheVariants.{Flushed}
use Rattle.apart_roles.specs.declared.head_end_run.Pause.{Pause}
use Rattle.apart_roles.specs.declared.outcome.RoleError.{RoleError}
use Rattle.apart_roles.specs.declared.outcome.Start.{Start}
use Rattle.apart_roles.specs.declared.outcome.Start.TheVariants.{Ready}
use Rattle.apart_roles.specs.Inputs.{Came, with_last}
use Rattle.apart_roles.specs.HeadEndRuns as heads
use Rattle.apart_roles.specs.HeadEndStarts as heads_start
use Rattle.apart_roles.specs.HeadEndStarts.{HeadEndStarts}
use Rattle.apart_roles.specs.HeadEndTurns.{IsHeadEnd}
use Rattle.apart_roles.specs.MeterRuns as meters
use Rattle.apart_roles.specs.MeterStarts as meters_start
use Rattle.apart_roles.specs.MeterStarts.{MeterStarts}
use Rattle.journal_cuts.specs.Cuts.{whole_in}
use Rattle.journal_cuts.specs.Files.{CrashLeaves, IsSettled, JournalFile, KeepsFirst, file_behind}
use Rattle.role_restarts.specs.HeadEndRestarts as head
use Rattle.role_restarts.specs.MeterRestarts as meter

-- ---- cuts

-- over the first n bytes behind the head of a journal of fewer than 2^64 lines, a head end starts in the state that the whole lines in them give
abbrev pub HeadEndRestarts : Type 0
HeadEndRestarts = (plan : PlanView) (name : List ℕ) (lines : List Logged) (n : ℕ) (v w : WireView) (source : Source) (result : Result (Start HeadEnd) RoleError) → head.AreLogged plan lines → length lines < 2 ^ 64
    → v.journal ≡ Some source → source.bytes ≡ journal_head plan ++ take n (head.logged_bytes lines) → HeadEndStarts plan name v w result → head.RestartsWith plan (whole_in logged_text lines n) w result

-- and so does a meter
abbrev pub MeterRestarts : Type 0
MeterRestarts = (keys : MeterKeys) (name : List ℕ) (lines : List Noted) (n : ℕ) (v w : WireView) (source : Source) (result : Result (Start MeterApart) RoleError) → meter.AreNoted (part_of keys) lines → length lines < 2 ^ 64
    → v.journal ≡ Some source → source.bytes ≡ meter_journal_head (part_of keys) ++ take n (meter.noted_bytes lines) → MeterStarts keys name v w result → meter.RestartsWith keys (whole_in noted_text lines n) w result

-- over a proper beginning of the head it starts with no line, and the journal has its head
abbrev pub HeadEndBeginsAnew : Type 0
HeadEndBeginsAnew = (plan : PlanView) (name : List ℕ) (n : ℕ) (v w : WireView) (source : Source) (result : Result (Start HeadEnd) RoleError) → n < length (journal_head plan)
    → v.journal ≡ Some source → source.bytes ≡ take n (journal_head plan) → HeadEndStarts plan name v w result → head.RestartsWith plan [] w result

abbrev pub MeterBeginsAnew : Type 0
MeterBeginsAnew = (keys : MeterKeys) (name : List ℕ) (n : ℕ) (v w : WireView) (source : Source) (result : Result (Start MeterApart) RoleError) → n < length (meter_journal_head (part_of keys))
    → v.journal ≡ Some source → source.bytes ≡ take n (meter_journal_head (part_of keys)) → MeterStarts keys name v w result → meter.RestartsWith keys [] w result

-- ---- what a journal has

-- whatever stood in the journal before: behind a start it is such lines
abbrev pub HeadEndStartsHaveLines : Type 0
HeadEndStartsHaveLines = (plan : PlanView) (name : List ℕ) (v w : WireView) (source : Source) (new : HeadEnd) → v.journal ≡ Some source → HeadEndStarts plan name v w (Ok (Ready new)) → head.HasLines plan w new

abbrev pub MeterStartsHaveLines : Type 0
MeterStartsHaveLines = (keys : MeterKeys) (name : List ℕ) (v w : WireView) (source : Source) (new : MeterApart) → v.journal ≡ Some source → MeterStarts keys name v w (Ok (Ready new)) → meter.HasLines (part_of keys) w new

-- and behind each run
abbrev pub HeadEndRunsHaveLines : Type 0
HeadEndRunsHaveLines = (plan : PlanView) (v w : WireView) (old new : HeadEnd) (pause : Pause) → head.HasLines plan v old
    → ((journal : List Logged) → IsHeadEnd plan journal old → heads.Runs plan journal v w (Ok pause) new) → head.HasLines plan w new

abbrev pub MeterRunsHaveLines : Type 0
MeterRunsHaveLines = (v w : WireView) (old new : MeterApart) → IsWithinLimits (meter_part old).home → meter.HasLines (meter_part old) v old
    → ((journal : List Noted) → IsAfter journal old → meters.Runs old journal v w (Ok tt) new) → meter.HasLines (meter_part old) w new

-- a head end that is killed behind the first n steps of a run leaves a cut of the lines of the whole run
abbrev pub HeadEndKilled : Type 0
HeadEndKilled = (plan : PlanView) (journal : List Logged) (came : List Came) (n : ℕ) (file : JournalFile) → head.AreLogged plan journal → IsSettled file → file.source.bytes ≡ journal_head plan ++ head.logged_bytes journal
    → head.AreLogged plan (heads.run_journal plan journal came)
    × ((m : ℕ) × ((file_behind file (take n (heads.run_steps plan journal came))).source.bytes ≡ journal_head plan ++ take m (head.logged_bytes (heads.run_journal plan journal came))))

abbrev pub MeterKilled : Type 0
MeterKilled = (part : Part) (m : Masks) (journal : List Noted) (came : List Came) (n : ℕ) (file : JournalFile) → IsWithinLimits part.home → meter.AreNoted part journal → IsSettled file
    → file.source.bytes ≡ meter_journal_head part ++ meter.noted_bytes journal → meter.AreNoted part (meters.run_journal part journal came)
    × ((k : ℕ) × ((file_behind file (take n (meters.run_steps part m journal came))).source.bytes ≡ meter_journal_head part ++ take k (meter.noted_bytes (meters.run_journal part journal came))))

-- ---- what is said from then on

-- two head ends of a plan in the state of one journal do the same in answer to the same lines
abbrev pub HeadEndSaysTheSame : Type 0
HeadEndSaysTheSame = (plan : PlanView) (journal : List Logged) (v u x y : WireView) (pause wait : Pause) (new other : HeadEnd) (one : heads.HasHeard plan journal v u pause new) (two : heads.HasHeard plan journal x y wait other)
    → with_last one.lines one.last ≡ with_last two.lines two.last → (steps : List WireStep) × (u ≡ after_steps v steps) × (y ≡ after_steps x steps)

-- and two meters with the same keys
abbrev pub MeterSaysTheSame : Type 0
MeterSaysTheSame = (keys : MeterKeys) (journal : List Noted) (v u x y : WireView) (old older new newer : MeterApart) → old.keys ≡ keys → older.keys ≡ keys
    → (one : meters.IsRun old journal v u new) (two : meters.IsRun older journal x y newer) → with_last one.lines one.last ≡ with_last two.lines two.last
    → (steps : List WireStep) × (u ≡ after_steps v steps) × (y ≡ after_steps x steps)

-- what one that was not killed does for the lines that come later is what one does that starts with the journal that the earlier ones left
abbrev pub HeadEndGoesOn : Type 0
HeadEndGoesOn = (plan : PlanView) (journal : List Logged) (earlier later : List Came)
    → heads.run_steps plan journal (earlier ++ later) ≡ heads.run_steps plan journal earlier ++ heads.run_steps plan (heads.run_journal plan journal earlier) later

abbrev pub MeterGoesOn : Type 0
MeterGoesOn = (part : Part) (m : Masks) (journal : List Noted) (earlier later : List Came)
    → meters.run_steps part m journal (earlier ++ later) ≡ meters.run_steps part m journal earlier ++ meters.run_steps part m (meters.run_journal part journal earlier) later

-- ---- crashes

-- a crash behind the first n steps of a run leaves all lines that were flushed, and a head end that starts over what is left goes on by them
abbrev pub HeadEndCrashes : Type 0
HeadEndCrashes = (plan : PlanView) (name : List ℕ) (journal : List Logged) (came : List Came) (n : ℕ) (file : JournalFile) (left : List ℕ) (v w : WireView) (source : Source) (result : Result (Start HeadEnd) RoleError)
    → head.AreLogged plan journal → length (heads.run_journal plan journal came) < 2 ^ 64 → IsSettled file → file.source.bytes ≡ journal_head plan ++ head.logged_bytes journal
    → CrashLeaves (file_behind file (take n (heads.run_steps plan journal came))) left → v.journal ≡ Some source → source.bytes ≡ left → HeadEndStarts plan name v w result
    → (flushed : List Logged) × ((file_behind file (take n (heads.run_steps plan journal came))).flushed ≡ journal_head plan ++ head.logged_bytes flushed) × head.RestartsFrom plan left flushed w result

abbrev pub MeterCrashes : Type 0
MeterCrashes = (keys : MeterKeys) (m : Masks) (name : List ℕ) (journal : List Noted) (came : List Came) (n : ℕ) (file : JournalFile) (left : List ℕ) (v w : WireView) (source : Source) (result : Result (Start MeterApart) RoleError)
    → IsWithinLimits (part_of keys).home → meter.AreNoted (part_of keys) journal → length (meters.run_journal (part_of keys) journal came) < 2 ^ 64 → IsSettled file
    → file.source.bytes ≡ meter_journal_head (part_of keys) ++ meter.noted_bytes journal → CrashLeaves (file_behind file (take n (meters.run_steps (part_of keys) m journal came))) left
    → v.journal ≡ Some source → source.bytes ≡ left → MeterStarts keys name v w result
    → (flushed : List Noted) × ((file_behind file (take n (meters.run_steps (part_of keys) m journal came))).flushed ≡ meter_journal_head (part_of keys) ++ meter.noted_bytes flushed) × meter.RestartsFrom keys left flushed w result

-- ---- what is on the disk behind a start and behind a run

-- behind a start, and where a run pauses, all of a head end's journal is on the disk
abbrev pub HeadEndSettles : Type 0
HeadEndSettles = (plan : PlanView) (ticks : ℕ) (file : JournalFile) → IsSettled (file_behind file (heads_start.welcome_steps plan ticks)) × IsSettled (file_behind file (Flushed false ∷ []))

-- behind a start all of a meter's journal is on the disk, and behind each run where it was before
abbrev pub MeterSettles : Type 0
MeterSettles = (part : Part) (m : Masks) (journal : List Noted) (came : List Came) (file : JournalFile) → IsSettled (file_behind file meters_start.welcome_steps)
    × (IsSettled file → IsSettled (file_behind file (meters.run_steps part m journal came)))

-- where whatever a crash leaves has these lines, it has them behind the first n steps of a start that is ready
abbrev pub HeadEndStartCrashes : Type 0
HeadEndStartCrashes = (plan : PlanView) (name : List ℕ) (lines : List Logged) (file : JournalFile) (v w : WireView) (new : HeadEnd) → head.AreLogged plan lines → length lines < 2 ^ 64
    → KeepsFirst (journal_head plan ++ head.logged_bytes lines) file → v.journal ≡ Some file.source → HeadEndStarts plan name v w (Ok (Ready new))
    → (steps : List WireStep) × (w ≡ after_steps v steps) × ((n : ℕ) → KeepsFirst (journal_head plan ++ head.logged_bytes lines) (file_behind file (take n steps)))

abbrev pub MeterStartCrashes : Type 0
MeterStartCrashes = (keys : MeterKeys) (name : List ℕ) (lines : List Noted) (file : JournalFile) (v w : WireView) (new : MeterApart) → meter.AreNoted (part_of keys) lines → length lines < 2 ^ 64
    → KeepsFirst (meter_journal_head (part_of keys) ++ meter.noted_bytes lines) file → v.journal ≡ Some file.source → MeterStarts keys name v w (Ok (Ready new))
    → (steps : List WireStep) × (w ≡ after_steps v steps) × ((n : ℕ) → KeepsFirst (meter_journal_head (part_of keys) ++ meter.noted_bytes lines) (file_behind file (take n steps)))
