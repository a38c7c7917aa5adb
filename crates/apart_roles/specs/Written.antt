-- What the journal of a role has at the start, where its wire tells: its head, and the lines by which the role goes on.
use Rattle.std.specs.Prelude.{◌≡◌, ℕ, List, ◌++◌, Some, Ok}
use Rattle.std.specs.List.{flat_map}
use Rattle.group_plan.specs.Plans.{PlanView}
use Rattle.transcript_text.specs.Spelling.{ended}
use Rattle.head_end.specs.declared.head.HeadEnd.{HeadEnd}
use Rattle.meter_apart.specs.declared.keys.MeterKeys.{MeterKeys}
use Rattle.meter_apart.specs.declared.meter.MeterApart.{MeterApart}
use Rattle.meter_apart.specs.declared.answers.Noted.{Noted}
use Rattle.meter_apart.specs.Keys.{part_of}
use Rattle.meter_apart.specs.Meter.{IsAfter, meter_part}
use Rattle.head_end.specs.declared.answers.Logged.{Logged}
use Rattle.apart_lines.specs.Heads.{journal_head, meter_journal_head}
use Rattle.apart_lines.specs.Journals.{logged_text, noted_text}
use Rattle.desk_outside.specs.Wire.{Source, WireView}
use Rattle.apart_roles.specs.declared.outcome.Start.TheVariants.{Ready}
use Rattle.apart_roles.specs.declared.head_end_run.Pause.{Pause}
use Rattle.apart_roles.specs.HeadEndRuns as heads
use Rattle.apart_roles.specs.HeadEndStarts.{HeadEndStarts}
use Rattle.apart_roles.specs.HeadEndTurns.{IsHeadEnd}
use Rattle.apart_roles.specs.MeterRuns as meters
use Rattle.apart_roles.specs.MeterStarts.{IsMeter, MeterStarts}

-- the text of lines, each with its newline
abbrev pub lines_by : {L : Type 0} → (L → List ℕ) → List L → List ℕ
lines_by write lines = flat_map (λ line. ended (write line)) lines

-- the journal has its head and these lines, and nothing else; and they give the role its state
pub record IsWritten {L R : Type 0} (write : L → List ℕ) (is : List L → R → Type 0) (head : List ℕ) (w : WireView) (role : R) : Type 0 where
  pub journal : List L
  pub source : Source
  pub told : w.journal ≡ Some source
  pub bytes : source.bytes ≡ head ++ lines_by write journal
  pub after : is journal role

-- ---- what the laws say

-- whatever stood in the journal before: once a role has started, what stands in it gives the role
abbrev pub HeadEndStartsAreWritten : Type 0
HeadEndStartsAreWritten = (plan : PlanView) (name : List ℕ) (v w : WireView) (source : Source) (new : HeadEnd) → v.journal ≡ Some source → HeadEndStarts plan name v w (Ok (Ready new))
    → IsWritten logged_text (IsHeadEnd plan) (journal_head plan) w new

abbrev pub MeterStartsAreWritten : Type 0
MeterStartsAreWritten = (keys : MeterKeys) (name : List ℕ) (v w : WireView) (source : Source) (new : MeterApart) → v.journal ≡ Some source → MeterStarts keys name v w (Ok (Ready new))
    → IsWritten noted_text (IsMeter keys) (meter_journal_head (part_of keys)) w new

-- and so it is behind each run
abbrev pub HeadEndRunsAreWritten : Type 0
HeadEndRunsAreWritten = (plan : PlanView) (v w : WireView) (old new : HeadEnd) (pause : Pause) → IsWritten logged_text (IsHeadEnd plan) (journal_head plan) v old
    → ((journal : List Logged) → IsHeadEnd plan journal old → heads.Runs plan journal v w (Ok pause) new) → IsWritten logged_text (IsHeadEnd plan) (journal_head plan) w new

abbrev pub MeterRunsAreWritten : Type 0
MeterRunsAreWritten = (v w : WireView) (old new : MeterApart) → IsWritten noted_text IsAfter (meter_journal_head (meter_part old)) v old
    → ((journal : List Noted) → IsAfter journal old → meters.Runs old journal v w (Ok tt) new) → IsWritten noted_text IsAfter (meter_journal_head (meter_part old)) w new
