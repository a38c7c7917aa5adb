-- A head end that is given a run, tick by tick: the frames that reach it in the tick, in their order, and then the tick.
use Rattle.std.specs.Prelude.{◌≡◌, ◌≤◌, ℕ, zero, suc, ◌==◌, if◌then◌else◌, List, [], ◌∷◌, ◌++◌}
use Rattle.std.specs.List.{flat_map}
use Rattle.group_plan.specs.Plans.{PlanView}
use Rattle.meter_frames.specs.declared.Frame.{Frame}
use Rattle.round_machine.specs.declared.Verdict.{Verdict}
use Rattle.round_machine.specs.declared.Verdict.TheVariants as verdicts
use Rattle.event_schedule.specs.declared.Entry.{Entry}
use Rattle.event_schedule.specs.declared.Line.{Line}
use Rattle.event_schedule.specs.declared.Line.TheVariants.{Take as TakeLine}
use Rattle.event_schedule.specs.Tables.{Readings, plain_sum}
use Rattle.event_schedule.specs.Transcript.{shape_of_readings}
use Rattle.run_rows.specs.Ticks.{clock_of, posts_of}
use Rattle.run_rows.specs.Report.{fate_at, row}
use Rattle.totals_report.specs.Reports.{report_rows}
use Rattle.head_end.specs.declared.answers.Logged.{Logged}
use Rattle.head_end.specs.declared.answers.Logged.TheVariants.{Passed}
use Rattle.head_end.specs.declared.answers.Reply.{Reply}
use Rattle.head_end.specs.declared.answers.Reply.TheVariants.{Fresh, Again, Late, Void}
use Rattle.head_end.specs.declared.answers.TickLine.{TickLine}
use Rattle.head_end.specs.declared.answers.TickLine.TheVariants.{Announce}
use Rattle.head_end.specs.Journal.{passed, all_ticks}
use Rattle.head_end.specs.Replies.{reply, replied, can_pass}
use Rattle.head_end.specs.Lines.{tick_lines, rows}
use Rattle.apart_runs.specs.Carried.{is_from_head, brought_at, announced_at}

-- the journal after frames came, one after another
unfoldable pub after_frames : PlanView → List Logged → List Frame → List Logged
after_frames plan journal [] = journal
after_frames plan journal (f ∷ rest) = after_frames plan (replied (reply plan journal f) f journal) rest

-- and after a tick, which passes where the plan has one more
abbrev pub after_tick : PlanView → List Logged → List Logged
after_tick plan journal = if can_pass plan journal then journal ++ Passed ∷ [] else journal

-- the journal that the first ticks of a run leave, so many
abbrev pub journal_after : PlanView → List Entry → ℕ → List Logged
journal_after plan entries zero = []
journal_after plan entries (suc t) = after_tick plan (after_frames plan (journal_after plan entries t) (brought_at entries t))

-- what the head end says to frames that come one after another
unfoldable pub replies_to : PlanView → List Logged → List Frame → List Reply
replies_to plan journal [] = []
replies_to plan journal (f ∷ rest) = reply plan journal f ∷ replies_to plan (replied (reply plan journal f) f journal) rest

-- and to those of tick t
abbrev pub replies_at : PlanView → List Entry → ℕ → List Reply
replies_at plan entries t = replies_to plan (journal_after plan entries t) (brought_at entries t)

-- a verdict, as the head end says it
abbrev pub reply_of : Verdict → Reply
reply_of verdicts.Fresh = Fresh
reply_of verdicts.Again = Again
reply_of verdicts.Late = Late
reply_of verdicts.Void = Void

-- the verdict that a line has for a frame that goes to the head end
abbrev pub verdict_by : Line → List Reply
verdict_by (TakeLine tag verdict) = if is_from_head tag.kind then [] else reply_of verdict ∷ []
verdict_by line = []

-- the verdicts of tick t, in their order
abbrev pub verdicts_at : List Entry → ℕ → List Reply
verdicts_at entries t = flat_map (λ e. if e.tick == t then verdict_by e.line else []) entries

-- the announcement of a line, where it is one
abbrev pub announcement_in : TickLine → List Frame
announcement_in (Announce f) = f ∷ []
announcement_in line = []

-- the announcements that the head end says for tick t, in their order
abbrev pub says_at : PlanView → List Entry → ℕ → List Frame
says_at plan entries t = flat_map announcement_in (tick_lines plan (journal_after plan entries (suc t)) t)

-- each tick of the plan passes when it is given; to each frame the head end says the verdict of its Take, and for a tick the
-- announcements that the run sends in it, in their order; and once all ticks have passed, the rows of its report are those by the
-- fates of the run
pub record IsHeadEndOf (plan : PlanView) (x : Readings) (entries : List Entry) : Type 0 where
  pub passes : (t : ℕ) → t ≤ all_ticks plan → passed (journal_after plan entries t) ≡ t
  pub replies : (t : ℕ) → replies_at plan entries t ≡ verdicts_at entries t
  pub says : (t : ℕ) → says_at plan entries t ≡ announced_at entries t
  pub reports : (ticks : ℕ) → all_ticks plan ≤ ticks →
      rows plan (journal_after plan entries ticks) ≡ report_rows plan (row (shape_of_readings plan.groups x) (clock_of plan) (fate_at (posts_of entries)) (plain_sum x))
