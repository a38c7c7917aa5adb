-- A run that is over.
use Rattle.std.proofs.Common.{◌≡◌, ℕ, ◌<◌, ◌^◌, List, [], refl, sym, ap, ◌∙◌, subst, arith}
use Rattle.std.specs.Prelude.{Option, Some, None, unwrap_or}
use Rattle.missing_round.specs.Masks.{Masks}
use Rattle.group_plan.specs.Plans.{PlanView, IsWithinLimits}
use Rattle.group_plan.specs.Tables.{ReadingsView, IsReadingTable, reading}
use Rattle.link_lanes.specs.declared.Post.{Post}
use Rattle.link_lanes.specs.Lanes.{Slot}
use Rattle.event_schedule.specs.declared.Entry.{Entry}
use Rattle.event_schedule.specs.Events.{events_of, lines_of}
use Rattle.event_schedule.specs.Tables.{IsBounded}
use Rattle.event_schedule.specs.Transcript.{transcript, lines_after, contents_of_tables}
use Rattle.event_schedule.specs.Journal.{IsJournalAfter, HasFramesOf}
use Rattle.event_schedule.proofs.JournalLemmas.{journal_is}
use Rattle.event_schedule.specs.Transcripts.{TranscriptView, no_entries}
use Rattle.tick_run.specs.Running.{run_contents}
use Rattle.plan_meters.specs.TickFrames.{run_shape}
use Rattle.tick_run.specs.Sending.{KeptFates}
use Rattle.tick_run.proofs.FrameSteps.{map_map}
use Rattle.tick_run.proofs.ShapeLemmas.{shapes-same}
use Rattle.tick_run.proofs.LaneLemmas.{lanes-start}

bounded : (readings : ReadingsView) → IsWithinLimits readings.plan → IsReadingTable readings.plan readings.table → IsBounded readings.plan.groups (reading readings.table)
bounded readings limits table = record {
  meters = limits.meters;
  readings = λ g r i. small (reading readings.table g r i) (table.small g r i);
}
  where
    small : (o : Option ℕ) → ((v : ℕ) → o ≡ Some v → v < 2 ^ 40) → unwrap_or o 0 < 2 ^ 40
    small None each = omega arith
    small (Some v) each = each v refl

nothing_told : (readings : ReadingsView) (m : Masks) → transcript readings.plan.groups (reading readings.table) m [] ≡ []
unfolding lines_after
nothing_told readings m = refl

-- the lines of the entries are the transcript of their events
pub lines-are : (readings : ReadingsView) (m : Masks) (entries : List Entry) → IsWithinLimits readings.plan → IsReadingTable readings.plan readings.table
    → IsJournalAfter (run_shape readings) [] (lines_of entries) → HasFramesOf (run_shape readings) (run_contents readings m) [] (lines_of entries)
    → lines_of entries ≡ transcript readings.plan.groups (reading readings.table) m (events_of entries)
lines-are readings m entries limits table legal frames =
    let groups = readings.plan.groups in
    let x = reading readings.table in
    sym (journal_is groups x m table.of_members (bounded readings limits table) [] (lines_of entries) (nothing_told readings m)
    (subst (λ s. IsJournalAfter s [] (lines_of entries)) (shapes-same readings) legal)
    (subst (λ s. HasFramesOf s (contents_of_tables groups x m) [] (lines_of entries)) (shapes-same readings) frames))
    ∙ ap (transcript groups x m) (map_map entries)

-- before the first tick the lanes have no posts
pub kept-start : (slots lanes : List Slot) (posts : List Post) → posts ≡ [] → lanes ≡ slots → KeptFates slots 0 [] lanes posts
kept-start slots lanes posts none same =
    subst (λ l. KeptFates slots 0 [] l posts) (sym same) (subst (λ p. KeptFates slots 0 [] slots p) (sym none) (record { posts_are = refl; fates = refl; lanes_are = lanes-start slots }))

pub kept-fresh : (slots lanes : List Slot) (posts : List Post) (plan : PlanView) (script : TranscriptView) → posts ≡ [] → lanes ≡ slots → script ≡ no_entries plan → KeptFates slots 0 script.entries lanes posts
kept-fresh slots lanes posts plan script none same fresh =
    subst (λ (d : TranscriptView). KeptFates slots 0 d.entries lanes posts) (sym fresh) (kept-start slots lanes posts none same)
