-- Whole runs.
use Rattle.std.proofs.Common.{◌≡◌, List, sym, ap, ◌∙◌}
use Rattle.link_lanes.specs.Lanes.{Slot}
use Rattle.event_schedule.specs.declared.Entry.{Entry}
use Rattle.event_schedule.specs.Schedule.{Shape}
use Rattle.event_schedule.specs.Transcript.{Contents}
use Rattle.run_rows.specs.Ticks.{Clock, IsRunPlan, posts_of}
use Rattle.run_rows.specs.Report.{fate_at, row, outcome_row}
use Rattle.run_rows.specs.Summary.{summary_of_lines, summary_of_posts}
use Rattle.run_rows.specs.Posts.{posts_by_lanes}
use Rattle.run_rows.specs.Runs.{IsRun, IsReported}
use Rattle.run_rows.proofs.TickRun.{events-reverse}
use Rattle.run_rows.proofs.FateLemmas.{rows_by_posts}
use Rattle.run_rows.proofs.SummaryLemmas.{summaries}
use Rattle.run_rows.proofs.PostLemmas.{posts_are}

pub reported : (s : Shape) (c : Clock) (slots : List Slot) (words : Contents) (entries : List Entry) →
    IsRunPlan s c → IsRun s c slots words entries → IsReported s c slots words entries
reported s c slots words entries plan run =
    let same : posts_of entries ≡ posts_by_lanes s c slots = posts_are s c slots entries plan run.delays run.run in
    record {
      rows = λ g r g_in r_in.
          ap (outcome_row s words.total g r) (sym (events-reverse entries))
          ∙ rows_by_posts s c slots entries plan run.delays run.run words.total g r g_in r_in
          ∙ ap (λ p. row s c (fate_at p) words.total g r) same;
      summary =
          ap (summary_of_lines s c words.total) run.lines
          ∙ summaries s c slots entries words plan run.delays run.run
          ∙ ap (summary_of_posts s c words.total) same;
    }
