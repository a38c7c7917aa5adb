-- The outcomes of the book of a run that is over.
use Rattle.std.proofs.Common.{◌≡◌, ℕ, List, ap, sym, ◌∙◌, subst}
use Rattle.std.specs.Prelude.{IsTrue, reverse}
use Rattle.std.proofs.lemmas.Bool.{and_parts, ltb-true}
use Rattle.missing_round.specs.Masks.{Masks}
use Rattle.group_plan.specs.Tables.{PresenceView, ReadingsView, IsPresenceTable, presence_of}
use Rattle.link_lanes.specs.Lanes.{Slot}
use Rattle.event_schedule.specs.declared.Line.{Line}
use Rattle.event_schedule.specs.Events.{lines_of}
use Rattle.event_schedule.specs.Frames.{contents_of_lines}
use Rattle.event_schedule.specs.Journal.{past_of}
use Rattle.event_schedule.specs.Schedule.{shape_of_presence}
use Rattle.event_schedule.specs.Transcripts.{TranscriptView}
use Rattle.run_rows.specs.Ticks.{clock_of, posts_of}
use Rattle.run_rows.specs.Report.{fate_at, outcome_row, row}
use Rattle.run_rows.proofs.FateLemmas.{rows_by_posts}
use Rattle.run_rows.proofs.PlanLemmas.{can_run}
use Rattle.run_rows.proofs.TickRun.{events-reverse}
use Rattle.group_book.specs.Books.{BookView}
use Rattle.group_book.specs.Places.{is_round}
use Rattle.tick_run.specs.Finished.{IsFinishedUnder, HasRowsOf}
use Rattle.tick_run.proofs.FrameSteps.{map_map}

-- the rows by the fates are the outcomes in a presence and its lines
rows_in : (readings : ReadingsView) (m : Masks) (slots : List Slot) (b : BookView) (t : TranscriptView) → IsPresenceTable readings.plan (presence_of readings).table → IsFinishedUnder readings m slots b t
    → (total : ℕ → ℕ → List ℕ → ℕ) (g r : ℕ) → IsTrue (is_round readings.plan g r)
    → outcome_row (shape_of_presence (presence_of readings)) total g r (past_of (lines_of t.entries))
    ≡ row (shape_of_presence (presence_of readings)) (clock_of readings.plan) (fate_at (posts_of t.entries)) total g r
rows_in readings m slots b t table is total g r inside =
    let s = shape_of_presence (presence_of readings) in
    let places = and_parts _ _ inside in
    ap (outcome_row s total g r) (ap reverse (map_map t.entries) ∙ sym (events-reverse t.entries))
    ∙ rows_by_posts s (clock_of readings.plan) slots t.entries (can_run (presence_of readings) is.limits table) is.delays is.ticks total g r (ltb-true _ _ places.0) (ltb-true _ _ places.1)

pub rows-are : (readings : ReadingsView) (m : Masks) (slots : List Slot) (b : BookView) (t : TranscriptView) → IsPresenceTable readings.plan (presence_of readings).table → IsFinishedUnder readings m slots b t → HasRowsOf t.entries b
rows-are readings m slots b t table is g r inside =
    let total = (contents_of_lines b.journal).total in
    let P : PresenceView → List Line → Type 0 = λ p ls. outcome_row (shape_of_presence p) total g r (past_of ls) ≡ row (shape_of_presence p) (clock_of p.plan) (fate_at (posts_of t.entries)) total g r in
    subst (λ p. P p b.journal) (sym is.presence) (subst (P (presence_of readings)) (sym is.journal)
    (rows_in readings m slots b t table is total g r (subst (λ (p : PresenceView). IsTrue (is_round p.plan g r)) is.presence inside)))
