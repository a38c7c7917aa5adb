-- A run after its batches.
use Rattle.std.proofs.Common.{◌≡◌, ℕ, List, ◌++◌, map, sym, ap, ◌∙◌, subst}
use Rattle.std.specs.List.{All}
use Rattle.missing_round.specs.Masks.{Masks}
use Rattle.group_plan.specs.Tables.{ReadingsView}
use Rattle.group_plan.specs.declared.Tag.{Tag}
use Rattle.lossy_link.specs.Arrivals.{Arrival}
use Rattle.event_schedule.specs.declared.Event.TheVariants.{Take}
use Rattle.event_schedule.specs.declared.Entry.{Entry}
use Rattle.run_rows.specs.Ticks.{clock_of}
use Rattle.event_schedule.specs.Transcripts.{TranscriptView}
use Rattle.group_book.specs.Books.{BookView}
use Rattle.tick_run.specs.Running.{emptied, taken, closed, AreRunning, HaveCome, KeepCopies, quiet, calls_due}
use Rattle.plan_meters.specs.Came.{frames_in, tags_of}
use Rattle.tick_run.specs.OnTheWay.{IsOfSend}
use Rattle.tick_run.specs.Batches.{Batched}
use Rattle.std.proofs.lemmas.List.Elements.{All-weaker}
use Rattle.tick_run.proofs.SpellingLemmas.{of_send-append}
use Rattle.tick_run.proofs.StateLemmas.{takes, takes-keep, closes, closes-keep}
use Rattle.tick_run.proofs.CallLemmas.{AreOnce}

still-come : (t : ℕ) (xs ys zs : List Entry) (copies : List (List ℕ)) → ys ≡ xs ++ zs → HaveCome t xs copies → KeepCopies t xs ys → HaveCome t ys copies
still-come t xs ys zs copies longer came keep = record {
  due = λ z. came.due z ∙ sym (keep z);
  spelled = subst (λ (es : List Entry). All (IsOfSend es) copies) (sym longer) (All-weaker (IsOfSend xs) (IsOfSend (xs ++ zs)) (λ bytes of. of_send-append xs zs bytes of) copies came.spelled);
}

-- the copies of the tick are taken
pub takes-batched : (readings : ReadingsView) (m : Masks) (these : List ℕ) (t : ℕ) (book after : BookView) (script done : TranscriptView) (waiting left : List Arrival) (copies : List (List ℕ))
    → AreRunning readings m these (emptied t) book script waiting → HaveCome t script.entries copies → Batched t (map Take (tags_of (frames_in copies))) book after script done waiting left
    → AreRunning readings m these (taken t) after done left × HaveCome t done.entries copies
takes-batched readings m these t book after script done waiting left copies is came batch =
    let tags : List Tag = tags_of (frames_in copies) in (
      subst (AreRunning readings m these (taken t) after done) (sym batch.link) (takes readings m these t book after script done waiting tags batch.added is came.due batch.events_are batch.presence batch.journal batch.script_is),
      still-come t script.entries done.entries (map (quiet t) batch.added) copies (ap (λ (d : TranscriptView). d.entries) batch.script_is) came (takes-keep t script done tags batch.added batch.events_are batch.script_is),
    )

-- its rounds are closed and ended
pub closes-batched : (readings : ReadingsView) (m : Masks) (these : List ℕ) (t : ℕ) (book after : BookView) (script done : TranscriptView) (waiting left : List Arrival) (copies : List (List ℕ))
    → AreOnce these → AreRunning readings m these (taken t) book script waiting → HaveCome t script.entries copies → Batched t (calls_due (clock_of readings.plan) these t) book after script done waiting left
    → AreRunning readings m these (closed t) after done left × HaveCome t done.entries copies
closes-batched readings m these t book after script done waiting left copies once is came batch = (
  subst (AreRunning readings m these (closed t) after done) (sym batch.link) (closes readings m these t book after script done waiting batch.added once is batch.events_are batch.presence batch.journal batch.script_is),
  still-come t script.entries done.entries (map (quiet t) batch.added) copies (ap (λ (d : TranscriptView). d.entries) batch.script_is) came (closes-keep readings these t script done batch.added batch.events_are batch.script_is),
)
