-- Runs as values.
use Rattle.std.proofs.Common.{◌≡◌, ℕ, ◌+◌, ◌<◌, ◌≤◌, List, [], ◌++◌, sym, ap, ◌∙◌, subst, append-nil, append_assoc, arith}
use Rattle.std.specs.Prelude.{Result, Ok, Err, IfOk}
use Rattle.missing_round.specs.Masks.{Masks}
use Rattle.group_plan.specs.Plans.{IsWithinLimits, last_tick}
use Rattle.group_plan.specs.Tables.{ReadingsView, PresenceView, IsReadingTable, IsPresenceTable}
use Rattle.link_lanes.specs.declared.Post.{Post}
use Rattle.link_lanes.specs.Lanes.{Slot}
use Rattle.event_schedule.specs.declared.Entry.{Entry}
use Rattle.run_rows.specs.Ticks.{clock_of, last_tick as last_of}
use Rattle.event_schedule.specs.Transcripts.{TranscriptView}
use Rattle.group_book.specs.Books.{BookView}
use Rattle.shared_book.specs.Ends.{opening}
use Rattle.tick_run.specs.declared.finished.Finished.{Finished}
use Rattle.tick_run.specs.declared.running.Running.{Running}
use Rattle.tick_run.specs.Finished.{IsFinishedUnder, HasRowsOf}
use Rattle.tick_run.specs.Runs.{RunView, MakesTicks, HaveMet, IsOver}
use Rattle.tick_run.specs.Sending.{KeptFates}
use Rattle.tick_run.specs.Whole.{RunsAt}
use Rattle.tick_run.proofs.RowsOf.{rows-are}
use Rattle.tick_run.proofs.WholeEnd.{run-finishes}

-- the same run by another name
pub met-by : {M : Type 0} (first lanes : List Slot) (posts : List Post) (a b : RunView M) → a ≡ b → HaveMet first b lanes posts → HaveMet first a lanes posts
met-by first lanes posts a b same met = subst (λ (v : RunView _). HaveMet first v lanes posts) (sym same) met

-- no tick is made
pub makes-none : {M : Type 0} (run : RunView M) → MakesTicks 0 run run
makes-none run =
    let here : run.tick ≡ run.tick + 0 = omega arith in
    record {
      more = [];
      is = ap (λ (n : ℕ). record run { tick = n }) here ∙ ap (λ (es : List Entry). record run { tick = run.tick + 0; entries = es }) (sym (append-nil run.entries));
    }

-- one tick more is made
pub makes-more : {M : Type 0} (count : ℕ) (run now next : RunView M) → MakesTicks count run now → MakesTicks 1 now next → MakesTicks (count + 1) run next
makes-more count run now next before last = record {
  more = before.more ++ last.more;
  is = last.is ∙ ap (λ (v : RunView _). record v { tick = v.tick + 1; entries = v.entries ++ last.more }) before.is
      ∙ ap (λ (es : List Entry). record run { tick = run.tick + count + 1; entries = es }) (append_assoc run.entries before.more last.more)
      ∙ (let later : run.tick + count + 1 ≡ run.tick + (count + 1) = omega arith in ap (λ (n : ℕ). record run { tick = n; entries = run.entries ++ (before.more ++ last.more) }) later);
}

-- as long as there are ticks left, the next one is not beyond the last
pub has-left : {M : Type 0} (count left : ℕ) (run now : RunView M) → MakesTicks count run now → run.tick + left ≡ last_tick run.readings.plan + 1 → count < left → now.tick ≤ last_tick now.readings.plan
has-left count left run now makes all more =
    let at : now.tick ≡ run.tick + count = ap (λ (v : RunView _). v.tick) makes.is in
    let plan : last_tick now.readings.plan ≡ last_tick run.readings.plan = ap (λ (v : RunView _). last_tick v.readings.plan) makes.is in
    omega (arith, at, plan, all, more)

-- and once none is left, the run is over
pub none-left : {M : Type 0} (count left : ℕ) (run now : RunView M) → MakesTicks count run now → run.tick + left ≡ last_tick run.readings.plan + 1 → count ≡ left → IsOver now
none-left count left run now makes all here =
    let at : now.tick ≡ run.tick + count = ap (λ (v : RunView _). v.tick) makes.is in
    let plan : last_tick now.readings.plan ≡ last_tick run.readings.plan = ap (λ (v : RunView _). last_tick v.readings.plan) makes.is in
    omega (arith, at, plan, all, here)

-- what a run that is over makes
module _ {E : Type 0} (readings : ReadingsView) (m : Masks) (n : ℕ) (run : Running) (runs : RunsAt readings m n run) (limits : IsWithinLimits readings.plan) (members : IsPresenceTable (opening run.shared).presence.plan (opening run.shared).presence.table)
    (table : IsReadingTable readings.plan readings.table) (last : n ≡ last_of (clock_of readings.plan) + 1) where
  pub finishes-if : (r : Result Finished E) → IfOk r (λ f. f.book.presence ≡ (opening run.shared).presence) → IfOk r (λ f. f.book.journal ≡ run.journal.items) → IfOk r (λ f. f.transcript ≡ run.transcript)
      → (first lanes : List Slot) (posts : List Post) → KeptFates first n run.transcript.entries lanes posts → IfOk r (λ f. IsFinishedUnder readings m first f.book f.transcript)
  finishes-if (Ok f) presence journal same first lanes posts kept = run-finishes readings m n run runs limits members first lanes posts f.book f.transcript table last kept presence journal same
  finishes-if (Err e) presence journal same first lanes posts kept = tt

  pub reports-if : (r : Result Finished E) → IfOk r (λ f. f.book.presence ≡ (opening run.shared).presence) → IfOk r (λ f. f.book.journal ≡ run.journal.items) → IfOk r (λ f. f.transcript ≡ run.transcript)
      → (first lanes : List Slot) (posts : List Post) → KeptFates first n run.transcript.entries lanes posts → IfOk r (λ f. HasRowsOf f.transcript.entries f.book)
  reports-if (Ok f) presence journal same first lanes posts kept =
      rows-are readings m first f.book f.transcript (subst (λ (p : PresenceView). IsPresenceTable p.plan p.table) runs.shared.presence members)
      (run-finishes readings m n run runs limits members first lanes posts f.book f.transcript table last kept presence journal same)
  reports-if (Err e) presence journal same first lanes posts kept = tt

-- a run of these readings and masks has made what one of the same readings and masks has
pub finished-of : {M : Type 0} (words : M → Masks) (run : RunView M) (readings : ReadingsView) (masks : M) (first : List Slot) (book : BookView) (t : TranscriptView) → run.readings ≡ readings → run.masks ≡ masks
    → IsFinishedUnder run.readings (words run.masks) first book t → IsFinishedUnder readings (words masks) first book t
finished-of words run readings masks first book t of_readings of_masks finished =
    subst (λ (m : Masks). IsFinishedUnder readings m first book t) (ap words of_masks) (subst (λ (x : ReadingsView). IsFinishedUnder x (words run.masks) first book t) of_readings finished)
