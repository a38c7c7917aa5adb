-- A run of all groups that is over.
use Rattle.std.proofs.Common.{◌≡◌, ℕ, zero, suc, ◌+◌, ◌*◌, ◌<◌, ◌≤◌, List, [], ◌∷◌, length, map, get_or, refl, sym, ap, ◌∙◌, subst, arith, zero-add, ⊎_elim}
use Rattle.std.specs.List.{AllZip, range_with_len, All}
use Rattle.std.proofs.lemmas.Bool.{cases_lt}
use Rattle.missing_round.specs.Masks.{Masks}
use Rattle.group_plan.specs.Plans.{IsWithinLimits}
use Rattle.group_plan.specs.Tables.{ReadingsView, PresenceView, IsReadingTable, IsPresenceTable, presence_of}
use Rattle.link_lanes.specs.declared.Post.{Post}
use Rattle.link_lanes.specs.Lanes.{Slot, fates_after}
use Rattle.event_schedule.specs.declared.Entry.{Entry}
use Rattle.event_schedule.specs.declared.Line.{Line}
use Rattle.event_schedule.specs.Events.{lines_of}
use Rattle.event_schedule.specs.Journal.{HasFramesOf}
use Rattle.event_schedule.specs.Schedule.{Shape}
use Rattle.event_schedule.specs.Transcripts.{TranscriptView}
use Rattle.group_book.specs.Books.{BookView}
use Rattle.event_schedule.specs.ByGroup.{lines_in}
use Rattle.group_book.specs.Replay.{IsLedger}
use Rattle.run_rows.specs.ByGroup.{entries_in}
use Rattle.run_rows.specs.Ticks.{Clock, clock_of, last_tick}
use Rattle.run_rows.proofs.GroupRuns.{tick_run_of_groups}
use Rattle.plan_meters.proofs.RangeLemmas.{range_at, range_long}
use Rattle.plan_meters.specs.TickFrames.{run_shape}
use Rattle.shared_book.specs.declared.parts.SharedBook.{SharedBook}
use Rattle.shared_book.specs.Ends.{opening}
use Rattle.tick_run.specs.declared.running.Group.{Group}
use Rattle.tick_run.specs.declared.running.Running.{Running}
use Rattle.tick_run.specs.ByGroups.{StandsFor, AllStand, AreWhole}
use Rattle.tick_run.specs.Finished.{IsFinishedUnder}
use Rattle.tick_run.specs.GroupRuns.{script_of}
use Rattle.tick_run.specs.Progress.{RunsTo}
use Rattle.tick_run.specs.Running.{run_contents}
use Rattle.tick_run.specs.Sending.{KeptFates}
use Rattle.tick_run.specs.Sharing.{leading, HasTurns, HaveMade}
use Rattle.tick_run.specs.Whole.{RunsAt}
use Rattle.tick_run.proofs.EndLemmas.{have_delays}
use Rattle.tick_run.proofs.FinishLemmas.{lines-are}
use Rattle.tick_run.proofs.WholeLemmas.{is_group_run, lines-in, none-beyond, all-parts, frames-whole, ledger-whole, ledger-none}

-- the item at a number of a range
record Found {Y : Type 0} (R : ℕ → Y → Type 0) (g : ℕ) : Type 0 where
  item : Y
  is : R g item

found : {Y : Type 0} (R : ℕ → Y → Type 0) (a n : ℕ) (ys : List Y) → AllZip R (range_with_len a n) ys → (g : ℕ) → a ≤ g → g < a + n → Found R g
found R a zero [] all g above below = absurd (omega arith)
found R a zero (y ∷ ys) all g above below = absurd all
found R a (suc n) [] all g above below = absurd all
found {Y} R a (suc n) (y ∷ ys) all g above below =
    ⊎_elim (λ later. found R (a + 1) n ys all.1 g (omega arith) (omega arith))
    (λ here. let same : a ≡ g = omega arith in record { item = y; is = subst (λ (h : ℕ). R h y) same all.0 })
    (cases_lt a g)

module _ (book : SharedBook) (readings : ReadingsView) (m : Masks) (n : ℕ) (entries : List Entry) (works : List Group) (whole : AreWhole (length readings.plan.groups) n entries) (stand : AllStand book readings m n entries works)
    (limits : IsWithinLimits readings.plan) (members : IsPresenceTable readings.plan (presence_of readings).table) where
  groups : ℕ
  groups = length readings.plan.groups

  standing : (g : ℕ) → g < groups → Found (StandsFor book readings m n entries) g
  unfolding groups
  standing g lt = found (StandsFor book readings m n entries) 0 groups works stand g (omega arith) (omega arith)

  runs : (g : ℕ) → g < groups → RunsTo (run_shape readings) (clock_of readings.plan) (g ∷ []) (3 * n) n n n (entries_in g entries)
  runs g lt = (standing g lt).is.stands.running.run

  -- the lines of all groups are a book's
  whole_ledger : IsLedger (presence_of readings) (lines_of entries)
  unfolding groups
  whole_ledger = ledger-whole (presence_of readings) (lines_of entries) (λ g.
      subst (IsLedger (presence_of readings)) (lines-in g entries)
      (⊎_elim (λ lt. (standing g lt).is.stands.ledger)
      (λ beyond. subst (λ es. IsLedger (presence_of readings) (lines_of es)) (sym (none-beyond groups g entries whole.of_plan beyond)) (ledger-none (presence_of readings) limits members))
      (cases_lt g groups)))

  -- their frames are those of the readings under the masks
  whole_frames : HasFramesOf (run_shape readings) (run_contents readings m) [] (lines_of entries)
  unfolding groups
  whole_frames = frames-whole (run_shape readings) (run_contents readings m) [] (lines_of entries) (λ g.
      subst (HasFramesOf (run_shape readings) (run_contents readings m) []) (lines-in g entries)
      (⊎_elim (λ lt. (standing g lt).is.stands.running.frames)
      (λ beyond. subst (λ es. HasFramesOf (run_shape readings) (run_contents readings m) [] (lines_of es)) (sym (none-beyond groups g entries whole.of_plan beyond)) tt)
      (cases_lt g groups)))

  -- the pass of each group has made its lines
  whole_turns : (g : ℕ) (d : Group) → g < length works → HasTurns book g (lines_in g (lines_of entries)) (get_or works g d).pass
  whole_turns g d lt =
      let at = range_at (StandsFor book readings m n entries) 0 (length readings.plan.groups) works stand g d lt in
      subst (λ (ls : List Line). HasTurns book g ls (get_or works g d).pass) (lines-in g entries) (subst (λ (h : ℕ). StandsFor book readings m n entries h (get_or works g d)) (zero-add g) at.1).turns

  whole_long : length works ≡ length readings.plan.groups
  whole_long = range_long (StandsFor book readings m n entries) 0 (length readings.plan.groups) works stand

  -- after the last tick the run is over
  whole_finishes : (slots lanes : List Slot) (posts : List Post) (last_book : BookView) → IsReadingTable readings.plan readings.table → n ≡ last_tick (clock_of readings.plan) + 1
      → KeptFates slots n entries lanes posts → last_book.presence ≡ presence_of readings → last_book.journal ≡ lines_of entries → IsFinishedUnder readings m slots last_book (script_of readings entries)
  unfolding groups
  whole_finishes slots lanes posts last_book table last kept presence journal =
      let s : Shape = run_shape readings in
      let c : Clock = clock_of readings.plan in
      record {
        limits = limits;
        table = table;
        ticks = tick_run_of_groups s c slots entries (record {
          ordered = whole.ordered;
          of_plan = whole.of_plan;
          turns = whole.turns;
          fates = subst (λ (l : List Post). map (λ p. p.fate) l ≡ fates_after slots [] l) kept.posts_are kept.fates;
          groups = λ g lt. is_group_run s c g n (entries_in g entries) last (runs g lt);
        });
        delays = all-parts (λ e. All (λ d. 0 < d) e.fate) groups entries whole.of_plan (λ g lt. have_delays s c (g ∷ []) (3 * n) n n n (entries_in g entries) (runs g lt));
        lines = lines-are readings m entries limits table whole_ledger.journal.lines whole_frames;
        plan = refl;
        presence = presence;
        journal = journal;
      }

-- ---- the run as a value

module _ (readings : ReadingsView) (m : Masks) (n : ℕ) (run : Running) (runs : RunsAt readings m n run) (limits : IsWithinLimits readings.plan) (members : IsPresenceTable (opening run.shared).presence.plan (opening run.shared).presence.table) where
  of_readings : IsPresenceTable readings.plan (presence_of readings).table
  of_readings = subst (λ (p : PresenceView). IsPresenceTable p.plan p.table) runs.shared.presence members

  -- its groups have made its lines
  pub run-made : HaveMade run.shared run.first run.groups.items run.journal.items
  run-made =
      let n_groups : ℕ = length readings.plan.groups in
      let long : length run.groups.items ≡ n_groups = whole_long run.shared readings m n run.transcript.entries run.groups.items runs.whole runs.stand limits of_readings in
      record {
        empty = runs.shared.empty;
        ledger = subst (λ (x : PresenceView × List Line). IsLedger x.0 x.1) (λ i. (sym runs.shared.presence i, sym runs.journal i))
            (whole_ledger run.shared readings m n run.transcript.entries run.groups.items runs.whole runs.stand limits of_readings);
        pass = runs.shared.pass;
        leads = runs.shared.leads ∙ ap leading (sym long);
        all = long ∙ sym (ap (λ (p : PresenceView). length p.plan.groups) runs.shared.presence);
        turns = λ g d lt. subst (λ (j : List Line). HasTurns run.shared g (lines_in g j) (get_or run.groups.items g d).pass) (sym runs.journal)
            (whole_turns run.shared readings m n run.transcript.entries run.groups.items runs.whole runs.stand limits of_readings g d lt);
      }

  -- after the last tick it is over
  pub run-finishes : (slots lanes : List Slot) (posts : List Post) (book : BookView) (done : TranscriptView) → IsReadingTable readings.plan readings.table → n ≡ last_tick (clock_of readings.plan) + 1
      → KeptFates slots n run.transcript.entries lanes posts → book.presence ≡ (opening run.shared).presence → book.journal ≡ run.journal.items → done ≡ run.transcript → IsFinishedUnder readings m slots book done
  run-finishes slots lanes posts book done table last kept presence journal same =
      subst (IsFinishedUnder readings m slots book) (sym (same ∙ ap (λ p. record run.transcript { plan = p }) runs.plan))
      (whole_finishes run.shared readings m n run.transcript.entries run.groups.items runs.whole runs.stand limits of_readings slots lanes posts book table last kept (presence ∙ runs.shared.presence) (journal ∙ runs.journal))
