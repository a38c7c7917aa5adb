-- How a run goes on, stage by stage.
use Rattle.std.proofs.Common.{◌≡◌, ℕ, ◌+◌, ◌-◌, ◌*◌, ◌<◌, Bool, true, false, cond, not, List, [], ◌∷◌, ◌++◌, map, refl, sym, ap, ◌∙◌, subst, arith}
use Rattle.std.specs.Prelude.{◌==◌, nat_lt, if◌then◌else◌, Some}
use Rattle.std.specs.List.{count_by, flat_map, All}
use Rattle.std.proofs.lemmas.Bool.{ltb-true}
use Rattle.std.proofs.lemmas.Bool.Decides.{nat_tests}
use Rattle.std.proofs.lemmas.List.{map-append}
use Rattle.std.proofs.lemmas.List.Elements.{All-head, All-tail, All-weaker, All-nil, All-cons, All-map, All-append}
use Rattle.std.proofs.lemmas.List.Sums.{sum_by-cons, sum_by-append, sum_by_push}
use Rattle.missing_round.specs.Masks.{Masks}
use Rattle.group_plan.specs.Tables.{ReadingsView, presence_of}
use Rattle.group_plan.specs.declared.Kind.TheVariants.{Announcement}
use Rattle.group_plan.specs.declared.Tag.{Tag}
use Rattle.lossy_link.specs.Arrivals.{Arrival, posted, due_at, due_elsewhere}
use Rattle.meter_frames.specs.declared.Frame.{Frame}
use Rattle.meter_frames.specs.Frames.{spelling, IsFrame}
use Rattle.event_schedule.specs.declared.Event.{Event}
use Rattle.event_schedule.specs.declared.Event.TheVariants.{Take, Close, End}
use Rattle.event_schedule.specs.declared.Line.{Line}
use Rattle.event_schedule.specs.declared.Line.TheVariants.{Send as SendLine}
use Rattle.event_schedule.specs.declared.Entry.{Entry}
use Rattle.event_schedule.specs.Events.{is_take, is_close, is_end, event_of, lines_of}
use Rattle.event_schedule.specs.Schedule.{Shape}
use Rattle.event_schedule.specs.Transcript.{Contents, frame}
use Rattle.event_schedule.specs.Journal.{HasFramesOf}
use Rattle.event_schedule.proofs.ListLemmas.{sum_by-map}
use Rattle.run_rows.specs.Ticks.{Clock, clock_of, phase, tag_of, takes_at, copies, sent_at, due_of}
use Rattle.event_schedule.specs.Transcripts.{TranscriptView, no_entries}
use Rattle.group_book.specs.Books.{BookView}
use Rattle.plan_meters.specs.Came.{same_tag, tag_in, frames_in, tags_of}
use Rattle.tick_run.specs.OnTheWay.{is_copy, IsOfSend}
use Rattle.tick_run.specs.Progress.{IsDelay, RunsTo, IsBatch, past_of_entries, sending}
use Rattle.plan_meters.specs.TickFrames.{was_taken, AreHeard, run_shape}
use Rattle.tick_run.specs.TickFrames.{due_after, IsDue}
use Rattle.tick_run.specs.Running.{Stage, starting, emptied, taken, closed, sending_at, run_contents, AreRunning, quiet, AreCopiesDue, HaveCome, KeepCopies, HaveEvents, is_due, calls_of, calls_due}
use Rattle.tick_run.proofs.LinkLemmas.{count-posted, count-due, count-elsewhere, all-posted, all-due, all-elsewhere}
use Rattle.plan_meters.proofs.SpellingLemmas.{frame_in-spelling}
use Rattle.tick_run.proofs.SpellingLemmas.{of_send-append, of_send-push}
use Rattle.tick_run.proofs.PostedLemmas.{free-now}
use Rattle.tick_run.proofs.BatchLemmas.{silent-batch, copies-silent}
use Rattle.tick_run.proofs.StepLemmas.{takes_step, closes_step}
use Rattle.tick_run.proofs.SendLemmas.{at_start, run_later, send_step, tick_over}
use Rattle.tick_run.proofs.EndLemmas.{announcement_round, announcement_later}
use Rattle.tick_run.proofs.FrameSteps.{may_of_frame, has_frames-append, has_frames-silent, past_of-lines}
use Rattle.tick_run.proofs.DueLemmas.{due-taken}
use Rattle.tick_run.proofs.CallLemmas.{AreOnce, some-counted, closes-due, ends-due}

-- ---- the first tick

-- nothing is sent yet
pub starts : (readings : ReadingsView) (m : Masks) (these : List ℕ) (book : BookView) → book.presence ≡ presence_of readings → book.journal ≡ []
    → AreRunning readings m these (starting 0) book (no_entries readings.plan) []
starts readings m these book presence journal = record {
  run = at_start (run_shape readings) (clock_of readings.plan) these;
  presence = presence;
  plan = refl;
  journal = journal;
  frames = tt;
  link = record { counts = λ z u from. refl; spelled = All-nil (λ a. IsOfSend [] a.bytes) };
}

-- ---- the copies of a tick

empties : (readings : ReadingsView) (m : Masks) (these : List ℕ) (t : ℕ) (book : BookView) (script : TranscriptView) (waiting : List Arrival)
    → AreRunning readings m these (starting t) book script waiting → AreRunning readings m these (emptied t) book script (due_elsewhere t waiting)
empties readings m these t book script waiting is = record {
  run = is.run;
  presence = is.presence;
  plan = is.plan;
  journal = is.journal;
  frames = is.frames;
  link = record {
    counts = λ z u from. count-elsewhere z t u waiting (λ e. omega arith) ∙ is.link.counts z u (omega arith);
    spelled = all-elsewhere (IsOfSend script.entries) t waiting is.link.spelled;
  };
}

copies-due : (readings : ReadingsView) (m : Masks) (these : List ℕ) (t : ℕ) (book : BookView) (script : TranscriptView) (waiting : List Arrival)
    → AreRunning readings m these (starting t) book script waiting → AreCopiesDue t script.entries (tags_of (frames_in (due_at t waiting)))
copies-due readings m these t book script waiting is z = count-due z t waiting ∙ is.link.counts z t (omega arith)

-- with the copies off the link, the run goes on, and these are the copies that came in
pub emptied-of : (readings : ReadingsView) (m : Masks) (these : List ℕ) (t : ℕ) (book : BookView) (script : TranscriptView) (waiting left : List Arrival) (came : List (List ℕ))
    → AreRunning readings m these (starting t) book script waiting → left ≡ due_elsewhere t waiting → came ≡ due_at t waiting → AreRunning readings m these (emptied t) book script left × HaveCome t script.entries came
emptied-of readings m these t book script waiting left came is off due = (
  subst (λ (l : List Arrival). AreRunning readings m these (emptied t) book script l) (sym off) (empties readings m these t book script waiting is),
  subst (λ (l : List (List ℕ)). HaveCome t script.entries l) (sym due) (record {
    due = copies-due readings m these t book script waiting is;
    spelled = all-due (IsOfSend script.entries) t waiting is.link.spelled;
  }),
)

-- ---- a batch

-- what no event of a list is, no added line is
pub none_added : (events : List Event) (added : List Line) → HaveEvents events added → (test : Event → Bool) → All (λ e. test e ≡ false) events → All (λ l. test (event_of l) ≡ false) added
none_added events added have test none = uncounted (λ l. test (event_of l)) added (have test ∙ counted_none test events none)
  where
    counted_none : {X : Type 0} (p : X → Bool) (xs : List X) → All (λ x. p x ≡ false) xs → count_by p xs ≡ 0
    counted_none p [] all = refl
    counted_none {X} p (x ∷ xs) all =
        omega (arith, sum_by-cons (λ (y : X). cond {A = ℕ} (p y) 1 0) x xs, ap (λ b. cond {A = ℕ} b 1 0) (All-head (λ y. p y ≡ false) x xs all), counted_none p xs (All-tail (λ y. p y ≡ false) x xs all))

    uncounted : {X : Type 0} (p : X → Bool) (xs : List X) → count_by p xs ≡ 0 → All (λ x. p x ≡ false) xs
    uncounted p [] none = All-nil (λ x. p x ≡ false)
    uncounted {X} p (x ∷ xs) none =
        All-cons (λ y. p y ≡ false) x xs (off (p x) (omega (arith, none, sum_by-cons (λ (y : X). cond {A = ℕ} (p y) 1 0) x xs)))
        (uncounted p xs (omega (arith, none, sum_by-cons (λ (y : X). cond {A = ℕ} (p y) 1 0) x xs)))
      where
        off : (b : Bool) → cond {A = ℕ} b 1 0 ≡ 0 → b ≡ false
        off true h = absurd (omega arith)
        off false h = refl

-- the events of one phase give lines of that phase
pub phases_added : (k : ℕ) (events : List Event) (added : List Line) → HaveEvents events added → All (λ e. phase e ≡ k) events → All (λ l. phase (event_of l) ≡ k) added
phases_added k events added have all =
    All-weaker (λ l. not (phase (event_of l) == k) ≡ false) (λ l. phase (event_of l) ≡ k) (λ l h. same (phase (event_of l)) h) added
    (none_added events added have (λ e. not (phase e == k)) (All-weaker (λ e. phase e ≡ k) (λ e. not (phase e == k) ≡ false) (λ e is. off (phase e) is) events all))
  where
    same : (a : ℕ) → not (a == k) ≡ false → a ≡ k
    same a h = grind (arith, nat_tests)

    off : (a : ℕ) → a ≡ k → not (a == k) ≡ false
    off a h = grind (arith, nat_tests)

pub batch_of : (t k : ℕ) (added : List Line) → All (λ l. phase (event_of l) ≡ k) added → IsBatch t k (map (quiet t) added)
batch_of t k added phases = record {
  ticks = All-map (λ e. e.tick ≡ t) (quiet t) added (each added);
  phases = All-map (λ e. phase (event_of e.line) ≡ k) (quiet t) added phases;
  fates = All-map (λ e. e.fate ≡ []) (quiet t) added (none added);
}
  where
    each : (ls : List Line) → All (λ l. t ≡ t) ls
    each [] = All-nil (λ (l : Line). t ≡ t)
    each (l ∷ ls) = All-cons (λ (z : Line). t ≡ t) l ls refl (each ls)

    none : (ls : List Line) → All (λ l. ◌≡◌ {A = List ℕ} [] []) ls
    none [] = All-nil (λ (l : Line). ◌≡◌ {A = List ℕ} [] [])
    none (l ∷ ls) = All-cons (λ (z : Line). ◌≡◌ {A = List ℕ} [] []) l ls refl (none ls)

pub lines_quiet : (t : ℕ) (added : List Line) → lines_of (map (quiet t) added) ≡ added
lines_quiet t [] = refl
lines_quiet t (l ∷ added) = ap (λ ls. l ∷ ls) (lines_quiet t added)

pub lines_append : (xs : List Entry) (t : ℕ) (added : List Line) → lines_of (xs ++ map (quiet t) added) ≡ lines_of xs ++ added
lines_append xs t added = map-append (λ e. e.line) xs (map (quiet t) added) ∙ ap (λ l. lines_of xs ++ l) (lines_quiet t added)

count_quiet : (test : Event → Bool) (t : ℕ) (added : List Line) → count_by (λ e. test (event_of e.line)) (map (quiet t) added) ≡ count_by (λ l. test (event_of l)) added
count_quiet test t added = sum_by-map (λ (e : Entry). cond {A = ℕ} (test (event_of e.line)) 1 0) (quiet t) added

-- a batch adds lines and entries, and nothing to the link
batch_adds : (readings : ReadingsView) (m : Masks) (these : List ℕ) (from to : Stage) (t k : ℕ) (book after : BookView) (script done : TranscriptView) (waiting : List Arrival) (added : List Line)
    → k < 2 → AreRunning readings m these from book script waiting → All (λ l. phase (event_of l) ≡ k) added → to.onward ≡ from.onward
    → after.presence ≡ book.presence → after.journal ≡ book.journal ++ added → done ≡ record script { entries = script.entries ++ map (quiet t) added }
    → RunsTo (run_shape readings) (clock_of readings.plan) these to.moment to.takes to.closes to.sends (script.entries ++ map (quiet t) added)
    → AreRunning readings m these to after done waiting
batch_adds readings m these from to t k book after script done waiting added small is phases onward presence journal pushed run =
    subst (λ d. AreRunning readings m these to after d waiting) (sym pushed) (record {
      run = run;
      presence = presence ∙ is.presence;
      plan = is.plan;
      journal = journal ∙ ap (λ j. j ++ added) is.journal ∙ sym (lines_append script.entries t added);
      frames = subst (HasFramesOf (run_shape readings) (run_contents readings m) []) (sym (lines_append script.entries t added))
          (has_frames-append (run_shape readings) (run_contents readings m) [] (lines_of script.entries) added is.frames
          (has_frames-silent (run_shape readings) (run_contents readings m) (lines_of script.entries) added (All-weaker (λ l. phase (event_of l) ≡ k) (λ l. phase (event_of l) < 2) (λ l h. omega arith) added phases)));
      link = record {
        counts = λ z u le. is.link.counts z u (omega arith)
            ∙ omega (arith, sum_by-append (copies z u) script.entries (map (quiet t) added), copies-silent (map (quiet t) added) z u (silent-batch t k (map (quiet t) added) small (batch_of t k added phases)));
        spelled = All-weaker (λ a. IsOfSend script.entries a.bytes) (λ a. IsOfSend (script.entries ++ map (quiet t) added) a.bytes)
            (λ a of. of_send-append script.entries (map (quiet t) added) a.bytes of) waiting is.link.spelled;
      };
    })

-- ---- the Takes

pub all_takes : (tags : List Tag) → All (λ e. phase e ≡ 0) (map Take tags)
all_takes [] = All-nil (λ e. phase e ≡ 0)
all_takes (z ∷ tags) = All-cons (λ e. phase e ≡ 0) (Take z) (map Take tags) refl (all_takes tags)

pub takes : (readings : ReadingsView) (m : Masks) (these : List ℕ) (t : ℕ) (book after : BookView) (script done : TranscriptView) (waiting : List Arrival) (tags : List Tag) (added : List Line)
    → AreRunning readings m these (emptied t) book script waiting → AreCopiesDue t script.entries tags → HaveEvents (map Take tags) added
    → after.presence ≡ book.presence → after.journal ≡ book.journal ++ added → done ≡ record script { entries = script.entries ++ map (quiet t) added }
    → AreRunning readings m these (taken t) after done waiting
takes readings m these t book after script done waiting tags added is due have presence journal pushed =
    let phases = phases_added 0 (map Take tags) added have (all_takes tags) in
    batch_adds readings m these (emptied t) (taken t) t 0 book after script done waiting added (omega arith) is phases refl presence journal pushed
    (takes_step (run_shape readings) (clock_of readings.plan) these t script.entries (map (quiet t) added) is.run (batch_of t 0 added phases)
    (λ z. count_quiet (is_take z.group z.round z.meter z.kind) t added ∙ have (is_take z.group z.round z.meter z.kind)
    ∙ sum_by-map (λ (e : Event). cond {A = ℕ} (is_take z.group z.round z.meter z.kind e) 1 0) Take tags ∙ due z))

-- a batch sends no copies
pub keeps-copies : (t k u : ℕ) (xs : List Entry) (added : List Line) → k < 2 → All (λ l. phase (event_of l) ≡ k) added → KeepCopies u xs (xs ++ map (quiet t) added)
keeps-copies t k u xs added small phases z =
    omega (arith, sum_by-append (copies z u) xs (map (quiet t) added), copies-silent (map (quiet t) added) z u (silent-batch t k (map (quiet t) added) small (batch_of t k added phases)))

pub takes-keep : (t : ℕ) (script done : TranscriptView) (tags : List Tag) (added : List Line) → HaveEvents (map Take tags) added → done ≡ record script { entries = script.entries ++ map (quiet t) added }
    → KeepCopies t script.entries done.entries
takes-keep t script done tags added have pushed =
    subst (λ d. KeepCopies t script.entries d.entries) (sym pushed) (keeps-copies t 0 t script.entries added (omega arith) (phases_added 0 (map Take tags) added have (all_takes tags)))

-- the Takes of the tick are the copies that were due
pub takes-are : (s : Shape) (c : Clock) (these : List ℕ) (m b d t : ℕ) (xs : List Entry) (tags : List Tag) → RunsTo s c these m (t + 1) b d xs → AreCopiesDue t xs tags → (z : Tag) → nat_lt 0 (takes_at xs z t) ≡ was_taken tags z
takes-are s c these m b d t xs tags run due z = ap (nat_lt 0) (run.taken z t (omega arith) ∙ sym (due z)) ∙ some-counted (same_tag z) tags

-- ---- the Closes and Ends

pub all_calls : (c : Clock) (t : ℕ) (these : List ℕ) → All (λ e. phase e ≡ 1) (calls_due c these t)
all_calls c t [] = All-nil (λ e. phase e ≡ 1)
all_calls c t (g ∷ these) =
    All-append (λ e. phase e ≡ 1) (calls_of c t g) (calls_due c these t)
    (All-append (λ e. phase e ≡ 1) (if is_due c.rounds c.w1 t then Close g (t - c.w1) ∷ [] else []) (if is_due c.rounds (c.w1 + c.w2) t then End g (t - (c.w1 + c.w2)) ∷ [] else [])
    (one (is_due c.rounds c.w1 t) (Close g (t - c.w1)) refl) (one (is_due c.rounds (c.w1 + c.w2) t) (End g (t - (c.w1 + c.w2))) refl))
    (all_calls c t these)
  where
    one : (b : Bool) (e : Event) → phase e ≡ 1 → All (λ e. phase e ≡ 1) (if b then e ∷ [] else [])
    one true e is = All-cons (λ e. phase e ≡ 1) e [] is (All-nil (λ e. phase e ≡ 1))
    one false e is = All-nil (λ e. phase e ≡ 1)

pub closes : (readings : ReadingsView) (m : Masks) (these : List ℕ) (t : ℕ) (book after : BookView) (script done : TranscriptView) (waiting : List Arrival) (added : List Line)
    → AreOnce these → AreRunning readings m these (taken t) book script waiting → HaveEvents (calls_due (clock_of readings.plan) these t) added
    → after.presence ≡ book.presence → after.journal ≡ book.journal ++ added → done ≡ record script { entries = script.entries ++ map (quiet t) added }
    → AreRunning readings m these (closed t) after done waiting
closes readings m these t book after script done waiting added once is have presence journal pushed =
    let c : Clock = clock_of readings.plan in
    let phases = phases_added 1 (calls_due c these t) added have (all_calls c t these) in
    batch_adds readings m these (taken t) (closed t) t 1 book after script done waiting added (omega arith) is phases refl presence journal pushed
    (closes_step (run_shape readings) c these t script.entries (map (quiet t) added) is.run (batch_of t 1 added phases)
    (λ g r. count_quiet (is_close g r) t added ∙ have (is_close g r) ∙ closes-due c these t g r once)
    (λ g r. count_quiet (is_end g r) t added ∙ have (is_end g r) ∙ ends-due c these t g r once))

pub closes-keep : (readings : ReadingsView) (these : List ℕ) (t : ℕ) (script done : TranscriptView) (added : List Line) → HaveEvents (calls_due (clock_of readings.plan) these t) added
    → done ≡ record script { entries = script.entries ++ map (quiet t) added } → KeepCopies t script.entries done.entries
closes-keep readings these t script done added have pushed =
    let c : Clock = clock_of readings.plan in
    subst (λ d. KeepCopies t script.entries d.entries) (sym pushed) (keeps-copies t 1 t script.entries added (omega arith) (phases_added 1 (calls_due c these t) added have (all_calls c t these)))

-- ---- the Sends

-- the announcements taken in this tick are heard, once the Takes of the tick are there
pub hears-taken : (readings : ReadingsView) (these : List ℕ) (moment closes t : ℕ) (xs : List Entry) (tags : List Tag)
    → RunsTo (run_shape readings) (clock_of readings.plan) these moment (t + 1) closes t xs → AreCopiesDue t xs tags → AreHeard (run_shape readings) (clock_of readings.plan) (past_of_entries xs) t tags
hears-taken readings these moment closes t xs tags run due =
    let s : Shape = run_shape readings in
    let c : Clock = clock_of readings.plan in
    let some : (g r i : ℕ) → was_taken tags (tag_of Announcement g r i) ≡ true → 0 < takes_at xs (tag_of Announcement g r i) t
    = λ g r i told. ltb-true 0 (takes_at xs (tag_of Announcement g r i) t) (takes-are s c these moment closes t t xs tags run due (tag_of Announcement g r i) ∙ told) in
    record {
      effect = λ g r i told. run.heard g r i t (some g r i told);
      round = λ g r i told. (announcement_round s c these moment (t + 1) closes t xs run g r i t (omega arith) (some g r i told)).0;
      early = λ g r i told. announcement_later s c these moment (t + 1) closes t xs run g r i t (omega arith) (some g r i told);
      late = λ g r i told. (announcement_round s c these moment (t + 1) closes t xs run g r i t (omega arith) (some g r i told)).1;
    }

pub hears : (readings : ReadingsView) (m : Masks) (these : List ℕ) (t : ℕ) (book : BookView) (script : TranscriptView) (waiting : List Arrival) (tags : List Tag)
    → AreRunning readings m these (closed t) book script waiting → AreCopiesDue t script.entries tags → AreHeard (run_shape readings) (clock_of readings.plan) (past_of_entries script.entries) t tags
hears readings m these t book script waiting tags is due = hears-taken readings these (3 * t + 2) (t + 1) t script.entries tags is.run due

-- what is due by the entries is what is due after the copies that were taken
pub due-now : (readings : ReadingsView) (m : Masks) (these : List ℕ) (t : ℕ) (book : BookView) (script : TranscriptView) (waiting : List Arrival) (tags : List Tag)
    → AreRunning readings m these (closed t) book script waiting → AreCopiesDue t script.entries tags
    → (g : ℕ) → due_of (run_shape readings) (clock_of readings.plan) script.entries t g ≡ due_after (run_shape readings) (clock_of readings.plan) (past_of_entries script.entries) tags t g
due-now readings m these t book script waiting tags is due g =
    due-taken (run_shape readings) (clock_of readings.plan) script.entries tags t g (takes-are (run_shape readings) (clock_of readings.plan) these (3 * t + 2) (t + 1) t t script.entries tags is.run due)

pub sends-begin : (readings : ReadingsView) (m : Masks) (these : List ℕ) (t : ℕ) (book : BookView) (script : TranscriptView) (waiting : List Arrival)
    → AreRunning readings m these (closed t) book script waiting → AreRunning readings m these (sending_at t) book script waiting
sends-begin readings m these t book script waiting is = record {
  run = run_later (run_shape readings) (clock_of readings.plan) these (3 * t + 2) (3 * t + 3) (t + 1) (t + 1) t script.entries (omega arith) is.run;
  presence = is.presence;
  plan = is.plan;
  journal = is.journal;
  frames = is.frames;
  link = is.link;
}

-- one more frame is sent
pub sends : (readings : ReadingsView) (m : Masks) (these : List ℕ) (t : ℕ) (book after : BookView) (script done : TranscriptView) (waiting left : List Arrival) (f : Frame) (fate : List ℕ)
    → AreRunning readings m these (sending_at t) book script waiting → IsDue (run_shape readings) (clock_of readings.plan) (run_contents readings m) (past_of_entries script.entries) t f
    → IsFrame f → All IsDelay fate → after.presence ≡ book.presence → after.journal ≡ book.journal ++ SendLine f.tag (Some f) ∷ []
    → done ≡ record script { entries = script.entries ++ sending t f.tag (Some f) fate ∷ [] } → left ≡ posted t (spelling f) fate waiting
    → AreRunning readings m these (sending_at t) after done left
sends readings m these t book after script done waiting left f fate is due framed delays presence journal pushed post =
    let s : Shape = run_shape readings in
    let c : Clock = clock_of readings.plan in
    let w : Contents = run_contents readings m in
    let x : Entry = sending t f.tag (Some f) fate in
    let lines : lines_of (script.entries ++ x ∷ []) ≡ lines_of script.entries ++ SendLine f.tag (Some f) ∷ [] = map-append (λ e. e.line) script.entries (x ∷ []) in
    let tag : tag_in (spelling f) ≡ f.tag = ap (λ (z : Frame). z.tag) (frame_in-spelling f framed) in
    let free = free-now s w f.tag f (lines_of script.entries) is.frames (ap (frame s w f.tag) (past_of-lines script.entries) ∙ due.is) in
    subst (λ d. AreRunning readings m these (sending_at t) after d left) (sym pushed) (record {
      run = send_step s c these t script.entries f.tag (Some f) fate is.run delays due.in_time (may_of_frame s w f.tag f (past_of_entries script.entries) due.is);
      presence = presence ∙ is.presence;
      plan = is.plan;
      journal = journal ∙ ap (λ j. j ++ SendLine f.tag (Some f) ∷ []) is.journal ∙ sym lines;
      frames = subst (HasFramesOf s w []) (sym lines)
          (has_frames-append s w [] (lines_of script.entries) (SendLine f.tag (Some f) ∷ []) is.frames (sym (ap (frame s w f.tag) (past_of-lines script.entries) ∙ due.is), tt));
      link = record {
        counts = λ z u from. ap (count_by (is_copy z u)) post ∙ count-posted z u t (spelling f) fate waiting
            ∙ ap (λ (y : Tag). count_by (is_copy z u) waiting + (if same_tag z y then count_by (λ d. t + d == u) fate else 0)) tag
            ∙ ap (λ n. n + (if same_tag z f.tag then count_by (λ d. t + d == u) fate else 0)) (is.link.counts z u from) ∙ sym (sum_by_push (copies z u) script.entries x);
        spelled = subst (All (λ (a : Arrival). IsOfSend (script.entries ++ x ∷ []) a.bytes)) (sym post)
            (all-posted (IsOfSend (script.entries ++ x ∷ [])) t (spelling f) fate waiting (of_send-push script.entries x f refl framed free)
            (All-weaker (λ a. IsOfSend script.entries a.bytes) (λ a. IsOfSend (script.entries ++ x ∷ []) a.bytes) (λ a of. of_send-append script.entries (x ∷ []) a.bytes of) waiting is.link.spelled));
      };
    })

-- the tick is over
pub tick-over : (readings : ReadingsView) (m : Masks) (these : List ℕ) (t : ℕ) (book : BookView) (script : TranscriptView) (waiting : List Arrival)
    → AreRunning readings m these (sending_at t) book script waiting
    → sent_at script.entries t ≡ flat_map (due_of (run_shape readings) (clock_of readings.plan) script.entries t) these
    → AreRunning readings m these (starting (t + 1)) book script waiting
tick-over readings m these t book script waiting is all = record {
  run = tick_over (run_shape readings) (clock_of readings.plan) these t script.entries is.run all;
  presence = is.presence;
  plan = is.plan;
  journal = is.journal;
  frames = is.frames;
  link = is.link;
}
