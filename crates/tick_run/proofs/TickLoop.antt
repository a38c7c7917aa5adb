-- The Sends of a tick.
use Rattle.std.proofs.Common.{◌≡◌, ℕ, ◌+◌, ◌*◌, List, [], ◌∷◌, ◌++◌, map, refl, sym, ap, ◌∙◌, subst, arith}
use Rattle.std.specs.Prelude.{nat_lt}
use mathlib.Core.Path.{fun_ext}
use Rattle.std.specs.List.{flat_map, All}
use Rattle.std.proofs.lemmas.Bool.{and_from, lt-ltb}
use Rattle.std.proofs.lemmas.List.Elements.{All-weaker, All-nil, All-append}
use Rattle.std.proofs.lemmas.List.{map-append}
use Rattle.missing_round.specs.Masks.{Masks}
use Rattle.group_plan.specs.Plans.{PlanView, size}
use Rattle.group_plan.specs.Tables.{ReadingsView, reading}
use Rattle.group_plan.specs.declared.Tag.{Tag}
use Rattle.lossy_link.specs.Arrivals.{Arrival}
use Rattle.meter_frames.specs.declared.Frame.{Frame}
use Rattle.event_schedule.specs.declared.Event.{Event}
use Rattle.event_schedule.specs.Schedule.{Shape}
use Rattle.event_schedule.specs.Journal.{past_of}
use Rattle.run_rows.specs.Ticks.{Clock, clock_of, sent_at}
use Rattle.event_schedule.specs.Transcripts.{TranscriptView}
use Rattle.group_book.specs.Books.{BookView, past}
use Rattle.tick_run.specs.Progress.{past_of_entries}
use Rattle.tick_run.specs.TickFrames.{frames_due, IsDue}
use Rattle.plan_meters.specs.TickFrames.{AreHeard, run_shape}
use Rattle.tick_run.specs.Running.{closed, starting, run_contents, AreRunning, AreCopiesDue}
use Rattle.tick_run.specs.Sending.{IsOfPlan, GoesOn, AreDue}
use Rattle.tick_run.proofs.DueLemmas.{tags-due, all-due_now}
use Rattle.tick_run.proofs.BatchLemmas.{sent-late}
use Rattle.tick_run.proofs.FrameSteps.{past_of-lines}
use Rattle.tick_run.proofs.StateLemmas.{hears, due-now, tick-over}

-- the frames of a group, as they are due once the rounds of the tick are closed
abbrev pub group_frames_of : ReadingsView → Masks → ℕ → TranscriptView → List Tag → ℕ → List Frame
group_frames_of readings m t script tags g = frames_due (run_shape readings) (clock_of readings.plan) (reading readings.table) m (past_of_entries script.entries) tags t g

-- those of these groups
abbrev pub frames_at : ReadingsView → Masks → List ℕ → ℕ → TranscriptView → List Tag → List Frame
frames_at readings m these t script tags = flat_map (group_frames_of readings m t script tags) these

map_flat : {X Y Z : Type 0} (f : X → Y) (F : Z → List X) (zs : List Z) → map f (flat_map F zs) ≡ flat_map (λ z. map f (F z)) zs
map_flat f F [] = refl
map_flat f F (z ∷ zs) = map-append f (F z) (flat_map F zs) ∙ ap (λ l. map f (F z) ++ l) (map_flat f F zs)

all_these : {X Z : Type 0} (P : X → Type 0) (F : Z → List X) (zs : List Z) → ((z : Z) → All P (F z)) → All P (flat_map F zs)
all_these P F [] each = All-nil P
all_these P F (z ∷ zs) each = All-append P (F z) (flat_map F zs) (each z) (all_these P F zs each)

-- each of them is due
pub frames-due : (readings : ReadingsView) (m : Masks) (these : List ℕ) (t : ℕ) (tags : List Tag) (book : BookView) (script : TranscriptView) (waiting : List Arrival) (frames : List Frame)
    → AreRunning readings m these (closed t) book script waiting → AreCopiesDue t script.entries tags → frames ≡ frames_at readings m these t script tags → AreDue readings m t script frames
frames-due readings m these t tags book script waiting frames is due are =
    let s : Shape = run_shape readings in
    let c : Clock = clock_of readings.plan in
    subst (AreDue readings m t script) (sym are)
    (all_these (IsDue s c (run_contents readings m) (past_of_entries script.entries) t) (group_frames_of readings m t script tags) these
    (λ g. all-due_now s c (reading readings.table) m (past_of_entries script.entries) tags t g (hears readings m these t book script waiting tags is due)))

-- and of the plan
pub due-of_plan : (readings : ReadingsView) (m : Masks) (t : ℕ) (plan : PlanView) (script : TranscriptView) (frames : List Frame) → plan ≡ readings.plan → AreDue readings m t script frames → All (IsOfPlan plan) frames
due-of_plan readings m t plan script frames same due =
    subst (λ p. All (IsOfPlan p) frames) (sym same)
    (All-weaker (IsDue (run_shape readings) (clock_of readings.plan) (run_contents readings m) (past_of_entries script.entries) t) (IsOfPlan readings.plan)
    (λ f is. record {
      place = and_from (nat_lt f.tag.round readings.plan.rounds) (nat_lt f.tag.meter (size readings.plan.groups f.tag.group)) (lt-ltb f.tag.round readings.plan.rounds is.in_time.round) (lt-ltb f.tag.meter (size readings.plan.groups f.tag.group) is.in_time.meter);
      fits = is.fits;
      set = is.set;
    }) frames due)

-- once all are sent, the tick is over
pub frames-sent : (readings : ReadingsView) (m : Masks) (these : List ℕ) (t : ℕ) (tags : List Tag) (book : BookView) (before : TranscriptView) (waiting : List Arrival) (now : BookView) (done : TranscriptView) (left : List Arrival) (frames : List Frame)
    → AreRunning readings m these (closed t) book before waiting → AreCopiesDue t before.entries tags → frames ≡ frames_at readings m these t before tags
    → GoesOn readings m these t frames before now done left → AreRunning readings m these (starting (t + 1)) now done left
frames-sent readings m these t tags book before waiting now done left frames is due are goes =
    let s : Shape = run_shape readings in
    let c : Clock = clock_of readings.plan in
    let x = reading readings.table in
    let past : List Event = past_of_entries before.entries in
    let none : sent_at before.entries t ≡ [] = sent-late t (3 * t + 2) before.entries (omega arith) is.run.before in
    tick-over readings m these t now done left goes.running
    (goes.on.sent
    ∙ ap (λ (l : List Tag). l ++ map (λ f. f.tag) frames) none
    ∙ ap (map (λ f. f.tag)) are
    ∙ map_flat (λ (f : Frame). f.tag) (group_frames_of readings m t before tags) these
    ∙ ap (λ F. flat_map F these) (fun_ext (λ g. tags-due s c x m past tags t g ∙ sym (due-now readings m these t book before waiting tags is due g)))
    ∙ sym goes.on.due)

-- the announcements are heard by the book's past too
pub heard-past : (readings : ReadingsView) (m : Masks) (these : List ℕ) (t : ℕ) (book : BookView) (script : TranscriptView) (waiting : List Arrival) (tags : List Tag) → AreRunning readings m these (closed t) book script waiting → AreCopiesDue t script.entries tags
    → AreHeard (run_shape readings) (clock_of readings.plan) (past book) t tags
heard-past readings m these t book script waiting tags is due =
    subst (λ p. AreHeard (run_shape readings) (clock_of readings.plan) p t tags) (sym (ap past_of is.journal ∙ past_of-lines script.entries)) (hears readings m these t book script waiting tags is due)

-- the frames by the book's past are those of the tick
pub frames-past : (readings : ReadingsView) (m : Masks) (these : List ℕ) (t : ℕ) (book : BookView) (script : TranscriptView) (waiting : List Arrival) (tags : List Tag) (items slice : List Frame) → AreRunning readings m these (closed t) book script waiting
    → items ≡ flat_map (frames_due (run_shape readings) (clock_of readings.plan) (reading readings.table) m (past book) tags t) these → slice ≡ items → slice ≡ frames_at readings m these t script tags
frames-past readings m these t book script waiting tags items slice is are same =
    same ∙ are
    ∙ ap (λ p. flat_map (frames_due (run_shape readings) (clock_of readings.plan) (reading readings.table) m p tags t) these) (ap past_of is.journal ∙ past_of-lines script.entries)
