-- The copies that are due can be taken: each is of a frame that stands posted.
use Rattle.std.proofs.Common.{◌≡◌, ℕ, zero, suc, ◌<◌, Bool, true, cond, ◌&&◌, List, [], ◌∷◌, length, get_or, sym, ap, refl, ◌∙◌, subst, arith}
use Rattle.std.specs.Prelude.{nat_lt}
use Rattle.std.specs.List.{sum_by, count_by, All}
use Rattle.std.proofs.lemmas.Bool.{false≢true, and_from, lt-ltb}
use Rattle.std.proofs.lemmas.List.Elements.{All-weaker, All-map}
use Rattle.std.proofs.lemmas.List.Sums.{sum_by-cons}
use Rattle.missing_round.specs.Masks.{Masks}
use Rattle.group_plan.specs.Plans.{size}
use Rattle.group_plan.specs.Tables.{ReadingsView}
use Rattle.group_plan.specs.declared.Tag.{Tag}
use Rattle.lossy_link.specs.Arrivals.{Arrival}
use Rattle.event_schedule.specs.declared.Entry.{Entry}
use Rattle.event_schedule.specs.declared.Event.{Event}
use Rattle.event_schedule.specs.Events.{same_kind, lines_of}
use Rattle.event_schedule.specs.Schedule.{Shape, missing}
use Rattle.event_schedule.specs.Transcript.{Contents, set_sent, frame}
use Rattle.event_schedule.specs.Journal.{past_of}
use Rattle.group_plan.specs.declared.Kind.{Kind}
use Rattle.group_plan.specs.declared.Kind.TheVariants.{Reading, Announcement, Answer}
use Rattle.event_schedule.proofs.EventLemmas.{is_send-itself}
use Rattle.run_rows.specs.Ticks.{Clock, clock_of, copies}
use Rattle.event_schedule.specs.Transcripts.{TranscriptView}
use Rattle.group_book.specs.Books.{BookView, knows, past, posted_in}
use Rattle.plan_meters.specs.Came.{same_tag, frame_in, tag_in, frames_in, tags_of, IsSpelling}
use Rattle.tick_run.specs.OnTheWay.{IsOfSend}
use Rattle.tick_run.specs.Running.{Stage, run_contents, AreRunning, HaveCome}
use Rattle.plan_meters.specs.TickFrames.{run_shape}
use Rattle.plan_meters.specs.Meters.{HasSet}
use Rattle.tick_run.specs.Batches.{CanTake}
use Rattle.tick_run.proofs.StepLemmas.{from_copies}
use Rattle.tick_run.proofs.EndLemmas.{in_time_of}
use Rattle.plan_meters.proofs.SpellingLemmas.{frame_in-is}
use Rattle.tick_run.proofs.PostedLemmas.{posted-frame, frame-facts}
use Rattle.meter_frames.specs.declared.Frame.{Frame}

-- bytes of which copies are due can be taken
can-take : (readings : ReadingsView) (m : Masks) (these : List ℕ) (at : Stage) (t : ℕ) (book : BookView) (script : TranscriptView) (waiting : List Arrival) (bytes : List ℕ) → AreRunning readings m these at book script waiting
    → IsOfSend script.entries bytes → 0 < sum_by (copies (tag_in bytes) t) script.entries → CanTake book bytes
can-take readings m these at t book script waiting bytes is of pos =
    let s : Shape = run_shape readings in
    let c : Clock = clock_of readings.plan in
    let z : Tag = tag_in bytes in
    let known : knows book z ≡ true
    = ap (λ p. nat_lt z.round p.plan.rounds && nat_lt z.meter (size p.plan.groups z.group)) is.presence
    ∙ from_copies ((nat_lt z.round readings.plan.rounds && nat_lt z.meter (size readings.plan.groups z.group)) ≡ true) z t script.entries
    (λ e inside sent. let timely = in_time_of s c script.entries is.run.in_time z e inside sent in
    and_from (nat_lt z.round readings.plan.rounds) (nat_lt z.meter (size readings.plan.groups z.group)) (lt-ltb z.round readings.plan.rounds timely.round) (lt-ltb z.meter (size readings.plan.groups z.group) timely.meter)) pos in
    record {
      frame = of.frame;
      is = of.is;
      spelled = of.spelled;
      known = subst (λ (f : Frame). knows book f.tag ≡ true) (frame_in-is bytes of.frame of.is of.spelled) known;
      posted = ap (posted_in of.frame.tag) is.journal ∙ of.posted;
    }

-- each copy is counted by its tag
pub counted : (copies : List (List ℕ)) (k : ℕ) (d : List ℕ) → k < length copies → 0 < count_by (same_tag (tag_in (get_or copies k d))) (tags_of (frames_in copies))
counted [] k d lt = absurd (omega arith)
counted (x ∷ copies) zero d lt =
    let y : Tag = tag_in x in
    omega (arith, sum_by-cons (λ (z : Tag). cond {A = ℕ} (same_tag y z) 1 0) y (tags_of (frames_in copies)), ap (λ b. cond {A = ℕ} b 1 0) (is_send-itself y.group y.round y.meter y.kind))
counted (x ∷ copies) (suc k) d lt =
    let p : Tag → Bool = same_tag (tag_in (get_or copies k d)) in
    omega (arith, sum_by-cons (λ (z : Tag). cond {A = ℕ} (p z) 1 0) (tag_in x) (tags_of (frames_in copies)), counted copies k d (omega arith))

-- the copies that are due at a tick can be taken
pub all-taken : (readings : ReadingsView) (m : Masks) (these : List ℕ) (at : Stage) (t : ℕ) (book : BookView) (script : TranscriptView) (waiting : List Arrival) (copies : List (List ℕ)) → AreRunning readings m these at book script waiting
    → HaveCome t script.entries copies → All (CanTake book) copies
all-taken readings m these at t book script waiting copies is came k d lt =
    let bytes : List ℕ = get_or copies k d in
    can-take readings m these at t book script waiting bytes is (came.spelled k d lt) (subst (λ n. 0 < n) (came.due (tag_in bytes)) (counted copies k d lt))

-- ---- what came

-- each copy is the spelling of a frame
pub all-spelled : (entries : List Entry) (copies : List (List ℕ)) → All (IsOfSend entries) copies → All IsSpelling copies
all-spelled entries copies all = All-weaker (IsOfSend entries) IsSpelling (λ bytes of. record { frame = of.frame; is = of.is; spelled = of.spelled }) copies all

-- and an announcement among them has the missing set
pub sets-come : (readings : ReadingsView) (m : Masks) (these : List ℕ) (at : Stage) (book : BookView) (script : TranscriptView) (waiting : List Arrival) (copies : List (List ℕ)) → AreRunning readings m these at book script waiting
    → All (IsOfSend script.entries) copies → All (HasSet (run_shape readings) (past book)) (frames_in copies)
sets-come readings m these at book script waiting copies is all =
    All-map (HasSet (run_shape readings) (past book)) frame_in copies (All-weaker (IsOfSend script.entries) (λ bytes. HasSet (run_shape readings) (past book) (frame_in bytes)) (λ bytes of. one bytes of) copies all)
  where
    of_kind : (s : Shape) (k : Kind) (g r : ℕ) (p : List Event) → same_kind k Announcement ≡ true → set_sent s k g r p ≡ missing s g r p
    of_kind s Reading g r p is = absurd (false≢true is)
    of_kind s Announcement g r p is = refl
    of_kind s Answer g r p is = absurd (false≢true is)

    one : (bytes : List ℕ) → IsOfSend script.entries bytes → HasSet (run_shape readings) (past book) (frame_in bytes)
    one bytes of =
        let s : Shape = run_shape readings in
        let w : Contents = run_contents readings m in
        let f : Frame = of.frame in
        let facts = frame-facts s w f.tag f (past book) (ap (frame s w f.tag) (ap past_of is.journal) ∙ posted-frame s w f.tag f (lines_of script.entries) is.frames of.posted) in
        subst (HasSet s (past book)) (sym (frame_in-is bytes f of.is of.spelled)) (λ kind. facts.set ∙ of_kind s f.tag.kind f.tag.group f.tag.round (past book) kind)
