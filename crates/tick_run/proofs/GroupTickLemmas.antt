-- A tick of one group, step by step.
use Rattle.std.proofs.Common.{◌≡◌, ℕ, ◌+◌, ◌-◌, ◌<◌, ◌≤◌, Bool, true, false, cond, List, [], ◌∷◌, ◌++◌, length, map, take, drop, get_or, refl, sym, ap, ◌∙◌, subst, append_assoc, append-nil, arith}
use Rattle.std.specs.Prelude.{◌==◌, nat_lt, if◌then◌else◌, Some, None, Vec}
use Rattle.std.specs.declared.alloc.Global.{Global}
use Rattle.std.specs.List.{filter, flat_map, range_with_len, count_by, All}
use Rattle.std.proofs.lemmas.Bool.{and_from, lt-ltb}
use Rattle.std.proofs.lemmas.List.{length-append, map-append}
use Rattle.std.proofs.Math.Seq.{take-append_seam, drop-append_seam}
use Rattle.std.proofs.lemmas.List.Elements.{All-weaker, All-head, All-tail, All-nil, All-cons, All-append, All-map}
use Rattle.missing_round.specs.Masks.{Masks}
use Rattle.group_plan.specs.Plans.{PlanView, size, is_place}
use Rattle.group_plan.specs.Tables.{ReadingsView, PresenceView, IsPresenceTable, presence_of, reading}
use Rattle.group_plan.specs.declared.Tag.{Tag}
use Rattle.lossy_link.specs.Arrivals.{Arrival, due_at, due_elsewhere}
use Rattle.meter_core.specs.Meters.{MeterView}
use Rattle.meter_frames.specs.declared.Frame.{Frame}
use Rattle.meter_frames.specs.Frames.{IsFrame, FitsKind}
use Rattle.event_schedule.specs.declared.Event.{Event}
use Rattle.event_schedule.specs.declared.Event.TheVariants.{Take}
use Rattle.event_schedule.specs.declared.Line.{Line}
use Rattle.event_schedule.specs.declared.Line.TheVariants.{Send as SendLine, Take as TakeLine, Close as CloseLine, End as EndLine}
use Rattle.event_schedule.specs.declared.Entry.{Entry}
use Rattle.transcript_log.specs.Drafts.{quiet}
use Rattle.event_schedule.specs.Events.{event_of, lines_of}
use Rattle.event_schedule.specs.Journal.{past_of, HasFramesOf}
use Rattle.transcript_log.specs.Lines.{LinesView}
use Rattle.group_plan.specs.declared.Kind.TheVariants.{Announcement}
use Rattle.event_schedule.specs.Schedule.{Shape, members_of, is_announced, survivors, missing}
use Rattle.event_schedule.specs.Transcript.{Contents, frame}
use Rattle.event_schedule.specs.Transcripts.{TranscriptView, FitsLine}
use Rattle.event_schedule.proofs.EventLemmas.{is_send-true}
use Rattle.event_schedule.proofs.ListLemmas.{sum_by-map}
use Rattle.run_rows.specs.Ticks.{clock_of, phase, tag_of}
use Rattle.group_book.specs.Books.{BookView, past}
use Rattle.event_schedule.specs.ByGroup.{group_of}
use Rattle.group_book.specs.Groups.{GroupView}
use Rattle.group_book.specs.Replay.{Replays, book_at}
use Rattle.plan_meters.specs.Came.{frame_in, tag_in, frames_in, tags_of}
use Rattle.plan_meters.specs.GroupMeters.{AreGroupMeters}
use Rattle.plan_meters.specs.Meters.{IsMeterOf, AreOfGroup, is_announcement, announcements, HasSet, AreTold}
use Rattle.plan_meters.specs.Sent.{readings_at, answers_at}
use Rattle.plan_meters.specs.TickFrames.{run_shape, was_taken, reading_frame, answer_frame, AreAnswerable}
use Rattle.plan_meters.proofs.CameLemmas.{heard-filter, all-filter, answerable}
use Rattle.plan_meters.proofs.MeterLemmas.{KeepTold, stays}
use Rattle.plan_meters.proofs.MetersLemmas.{are-told}
use Rattle.plan_meters.proofs.RangeLemmas.{range_weaker}
use Rattle.plan_meters.proofs.SpellingLemmas.{frame_in-is}
use Rattle.run_rows.proofs.TickRun.{all_member}
use Rattle.tick_run.specs.declared.group_tick.GroupWork.{GroupWork}
use Rattle.tick_run.specs.Batches.{CanTake, Batched}
use Rattle.tick_run.specs.GroupRuns.{Calls, IsTakeable, takes_of, send_line, AreSendable, SendsAll, posted_all, sent_with, script_of, book_with, taken_in, closed_in, sends_in, IsGroupAt, entries_then, GroupTicks, past_in}
use Rattle.tick_run.specs.Jobs.{announcements_due}
use Rattle.tick_run.specs.Progress.{IsDelay, KeepSets, past_of_entries, sending}
use Rattle.tick_run.specs.Running.{starting, emptied, taken, closed, sending_at, run_contents, AreRunning, AreCopiesDue, HaveCome, HaveEvents, calls_of, calls_due}
use Rattle.tick_run.specs.Sending.{GoesOn, AreDue}
use Rattle.tick_run.specs.TickFrames.{announcement_frame, announcements_at, answers_in, frames_due, IsDue}
use Rattle.tick_run.proofs.BatchedLemmas.{takes-batched, closes-batched}
use Rattle.tick_run.proofs.CallLemmas.{once-one}
use Rattle.tick_run.proofs.FitLemmas.{lines_fit, journal_after, events_fit, takes_fit, calls_fit}
use Rattle.tick_run.proofs.FrameSteps.{may_of_frame, has_frames-append, past_of-lines}
use Rattle.tick_run.proofs.MergedLemmas.{frames-merged}
use Rattle.tick_run.proofs.MetersLemmas.{told-kept}
use Rattle.tick_run.proofs.PastLemmas.{sets-append}
use Rattle.tick_run.proofs.PostedLemmas.{frame_later, sent-only, sent-line}
use Rattle.tick_run.proofs.SendingLemmas.{goes-by, sends_on-none, sends_on-more}
use Rattle.tick_run.proofs.StateLemmas.{emptied-of, lines_append, phases_added, all_takes, all_calls, sends-begin}
use Rattle.tick_run.proofs.StepLemmas.{from_copies}
use Rattle.tick_run.proofs.TakeLemmas.{counted, all-taken, sets-come}
use Rattle.tick_run.proofs.TickLoop.{frames_at, due-of_plan, frames-due, frames-past, frames-sent, heard-past}

-- ---- the copies

-- with the copies of the last tick's frames on their way and those of this tick off the link, the run goes on
pub group-begun : (readings : ReadingsView) (m : Masks) (t : ℕ) (entries : List Entry) (fates : List (List ℕ)) (kept : GroupView) (work : GroupWork) (off left : List Arrival) (copies : List (List ℕ))
    → IsGroupAt readings m t entries fates kept work → off ≡ posted_all (t - 1) work.frames.items fates work.link → left ≡ due_elsewhere t off → copies ≡ due_at t off
    → AreRunning readings m (kept.group ∷ []) (emptied t) (book_with readings entries) (script_of readings entries) left × HaveCome t entries copies
group-begun readings m t entries fates kept work off left copies at posted elsewhere due =
    emptied-of readings m (kept.group ∷ []) t (book_with readings entries) (script_of readings entries) off left copies
    (subst (λ (l : List Arrival). AreRunning readings m (kept.group ∷ []) (starting t) (book_with readings entries) (script_of readings entries) l) (sym posted) at.running) elsewhere due

-- ---- the Takes

all_frames : (P : Frame → Type 0) (copies : List (List ℕ)) → All (λ bytes. P (frame_in bytes)) copies → All P (frames_in copies)
all_frames P copies all = All-map P frame_in copies all

-- the copies are of frames that stand posted
pub group-takeable : (readings : ReadingsView) (m : Masks) (t g : ℕ) (entries : List Entry) (waiting : List Arrival) (copies : List (List ℕ)) (came : List Frame) → All (λ e. group_of (event_of e.line) ≡ g) entries
    → AreRunning readings m (g ∷ []) (emptied t) (book_with readings entries) (script_of readings entries) waiting → HaveCome t entries copies → came ≡ frames_in copies
    → All (IsTakeable (presence_of readings) g (lines_of entries)) came
group-takeable readings m t g entries waiting copies came own is come are =
    subst (All (IsTakeable (presence_of readings) g (lines_of entries))) (sym are)
    (all_frames (IsTakeable (presence_of readings) g (lines_of entries)) copies (λ k d lt. one (get_or copies k d) (all-taken readings m (g ∷ []) (emptied t) t (book_with readings entries) (script_of readings entries) waiting copies is come k d lt) (of_group k d lt)))
  where
    of_group : (k : ℕ) (d : List ℕ) → k < length copies → (tag_in (get_or copies k d)).group ≡ g
    of_group k d lt =
        let z : Tag = tag_in (get_or copies k d) in
        from_copies (z.group ≡ g) z t entries (λ e at sent. ap group_of (sym (is_send-true z.group z.round z.meter z.kind (event_of e.line) sent)) ∙ all_member (λ e. group_of (event_of e.line) ≡ g) entries own e at)
        (subst (λ n. 0 < n) (come.due z) (counted copies k d lt))

    one : (bytes : List ℕ) → CanTake (book_with readings entries) bytes → (tag_in bytes).group ≡ g → IsTakeable (presence_of readings) g (lines_of entries) (frame_in bytes)
    one bytes can group =
        subst (IsTakeable (presence_of readings) g (lines_of entries)) (sym (frame_in-is bytes can.frame can.is can.spelled)) (record {
          own = ap (λ (f : Frame). f.tag.group) (sym (frame_in-is bytes can.frame can.is can.spelled)) ∙ group;
          known = can.known;
          posted = can.posted;
        })

-- lines with these events are lines that have these events
have-events : (events : List Event) (added : List Line) → map event_of added ≡ events → HaveEvents events added
have-events events added are test = sym (sum_by-map (λ (e : Event). cond {A = ℕ} (test e) 1 0) event_of added) ∙ ap (count_by test) are

takes_tags : (frames : List Frame) → takes_of frames ≡ map Take (tags_of frames)
takes_tags [] = refl
takes_tags (f ∷ frames) = ap (λ l. Take f.tag ∷ l) (takes_tags frames)

-- the copies are taken
pub group-taken : (readings : ReadingsView) (m : Masks) (t g : ℕ) (entries : List Entry) (waiting : List Arrival) (copies : List (List ℕ)) (came : List Frame) (before after : LinesView) (v : GroupView)
    → AreRunning readings m (g ∷ []) (emptied t) (book_with readings entries) (script_of readings entries) waiting → HaveCome t entries copies → came ≡ frames_in copies
    → (calls : Calls (presence_of readings) (lines_of entries) (takes_of came) before g v after)
    → AreRunning readings m (g ∷ []) (taken t) (book_with readings (entries ++ map (quiet t) calls.added)) (script_of readings (entries ++ map (quiet t) calls.added)) waiting
    × HaveCome t (entries ++ map (quiet t) calls.added) copies
group-taken readings m t g entries waiting copies came before after v is come are calls =
    let batch : Batched t (map Take (tags_of (frames_in copies))) (book_with readings entries) (book_with readings (entries ++ map (quiet t) calls.added)) (script_of readings entries) (script_of readings (entries ++ map (quiet t) calls.added)) waiting waiting
    = record {
      added = calls.added;
      presence = refl;
      journal = lines_append entries t calls.added;
      events_are = have-events (map Take (tags_of (frames_in copies))) calls.added (calls.events_are ∙ takes_tags came ∙ ap (λ fs. map Take (tags_of fs)) are);
      script_is = refl;
      link = refl;
    } in
    takes-batched readings m (g ∷ []) t (book_with readings entries) (book_with readings (entries ++ map (quiet t) calls.added)) (script_of readings entries) (script_of readings (entries ++ map (quiet t) calls.added)) waiting waiting copies is come batch

-- what is kept of the group is what the entries say
pub pages-then : (readings : ReadingsView) (t : ℕ) (entries : List Entry) (added : List Line) (v : GroupView) → Replays (presence_of readings) (lines_of entries ++ added) v
    → Replays (presence_of readings) (lines_of (entries ++ map (quiet t) added)) v
pages-then readings t entries added v rep = subst (λ j. Replays (presence_of readings) j v) (sym (lines_append entries t added)) rep

-- ---- the Closes and Ends

pub group-closed : (readings : ReadingsView) (m : Masks) (t g : ℕ) (entries : List Entry) (waiting : List Arrival) (copies : List (List ℕ)) (before after : LinesView) (v : GroupView)
    → AreRunning readings m (g ∷ []) (taken t) (book_with readings entries) (script_of readings entries) waiting → HaveCome t entries copies
    → (calls : Calls (presence_of readings) (lines_of entries) (calls_of (clock_of readings.plan) t g) before g v after)
    → AreRunning readings m (g ∷ []) (closed t) (book_with readings (entries ++ map (quiet t) calls.added)) (script_of readings (entries ++ map (quiet t) calls.added)) waiting
    × HaveCome t (entries ++ map (quiet t) calls.added) copies
group-closed readings m t g entries waiting copies before after v is come calls =
    let batch : Batched t (calls_due (clock_of readings.plan) (g ∷ []) t) (book_with readings entries) (book_with readings (entries ++ map (quiet t) calls.added)) (script_of readings entries) (script_of readings (entries ++ map (quiet t) calls.added)) waiting waiting
    = record {
      added = calls.added;
      presence = refl;
      journal = lines_append entries t calls.added;
      events_are = have-events (calls_due (clock_of readings.plan) (g ∷ []) t) calls.added (calls.events_are ∙ sym (append-nil (calls_of (clock_of readings.plan) t g)));
      script_is = refl;
      link = refl;
    } in
    closes-batched readings m (g ∷ []) t (book_with readings entries) (book_with readings (entries ++ map (quiet t) calls.added)) (script_of readings entries) (script_of readings (entries ++ map (quiet t) calls.added)) waiting waiting copies (once-one g) is come batch

-- ---- the meters

-- the meters stay those of a group as its entries go on
pub group-stays : (readings : ReadingsView) (t g : ℕ) (xs ys : List Entry) (meters : List MeterView) → AreGroupMeters (presence_of readings) (past_in xs) t g meters → AreGroupMeters (presence_of readings) (past_in (xs ++ ys)) t g meters
group-stays readings t g xs ys meters are =
    let s : Shape = run_shape readings in
    let told : KeepTold s (past (book_with readings xs)) (past (book_with readings (xs ++ ys)))
    = told-kept s (past (book_with readings xs)) (past (book_with readings (xs ++ ys)))
    (subst (λ p. KeepSets s p (past (book_with readings (xs ++ ys)))) (sym (past_of-lines xs)) (subst (KeepSets s (past_of_entries xs)) (sym (past_of-lines (xs ++ ys))) (sets-append s xs ys))) in
    record {
      table = are.table;
      are = range_weaker (IsMeterOf (presence_of readings) (past_in xs) t g) (IsMeterOf (presence_of readings) (past_in (xs ++ ys)) t g) 0 (size readings.plan.groups g) meters
          (λ i meter _ _ is. stays s readings.plan.rounds t (past (book_with readings xs)) (past (book_with readings (xs ++ ys))) g i meter told is) are.are;
    }

-- the announcements that came were told
pub group-told : (readings : ReadingsView) (m : Masks) (t g : ℕ) (entries : List Entry) (waiting : List Arrival) (copies : List (List ℕ)) (came : List Frame)
    → AreRunning readings m (g ∷ []) (closed t) (book_with readings entries) (script_of readings entries) waiting → HaveCome t entries copies → came ≡ frames_in copies
    → AreTold (presence_of readings) (past_in entries) (t + 1) came
group-told readings m t g entries waiting copies came is come are =
    subst (AreTold (presence_of readings) (past_in entries) (t + 1)) (sym are)
    (are-told (presence_of readings) (past_in entries) t (frames_in copies) (heard-past readings m (g ∷ []) t (book_with readings entries) (script_of readings entries) waiting (tags_of (frames_in copies)) is come.due)
    (sets-come readings m (g ∷ []) (closed t) (book_with readings entries) (script_of readings entries) waiting copies is come.spelled))

-- so they can be answered
pub group-answerable : (readings : ReadingsView) (m : Masks) (t g : ℕ) (entries : List Entry) (waiting : List Arrival) (copies : List (List ℕ)) (came heard : List Frame) → IsPresenceTable readings.plan (presence_of readings).table
    → AreRunning readings m (g ∷ []) (closed t) (book_with readings entries) (script_of readings entries) waiting → HaveCome t entries copies → came ≡ frames_in copies → heard ≡ announcements came
    → AreAnswerable readings.plan t heard
group-answerable readings m t g entries waiting copies came heard table is come are some =
    let book : BookView = book_with readings entries in
    let sets = sets-come readings m (g ∷ []) (closed t) book (script_of readings entries) waiting copies is come.spelled in
    let told = heard-past readings m (g ∷ []) t book (script_of readings entries) waiting (tags_of (frames_in copies)) is come.due in
    subst (AreAnswerable readings.plan t) (sym (some ∙ ap announcements are))
    (answerable (presence_of readings) (past book) t (announcements (frames_in copies)) table (heard-filter (run_shape readings) (clock_of readings.plan) (past book) t (frames_in copies) told)
    (all-filter (HasSet (run_shape readings) (past book)) (λ f. is_announcement f.tag) (frames_in copies) sets))

-- ---- the frames

-- the frames of a group are those that are due
pub group-frames : (readings : ReadingsView) (m : Masks) (t g : ℕ) (entries : List Entry) (waiting : List Arrival) (copies : List (List ℕ)) (came heard frames : List Frame)
    → AreRunning readings m (g ∷ []) (closed t) (book_with readings entries) (script_of readings entries) waiting → HaveCome t entries copies → came ≡ frames_in copies → heard ≡ announcements came
    → frames ≡ readings_at readings m t g ++ announcements_due (book_with readings entries) t g ++ answers_at readings.plan m heard g
    → frames ≡ frames_at readings m (g ∷ []) t (script_of readings entries) (tags_of (frames_in copies))
group-frames readings m t g entries waiting copies came heard frames is come are some made =
    let book : BookView = book_with readings entries in
    let script : TranscriptView = script_of readings entries in
    let sets = sets-come readings m (g ∷ []) (closed t) book script waiting copies is come.spelled in
    let due : frames ≡ frames_due (run_shape readings) (clock_of readings.plan) (reading readings.table) m (past book) (tags_of (frames_in copies)) t g
    = made ∙ ap (λ fs. readings_at readings m t g ++ announcements_due book t g ++ answers_at readings.plan m fs g) (some ∙ ap announcements are)
    ∙ frames-merged readings m book (frames_in copies) t g refl sets in
    frames-past readings m (g ∷ []) t book script waiting (tags_of (frames_in copies)) frames frames is
    (due ∙ sym (append-nil (frames_due (run_shape readings) (clock_of readings.plan) (reading readings.table) m (past book) (tags_of (frames_in copies)) t g))) refl

-- they are the group's
own_map : (F : ℕ → Frame) (g : ℕ) (xs : List ℕ) → ((i : ℕ) → (F i).tag.group ≡ g) → All (λ f. f.tag.group ≡ g) (map F xs)
own_map F g xs own = All-map (λ f. f.tag.group ≡ g) F xs (λ k d lt. own (get_or xs k d))

own_cond : (b : Bool) (g : ℕ) (xs : List Frame) → All (λ f. f.tag.group ≡ g) xs → All (λ f. f.tag.group ≡ g) (cond b xs [])
own_cond true g xs own = own
own_cond false g xs own = All-nil (λ f. f.tag.group ≡ g)

own_flat : {Z : Type 0} (F : Z → List Frame) (g : ℕ) (zs : List Z) → ((z : Z) → All (λ f. f.tag.group ≡ g) (F z)) → All (λ f. f.tag.group ≡ g) (flat_map F zs)
own_flat F g [] own = All-nil (λ f. f.tag.group ≡ g)
own_flat F g (z ∷ zs) own = All-append (λ f. f.tag.group ≡ g) (F z) (flat_map F zs) (own z) (own_flat F g zs own)

pub group-own : (readings : ReadingsView) (m : Masks) (t g : ℕ) (entries : List Entry) (tags : List Tag) (frames : List Frame) → frames ≡ frames_at readings m (g ∷ []) t (script_of readings entries) tags
    → All (λ f. f.tag.group ≡ g) frames
group-own readings m t g entries tags frames are =
    let s : Shape = run_shape readings in
    let past : List Event = past_of_entries entries in
    let rounds : List ℕ = range_with_len 0 readings.plan.rounds in
    let P : Frame → Type 0 = λ f. f.tag.group ≡ g in
    let now : List ℕ = if nat_lt t readings.plan.rounds then filter (λ i. s.present g t i) (members_of s g t) else [] in
    let first : List Frame = map (reading_frame s.groups (reading readings.table) m g t) now in
    let announced : ℕ → List Frame = λ r. if r + readings.plan.w1 == t then announcements_at s past g r else [] in
    subst (All P) (sym (are ∙ append-nil (frames_due s (clock_of readings.plan) (reading readings.table) m past tags t g)))
    (All-append P (first ++ flat_map announced rounds) (flat_map (answers_in s m past tags g) rounds)
    (All-append P first (flat_map announced rounds) (own_map (reading_frame s.groups (reading readings.table) m g t) g now (λ i. refl))
    (own_flat announced g rounds (λ r. own_cond (r + readings.plan.w1 == t) g (announcements_at s past g r)
    (own_cond (is_announced s g r past) g (map (announcement_frame g r (missing s g r past)) (survivors s g r past)) (own_map (announcement_frame g r (missing s g r past)) g (survivors s g r past) (λ i. refl))))))
    (own_flat (answers_in s m past tags g) g rounds
    (λ r. own_map (answer_frame m g r (missing s g r past)) g (filter (λ i. was_taken tags (tag_of Announcement g r i)) (members_of s g r)) (λ i. refl))))

-- ---- the Sends

-- frames that are due can be sent one after another
pub group-sendable : (readings : ReadingsView) (m : Masks) (t g : ℕ) (past : List Event) (j : List Line) (frames : List Frame) → HasFramesOf (run_shape readings) (run_contents readings m) [] j
    → All (λ f. f.tag.group ≡ g) frames → All (λ f. frame (run_shape readings) (run_contents readings m) f.tag (past_of j) ≡ Some f) frames
    → All (IsDue (run_shape readings) (clock_of readings.plan) (run_contents readings m) past t) frames → AreSendable (presence_of readings) g j frames
group-sendable readings m t g past j [] has own are due = tt
group-sendable readings m t g past j (f ∷ frames) has own are due =
    let s : Shape = run_shape readings in
    let w : Contents = run_contents readings m in
    let is : frame s w f.tag (past_of j) ≡ Some f = All-head (λ f. frame s w f.tag (past_of j) ≡ Some f) f frames are in
    let here = All-head (IsDue s (clock_of readings.plan) w past t) f frames due in
    let known : is_place readings.plan f.tag.group f.tag.round f.tag.meter ≡ true
    = and_from (nat_lt f.tag.round readings.plan.rounds) (nat_lt f.tag.meter (size readings.plan.groups f.tag.group)) (lt-ltb f.tag.round readings.plan.rounds here.in_time.round) (lt-ltb f.tag.meter (size readings.plan.groups f.tag.group) here.in_time.meter) in (
      record {
        own = All-head (λ f. f.tag.group ≡ g) f frames own;
        fits = here.fits;
        adds = λ spare answer after ended. (sent-only (book_at (presence_of readings) j spare) after s w f answer refl has is known ended).1;
        line = sent-line s j f (may_of_frame s w f.tag f (past_of j) is);
      },
      group-sendable readings m t g past (j ++ send_line f ∷ []) frames (has_frames-append s w [] j (send_line f ∷ []) has (sym is, tt)) (All-tail (λ f. f.tag.group ≡ g) f frames own)
          (All-weaker (λ x. frame s w x.tag (past_of j) ≡ Some x) (λ x. frame s w x.tag (past_of (j ++ send_line f ∷ [])) ≡ Some x) (λ x at. frame_later s w x.tag x j (send_line f ∷ []) at) frames
          (All-tail (λ f. frame s w f.tag (past_of j) ≡ Some f) f frames are))
          (All-tail (IsDue s (clock_of readings.plan) w past t) f frames due),
    )

-- with fates for all frames the run goes on
pub goes-many : (readings : ReadingsView) (m : Masks) (these : List ℕ) (t : ℕ) (frames : List Frame) (fates : List (List ℕ)) (entries : List Entry) (waiting : List Arrival)
    → AreRunning readings m these (sending_at t) (book_with readings entries) (script_of readings entries) waiting → AreDue readings m t (script_of readings entries) frames → All IsFrame frames → All (All IsDelay) fates
    → length fates ≡ length frames
    → GoesOn readings m these t frames (script_of readings entries) (book_with readings (entries ++ sent_with t frames fates)) (script_of readings (entries ++ sent_with t frames fates)) (posted_all t frames fates waiting)
goes-many readings m these t [] fates entries waiting is due framed delays long =
    subst (λ (es : List Entry). GoesOn readings m these t [] (script_of readings entries) (book_with readings es) (script_of readings es) waiting) (sym (append-nil entries))
    (record { running = is; on = sends_on-none readings m these t entries })
goes-many readings m these t (f ∷ frames) [] entries waiting is due framed delays long = absurd (cc long)
goes-many readings m these t (f ∷ frames) (fate ∷ fates) entries waiting is due framed delays long =
    let x : Entry = sending t f.tag (Some f) fate in
    let more : List Entry = entries ++ x ∷ [] in
    let D : Frame → Type 0 = IsDue (run_shape readings) (clock_of readings.plan) (run_contents readings m) (past_of_entries entries) t in
    let E : Frame → Type 0 = IsDue (run_shape readings) (clock_of readings.plan) (run_contents readings m) (past_of_entries more) t in
    let one = goes-by readings m these t (book_with readings entries) (book_with readings more) (script_of readings entries) waiting f fate is (All-head D f frames due) (All-head IsFrame f frames framed) (All-head (All IsDelay) fate fates delays)
    refl (map-append (λ (e : Entry). e.line) entries (x ∷ [])) in
    let rest = goes-many readings m these t frames fates more (posted_all t (f ∷ []) (fate ∷ []) waiting) one.running
    (All-weaker D E (λ y d. one.on.still y d) frames (All-tail D f frames due)) (All-tail IsFrame f frames framed) (All-tail (All IsDelay) fate fates delays) (omega arith) in
    subst (λ (es : List Entry). GoesOn readings m these t (f ∷ frames) (script_of readings entries) (book_with readings es) (script_of readings es) (posted_all t frames fates (posted_all t (f ∷ []) (fate ∷ []) waiting)))
    (append_assoc entries (x ∷ []) (sent_with t frames fates)) (record {
      running = rest.running;
      on = sends_on-more readings m these t (f.tag ∷ []) (map (λ (y : Frame). y.tag) frames) entries more (more ++ sent_with t frames fates) one.on rest.on;
    })

-- the lines of the Sends
pub lines_sent : (t : ℕ) (entries : List Entry) (frames : List Frame) (fates : List (List ℕ)) → length fates ≡ length frames → lines_of (entries ++ sent_with t frames fates) ≡ lines_of entries ++ map send_line frames
lines_sent t entries frames fates long = map-append (λ (e : Entry). e.line) entries (sent_with t frames fates) ∙ ap (λ l. lines_of entries ++ l) (alone frames fates long)
  where
    alone : (frames : List Frame) (fates : List (List ℕ)) → length fates ≡ length frames → lines_of (sent_with t frames fates) ≡ map send_line frames
    alone [] fates long = refl
    alone (f ∷ frames) [] long = absurd (cc long)
    alone (f ∷ frames) (fate ∷ fates) long = ap (λ l. send_line f ∷ l) (alone frames fates (omega arith))

own_sent : (t g : ℕ) (frames : List Frame) (fates : List (List ℕ)) → All (λ f. f.tag.group ≡ g) frames → All (λ e. group_of (event_of e.line) ≡ g) (sent_with t frames fates)
own_sent t g [] fates own = All-nil (λ e. group_of (event_of e.line) ≡ g)
own_sent t g (f ∷ frames) [] own = All-nil (λ e. group_of (event_of e.line) ≡ g)
own_sent t g (f ∷ frames) (fate ∷ fates) own =
    All-cons (λ e. group_of (event_of e.line) ≡ g) (sending t f.tag (Some f) fate) (sent_with t frames fates) (All-head (λ f. f.tag.group ≡ g) f frames own) (own_sent t g frames fates (All-tail (λ f. f.tag.group ≡ g) f frames own))

own_quiet : (t g : ℕ) (added : List Line) → All (λ l. group_of (event_of l) ≡ g) added → All (λ e. group_of (event_of e.line) ≡ g) (map (quiet t) added)
own_quiet t g added own = All-map (λ e. group_of (event_of e.line) ≡ g) (quiet t) added own

-- ---- the tick

-- with its fates a group stands before the next tick
pub group-next : (readings : ReadingsView) (m : Masks) (t g : ℕ) (es : List Entry) (waiting : List Arrival) (tags : List Tag) (fates : List (List ℕ)) (kept : GroupView) (after : GroupWork)
    → All (λ e. group_of (event_of e.line) ≡ g) es → AreRunning readings m (g ∷ []) (closed t) (book_with readings es) (script_of readings es) waiting → AreCopiesDue t es tags
    → after.frames.items ≡ frames_at readings m (g ∷ []) t (script_of readings es) tags → All IsFrame after.frames.items
    → kept.group ≡ g → Replays (presence_of readings) (lines_of es ++ map send_line after.frames.items) kept
    → AreGroupMeters (presence_of readings) (past_in es) (t + 1) g after.meters.meters.items → after.link ≡ waiting
    → All (All IsDelay) fates → length fates ≡ length after.frames.items
    → IsGroupAt readings m (t + 1) (es ++ sent_with t after.frames.items fates) fates kept after
group-next readings m t g es waiting tags fates kept after own is due are framed group rep meters link delays long =
    let frames : List Frame = after.frames.items in
    let last : List Entry = es ++ sent_with t frames fates in
    let dues = frames-due readings m (g ∷ []) t tags (book_with readings es) (script_of readings es) waiting frames is due are in
    let goes = goes-many readings m (g ∷ []) t frames fates es waiting (sends-begin readings m (g ∷ []) t (book_with readings es) (script_of readings es) waiting is) dues framed delays long in
    let over : AreRunning readings m (g ∷ []) (starting (t + 1)) (book_with readings last) (script_of readings last) (posted_all t frames fates waiting)
    = frames-sent readings m (g ∷ []) t tags (book_with readings es) (script_of readings es) waiting (book_with readings last) (script_of readings last) (posted_all t frames fates waiting) frames is due are goes in
    let before : t ≡ t + 1 - 1 = omega arith in
    record {
      own = subst (λ (h : ℕ). All (λ e. group_of (event_of e.line) ≡ h) last) (sym group)
          (All-append (λ e. group_of (event_of e.line) ≡ g) es (sent_with t frames fates) own (own_sent t g frames fates (group-own readings m t g es tags frames are)));
      long = long;
      fits = All-weaker IsFrame (λ f. FitsKind f.tag.kind f.missing f.word) (λ f framed_is. framed_is.fits) frames framed;
      running = subst (λ (h : ℕ). AreRunning readings m (h ∷ []) (starting (t + 1)) (book_with readings last) (script_of readings last) (posted_all (t + 1 - 1) frames fates after.link)) (sym group)
          (subst (λ (l : List Arrival). AreRunning readings m (g ∷ []) (starting (t + 1)) (book_with readings last) (script_of readings last) (posted_all (t + 1 - 1) frames fates l)) (sym link)
          (subst (λ (u : ℕ). AreRunning readings m (g ∷ []) (starting (t + 1)) (book_with readings last) (script_of readings last) (posted_all u frames fates waiting)) before over));
      pages = subst (λ j. Replays (presence_of readings) j kept) (sym (lines_sent t es frames fates long)) rep;
      meters = subst (λ (h : ℕ). AreGroupMeters (presence_of readings) (past_in last) (t + 1) h after.meters.meters.items) (sym group)
          (group-stays readings (t + 1) g es (sent_with t frames fates) after.meters.meters.items meters);
    }

-- lines in three parts are cut where these begin
record Cut (xs ys zs : List Line) (work : GroupWork) : Type 0 where
  order : work.closed_from ≤ work.sent_from
  within : work.sent_from ≤ length work.lines.items
  taken_are : taken_in work ≡ xs
  closed_are : closed_in work ≡ ys
  sends_are : sends_in work ≡ zs

cut-parts : (xs ys zs : List Line) (work : GroupWork) → work.lines.items ≡ (xs ++ ys) ++ zs → work.closed_from ≡ length xs → work.sent_from ≡ length (xs ++ ys) → Cut xs ys zs work
cut-parts xs ys zs work lines from to =
    let both : length (xs ++ ys) ≡ length xs + length ys = length-append xs ys in
    let whole : length work.lines.items ≡ length (xs ++ ys) + length zs = ap length lines ∙ length-append (xs ++ ys) zs in
    let first : work.lines.items ≡ xs ++ (ys ++ zs) = lines ∙ append_assoc xs ys zs in
    let long : work.sent_from - work.closed_from ≡ length ys = omega arith in
    record {
      order = omega arith;
      within = omega arith;
      taken_are = ap (λ n. take n work.lines.items) from ∙ ap (take (length xs)) first ∙ take-append_seam xs (ys ++ zs);
      closed_are = ap (λ n. take n (drop work.closed_from work.lines.items)) long ∙ ap (λ n. take (length ys) (drop n work.lines.items)) from
          ∙ ap (λ l. take (length ys) (drop (length xs) l)) first ∙ ap (take (length ys)) (drop-append_seam xs (ys ++ zs)) ∙ take-append_seam ys zs;
      sends_are = ap (λ n. drop n work.lines.items) to ∙ ap (drop (length (xs ++ ys))) lines ∙ drop-append_seam (xs ++ ys) zs;
    }

-- what the calls of a tick have made is its tick
pub group-ticks : (readings : ReadingsView) (m : Masks) (t g : ℕ) (entries : List Entry) (waiting : List Arrival) (copies : List (List ℕ)) (came heard : List Frame) (kept : GroupView) (after : GroupWork)
    → (taken_before taken_after closed_before closed_after sent_before sent_after : LinesView) (v w : GroupView)
    → All (λ e. group_of (event_of e.line) ≡ g) entries
    → AreRunning readings m (g ∷ []) (emptied t) (book_with readings entries) (script_of readings entries) waiting → HaveCome t entries copies → came ≡ frames_in copies
    → (takes : Calls (presence_of readings) (lines_of entries) (takes_of came) taken_before g v taken_after)
    → (closes : Calls (presence_of readings) (lines_of (entries ++ map (quiet t) takes.added)) (calls_of (clock_of readings.plan) t g) closed_before g w closed_after)
    → heard ≡ announcements came → AreGroupMeters (presence_of readings) (past_in ((entries ++ map (quiet t) takes.added) ++ map (quiet t) closes.added)) (t + 1) g after.meters.meters.items
    → after.frames.items ≡ readings_at readings m t g ++ announcements_due (book_with readings ((entries ++ map (quiet t) takes.added) ++ map (quiet t) closes.added)) t g ++ answers_at readings.plan m heard g
    → SendsAll (presence_of readings) (lines_of ((entries ++ map (quiet t) takes.added) ++ map (quiet t) closes.added)) after.frames.items sent_before g kept sent_after → after.link ≡ waiting
    → after.lines.items ≡ (takes.added ++ closes.added) ++ map send_line after.frames.items
    → after.closed_from ≡ length takes.added → after.sent_from ≡ length (takes.added ++ closes.added)
    → GroupTicks readings m t entries g kept after
group-ticks readings m t g entries waiting copies came heard kept after taken_before taken_after closed_before closed_after sent_before sent_after v w own is come are takes closes some meters frames sends link lines_are closed_at sent_at =
    let one : List Entry = entries ++ map (quiet t) takes.added in
    let es : List Entry = one ++ map (quiet t) closes.added in
    let took = group-taken readings m t g entries waiting copies came taken_before taken_after v is come are takes in
    let shut = group-closed readings m t g one waiting copies closed_before closed_after w took.0 took.1 closes in
    let due = group-frames readings m t g es waiting copies came heard after.frames.items shut.0 shut.1 are some frames in
    let all_own : All (λ e. group_of (event_of e.line) ≡ g) es
    = All-append (λ e. group_of (event_of e.line) ≡ g) one (map (quiet t) closes.added)
    (All-append (λ e. group_of (event_of e.line) ≡ g) entries (map (quiet t) takes.added) own (own_quiet t g takes.added takes.own)) (own_quiet t g closes.added closes.own) in
    let sent_lines : List Line = map send_line after.frames.items in
    let cut = cut-parts takes.added closes.added sent_lines after lines_are closed_at sent_at in
    let take_phases : All (λ l. phase (event_of l) ≡ 0) takes.added
    = phases_added 0 (takes_of came) takes.added (have-events (takes_of came) takes.added takes.events_are) (subst (All (λ e. phase e ≡ 0)) (sym (takes_tags came)) (all_takes (tags_of came))) in
    let close_phases : All (λ l. phase (event_of l) ≡ 1) closes.added
    = phases_added 1 (calls_due (clock_of readings.plan) (g ∷ []) t) closes.added
    (have-events (calls_due (clock_of readings.plan) (g ∷ []) t) closes.added (closes.events_are ∙ sym (append-nil (calls_of (clock_of readings.plan) t g)))) (all_calls (clock_of readings.plan) t (g ∷ [])) in
    record {
      group = sends.group;
      parts = record {
        closed = cut.order;
        sent = cut.within;
      };
      takes = subst (All (λ l. phase (event_of l) ≡ 0)) (sym cut.taken_are) take_phases;
      closes = subst (All (λ l. phase (event_of l) ≡ 1)) (sym cut.closed_are) close_phases;
      sends = cut.sends_are;
      own = subst (All (λ l. group_of (event_of l) ≡ g)) (sym lines_are)
          (All-append (λ l. group_of (event_of l) ≡ g) (takes.added ++ closes.added) sent_lines (All-append (λ l. group_of (event_of l) ≡ g) takes.added closes.added takes.own closes.own)
          (All-map (λ l. group_of (event_of l) ≡ g) send_line after.frames.items (group-own readings m t g es (tags_of (frames_in copies)) after.frames.items due)));
      pages = subst (λ j. Replays (presence_of readings) j kept)
          (ap (λ l. l ++ sent_lines) (lines_append one t closes.added ∙ ap (λ l. l ++ closes.added) (lines_append entries t takes.added) ∙ append_assoc (lines_of entries) takes.added closes.added)
          ∙ append_assoc (lines_of entries) (takes.added ++ closes.added) sent_lines ∙ ap (λ l. lines_of entries ++ l) (sym lines_are))
          sends.pages;
      fit_taken = subst (All (FitsLine readings.plan [])) (sym cut.taken_are)
          (lines_fit readings.plan (run_shape readings) (lines_of entries) takes.added refl (journal_after (run_shape readings) [] (lines_of entries) takes.added takes.pages.ledger.journal.lines)
          (events_fit readings.plan (takes_of came) takes.added takes.events_are (takes_fit readings.plan came
          (All-weaker (IsTakeable (presence_of readings) g (lines_of entries)) (λ f. is_place readings.plan f.tag.group f.tag.round f.tag.meter ≡ true) (λ f can. can.known) came (group-takeable readings m t g entries waiting copies came own is come are)))));
      fit_closed = subst (All (FitsLine readings.plan [])) (sym cut.closed_are)
          (lines_fit readings.plan (run_shape readings) (lines_of one) closes.added refl (journal_after (run_shape readings) [] (lines_of one) closes.added closes.pages.ledger.journal.lines)
          (events_fit readings.plan (calls_of (clock_of readings.plan) t g) closes.added closes.events_are (calls_fit readings.plan (clock_of readings.plan) t g refl
          (subst (λ (h : ℕ). h < length readings.plan.groups) closes.group closes.pages.inside))));
      fit_sent = due-of_plan readings m t readings.plan (script_of readings es) after.frames.items refl
          (frames-due readings m (g ∷ []) t (tags_of (frames_in copies)) (book_with readings es) (script_of readings es) waiting after.frames.items shut.0 shut.1.due due);
      next = λ fates delays long.
          subst (λ (ls : List Line). IsGroupAt readings m (t + 1) (entries_then t entries ls (closed_in after) after.frames.items fates) fates kept after) (sym cut.taken_are)
          (subst (λ (ls : List Line). IsGroupAt readings m (t + 1) (entries_then t entries takes.added ls after.frames.items fates) fates kept after) (sym cut.closed_are)
          (group-next readings m t g es waiting (tags_of (frames_in copies)) fates kept after all_own shut.0 shut.1.due due sends.framed sends.group sends.pages meters link delays long));
    }

-- ---- what the calls of a tick give, one after another

-- once the copies are taken
pub record Taken (readings : ReadingsView) (m : Masks) (t g : ℕ) (entries : List Entry) (left : List Arrival) (copies : List (List ℕ)) (came : List Frame) (before : LinesView) (v : GroupView) (after : LinesView) : Type 0 where
  pub takes : Calls (presence_of readings) (lines_of entries) (takes_of came) before g v after
  pub running : AreRunning readings m (g ∷ []) (taken t) (book_with readings (entries ++ map (quiet t) takes.added)) (script_of readings (entries ++ map (quiet t) takes.added)) left
  pub come : HaveCome t (entries ++ map (quiet t) takes.added) copies
  pub pages : Replays (presence_of readings) (lines_of (entries ++ map (quiet t) takes.added)) v
  pub own : All (λ f. f.tag.group ≡ g) came

pub group-took : (readings : ReadingsView) (m : Masks) (t g : ℕ) (entries : List Entry) (pages : GroupView) (left : List Arrival) (copies : List (List ℕ)) (came : List Frame) (before : LinesView) (v : GroupView) (after : LinesView)
    → All (λ e. group_of (event_of e.line) ≡ g) entries → pages.group ≡ g → Replays (presence_of readings) (lines_of entries) pages
    → AreRunning readings m (g ∷ []) (emptied t) (book_with readings entries) (script_of readings entries) left → HaveCome t entries copies → came ≡ frames_in copies
    → ((p : PresenceView) (j : List Line) → Replays p j pages → All (IsTakeable p pages.group j) came → Calls p j (takes_of came) before pages.group v after)
    → Taken readings m t g entries left copies came before v after
group-took readings m t g entries pages left copies came before v after own group rep is come are call =
    let able = group-takeable readings m t g entries left copies came own is come are in
    let takes : Calls (presence_of readings) (lines_of entries) (takes_of came) before g v after
    = subst (λ (h : ℕ). Calls (presence_of readings) (lines_of entries) (takes_of came) before h v after) group
    (call (presence_of readings) (lines_of entries) rep (subst (λ (h : ℕ). All (IsTakeable (presence_of readings) h (lines_of entries)) came) (sym group) able)) in
    let took = group-taken readings m t g entries left copies came before after v is come are takes in
    record {
      takes = takes;
      running = took.0;
      come = took.1;
      pages = pages-then readings t entries takes.added v takes.pages;
      own = All-weaker (IsTakeable (presence_of readings) g (lines_of entries)) (λ f. f.tag.group ≡ g) (λ f can. can.own) came able;
    }

-- once its rounds are closed and ended
pub record Closed (readings : ReadingsView) (m : Masks) (t g : ℕ) (one : List Entry) (left : List Arrival) (copies : List (List ℕ)) (before : LinesView) (w : GroupView) (after : LinesView) : Type 0 where
  pub closes : Calls (presence_of readings) (lines_of one) (calls_of (clock_of readings.plan) t g) before g w after
  pub running : AreRunning readings m (g ∷ []) (closed t) (book_with readings (one ++ map (quiet t) closes.added)) (script_of readings (one ++ map (quiet t) closes.added)) left
  pub come : HaveCome t (one ++ map (quiet t) closes.added) copies
  pub pages : Replays (presence_of readings) (lines_of (one ++ map (quiet t) closes.added)) w

pub group-shut : (readings : ReadingsView) (m : Masks) (t g : ℕ) (one : List Entry) (plan : PlanView) (v : GroupView) (left : List Arrival) (copies : List (List ℕ)) (before : LinesView) (w : GroupView) (after : LinesView)
    → plan ≡ readings.plan → v.group ≡ g → Replays (presence_of readings) (lines_of one) v
    → AreRunning readings m (g ∷ []) (taken t) (book_with readings one) (script_of readings one) left → HaveCome t one copies
    → ((p : PresenceView) (j : List Line) → Replays p j v → Calls p j (calls_of (clock_of plan) t v.group) before v.group w after)
    → Closed readings m t g one left copies before w after
group-shut readings m t g one plan v left copies before w after same group rep is come call =
    let closes : Calls (presence_of readings) (lines_of one) (calls_of (clock_of readings.plan) t g) before g w after
    = subst (λ (h : ℕ). Calls (presence_of readings) (lines_of one) (calls_of (clock_of readings.plan) t h) before h w after) group
    (subst (λ (p : PlanView). Calls (presence_of readings) (lines_of one) (calls_of (clock_of p) t v.group) before v.group w after) same (call (presence_of readings) (lines_of one) rep)) in
    let shut = group-closed readings m t g one left copies before after w is come closes in
    record { closes = closes; running = shut.0; come = shut.1; pages = pages-then readings t one closes.added w closes.pages }

-- the meters have read, and can hear
pub group-read : (readings : ReadingsView) (t g h : ℕ) (entries more last : List Entry) (meters : List MeterView) → h ≡ g → IsPresenceTable readings.plan (presence_of readings).table
    → AreOfGroup (presence_of readings) (past_in entries) (t + 1) h meters → AreGroupMeters (presence_of readings) (past_in ((entries ++ more) ++ last)) (t + 1) g meters
group-read readings t g h entries more last meters same table are =
    group-stays readings (t + 1) g (entries ++ more) last meters
    (group-stays readings (t + 1) g entries more meters (record { table = table; are = subst (λ (k : ℕ). AreOfGroup (presence_of readings) (past_in entries) (t + 1) k meters) same are }))

-- the frames can be sent
pub group-can_send : (readings : ReadingsView) (m : Masks) (t g : ℕ) (es : List Entry) (left : List Arrival) (copies : List (List ℕ)) (frames : List Frame)
    → AreRunning readings m (g ∷ []) (closed t) (book_with readings es) (script_of readings es) left → HaveCome t es copies → frames ≡ frames_at readings m (g ∷ []) t (script_of readings es) (tags_of (frames_in copies))
    → AreSendable (presence_of readings) g (lines_of es) frames
group-can_send readings m t g es left copies frames is come are =
    let dues = frames-due readings m (g ∷ []) t (tags_of (frames_in copies)) (book_with readings es) (script_of readings es) left frames is come.due are in
    group-sendable readings m t g (past_of_entries es) (lines_of es) frames is.frames (group-own readings m t g es (tags_of (frames_in copies)) frames are)
    (All-weaker (IsDue (run_shape readings) (clock_of readings.plan) (run_contents readings m) (past_of_entries es) t) (λ f. frame (run_shape readings) (run_contents readings m) f.tag (past_of (lines_of es)) ≡ Some f)
    (λ f due. ap (frame (run_shape readings) (run_contents readings m) f.tag) (past_of-lines es) ∙ due.is) frames dues) dues

-- ---- what a group's fates and its note of failure leave alone

pub at-noted : (readings : ReadingsView) (m : Masks) (t : ℕ) (entries : List Entry) (fates : List (List ℕ)) (kept : GroupView) (work : GroupWork) (met : Vec (List ℕ) Global) (failed : Bool)
    → IsGroupAt readings m t entries fates kept work → IsGroupAt readings m t entries fates kept (record work { fates = met; failed = failed })
at-noted readings m t entries fates kept work met failed at = record {
  own = at.own;
  long = at.long;
  fits = at.fits;
  running = at.running;
  pages = at.pages;
  meters = at.meters;
}

pub ticks-noted : (readings : ReadingsView) (m : Masks) (t : ℕ) (entries : List Entry) (g : ℕ) (kept : GroupView) (work : GroupWork) (met : Vec (List ℕ) Global) (failed : Bool)
    → GroupTicks readings m t entries g kept work → GroupTicks readings m t entries g kept (record work { fates = met; failed = failed })
ticks-noted readings m t entries g kept work met failed tick = record {
  group = tick.group;
  parts = record { closed = tick.parts.closed; sent = tick.parts.sent };
  takes = tick.takes;
  closes = tick.closes;
  sends = tick.sends;
  own = tick.own;
  pages = tick.pages;
  fit_taken = tick.fit_taken;
  fit_closed = tick.fit_closed;
  fit_sent = tick.fit_sent;
  next = λ fates delays long. at-noted readings m (t + 1) (entries_then t entries (taken_in work) (closed_in work) work.frames.items fates) fates kept work met failed (tick.next fates delays long);
}
