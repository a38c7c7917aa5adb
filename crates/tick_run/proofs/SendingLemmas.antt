-- How a run goes on by Sends, with the fates that the lanes give.
use Rattle.std.proofs.Common.{◌≡◌, ℕ, ◌+◌, List, [], ◌∷◌, ◌++◌, map, refl, sym, ap, ◌∙◌, append_assoc, append-nil, arith}
use Rattle.std.specs.Prelude.{Some}
use Rattle.std.specs.List.{filter, All}
use Rattle.std.proofs.lemmas.List.{map-append}
use Rattle.missing_round.specs.Masks.{Masks}
use Rattle.group_plan.specs.Tables.{ReadingsView}
use Rattle.group_plan.specs.declared.Tag.{Tag}
use Rattle.link_lanes.specs.declared.Post.{Post}
use Rattle.link_lanes.specs.Lanes.{Slot, after_post, after_posts, lasts, fates_after}
use Rattle.lossy_link.specs.Arrivals.{Arrival, posted}
use Rattle.meter_frames.specs.declared.Frame.{Frame}
use Rattle.meter_frames.specs.Frames.{spelling, IsFrame}
use Rattle.event_schedule.specs.declared.Line.TheVariants.{Send as SendLine}
use Rattle.event_schedule.specs.declared.Entry.{Entry}
use Rattle.event_schedule.specs.Schedule.{Shape}
use Rattle.event_schedule.specs.Transcript.{Contents}
use Rattle.run_rows.specs.Ticks.{Clock, clock_of, sent_at}
use Rattle.event_schedule.specs.Transcripts.{TranscriptView}
use Rattle.group_book.specs.Books.{BookView}
use Rattle.tick_run.specs.Progress.{IsDelay, past_of_entries, sending}
use Rattle.tick_run.specs.TickFrames.{IsDue}
use Rattle.tick_run.specs.Running.{sending_at, run_contents, AreRunning}
use Rattle.plan_meters.specs.TickFrames.{run_shape}
use Rattle.tick_run.specs.Sending.{fate_by, post_by, KeepsFates, KeptFates, SendsOn, GoesOn}
use Rattle.tick_run.proofs.BatchLemmas.{fates-push}
use Rattle.tick_run.proofs.SendLemmas.{sent_step, due_step, posts-push}
use Rattle.tick_run.proofs.PastLemmas.{sets-append}
use Rattle.tick_run.proofs.FrameSteps.{frame-append}
use Rattle.tick_run.proofs.LaneLemmas.{lanes-fate, lanes-posted, lanes-retired}
use Rattle.tick_run.proofs.StateLemmas.{sends}

-- the run goes on by one frame, whose line the book adds
pub goes-by : (readings : ReadingsView) (m : Masks) (these : List ℕ) (t : ℕ) (book after : BookView) (script : TranscriptView) (waiting : List Arrival) (f : Frame) (fate : List ℕ)
    → AreRunning readings m these (sending_at t) book script waiting → IsDue (run_shape readings) (clock_of readings.plan) (run_contents readings m) (past_of_entries script.entries) t f
    → IsFrame f → All IsDelay fate → after.presence ≡ book.presence → after.journal ≡ book.journal ++ SendLine f.tag (Some f) ∷ []
    → GoesOn readings m these t (f ∷ []) script after (record script { entries = script.entries ++ sending t f.tag (Some f) fate ∷ [] }) (posted t (spelling f) fate waiting)
goes-by readings m these t book after script waiting f fate is due framed delays presence journal =
    let s : Shape = run_shape readings in
    let c : Clock = clock_of readings.plan in
    let w : Contents = run_contents readings m in
    record {
      running = sends readings m these t book after script (record script { entries = script.entries ++ sending t f.tag (Some f) fate ∷ [] }) waiting (posted t (spelling f) fate waiting) f fate is due framed delays presence journal refl refl;
      on = record {
        sent = sent_step s c these t script.entries f.tag (Some f) fate is.run;
        due = due_step s c these t script.entries f.tag (Some f) fate is.run;
        still = λ g is_due. record {
          is = frame-append s w g.tag g script.entries (sending t f.tag (Some f) fate ∷ []) is_due.is;
          in_time = is_due.in_time;
          set = is_due.set;
          fits = is_due.fits;
        };
        sets = sets-append s script.entries (sending t f.tag (Some f) fate ∷ []);
      };
    }

pub sends_on-none : (readings : ReadingsView) (m : Masks) (these : List ℕ) (t : ℕ) (xs : List Entry) → SendsOn readings m these t [] xs xs
sends_on-none readings m these t xs = record { sent = sym (append-nil (sent_at xs t)); due = refl; still = λ f is. is; sets = record { sets = λ g r announced. (announced, refl); taken = λ g r i told. told } }

pub sends_on-more : (readings : ReadingsView) (m : Masks) (these : List ℕ) (t : ℕ) (zs ts : List Tag) (xs ys ws : List Entry) → SendsOn readings m these t zs xs ys → SendsOn readings m these t ts ys ws → SendsOn readings m these t (zs ++ ts) xs ws
sends_on-more readings m these t zs ts xs ys ws a b = record {
  sent = b.sent ∙ ap (λ l. l ++ ts) a.sent ∙ append_assoc (sent_at xs t) zs ts;
  due = b.due ∙ a.due;
  still = λ f is. b.still f (a.still f is);
  sets = record {
    sets = λ g r announced.
        let first = a.sets.sets g r announced in
        let second = b.sets.sets g r first.0 in
        (second.0, second.1 ∙ first.1);
    taken = λ g r i told. b.sets.taken g r i (a.sets.taken g r i told);
  };
}

-- ---- the fates

pub keeps-one : (slots : List Slot) (t : ℕ) (entries : List Entry) (lanes : List Slot) (posts : List Post) (f : Frame) → KeepsFates slots t entries lanes posts
    → KeepsFates slots t (entries ++ sending t f.tag (Some f) (fate_by t lanes f) ∷ []) (map (after_post t) lanes) (posts ++ post_by t lanes f ∷ [])
keeps-one slots t entries lanes posts f keeps =
    let fate : List ℕ = fate_by t lanes f in
    let p : Post = post_by t lanes f in
    record {
      posts_are = ap (λ l. l ++ p ∷ []) keeps.posts_are ∙ sym (posts-push entries t f.tag (Some f) fate);
      fates = map-append (λ (q : Post). q.fate) posts (p ∷ [])
          ∙ ap (λ l. l ++ fate ∷ []) keeps.fates ∙ ap (λ z. fates_after slots [] posts ++ z ∷ []) (lanes-fate slots posts t f.tag lanes keeps.lanes_are)
          ∙ sym (fates-push slots [] posts p);
      lanes_are = lanes-posted slots posts p lanes keeps.lanes_are;
    }

-- lanes are let go whose span ended before the tick
pub keeps-retired : (slots : List Slot) (t : ℕ) (entries : List Entry) (lanes hung : List Slot) (posts all : List Post) → KeptFates slots t entries lanes posts → hung ≡ filter (lasts t) lanes → all ≡ posts → KeepsFates slots t entries hung all
keeps-retired slots t entries lanes hung posts all kept are same = record {
  posts_are = same ∙ kept.posts_are;
  fates = ap (map (λ q. q.fate)) same ∙ kept.fates ∙ ap (fates_after slots []) (sym same);
  lanes_are = are ∙ lanes-retired slots posts t lanes kept.lanes_are ∙ ap (λ l. filter (lasts t) (map (after_posts l) slots)) (sym same);
}

-- the next tick begins with the lanes of this one
pub kept-next : (slots : List Slot) (t : ℕ) (entries : List Entry) (lanes : List Slot) (posts : List Post) → KeepsFates slots t entries lanes posts → KeptFates slots (t + 1) entries lanes posts
kept-next slots t entries lanes posts keeps = record {
  posts_are = keeps.posts_are;
  fates = keeps.fates;
  lanes_are = record { since = t; not_later = omega arith; are = keeps.lanes_are };
}
