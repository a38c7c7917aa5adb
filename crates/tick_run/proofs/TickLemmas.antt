-- A tick of a run, from the ticks of its groups and the fates that their frames met.
use Rattle.std.proofs.Common.{◌≡◌, ℕ, zero, suc, ◌+◌, ◌*◌, ◌<◌, ◌≤◌, List, [], ◌∷◌, ◌++◌, length, map, refl, sym, ap, ◌∙◌, subst, append_assoc, append-nil, arith}
use Rattle.std.specs.Prelude.{Some}
use Rattle.std.specs.List.{AllZip, flat_map, range_with_len, All}
use Rattle.std.proofs.lemmas.List.Elements.{All-head, All-tail, All-weaker, All-nil, All-cons, All-append}
use Rattle.missing_round.specs.Masks.{Masks}
use Rattle.group_plan.specs.Plans.{PlanView}
use Rattle.group_plan.specs.Tables.{ReadingsView}
use Rattle.link_lanes.specs.declared.Post.{Post}
use Rattle.link_lanes.specs.Lanes.{Slot}
use Rattle.meter_frames.specs.declared.Frame.{Frame}
use Rattle.event_schedule.specs.declared.Line.{Line}
use Rattle.event_schedule.specs.declared.Entry.{Entry}
use Rattle.transcript_log.specs.Drafts.{quiet}
use Rattle.event_schedule.specs.Events.{event_of, lines_of}
use Rattle.event_schedule.specs.Transcripts.{TranscriptView, last_tick_from}
use Rattle.run_rows.specs.ByGroup.{entries_in}
use Rattle.run_rows.specs.Ticks.{moment, phase, posts_of}
use Rattle.plan_meters.proofs.RangeLemmas.{range_long}
use Rattle.shared_book.specs.declared.parts.SharedBook.{SharedBook}
use Rattle.tick_run.specs.declared.running.Group.{Group}
use Rattle.tick_run.specs.declared.running.Running.{Running}
use Rattle.tick_run.specs.GroupRuns.{taken_in, closed_in, sent_with}
use Rattle.tick_run.specs.ByGroups.{AllStand, IsMade, AllMade, Ticked, AllTick, AreWhole, Passes, Fated, IsButFates, frames_by, fates_by, taken_by, closed_by, sent_by, whole_then}
use Rattle.tick_run.specs.Progress.{sending}
use Rattle.tick_run.specs.Sending.{KeepsFates, KeptFates}
use Rattle.tick_run.specs.Whole.{IsShared, RunsAt, Extends}
use Rattle.tick_run.specs.Written.{Fits}
use Rattle.tick_run.proofs.BatchLemmas.{posts-append, posts-silent, silent-batch}
use Rattle.tick_run.proofs.ByGroupsLemmas.{all-stand, ticks-of, whole-then}
use Rattle.tick_run.proofs.GroupTickLemmas.{ticks-noted}
use Rattle.tick_run.proofs.PassLemmas.{keeps-met}
use Rattle.tick_run.proofs.SendingLemmas.{kept-next}
use Rattle.tick_run.proofs.StateLemmas.{batch_of}

-- ---- the last tick

last_within : (from t : ℕ) (xs : List Entry) → from ≤ t → All (λ e. e.tick ≤ t) xs → last_tick_from from xs ≤ t
last_within from t [] le all = le
last_within from t (x ∷ xs) le all = last_within x.tick t xs (All-head (λ e. e.tick ≤ t) x xs all) (All-tail (λ e. e.tick ≤ t) x xs all)

-- the entries before tick t have none later than it
pub last-whole : (n t : ℕ) (xs : List Entry) → AreWhole n t xs → last_tick_from 0 xs ≤ t
last-whole n t xs whole = last_within 0 t xs (omega arith) (All-weaker (λ e. moment e < 3 * t) (λ e. e.tick ≤ t) (λ e h. omega arith) xs whole.before)

-- ---- the groups with the fates of their frames

abbrev AllTickFrom : ReadingsView → Masks → ℕ → List Entry → ℕ → ℕ → List Group → Type 0
AllTickFrom readings m t entries a n works = AllZip (Ticked readings m t entries) (range_with_len a n) works

ticks_passed : (readings : ReadingsView) (m : Masks) (t : ℕ) (entries : List Entry) (a n : ℕ) (before after : List Group) → AllTickFrom readings m t entries a n before → AllZip IsButFates before after → AllTickFrom readings m t entries a n after
ticks_passed readings m t entries a zero [] [] all same = tt
ticks_passed readings m t entries a zero [] (y ∷ after) all same = absurd same
ticks_passed readings m t entries a zero (x ∷ before) after all same = absurd all
ticks_passed readings m t entries a (suc n) [] after all same = absurd all
ticks_passed readings m t entries a (suc n) (x ∷ before) [] all same = absurd same
ticks_passed readings m t entries a (suc n) (x ∷ before) (y ∷ after) all same = (
  subst (Ticked readings m t entries a) (sym same.0) (record { kept = all.0.kept; ticks = ticks-noted readings m t (entries_in a entries) a all.0.kept x.work y.work.fates x.work.failed all.0.ticks }),
  ticks_passed readings m t entries (a + 1) n before after all.1 same.1,
)

frames_same : (before after : List Group) → AllZip IsButFates before after → frames_by after ≡ frames_by before
frames_same [] [] same = refl
frames_same [] (y ∷ after) same = absurd same
frames_same (x ∷ before) [] same = absurd same
frames_same (x ∷ before) (y ∷ after) same = ap (λ (w : Group). w.work.frames.items ++ frames_by after) same.0 ∙ ap (λ fs. x.work.frames.items ++ fs) (frames_same before after same.1)

sent_append : (t : ℕ) (frames : List Frame) (fates : List (List ℕ)) (frames' : List Frame) (fates' : List (List ℕ)) → length fates ≡ length frames → sent_with t (frames ++ frames') (fates ++ fates') ≡ sent_with t frames fates ++ sent_with t frames' fates'
sent_append t [] [] frames' fates' long = refl
sent_append t [] (e ∷ fates) frames' fates' long = absurd (omega arith)
sent_append t (f ∷ frames) [] frames' fates' long = absurd (omega arith)
sent_append t (f ∷ frames) (e ∷ fates) frames' fates' long = ap (λ l. sending t f.tag (Some f) e ∷ l) (sent_append t frames fates frames' fates' (omega arith))

-- the Sends of all groups are those of all their frames
sent_all : (t : ℕ) (works : List Group) → All Fated works → sent_by t works ≡ sent_with t (frames_by works) (fates_by works)
sent_all t [] fated = refl
sent_all t (w ∷ works) fated =
    let here = All-head Fated w works fated in
    ap (λ l. sent_with t w.work.frames.items w.work.fates.items ++ l) (sent_all t works (All-tail Fated w works fated)) ∙ sym (sent_append t w.work.frames.items w.work.fates.items (frames_by works) (fates_by works) here.long)

all_fit : (readings : ReadingsView) (m : Masks) (t : ℕ) (entries : List Entry) (a n : ℕ) (works : List Group) → AllTickFrom readings m t entries a n works → All (Fits readings.plan) works
all_fit readings m t entries a zero [] all = All-nil (Fits readings.plan)
all_fit readings m t entries a zero (w ∷ works) all = absurd all
all_fit readings m t entries a (suc n) [] all = absurd all
all_fit readings m t entries a (suc n) (w ∷ works) all =
    All-cons (Fits readings.plan) w works (let tick = all.0.ticks in record { parts = tick.parts; taken = tick.fit_taken; closed = tick.fit_closed; frames = tick.fit_sent; sends = tick.sends }) (all_fit readings m t entries (a + 1) n works all.1)

pub ticks-fit : (readings : ReadingsView) (m : Masks) (t : ℕ) (entries : List Entry) (plan : PlanView) (works : List Group) → AllTick readings m t entries works → plan ≡ readings.plan → All (Fits plan) works
ticks-fit readings m t entries plan works ticks is = subst (λ (p : PlanView). All (Fits p) works) (sym is) (all_fit readings m t entries 0 (length readings.plan.groups) works ticks)

-- ---- their lines make no posts

all_lines : (readings : ReadingsView) (m : Masks) (t : ℕ) (entries : List Entry) (P : Line → Type 0) (F : Group → List Line) (a n : ℕ) (works : List Group)
    → ((g : ℕ) (w : Group) → Ticked readings m t entries g w → All P (F w)) → AllTickFrom readings m t entries a n works → All P (flat_map F works)
all_lines readings m t entries P F a zero [] each all = All-nil P
all_lines readings m t entries P F a zero (w ∷ works) each all = absurd all
all_lines readings m t entries P F a (suc n) [] each all = absurd all
all_lines readings m t entries P F a (suc n) (w ∷ works) each all = All-append P (F w) (flat_map F works) (each a w all.0) (all_lines readings m t entries P F (a + 1) n works each all.1)

keeps_quiet : (slots : List Slot) (t k : ℕ) (xs : List Entry) (added : List Line) (lanes : List Slot) (posts : List Post) → k < 2 → All (λ l. phase (event_of l) ≡ k) added
    → KeepsFates slots t xs lanes posts → KeepsFates slots t (xs ++ map (quiet t) added) lanes posts
keeps_quiet slots t k xs added lanes posts small phases keeps =
    let none : posts_of (map (quiet t) added) ≡ [] = posts-silent (map (quiet t) added) (silent-batch t k (map (quiet t) added) small (batch_of t k added phases)) in
    record {
      posts_are = keeps.posts_are ∙ sym (posts-append xs (map (quiet t) added) ∙ ap (λ l. posts_of xs ++ l) none ∙ append-nil (posts_of xs));
      fates = keeps.fates;
      lanes_are = keeps.lanes_are;
    }

-- ---- the tick

-- their lines stay checked in
made_passed : (book : SharedBook) (readings : ReadingsView) (m : Masks) (t : ℕ) (entries : List Entry) (a n : ℕ) (before after : List Group) → AllZip (λ g it. IsMade book readings m t (entries_in g entries) g it) (range_with_len a n) before → AllZip IsButFates before after
    → AllZip (λ g it. IsMade book readings m t (entries_in g entries) g it) (range_with_len a n) after
made_passed book readings m t entries a zero [] [] all same = tt
made_passed book readings m t entries a zero [] (y ∷ after) all same = absurd same
made_passed book readings m t entries a zero (x ∷ before) after all same = absurd all
made_passed book readings m t entries a (suc n) [] after all same = absurd all
made_passed book readings m t entries a (suc n) (x ∷ before) [] all same = absurd same
made_passed book readings m t entries a (suc n) (x ∷ before) (y ∷ after) all same = (
  subst (IsMade book readings m t (entries_in a entries) a) (sym same.0)
      (let one = all.0 in record { kept = one.kept; number = one.number; ticks = ticks-noted readings m t (entries_in a entries) a one.kept x.work y.work.fates x.work.failed one.ticks; turns = one.turns }),
  made_passed book readings m t entries (a + 1) n before after all.1 same.1,
)

module _ (book : SharedBook) (readings : ReadingsView) (m : Masks) (t : ℕ) (script : TranscriptView) (before after : List Group) (made : AllMade book readings m t script.entries before) (same : AllZip IsButFates before after) (fated : All Fated after) where
  ticked : AllTick readings m t script.entries after
  ticked = ticks_passed readings m t script.entries 0 (length readings.plan.groups) before after (ticks-of book readings m t script.entries before made) same

  shared : AllMade book readings m t script.entries after
  shared = made_passed book readings m t script.entries 0 (length readings.plan.groups) before after made same

  pub all-fit : (plan : PlanView) → plan ≡ readings.plan → All (Fits plan) after
  all-fit plan is = ticks-fit readings m t script.entries plan after ticked is

  -- the run stands before the next tick
  pub run-ticked : (run : Running) → run.shared ≡ book → IsShared readings run.shared run.first → script.plan ≡ readings.plan → AreWhole (length readings.plan.groups) t script.entries → run.groups.items ≡ after
      → run.transcript ≡ record script { entries = whole_then t script.entries after } → run.journal.items ≡ lines_of run.transcript.entries → RunsAt readings m (t + 1) run
  run-ticked run same_book sharing plan whole works is journal =
      let n : ℕ = length readings.plan.groups in
      let long : length after ≡ n = range_long (Ticked readings m t script.entries) 0 n after ticked in
      let entries : run.transcript.entries ≡ whole_then t script.entries after = ap (λ (z : TranscriptView). z.entries) is in
      record {
        shared = sharing;
        plan = ap (λ (z : TranscriptView). z.plan) is ∙ plan;
        journal = journal;
        whole = subst (AreWhole n (t + 1)) (sym entries) (whole-then readings m t script.entries after whole ticked fated long);
        stand = subst (λ (b : SharedBook). AllStand b readings m (t + 1) run.transcript.entries run.groups.items) (sym same_book)
            (subst (λ ws. AllStand book readings m (t + 1) run.transcript.entries ws) (sym works)
            (subst (λ es. AllStand book readings m (t + 1) es after) (sym entries) (all-stand book readings m t script.entries after shared fated long)));
      }

  -- the fates are those of the lanes
  pub fates-ticked : (fates : List (List ℕ)) (done : TranscriptView) (slots lanes hung : List Slot) (posts all : List Post) → fates_by after ≡ fates → done ≡ record script { entries = whole_then t script.entries after } → KeepsFates slots t script.entries lanes posts
      → Passes t (frames_by before) lanes hung posts all fates → KeptFates slots (t + 1) done.entries hung all
  fates-ticked fates done slots lanes hung posts all given is keeps by_lanes =
      let n : ℕ = length readings.plan.groups in
      let passes : Passes t (frames_by before) lanes hung posts all (fates_by after) = subst (λ (es : List (List ℕ)). Passes t (frames_by before) lanes hung posts all es) (sym given) by_lanes in
      let quiets : List Entry = (script.entries ++ map (quiet t) (taken_by after)) ++ map (quiet t) (closed_by after) in
      let takes : All (λ l. phase (event_of l) ≡ 0) (taken_by after) = all_lines readings m t script.entries (λ l. phase (event_of l) ≡ 0) (λ w. taken_in w.work) 0 n after (λ g w tick. tick.ticks.takes) ticked in
      let closes : All (λ l. phase (event_of l) ≡ 1) (closed_by after) = all_lines readings m t script.entries (λ l. phase (event_of l) ≡ 1) (λ w. closed_in w.work) 0 n after (λ g w tick. tick.ticks.closes) ticked in
      let kept : KeepsFates slots t quiets lanes posts
      = keeps_quiet slots t 1 (script.entries ++ map (quiet t) (taken_by after)) (closed_by after) lanes posts (omega arith) closes
      (keeps_quiet slots t 0 script.entries (taken_by after) lanes posts (omega arith) takes keeps) in
      let met : KeepsFates slots t (quiets ++ sent_with t (frames_by before) (fates_by after)) hung all = keeps-met slots t (frames_by before) (fates_by after) quiets lanes hung posts all kept passes in
      let sent : sent_with t (frames_by before) (fates_by after) ≡ sent_by t after = ap (λ fs. sent_with t fs (fates_by after)) (sym (frames_same before after same)) ∙ sym (sent_all t after fated) in
      kept-next slots t done.entries hung all
      (subst (λ (z : TranscriptView). KeepsFates slots t z.entries hung all) (sym is) (subst (λ es. KeepsFates slots t (quiets ++ es) hung all) sent met))

-- a tick adds entries
pub extends-whole : (t : ℕ) (script done : TranscriptView) (works : List Group) → done ≡ record script { entries = whole_then t script.entries works } → Extends script done
extends-whole t script done works is =
    let taken : List Entry = map (quiet t) (taken_by works) in
    let closed : List Entry = map (quiet t) (closed_by works) in
    record {
      more = taken ++ (closed ++ sent_by t works);
      is = is ∙ ap (λ (es : List Entry). record script { entries = es }) (append_assoc (script.entries ++ taken) closed (sent_by t works) ∙ append_assoc script.entries taken (closed ++ sent_by t works));
    }
