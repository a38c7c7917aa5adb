-- What all groups made of a tick, as it is written down.
use Rattle.std.proofs.Common.{◌≡◌, ℕ, suc, ◌+◌, ◌-◌, ◌<◌, ◌≤◌, List, [], ◌∷◌, ◌++◌, length, map, take, drop, get_or, refl, sym, ap, ◌∙◌, subst, append_assoc, arith}
use Rattle.std.specs.Prelude.{Some, Result, Ok, Err, OnOk}
use Rattle.std.specs.List.{flat_map, All, AllZip}
use Rattle.std.proofs.lemmas.List.{drop_more, map-append}
use Rattle.std.proofs.lemmas.List.Elements.{All-head, All-tail, All-nil, All-append}
use Rattle.group_plan.specs.Plans.{PlanView}
use Rattle.meter_frames.specs.declared.Frame.{Frame}
use Rattle.event_schedule.specs.declared.Line.{Line}
use Rattle.event_schedule.specs.declared.Line.TheVariants.{Send as SendLine}
use Rattle.event_schedule.specs.declared.Entry.{Entry}
use Rattle.transcript_log.specs.Drafts.{quiet, Begins}
use Rattle.event_schedule.specs.Events.{lines_of}
use Rattle.event_schedule.specs.Transcripts.{TranscriptView, FitsLine, last_tick_from}
use Rattle.tick_run.specs.declared.running.Group.{Group}
use Rattle.tick_run.specs.ByGroups.{taken_by, closed_by, sends_by, sent_by, quiet_then, whole_then, Fated, IsButFates}
use Rattle.tick_run.specs.GroupRuns.{send_line, taken_in, closed_in, sends_in, sent_with}
use Rattle.tick_run.specs.Progress.{sending}
use Rattle.tick_run.specs.Written.{Fits}

-- ---- the lines of entries

pub lines_append : (xs ys : List Entry) → lines_of (xs ++ ys) ≡ lines_of xs ++ lines_of ys
lines_append xs ys = map-append (λ (e : Entry). e.line) xs ys

pub lines_quiet : (t : ℕ) (ls : List Line) → lines_of (map (quiet t) ls) ≡ ls
lines_quiet t [] = refl
lines_quiet t (l ∷ ls) = ap (λ x. l ∷ x) (lines_quiet t ls)

pub lines_sent : (t : ℕ) (frames : List Frame) (fates : List (List ℕ)) → length fates ≡ length frames → lines_of (sent_with t frames fates) ≡ map send_line frames
lines_sent t [] fates long = refl
lines_sent t (f ∷ frames) [] long = absurd (omega arith)
lines_sent t (f ∷ frames) (fate ∷ fates) long = ap (λ l. send_line f ∷ l) (lines_sent t frames fates (omega arith))

lines_by : (plan : PlanView) (t : ℕ) (works : List Group) → All (Fits plan) works → All Fated works → lines_of (sent_by t works) ≡ sends_by works
lines_by plan t [] fit fated = refl
lines_by plan t (w ∷ works) fit fated =
    let here = All-head (Fits plan) w works fit in
    let met = All-head Fated w works fated in
    let own : List Entry = sent_with t w.work.frames.items w.work.fates.items in
    lines_append own (sent_by t works)
    ∙ ap (λ l. l ++ lines_of (sent_by t works)) (lines_sent t w.work.frames.items w.work.fates.items met.long ∙ sym here.sends)
    ∙ ap (λ l. sends_in w.work ++ l) (lines_by plan t works (All-tail (Fits plan) w works fit) (All-tail Fated w works fated))

-- ---- the entries of Sends

last_push : (from : ℕ) (xs : List Entry) (x : Entry) → last_tick_from from (xs ++ x ∷ []) ≡ x.tick
last_push from [] x = refl
last_push from (y ∷ xs) x = last_push y.tick xs x

-- entries of tick t keep the last tick within it
last_quiet : (t from : ℕ) (xs : List Entry) (ls : List Line) → last_tick_from from xs ≤ t → last_tick_from from (xs ++ map (quiet t) ls) ≤ t
last_quiet t from [] [] le = le
last_quiet t from [] (l ∷ ls) le = last_quiet t t [] ls (omega arith)
last_quiet t from (x ∷ xs) ls le = last_quiet t x.tick xs ls le

item_of : {X : Type 0} (k : ℕ) (xs : List X) (x : X) → x ≡ get_or xs k x → k < length xs → drop k xs ≡ x ∷ drop (k + 1) xs
item_of k xs x at lt = drop_more xs k x lt ∙ ap (λ y. y ∷ drop (k + 1) xs) (sym at)

-- of a group, the first k Sends have their entries
pub record Stamping (t k : ℕ) (frames : List Frame) (fates : List (List ℕ)) (script now : TranscriptView) : Type 0 where
  pub plan : now.plan ≡ script.plan
  pub later : last_tick_from 0 now.entries ≤ t
  pub entries : now.entries ++ sent_with t (drop k frames) (drop k fates) ≡ script.entries ++ sent_with t frames fates

next_stamp : (t k : ℕ) (frames : List Frame) (fates : List (List ℕ)) (f : Frame) (fate : List ℕ) → f ≡ get_or frames k f → k < length frames → fate ≡ get_or fates k fate → k < length fates
    → sent_with t (drop k frames) (drop k fates) ≡ sending t f.tag (Some f) fate ∷ sent_with t (drop (k + 1) frames) (drop (k + 1) fates)
next_stamp t k frames fates f fate at lt with_fate in_fates =
    ap (λ (fs : List Frame). sent_with t fs (drop k fates)) (item_of k frames f at lt) ∙ ap (λ (es : List (List ℕ)). sent_with t (f ∷ drop (k + 1) frames) es) (item_of k fates fate with_fate in_fates)

pub stamping-next : (t k : ℕ) (frames : List Frame) (fates : List (List ℕ)) (f : Frame) (fate : List ℕ) (script now next : TranscriptView) → f ≡ get_or frames k f → k < length frames → fate ≡ get_or fates k fate → k < length fates
    → Stamping t k frames fates script now → next ≡ record now { entries = now.entries ++ sending t f.tag (Some f) fate ∷ [] } → Stamping t (k + 1) frames fates script next
stamping-next t k frames fates f fate script now next at lt with_fate in_fates so_far is =
    let x : Entry = sending t f.tag (Some f) fate in
    let last : last_tick_from 0 next.entries ≡ t = ap (λ (z : TranscriptView). last_tick_from 0 z.entries) is ∙ last_push 0 now.entries x in
    record {
      plan = ap (λ (z : TranscriptView). z.plan) is ∙ so_far.plan;
      later = omega arith;
      entries = ap (λ (z : TranscriptView). z.entries ++ sent_with t (drop (k + 1) frames) (drop (k + 1) fates)) is
          ∙ append_assoc now.entries (x ∷ []) (sent_with t (drop (k + 1) frames) (drop (k + 1) fates))
          ∙ ap (λ (es : List Entry). now.entries ++ es) (sym (next_stamp t k frames fates f fate at lt with_fate in_fates)) ∙ so_far.entries;
    }

-- the journal has the line of the next one
pub stamp-begins : (t k : ℕ) (frames : List Frame) (fates : List (List ℕ)) (f : Frame) (fate : List ℕ) (script now : TranscriptView) (journal : List Line) → f ≡ get_or frames k f → k < length frames → fate ≡ get_or fates k fate → k < length fates
    → Stamping t k frames fates script now → Begins journal (lines_of (script.entries ++ sent_with t frames fates)) → Begins journal (lines_of now.entries ++ SendLine f.tag (Some f) ∷ [])
stamp-begins t k frames fates f fate script now journal at lt with_fate in_fates so_far begins =
    let x : Entry = sending t f.tag (Some f) fate in
    let ys : List Entry = sent_with t (drop (k + 1) frames) (drop (k + 1) fates) in
    let entries : script.entries ++ sent_with t frames fates ≡ now.entries ++ x ∷ ys = sym so_far.entries ∙ ap (λ (es : List Entry). now.entries ++ es) (next_stamp t k frames fates f fate at lt with_fate in_fates) in
    record {
      rest = lines_of ys ++ begins.rest;
      is = begins.is ∙ ap (λ (es : List Entry). lines_of es ++ begins.rest) entries ∙ ap (λ (l : List Line). l ++ begins.rest) (lines_append now.entries (x ∷ ys))
          ∙ append_assoc (lines_of now.entries) (SendLine f.tag (Some f) ∷ lines_of ys) begins.rest
          ∙ sym (append_assoc (lines_of now.entries) (SendLine f.tag (Some f) ∷ []) (lines_of ys ++ begins.rest));
    }

-- ---- those of one group after another

-- the Sends of the first k groups have their entries
pub record StampingAll (t k : ℕ) (works : List Group) (script now : TranscriptView) : Type 0 where
  pub plan : now.plan ≡ script.plan
  pub later : last_tick_from 0 now.entries ≤ t
  pub entries : now.entries ++ sent_by t (drop k works) ≡ script.entries ++ sent_by t works

-- ---- a tick

pub on_ok : {A E P Q : Type 0} (r : Result A E) → (P → Q) → OnOk r P → OnOk r Q
on_ok (Ok x) f h = f h
on_ok (Err e) f h = tt

-- what the journal has beyond the lines of some entries
beyond : (xs : List Entry) (more : List Line) → drop (length xs) (lines_of xs ++ more) ≡ more
beyond [] more = refl
beyond (x ∷ xs) more = beyond xs more

all_flat : (P : Line → Type 0) (F : Group → List Line) (works : List Group) → All (λ w. All P (F w)) works → All P (flat_map F works)
all_flat P F [] all = All-nil P
all_flat P F (w ∷ works) all = All-append P (F w) (flat_map F works) (All-head (λ w. All P (F w)) w works all) (all_flat P F works (All-tail (λ w. All P (F w)) w works all))

module _ (t : ℕ) (script : TranscriptView) (works : List Group) (old mid journal : List Line) (is : old ≡ lines_of script.entries) (first : mid ≡ old ++ taken_by works) (then : journal ≡ mid ++ closed_by works) where
  -- the journal has the Takes, Closes and Ends behind the lines of the entries
  behind : journal ≡ lines_of script.entries ++ (taken_by works ++ closed_by works)
  behind = then ∙ ap (λ l. l ++ closed_by works) (first ∙ ap (λ l. l ++ taken_by works) is) ∙ append_assoc (lines_of script.entries) (taken_by works) (closed_by works)

  quiet_beyond : drop (length script.entries) journal ≡ taken_by works ++ closed_by works
  quiet_beyond = ap (drop (length script.entries)) behind ∙ beyond script.entries (taken_by works ++ closed_by works)

  pub quiet-fits : All (Fits script.plan) works → All (FitsLine script.plan []) (drop (length script.entries) journal)
  quiet-fits fits =
      let P : Line → Type 0 = FitsLine script.plan [] in
      subst (All P) (sym quiet_beyond)
      (All-append P (taken_by works) (closed_by works)
      (all_flat P (λ w. taken_in w.work) works (λ k d lt. (fits k d lt).taken))
      (all_flat P (λ w. closed_in w.work) works (λ k d lt. (fits k d lt).closed)))

  -- once they have their entries
  module _ (done : TranscriptView) (made : done ≡ record script { entries = script.entries ++ map (quiet t) (drop (length script.entries) journal) }) where
    pub quiet-script : done ≡ record script { entries = quiet_then t script.entries works }
    quiet-script =
        let added : map (quiet t) (drop (length script.entries) journal) ≡ map (quiet t) (taken_by works) ++ map (quiet t) (closed_by works)
        = ap (map (quiet t)) quiet_beyond ∙ map-append (quiet t) (taken_by works) (closed_by works) in
        made
        ∙ ap (λ (es : List Entry). record script { entries = es })
        (ap (λ (es : List Entry). script.entries ++ es) added ∙ sym (append_assoc script.entries (map (quiet t) (taken_by works)) (map (quiet t) (closed_by works))))

    -- the journal has the lines of the Sends behind theirs
    pub quiet-lines : (last : List Line) → last ≡ journal ++ sends_by works → last ≡ lines_of done.entries ++ sends_by works
    quiet-lines last with_sends =
        let so_far : lines_of done.entries ≡ journal
        = ap (λ (z : TranscriptView). lines_of z.entries) made ∙ lines_append script.entries (map (quiet t) (drop (length script.entries) journal))
        ∙ ap (λ l. lines_of script.entries ++ l) (lines_quiet t (drop (length script.entries) journal) ∙ quiet_beyond) ∙ sym behind in
        with_sends ∙ ap (λ l. l ++ sends_by works) (sym so_far)

-- ---- once the frames have met their fates

-- what does not depend on the fates stays
flat_same : {X : Type 0} (F : Group → List X) → ((x y : Group) → F (record x { work = record x.work { fates = y.work.fates } }) ≡ F x) → (before after : List Group) → AllZip IsButFates before after → flat_map F after ≡ flat_map F before
flat_same F keeps [] [] same = refl
flat_same F keeps [] (y ∷ after) same = absurd same
flat_same F keeps (x ∷ before) [] same = absurd same
flat_same F keeps (x ∷ before) (y ∷ after) same = ap (λ (w : Group). F w ++ flat_map F after) same.0 ∙ ap (λ l. l ++ flat_map F after) (keeps x y) ∙ ap (λ l. F x ++ l) (flat_same F keeps before after same.1)

quiet_same : (t : ℕ) (entries : List Entry) (before after : List Group) → AllZip IsButFates before after → quiet_then t entries after ≡ quiet_then t entries before
quiet_same t entries before after same =
    ap (λ ls. (entries ++ map (quiet t) ls) ++ map (quiet t) (closed_by after)) (flat_same (λ w. taken_in w.work) (λ x y. refl) before after same)
    ∙ ap (λ ls. (entries ++ map (quiet t) (taken_by before)) ++ map (quiet t) ls) (flat_same (λ w. closed_in w.work) (λ x y. refl) before after same)

module _ (t : ℕ) (script mid : TranscriptView) (before after : List Group) (made : mid ≡ record script { entries = quiet_then t script.entries before }) where
  pub made-later : last_tick_from 0 script.entries ≤ t → last_tick_from 0 mid.entries ≤ t
  made-later le =
      subst (λ (z : TranscriptView). last_tick_from 0 z.entries ≤ t) (sym made)
      (last_quiet t 0 (script.entries ++ map (quiet t) (taken_by before)) (closed_by before) (last_quiet t 0 script.entries (taken_by before) le))

  -- the journal has just the lines of all entries
  pub all-lines : (lines : List Line) → lines ≡ lines_of mid.entries ++ sends_by before → AllZip IsButFates before after → All (Fits mid.plan) after → All Fated after → lines ≡ lines_of (mid.entries ++ sent_by t after)
  all-lines lines are same fits fated =
      are ∙ ap (λ l. lines_of mid.entries ++ l) (sym (flat_same (λ w. sends_in w.work) (λ x y. refl) before after same) ∙ sym (lines_by mid.plan t after fits fated)) ∙ sym (lines_append mid.entries (sent_by t after))

  -- once the Sends have their entries
  module _ (done : TranscriptView) (stamped : done ≡ record mid { entries = mid.entries ++ sent_by t after }) where
    pub whole-script : AllZip IsButFates before after → done ≡ record script { entries = whole_then t script.entries after }
    whole-script same =
        stamped ∙ ap (λ (z : TranscriptView). record z { entries = z.entries ++ sent_by t after }) made
        ∙ ap (λ (es : List Entry). record script { entries = es ++ sent_by t after }) (sym (quiet_same t script.entries before after same))

    pub whole-lines : (lines : List Line) → lines ≡ lines_of (mid.entries ++ sent_by t after) → lines ≡ lines_of done.entries
    whole-lines lines are = are ∙ sym (ap (λ (z : TranscriptView). lines_of z.entries) stamped)
