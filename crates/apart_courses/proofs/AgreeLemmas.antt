-- A course agrees with its schedule, step by step.
use Rattle.std.proofs.Common.{◌≡◌, ℕ, ◌≤◌, Bool, true, false, ◌&&◌, List, [], ◌∷◌, ◌++◌, length, take, refl, sym, ap, ◌∙◌, subst, arith, inl, inr, ⊎_elim, length-append}
use Rattle.std.specs.Prelude.{◌⊎◌, ◌==◌, not, if◌then◌else◌, Some}
use Rattle.std.proofs.lemmas.Bool.{false≢true, and_from, and_parts, eqb-true, cases_lt}
use Rattle.std.proofs.lemmas.List.{take_all, take-append-le}
use Rattle.missing_round.specs.Masks.{Masks}
use Rattle.group_plan.specs.declared.Kind.{Kind}
use Rattle.group_plan.specs.declared.Kind.TheVariants.{Reading, Announcement, Answer}
use Rattle.group_plan.specs.Plans.{PlanView}
use Rattle.meter_frames.specs.declared.Frame.{Frame}
use Rattle.round_machine.specs.declared.Verdict.TheVariants.{Fresh as FreshVerdict, Again, Late, Void}
use Rattle.event_schedule.specs.declared.Event.{Event}
use Rattle.event_schedule.specs.declared.Event.TheVariants.{Send, Take}
use Rattle.event_schedule.specs.Events.{is_send, is_take}
use Rattle.event_schedule.specs.Tables.{Readings}
use Rattle.event_schedule.specs.Schedule.{Shape, is_closed, is_ended, is_announced, is_reading_sent, is_reading_taken, is_announcement_sent, is_announcement_taken, is_answer_sent, is_answer_taken, may_announce, reaches_floor, verdict_by_table}
use Rattle.event_schedule.specs.Transcript.{shape_of_readings, contents_of_tables}
use Rattle.event_schedule.proofs.EventLemmas.{is_send-itself}
use Rattle.event_schedule.proofs.ScheduleLemmas.{once-now, missing-closed, is_closed-more}
use Rattle.event_schedule.proofs.VerdictLemmas.{verdict-table}
use Rattle.head_end.specs.declared.answers.Logged.{Logged}
use Rattle.head_end.specs.declared.answers.Logged.TheVariants.{Took, Passed}
use Rattle.head_end.specs.Journal.{passed}
use Rattle.meter_apart.specs.declared.answers.Noted.{Noted}
use Rattle.meter_apart.specs.declared.answers.Noted.TheVariants.{Read, Kept}
use Rattle.meter_apart.specs.Journal.{marked, kept}
use Rattle.apart_courses.specs.Courses.{Happening, Headed, Noticed, Said, WasSaid, head_journal, meter_journal, told_tag, and_then, ends, closes, past}
use Rattle.apart_courses.specs.Steps.{Disk, IsAnnouncedOn, IsReadingOf, IsAnswerOf, MayHappen, IsCourse}
use Rattle.apart_courses.specs.Statements.{HasMarks, IsLine, AreLines}
use Rattle.apart_courses.proofs.SaidLemmas.{IsAnnounced, announced}
use Rattle.apart_courses.proofs.ReplyLemmas.{place_known, FreshOf, fresh_is}
use Rattle.apart_courses.proofs.SentLemmas.{SentBy, sent_then, IsTold, told_then}
use Rattle.apart_courses.proofs.SameLemmas.{Same, same_nil, same_sent, same_told, same_passed, same_took}
use Rattle.apart_courses.proofs.NotedLemmas.{marked_later, kept_split}
use Rattle.apart_courses.proofs.FrameLemmas.{HasFrame, MayAnnounce, may_announce_now, may_announce_then, frame_is, announcement_is, reading_is, answer_is, answered_set}

-- the log agrees with its schedule: on each round, on what was said, and on what was heard
pub record Agrees (plan : PlanView) (x : Readings) (log : List Happening) : Type 0 where
  pub same : Same plan (shape_of_readings plan.groups x) (head_journal log) (past plan log)
  pub said : (f : Frame) → WasSaid f log → SentBy f.tag.kind (shape_of_readings plan.groups x) f (past plan log)
  pub told : (g i r : ℕ) (set : List ℕ) → kept (meter_journal g i log) r ≡ Some set → IsTold (shape_of_readings plan.groups x) g i r set (past plan log)
  pub announces : (k : ℕ) (f : Frame) → IsAnnounced plan (take k (head_journal log)) f → MayAnnounce (shape_of_readings plan.groups x) f (past plan log)

-- ---- what was said

abbrev is_saying : Happening → Bool
is_saying (Headed line) = false
is_saying (Noticed g i line) = false
is_saying (Said f) = true

pub silent_before : (f : Frame) (h : Happening) (before : List Happening) → is_saying h ≡ false → WasSaid f (h ∷ before) → WasSaid f before
silent_before f h before is was = ⊎_elim (λ now. absurd (false≢true (sym is ∙ ap is_saying now))) (λ earlier. earlier) was

pub frame_now : (f g : Frame) → Said f ≡ Said g → f ≡ g
frame_now f g same = ap frame_in same
  where
    frame_in : Happening → Frame
    frame_in (Said h) = h
    frame_in (Headed line) = f
    frame_in (Noticed a b line) = f

-- nothing is said by a line of a journal
still_said : (plan : PlanView) (s : Shape) (log : List Happening) (h : Happening) (rest : List Event) → is_saying h ≡ false
    → ((f : Frame) → WasSaid f log → SentBy f.tag.kind s f (past plan log))
    → (f : Frame) → WasSaid f (h ∷ log) → SentBy f.tag.kind s f (and_then (past plan log) rest)
still_said plan s log h rest silent said f was = ⊎_elim
    (λ now. absurd (false≢true (sym silent ∙ ap is_saying now)))
    (λ earlier. sent_then f.tag.kind s f (past plan log) rest (said f earlier))
    was

-- ---- a frame that has an effective Send now

own_send : (f : Frame) (k : Kind) → f.tag.kind ≡ k → is_send f.tag.group f.tag.round f.tag.meter k (Send f.tag) ≡ true
own_send f k kind = subst (λ l. is_send f.tag.group f.tag.round f.tag.meter l (Send f.tag) ≡ true) kind (is_send-itself f.tag.group f.tag.round f.tag.meter f.tag.kind)

sent_now : (k : Kind) (plan : PlanView) (x : Readings) (m : Masks) (f : Frame) (p : List Event) → f.tag.kind ≡ k
    → HasFrame k (shape_of_readings plan.groups x) (contents_of_tables plan.groups x m) f p
    → SentBy k (shape_of_readings plan.groups x) f (Send f.tag ∷ p)
sent_now Reading plan x m f p kind has =
    let s = shape_of_readings plan.groups x in
    once-now (λ e before. is_send f.tag.group f.tag.round f.tag.meter Reading e && s.present f.tag.group f.tag.round f.tag.meter) (Send f.tag) p
    (and_from (is_send f.tag.group f.tag.round f.tag.meter Reading (Send f.tag)) (s.present f.tag.group f.tag.round f.tag.meter) (own_send f Reading kind) has.may)
sent_now Announcement plan x m f p kind has =
    let s = shape_of_readings plan.groups x in
    let announced = (and_parts (is_announced s f.tag.group f.tag.round p) (is_reading_taken s f.tag.group f.tag.round f.tag.meter p) has.may).0 in
    let closed = (and_parts (is_closed f.tag.group f.tag.round p) (reaches_floor s f.tag.group f.tag.round p) announced).0 in (
      is_closed-more f.tag.group f.tag.round (Send f.tag) p closed,
      missing-closed s f.tag.group f.tag.round (Send f.tag) p closed ∙ has.set,
      once-now (λ e before. is_send f.tag.group f.tag.round f.tag.meter Announcement e && may_announce s f.tag.group f.tag.round f.tag.meter before) (Send f.tag) p
          (and_from (is_send f.tag.group f.tag.round f.tag.meter Announcement (Send f.tag)) (may_announce s f.tag.group f.tag.round f.tag.meter p) (own_send f Announcement kind) has.may),
    )
sent_now Answer plan x m f p kind has =
    let s = shape_of_readings plan.groups x in
    once-now (λ e before. is_send f.tag.group f.tag.round f.tag.meter Answer e && is_announcement_taken s f.tag.group f.tag.round f.tag.meter before) (Send f.tag) p
    (and_from (is_send f.tag.group f.tag.round f.tag.meter Answer (Send f.tag)) (is_announcement_taken s f.tag.group f.tag.round f.tag.meter p) (own_send f Answer kind) has.may)

-- the kind of a frame that may be said, and what its Send has to say
pub record Sends (plan : PlanView) (x : Readings) (m : Masks) (log : List Happening) (f : Frame) : Type 0 where
  pub kind : Kind
  pub is_kind : f.tag.kind ≡ kind
  pub has : HasFrame kind (shape_of_readings plan.groups x) (contents_of_tables plan.groups x m) f (past plan log)

pub sends : (plan : PlanView) (x : Readings) (m : Masks) (disk : Disk) (log : List Happening) (f : Frame) → HasMarks x log → Agrees plan x log → MayHappen plan m disk log (Said f) → Sends plan x m log f
sends plan x m disk log f marked_in agrees may = ⊎_elim
    (λ (said : IsAnnouncedOn plan disk log f).
    let a = announced plan (take said.0 (head_journal log)) f said.2 in
    record { kind = Announcement; is_kind = a.kind; has = announcement_is plan x m (past plan log) f (agrees.announces said.0 f a) a.word })
    (λ other. ⊎_elim
    (λ (r : IsReadingOf plan m disk log f). let is = reading_is plan x m disk log (past plan log) f marked_in r in record { kind = Reading; is_kind = is.0; has = is.1 })
    (λ (a : IsAnswerOf plan m disk log f).
    let is = answer_is plan x m disk log (past plan log) f (agrees.told f.tag.group f.tag.meter f.tag.round f.missing (answered_set plan m disk log f a)) a in
    record { kind = Answer; is_kind = is.0; has = is.1 })
    other)
    may

sent_by_kind : (plan : PlanView) (x : Readings) (m : Masks) (log : List Happening) (f : Frame) → Sends plan x m log f → SentBy f.tag.kind (shape_of_readings plan.groups x) f (Send f.tag ∷ past plan log)
sent_by_kind plan x m log f is =
    subst (λ k. SentBy k (shape_of_readings plan.groups x) f (Send f.tag ∷ past plan log)) (sym is.is_kind) (sent_now is.kind plan x m f (past plan log) is.is_kind is.has)

-- ---- what was heard

-- the announcement of a set that was said is taken now
heard_now : (s : Shape) (g i r : ℕ) (set : List ℕ) (p : List Event) → SentBy Announcement s (record { tag = told_tag g r i; missing = set; word = 0 }) p → IsTold s g i r set (Take (told_tag g r i) ∷ p)
heard_now s g i r set p sent = record {
  taken = once-now (λ e before. is_take g r i Announcement e && is_announcement_sent s g r i before) (Take (told_tag g r i)) p
      (and_from (is_take g r i Announcement (Take (told_tag g r i))) (is_announcement_sent s g r i p) (is_send-itself g r i Announcement) sent.2);
  set_is = missing-closed s g r (Take (told_tag g r i)) p sent.0 ∙ sent.1;
}

-- the journal of a meter after one more line of some meter
line_of : (j : List Noted) (line : Noted) (here : Bool) (r : ℕ) (set : List ℕ) → kept (if here then j ++ line ∷ [] else j) r ≡ Some set → (kept j r ≡ Some set) ⊎ ((here ≡ true) × (line ≡ Kept r set))
line_of j line true r set is = ⊎_elim (λ before. inl before) (λ now. inr (refl, now)) (kept_split j line r set is)
line_of j line false r set is = inl is

-- ---- step by step

-- readings that were marked before are marked
pub marks_before : (x : Readings) (h : Happening) (log : List Happening) → HasMarks x (h ∷ log) → HasMarks x log
marks_before x (Headed line) log has g r i v is = has g r i v is
marks_before x (Said f) log has g r i v is = has g r i v is
marks_before x (Noticed h k line) log has g r i v is = has g r i v (later ((h == g) && (k == i)))
  where
    later : (b : Bool) → marked (if b then meter_journal g i log ++ line ∷ [] else meter_journal g i log) r ≡ Some v
    later true = marked_later (meter_journal g i log) line r v is
    later false = is

nobody_told : (r : ℕ) (set : List ℕ) → kept [] r ≡ Some set → ⊥
unfolding kept
nobody_told r set is = absurd cc

nothing_read : (q v r : ℕ) (set : List ℕ) → Read q v ≡ Kept r set → ⊥
nothing_read q v r set is = false≢true (ap is_kept is)
  where
    is_kept : Noted → Bool
    is_kept (Read q v) = false
    is_kept (Kept q set) = true

-- one more line of the head end's journal: what all its lines announce, or the first ones
announces_more : (plan : PlanView) (x : Readings) (log : List Happening) (line : Logged) (rest : List Event) → Agrees plan x log
    → Same plan (shape_of_readings plan.groups x) (head_journal log ++ line ∷ []) (and_then (past plan log) rest) → (k : ℕ) (f : Frame) → IsAnnounced plan (take k (head_journal log ++ line ∷ [])) f
    → MayAnnounce (shape_of_readings plan.groups x) f (and_then (past plan log) rest)
announces_more plan x log line rest agrees same k f is = ⊎_elim
    (λ short.
    may_announce_now plan x (head_journal log ++ line ∷ []) (and_then (past plan log) rest) f same
    (subst (λ (j : List Logged). IsAnnounced plan j f) (take_all k (head_journal log ++ line ∷ []) (let n = length-append (head_journal log) (line ∷ []) in omega (arith, n, short))) is))
    (λ long.
    may_announce_then (shape_of_readings plan.groups x) f (past plan log) rest
    (agrees.announces k f (subst (λ (j : List Logged). IsAnnounced plan j f) (take-append-le k (head_journal log) (line ∷ []) long) is)))
    (cases_lt (length (head_journal log)) k)

pub step : (plan : PlanView) (x : Readings) (m : Masks) (disk : Disk) (log : List Happening) (h : Happening) → 2 ≤ plan.w2 → HasMarks x log → Agrees plan x log → MayHappen plan m disk log h → Agrees plan x (h ∷ log)
step plan x m disk log (Headed (Took f)) long has agrees may = record {
  same = same_took plan (shape_of_readings plan.groups x) (head_journal log) (past plan log) f (agrees.said f may.0) may.1 agrees.same;
  said = still_said plan (shape_of_readings plan.groups x) log (Headed (Took f)) (Take f.tag ∷ []) refl agrees.said;
  told = λ g i r set is. told_then (shape_of_readings plan.groups x) g i r set (past plan log) (Take f.tag ∷ []) (agrees.told g i r set is);
  announces = λ k g is. announces_more plan x log (Took f) (Take f.tag ∷ []) agrees
      (same_took plan (shape_of_readings plan.groups x) (head_journal log) (past plan log) f (agrees.said f may.0) may.1 agrees.same) k g is;
}
step plan x m disk log (Headed Passed) long has agrees may =
    let rest = ends plan (passed (head_journal log)) ++ closes plan (passed (head_journal log)) in
    record {
      same = same_passed plan (shape_of_readings plan.groups x) (head_journal log) (past plan log) long agrees.same;
      said = still_said plan (shape_of_readings plan.groups x) log (Headed Passed) rest refl agrees.said;
      told = λ g i r set is. told_then (shape_of_readings plan.groups x) g i r set (past plan log) rest (agrees.told g i r set is);
      announces = λ k g is. announces_more plan x log Passed rest agrees (same_passed plan (shape_of_readings plan.groups x) (head_journal log) (past plan log) long agrees.same) k g is;
    }
step plan x m disk log (Noticed h k (Read q v)) long has agrees may = record {
  same = agrees.same;
  said = still_said plan (shape_of_readings plan.groups x) log (Noticed h k (Read q v)) [] refl agrees.said;
  told = λ g i r set is. ⊎_elim
      (λ before. agrees.told g i r set before)
      (λ now. absurd (nothing_read q v r set now.1))
      (line_of (meter_journal g i log) (Read q v) ((h == g) && (k == i)) r set is);
  announces = agrees.announces;
}
step plan x m disk log (Noticed h k (Kept q new)) long has agrees may = record {
  same = same_told plan (shape_of_readings plan.groups x) (head_journal log) (past plan log) h q k agrees.same;
  said = still_said plan (shape_of_readings plan.groups x) log (Noticed h k (Kept q new)) (Take (told_tag h q k) ∷ []) refl agrees.said;
  told = λ g i r set is. ⊎_elim
      (λ before. told_then (shape_of_readings plan.groups x) g i r set (past plan log) (Take (told_tag h q k) ∷ []) (agrees.told g i r set before))
      (λ now. here g i r set now.0 now.1)
      (line_of (meter_journal g i log) (Kept q new) ((h == g) && (k == i)) r set is);
  announces = λ n f is. may_announce_then (shape_of_readings plan.groups x) f (past plan log) (Take (told_tag h q k) ∷ []) (agrees.announces n f is);
}
  where
    round_of : Noted → ℕ
    round_of (Read r v) = r
    round_of (Kept r set) = r

    set_of : Noted → List ℕ
    set_of (Read r v) = []
    set_of (Kept r set) = set

    now_told : IsTold (shape_of_readings plan.groups x) h k q new (Take (told_tag h q k) ∷ past plan log)
    now_told = heard_now (shape_of_readings plan.groups x) h k q new (past plan log) (agrees.said (record { tag = told_tag h q k; missing = new; word = 0 }) may.2)

    here : (g i r : ℕ) (set : List ℕ) → ((h == g) && (k == i)) ≡ true → Kept q new ≡ Kept r set → IsTold (shape_of_readings plan.groups x) g i r set (Take (told_tag h q k) ∷ past plan log)
    here g i r set at line =
        let both = and_parts (h == g) (k == i) at in
        subst (λ n. IsTold (shape_of_readings plan.groups x) n i r set (Take (told_tag h q k) ∷ past plan log)) (eqb-true h g both.0)
        (subst (λ n. IsTold (shape_of_readings plan.groups x) h n r set (Take (told_tag h q k) ∷ past plan log)) (eqb-true k i both.1)
        (subst (λ n. IsTold (shape_of_readings plan.groups x) h k n set (Take (told_tag h q k) ∷ past plan log)) (ap round_of line)
        (subst (λ (l : List ℕ). IsTold (shape_of_readings plan.groups x) h k q l (Take (told_tag h q k) ∷ past plan log)) (ap set_of line) now_told)))
step plan x m disk log (Said f) long has agrees may = record {
  same = same_sent plan (shape_of_readings plan.groups x) (head_journal log) (past plan log) f.tag agrees.same;
  said = λ g was. ⊎_elim
      (λ now. subst (λ (h : Frame). SentBy h.tag.kind (shape_of_readings plan.groups x) h (Send f.tag ∷ past plan log)) (ap frame_in now) (sent_by_kind plan x m log f (sends plan x m disk log f has agrees may)))
      (λ earlier. sent_then g.tag.kind (shape_of_readings plan.groups x) g (past plan log) (Send f.tag ∷ []) (agrees.said g earlier))
      was;
  told = λ g i r set is. told_then (shape_of_readings plan.groups x) g i r set (past plan log) (Send f.tag ∷ []) (agrees.told g i r set is);
  announces = λ k g is. may_announce_then (shape_of_readings plan.groups x) g (past plan log) (Send f.tag ∷ []) (agrees.announces k g is);
}
  where
    frame_in : Happening → Frame
    frame_in (Said g) = g
    frame_in (Headed line) = f
    frame_in (Noticed g i line) = f

pub agrees_all : (plan : PlanView) (x : Readings) (m : Masks) (disk : Disk) (log : List Happening) → 2 ≤ plan.w2 → HasMarks x log → IsCourse plan m disk log → Agrees plan x log
agrees_all plan x m disk [] long has course = record {
  same = same_nil plan (shape_of_readings plan.groups x);
  said = λ f was. absurd was;
  told = λ g i r set is. absurd (nobody_told r set is);
  announces = λ k f is. may_announce_now plan x [] [] f (same_nil plan (shape_of_readings plan.groups x)) (subst (λ (j : List Logged). IsAnnounced plan j f) (take_all k [] (omega arith)) is);
}
agrees_all plan x m disk (h ∷ log) long has course =
    let before = marks_before x h log has in
    step plan x m disk log h long before (agrees_all plan x m disk log long before course.1) course.0

-- ---- what happens is a line of the schedule

table_fresh : (sent taken late : Bool) → sent ≡ true → taken ≡ false → late ≡ false → (if not sent then Void else if taken then Again else if late then Late else FreshVerdict) ≡ FreshVerdict
table_fresh sent taken late is_sent is_new is_timely =
    ap (λ b. if not b then Void else if taken then Again else if late then Late else FreshVerdict) is_sent
    ∙ ap (λ b. if b then Again else if late then Late else FreshVerdict) is_new
    ∙ ap (λ b. if b then Late else FreshVerdict) is_timely

-- a frame that is taken fresh is fresh in the schedule
fresh_there : (k : Kind) (plan : PlanView) (x : Readings) (log : List Happening) (f : Frame) → f.tag.kind ≡ k → Agrees plan x log → SentBy k (shape_of_readings plan.groups x) f (past plan log) → FreshOf k plan (head_journal log) f
    → verdict_by_table (shape_of_readings plan.groups x) k f.tag.group f.tag.round f.tag.meter (past plan log) ≡ FreshVerdict
fresh_there Reading plan x log f kind agrees sent new =
    let place = place_known plan f.tag new.0 in
    table_fresh (is_reading_sent (shape_of_readings plan.groups x) f.tag.group f.tag.round f.tag.meter (past plan log)) (is_reading_taken (shape_of_readings plan.groups x) f.tag.group f.tag.round f.tag.meter (past plan log))
    (is_closed f.tag.group f.tag.round (past plan log)) sent (agrees.same.readings f.tag.group f.tag.round f.tag.meter ∙ new.1) (agrees.same.closed f.tag.group f.tag.round place.group place.round ∙ new.2)
fresh_there Announcement plan x log f kind agrees sent new = absurd new
fresh_there Answer plan x log f kind agrees sent new =
    let place = place_known plan f.tag new.0 in
    table_fresh (is_answer_sent (shape_of_readings plan.groups x) f.tag.group f.tag.round f.tag.meter (past plan log)) (is_answer_taken (shape_of_readings plan.groups x) f.tag.group f.tag.round f.tag.meter (past plan log))
    (is_ended f.tag.group f.tag.round (past plan log)) sent (agrees.same.answers f.tag.group f.tag.round f.tag.meter ∙ new.1) (agrees.same.ended f.tag.group f.tag.round place.group place.round ∙ new.2)

line_at : (plan : PlanView) (x : Readings) (m : Masks) (disk : Disk) (log : List Happening) (h : Happening) → HasMarks x log → Agrees plan x log → MayHappen plan m disk log h → IsLine plan x m log h
line_at plan x m disk log (Headed (Took f)) has agrees may =
    verdict-table (shape_of_readings plan.groups x) f.tag.kind f.tag.group f.tag.round f.tag.meter (past plan log)
    ∙ fresh_there f.tag.kind plan x log f refl agrees (agrees.said f may.0) (fresh_is plan (head_journal log) f may.1)
line_at plan x m disk log (Headed Passed) has agrees may = tt
line_at plan x m disk log (Noticed g i (Read r v)) has agrees may = tt
line_at plan x m disk log (Noticed g i (Kept r set)) has agrees may = (agrees.said (record { tag = told_tag g r i; missing = set; word = 0 }) may.2).2
line_at plan x m disk log (Said f) has agrees may =
    let is = sends plan x m disk log f has agrees may in
    frame_is is.kind (shape_of_readings plan.groups x) (contents_of_tables plan.groups x m) f (past plan log) is.is_kind is.has

pub lines_all : (plan : PlanView) (x : Readings) (m : Masks) (disk : Disk) (log : List Happening) → 2 ≤ plan.w2 → HasMarks x log → IsCourse plan m disk log → AreLines plan x m log
lines_all plan x m disk [] long has course = tt
lines_all plan x m disk (h ∷ log) long has course =
    let before = marks_before x h log has in
    (line_at plan x m disk log h before (agrees_all plan x m disk log long before course.1) course.0, lines_all plan x m disk log long before course.1)
