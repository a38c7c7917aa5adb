-- A frame that is said is the one that a Send of the schedule has.
use Rattle.std.proofs.Common.{◌≡◌, ℕ, ◌+◌, ◌<◌, Bool, true, not, ◌&&◌, List, [], ◌∷◌, length, take, sym, ap, ◌∙◌, subst}
use Rattle.std.specs.Prelude.{nat_lt, nat_le, filter, unwrap_or, is_some, if◌then◌else◌, Option, Some, None}
use Rattle.std.specs.List.{range_with_len}
use mathlib.Core.Path.{fun_ext}
use Rattle.std.proofs.lemmas.Bool.{and_from, and_parts}
use Rattle.missing_round.specs.Masks.{Masks}
use Rattle.missing_round.specs.Words.{reading_word, answer_word}
use Rattle.group_plan.specs.declared.Kind.{Kind}
use Rattle.group_plan.specs.declared.Kind.TheVariants.{Reading, Announcement, Answer}
use Rattle.group_plan.specs.Plans.{Group, PlanView, size_or, is_member_of, members, floor_of}
use Rattle.meter_frames.specs.declared.Frame.{Frame}
use Rattle.event_schedule.specs.declared.Event.{Event}
use Rattle.event_schedule.specs.Tables.{Readings, reading_at}
use Rattle.event_schedule.specs.Schedule.{Shape, is_closed, is_reading_taken, is_announced, may_announce, missing, may_send, reaches_floor}
use Rattle.event_schedule.specs.Transcript.{Contents, frame, set_sent, word_sent, shape_of_readings, contents_of_tables}
use Rattle.head_end.specs.declared.answers.Logged.{Logged}
use Rattle.head_end.specs.Journal.{passed, is_taken, is_announced as is_announced_there, missing as missing_there}
use Rattle.meter_apart.specs.declared.part.Part.{Part}
use Rattle.meter_apart.specs.Parts.{members_in}
use Rattle.meter_apart.specs.Journal.{kept}
use Rattle.meter_apart.proofs.LawLemmas.{own_words}
use Rattle.apart_courses.specs.Courses.{Happening, meter_journal, and_then}
use Rattle.apart_courses.specs.Steps.{Disk, IsPartOf, IsReadingOf, IsAnswerOf}
use Rattle.apart_courses.proofs.SaidLemmas.{IsAnnounced}
use Rattle.apart_courses.specs.Statements.{HasMarks}
use Rattle.event_schedule.proofs.ScheduleLemmas.{is_announced-more, is_reading_taken-closed, missing-closed}
use Rattle.apart_courses.proofs.PastLemmas.{keeps}
use Rattle.apart_courses.proofs.ReplyLemmas.{place_known}
use Rattle.apart_courses.proofs.SentLemmas.{IsTold}
use Rattle.apart_courses.proofs.SameLemmas.{Same}
use Rattle.apart_courses.proofs.NotedLemmas.{marked_in_all, kept_in_all, frame_of_reading, frame_of_answer}

-- what a Send has to say of the frame
pub record HasFrame (k : Kind) (s : Shape) (c : Contents) (f : Frame) (p : List Event) : Type 0 where
  pub may : may_send s k f.tag.group f.tag.round f.tag.meter p ≡ true
  pub set : set_sent s k f.tag.group f.tag.round p ≡ f.missing
  pub word : word_sent s c k f.tag.group f.tag.round f.tag.meter p ≡ f.word

here : (s : Shape) (c : Contents) (f : Frame) (p : List Event) → HasFrame f.tag.kind s c f p → frame s c f.tag p ≡ Some f
here s c f p has =
    ap (λ b. if b
    then Some (record { tag = f.tag; missing = set_sent s f.tag.kind f.tag.group f.tag.round p; word = word_sent s c f.tag.kind f.tag.group f.tag.round f.tag.meter p })
    else None) has.may
    ∙ (λ j. Some (record { tag = f.tag; missing = has.set j; word = has.word j }))

pub frame_is : (k : Kind) (s : Shape) (c : Contents) (f : Frame) (p : List Event) → f.tag.kind ≡ k → HasFrame k s c f p → frame s c f.tag p ≡ Some f
frame_is k s c f p kind has = here s c f p (subst (λ l. HasFrame l s c f p) (sym kind) has)

-- ---- announcements

pub taken_same : (plan : PlanView) (s : Shape) (j : List Logged) (p : List Event) (g r : ℕ) → Same plan s j p → (λ i. is_reading_taken s g r i p) ≡ is_taken g r Reading j
taken_same plan s j p g r same = fun_ext (λ i. same.readings g r i)

pub missing_same : (plan : PlanView) (x : Readings) (j : List Logged) (p : List Event) (g r : ℕ) → Same plan (shape_of_readings plan.groups x) j p → missing (shape_of_readings plan.groups x) g r p ≡ missing_there plan j g r
missing_same plan x j p g r same = ap (λ (t : ℕ → Bool). filter (λ i. not (t i)) (members plan.groups g r)) (taken_same plan (shape_of_readings plan.groups x) j p g r same)

pub announced_same : (plan : PlanView) (x : Readings) (j : List Logged) (p : List Event) (g r : ℕ) → g < length plan.groups → r < plan.rounds → Same plan (shape_of_readings plan.groups x) j p
    → is_announced (shape_of_readings plan.groups x) g r p ≡ is_announced_there plan j g r
announced_same plan x j p g r group round same =
    ap (λ b. b && nat_le (floor_of plan.groups g) (length (filter (λ i. is_reading_taken (shape_of_readings plan.groups x) g r i p) (members plan.groups g r)))) (same.closed g r group round)
    ∙ ap (λ (t : ℕ → Bool). nat_lt (r + plan.w1) (passed j) && nat_le (floor_of plan.groups g) (length (filter t (members plan.groups g r)))) (taken_same plan (shape_of_readings plan.groups x) j p g r same)

-- an announcement with this set can be sent now
pub record MayAnnounce (s : Shape) (f : Frame) (p : List Event) : Type 0 where
  pub may : may_announce s f.tag.group f.tag.round f.tag.meter p ≡ true
  pub set : missing s f.tag.group f.tag.round p ≡ f.missing

pub may_announce_now : (plan : PlanView) (x : Readings) (j : List Logged) (p : List Event) (f : Frame) → Same plan (shape_of_readings plan.groups x) j p → IsAnnounced plan j f → MayAnnounce (shape_of_readings plan.groups x) f p
may_announce_now plan x j p f same is =
    let place = place_known plan f.tag is.known in
    let s = shape_of_readings plan.groups x in
    record {
      may = and_from (is_announced s f.tag.group f.tag.round p) (is_reading_taken s f.tag.group f.tag.round f.tag.meter p)
          (announced_same plan x j p f.tag.group f.tag.round place.group place.round same ∙ is.announced)
          (same.readings f.tag.group f.tag.round f.tag.meter ∙ is.survivor);
      set = missing_same plan x j p f.tag.group f.tag.round same ∙ sym is.set;
    }

-- and later
may_announce_more : (s : Shape) (f : Frame) (e : Event) (p : List Event) → MayAnnounce s f p → MayAnnounce s f (e ∷ p)
may_announce_more s f e p is =
    let both = and_parts (is_announced s f.tag.group f.tag.round p) (is_reading_taken s f.tag.group f.tag.round f.tag.meter p) is.may in
    let closed = (and_parts (is_closed f.tag.group f.tag.round p) (reaches_floor s f.tag.group f.tag.round p) both.0).0 in
    record {
      may = and_from (is_announced s f.tag.group f.tag.round (e ∷ p)) (is_reading_taken s f.tag.group f.tag.round f.tag.meter (e ∷ p))
          (is_announced-more s f.tag.group f.tag.round e p both.0)
          (is_reading_taken-closed s f.tag.group f.tag.round f.tag.meter e p closed ∙ both.1);
      set = missing-closed s f.tag.group f.tag.round e p closed ∙ is.set;
    }

pub may_announce_then : (s : Shape) (f : Frame) (p rest : List Event) → MayAnnounce s f p → MayAnnounce s f (and_then p rest)
may_announce_then s f p rest is = keeps (MayAnnounce s f) (may_announce_more s f) p rest is

pub announcement_is : (plan : PlanView) (x : Readings) (m : Masks) (p : List Event) (f : Frame) → MayAnnounce (shape_of_readings plan.groups x) f p → f.word ≡ 0
    → HasFrame Announcement (shape_of_readings plan.groups x) (contents_of_tables plan.groups x m) f p
announcement_is plan x m p f is word = record { may = is.may; set = is.set; word = sym word }

-- ---- readings

members_same : (plan : PlanView) (g i r : ℕ) (part : Part) → IsPartOf plan g i part → members_in part r ≡ members plan.groups g r
members_same plan g i r part is = ap (λ (o : Option Group). filter (is_member_of o r) (range_with_len 0 (size_or o))) is.home

pub reading_is : (plan : PlanView) (x : Readings) (m : Masks) (disk : Disk) (log : List Happening) (p : List Event) (f : Frame) → HasMarks x log → IsReadingOf plan m disk log f
    → (f.tag.kind ≡ Reading) × HasFrame Reading (shape_of_readings plan.groups x) (contents_of_tables plan.groups x m) f p
reading_is plan x m disk log p f has is =
    let g = f.tag.group in
    let r = f.tag.round in
    let i = f.tag.meter in
    let e = frame_of_reading is.part is.own (take is.lines (meter_journal g i log)) r is.reading f is.says in
    let at : x g r i ≡ Some is.reading = has g r i is.reading (marked_in_all is.lines (meter_journal g i log) r is.reading is.is_marked) in
    let value : reading_at x g r i ≡ is.reading = ap (λ o. unwrap_or o 0) at in
    let words = own_words i (is.own.own 0 r) (is.own.pair 0 r) (m.own g r) (m.pair g r) (is.has_own r) (members plan.groups g r) [] is.reading in (
      ap (λ (h : Frame). h.tag.kind) e,
      record {
        may = ap is_some at;
        set = sym (ap (λ (h : Frame). h.missing) e);
        word = ap (reading_word (m.own g r) (m.pair g r) (members plan.groups g r) i) value
            ∙ sym words.0
            ∙ ap (λ ms. reading_word (is.own.own 0 r) (is.own.pair 0 r) ms i is.reading) (sym (members_same plan g i r is.part is.is_part))
            ∙ ap (λ n. reading_word (is.own.own 0 r) (is.own.pair 0 r) (members_in is.part r) n is.reading) (sym is.is_part.meter)
            ∙ sym (ap (λ (h : Frame). h.word) e);
      },
    )

-- ---- answers

-- the set that an answer is to
pub answered_set : (plan : PlanView) (m : Masks) (disk : Disk) (log : List Happening) (f : Frame) → IsAnswerOf plan m disk log f → kept (meter_journal f.tag.group f.tag.meter log) f.tag.round ≡ Some f.missing
answered_set plan m disk log f is =
    let j = meter_journal f.tag.group f.tag.meter log in
    let e = frame_of_answer is.part is.own (take is.lines j) is.heard f is.says in
    ap (kept j) (ap (λ (h : Frame). h.tag.round) e) ∙ kept_in_all is.lines j is.heard.tag.round is.heard.missing is.is_kept ∙ ap Some (sym (ap (λ (h : Frame). h.missing) e))

pub answer_is : (plan : PlanView) (x : Readings) (m : Masks) (disk : Disk) (log : List Happening) (p : List Event) (f : Frame) → IsTold (shape_of_readings plan.groups x) f.tag.group f.tag.meter f.tag.round f.missing p → IsAnswerOf plan m disk log f
    → (f.tag.kind ≡ Answer) × HasFrame Answer (shape_of_readings plan.groups x) (contents_of_tables plan.groups x m) f p
answer_is plan x m disk log p f told is =
    let g = f.tag.group in
    let r = f.tag.round in
    let i = f.tag.meter in
    let e = frame_of_answer is.part is.own (take is.lines (meter_journal g i log)) is.heard f is.says in
    let words = own_words i (is.own.own 0 r) (is.own.pair 0 r) (m.own g r) (m.pair g r) (is.has_own r) [] f.missing 0 in (
      ap (λ (h : Frame). h.tag.kind) e,
      record {
        may = told.taken;
        set = told.set_is;
        word = ap (answer_word (m.own g r) (m.pair g r) i) told.set_is
            ∙ sym words.1
            ∙ ap (λ n. answer_word (is.own.own 0 r) (is.own.pair 0 r) n f.missing) (sym is.is_part.meter)
            ∙ ap (answer_word (is.own.own 0 r) (is.own.pair 0 r) is.part.meter) (ap (λ (h : Frame). h.missing) e)
            ∙ ap (λ q. answer_word (is.own.own 0 q) (is.own.pair 0 q) is.part.meter is.heard.missing) (ap (λ (h : Frame). h.tag.round) e)
            ∙ sym (ap (λ (h : Frame). h.word) e);
      },
    )
