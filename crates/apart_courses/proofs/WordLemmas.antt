-- The words of the frames that are taken in a course, and its totals.
use Rattle.std.proofs.Common.{◌≡◌, ℕ, ◌≤◌, Bool, true, false, ◌||◌, List, [], ◌∷◌, ◌++◌, refl, sym, ap, ◌∙◌, subst, inl, inr, ⊎_elim}
use Rattle.std.specs.Prelude.{◌⊎◌, if◌then◌else◌}
use Rattle.std.proofs.lemmas.Bool.{false≢true}
use Rattle.missing_round.specs.Masks.{Masks}
use Rattle.group_plan.specs.declared.Kind.{Kind}
use Rattle.group_plan.specs.declared.Kind.TheVariants.{Reading, Announcement, Answer}
use Rattle.group_plan.specs.declared.Tag.{Tag}
use Rattle.group_plan.specs.Plans.{PlanView}
use Rattle.meter_frames.specs.declared.Frame.{Frame}
use Rattle.event_schedule.specs.declared.Event.{Event}
use Rattle.event_schedule.specs.Events.{is_tag}
use Rattle.event_schedule.specs.Tables.{Readings}
use Rattle.event_schedule.specs.Transcript.{shape_of_readings, contents_of_tables}
use Rattle.head_end.specs.declared.answers.Logged.{Logged}
use Rattle.head_end.specs.declared.answers.Logged.TheVariants.{Took, Passed}
use Rattle.head_end.specs.Journal.{is_taken, word_taken}
use Rattle.head_end.specs.Statements.{HasWordsOf}
use Rattle.head_end.proofs.JournalLemmas.{is_taken-more, is_taken-same, word_taken-same, word_taken-stays, word_taken-first}
use Rattle.head_end.proofs.TotalLemmas.{exact}
use Rattle.apart_courses.specs.Courses.{Happening, Headed, Noticed, Said, WasSaid, head_journal, and_then, events, past}
use Rattle.apart_courses.specs.Steps.{Disk, MayHappen, IsCourse}
use Rattle.apart_courses.specs.Losses.{log_of, disk_of}
use Rattle.apart_courses.specs.Statements.{HasMarks, TotalsAreExactApart}
use Rattle.apart_courses.proofs.SentLemmas.{IsTold, told_then}
use Rattle.apart_courses.proofs.SameLemmas.{tag_is}
use Rattle.apart_courses.proofs.FrameLemmas.{HasFrame, missing_same}
use Rattle.apart_courses.proofs.AgreeLemmas.{Agrees, sends, agrees_all, marks_before, silent_before, frame_now}
use Rattle.apart_courses.proofs.CutLemmas.{course_of}

-- ---- what was said

-- the word of a frame of this kind that was said: that of the tables, an answer's to the missing set of its round
abbrev SaidWord : Kind → PlanView → Readings → Masks → Frame → List Event → Type 0
SaidWord Reading plan x m f p = (contents_of_tables plan.groups x m).reading f.tag.group f.tag.round f.tag.meter ≡ f.word
SaidWord Announcement plan x m f p = Unit {0}
SaidWord Answer plan x m f p = ((contents_of_tables plan.groups x m).answer f.tag.group f.tag.round f.tag.meter f.missing ≡ f.word) × IsTold (shape_of_readings plan.groups x) f.tag.group f.tag.meter f.tag.round f.missing p

word_then : (k : Kind) (plan : PlanView) (x : Readings) (m : Masks) (f : Frame) (p rest : List Event) → SaidWord k plan x m f p → SaidWord k plan x m f (and_then p rest)
word_then Reading plan x m f p rest is = is
word_then Announcement plan x m f p rest is = tt
word_then Answer plan x m f p rest is = (is.0, told_then (shape_of_readings plan.groups x) f.tag.group f.tag.meter f.tag.round f.missing p rest is.1)

word_now : (k : Kind) (plan : PlanView) (x : Readings) (m : Masks) (f : Frame) (p : List Event) → HasFrame k (shape_of_readings plan.groups x) (contents_of_tables plan.groups x m) f p → SaidWord k plan x m f p
word_now Reading plan x m f p has = has.word
word_now Announcement plan x m f p has = tt
word_now Answer plan x m f p has = (
  ap ((contents_of_tables plan.groups x m).answer f.tag.group f.tag.round f.tag.meter) (sym has.set) ∙ has.word,
  record { taken = has.may; set_is = has.set },
)

-- ---- what was taken

-- the answer that was taken is to the missing set of its round
record AnswerWord (plan : PlanView) (x : Readings) (m : Masks) (j : List Logged) (p : List Event) (g r i : ℕ) : Type 0 where
  set : List ℕ
  word_is : word_taken g r Answer j i ≡ (contents_of_tables plan.groups x m).answer g r i set
  told : IsTold (shape_of_readings plan.groups x) g i r set p

record Words (plan : PlanView) (x : Readings) (m : Masks) (log : List Happening) : Type 0 where
  said : (f : Frame) → WasSaid f log → SaidWord f.tag.kind plan x m f (past plan log)
  readings : (g r i : ℕ) → is_taken g r Reading (head_journal log) i ≡ true → word_taken g r Reading (head_journal log) i ≡ (contents_of_tables plan.groups x m).reading g r i
  answers : (g r i : ℕ) → is_taken g r Answer (head_journal log) i ≡ true → AnswerWord plan x m (head_journal log) (past plan log) g r i

-- a frame more: what was taken before, or this one
one_more : (g r i : ℕ) (k : Kind) (j : List Logged) (f : Frame) → is_taken g r k (j ++ Took f ∷ []) i ≡ true
    → ((is_taken g r k j i ≡ true) × (word_taken g r k (j ++ Took f ∷ []) i ≡ word_taken g r k j i)) ⊎ ((is_tag g r i k f.tag ≡ true) × (word_taken g r k (j ++ Took f ∷ []) i ≡ f.word))
one_more g r i k j f is = by (is_taken g r k j i) refl
  where
    by : (b : Bool) → is_taken g r k j i ≡ b
        → ((is_taken g r k j i ≡ true) × (word_taken g r k (j ++ Took f ∷ []) i ≡ word_taken g r k j i)) ⊎ ((is_tag g r i k f.tag ≡ true) × (word_taken g r k (j ++ Took f ∷ []) i ≡ f.word))
    by true before = inl (before, word_taken-stays g r k j (Took f) i before)
    by false new =
        let here : is_tag g r i k f.tag ≡ true = ap (λ b. b || is_tag g r i k f.tag) (sym new) ∙ sym (is_taken-more g r k j (Took f) i) ∙ is in
        inr (here, word_taken-first g r k j (Took f) i new ∙ ap (λ b. if b then f.word else 0) here)

answer_then : (plan : PlanView) (x : Readings) (m : Masks) (j more : List Logged) (p rest : List Event) (g r i : ℕ) → word_taken g r Answer more i ≡ word_taken g r Answer j i
    → AnswerWord plan x m j p g r i → AnswerWord plan x m more (and_then p rest) g r i
answer_then plan x m j more p rest g r i same is = record {
  set = is.set;
  word_is = same ∙ is.word_is;
  told = told_then (shape_of_readings plan.groups x) g i r is.set p rest is.told;
}

-- a frame that was said, under its own tag
reading_at_tag : (plan : PlanView) (x : Readings) (m : Masks) (f : Frame) (p : List Event) (g r i : ℕ) → is_tag g r i Reading f.tag ≡ true → SaidWord f.tag.kind plan x m f p → f.word ≡ (contents_of_tables plan.groups x m).reading g r i
reading_at_tag plan x m f p g r i here said =
    let at = tag_is g r i Reading f.tag here in
    let word : SaidWord Reading plan x m f p = subst (λ k. SaidWord k plan x m f p) (ap (λ (t : Tag). t.kind) at) said in
    sym word ∙ ap (λ (t : Tag). (contents_of_tables plan.groups x m).reading t.group t.round t.meter) at

answer_at_tag : (plan : PlanView) (x : Readings) (m : Masks) (f : Frame) (j : List Logged) (p rest : List Event) (g r i : ℕ) → is_tag g r i Answer f.tag ≡ true → word_taken g r Answer j i ≡ f.word
    → SaidWord f.tag.kind plan x m f p → AnswerWord plan x m j (and_then p rest) g r i
answer_at_tag plan x m f j p rest g r i here taken said =
    let at = tag_is g r i Answer f.tag here in
    let word : SaidWord Answer plan x m f p = subst (λ k. SaidWord k plan x m f p) (ap (λ (t : Tag). t.kind) at) said in
    record {
      set = f.missing;
      word_is = taken ∙ sym word.0 ∙ ap (λ (t : Tag). (contents_of_tables plan.groups x m).answer t.group t.round t.meter f.missing) at;
      told = told_then (shape_of_readings plan.groups x) g i r f.missing p rest (subst (λ (t : Tag). IsTold (shape_of_readings plan.groups x) t.group t.meter t.round f.missing p) at word.1);
    }

-- ---- step by step

still_words : (plan : PlanView) (x : Readings) (m : Masks) (log : List Happening) (rest : List Event) → Words plan x m log → (f : Frame) → WasSaid f log → SaidWord f.tag.kind plan x m f (and_then (past plan log) rest)
still_words plan x m log rest words f was = word_then f.tag.kind plan x m f (past plan log) rest (words.said f was)

nobody_taken : (g r : ℕ) (k : Kind) (i : ℕ) → is_taken g r k [] i ≡ true → ⊥
unfolding is_taken
nobody_taken g r k i is = false≢true is

step : (plan : PlanView) (x : Readings) (m : Masks) (disk : Disk) (log : List Happening) (h : Happening) → HasMarks x log → Agrees plan x log → Words plan x m log → MayHappen plan m disk log h → Words plan x m (h ∷ log)
step plan x m disk log (Headed (Took f)) has agrees words may = record {
  said = λ g was. still_words plan x m log (events plan log (Headed (Took f))) words g (silent_before g (Headed (Took f)) log refl was);
  readings = λ g r i is. ⊎_elim
      (λ old. old.1 ∙ words.readings g r i old.0)
      (λ new. new.1 ∙ reading_at_tag plan x m f (past plan log) g r i new.0 (words.said f may.0))
      (one_more g r i Reading (head_journal log) f is);
  answers = λ g r i is. ⊎_elim
      (λ old. answer_then plan x m (head_journal log) (head_journal log ++ Took f ∷ []) (past plan log) (events plan log (Headed (Took f))) g r i old.1 (words.answers g r i old.0))
      (λ new. answer_at_tag plan x m f (head_journal log ++ Took f ∷ []) (past plan log) (events plan log (Headed (Took f))) g r i new.0 new.1 (words.said f may.0))
      (one_more g r i Answer (head_journal log) f is);
}
step plan x m disk log (Headed Passed) has agrees words may = record {
  said = λ g was. still_words plan x m log (events plan log (Headed Passed)) words g (silent_before g (Headed Passed) log refl was);
  readings = λ g r i is.
      ap (λ (w : ℕ → ℕ). w i) (word_taken-same g r Reading (head_journal log) Passed (λ n. refl))
      ∙ words.readings g r i (ap (λ (t : ℕ → Bool). t i) (sym (is_taken-same g r Reading (head_journal log) Passed (λ n. refl))) ∙ is);
  answers = λ g r i is.
      answer_then plan x m (head_journal log) (head_journal log ++ Passed ∷ []) (past plan log) (events plan log (Headed Passed)) g r i
      (ap (λ (w : ℕ → ℕ). w i) (word_taken-same g r Answer (head_journal log) Passed (λ n. refl)))
      (words.answers g r i (ap (λ (t : ℕ → Bool). t i) (sym (is_taken-same g r Answer (head_journal log) Passed (λ n. refl))) ∙ is));
}
step plan x m disk log (Noticed h k line) has agrees words may = record {
  said = λ g was. still_words plan x m log (events plan log (Noticed h k line)) words g (silent_before g (Noticed h k line) log refl was);
  readings = words.readings;
  answers = λ g r i is. answer_then plan x m (head_journal log) (head_journal log) (past plan log) (events plan log (Noticed h k line)) g r i refl (words.answers g r i is);
}
step plan x m disk log (Said f) has agrees words may = record {
  said = λ g was. ⊎_elim
      (λ now. subst (λ (h : Frame). SaidWord h.tag.kind plan x m h (and_then (past plan log) (events plan log (Said f)))) (frame_now f g now) new)
      (λ earlier. still_words plan x m log (events plan log (Said f)) words g earlier)
      was;
  readings = words.readings;
  answers = λ g r i is. answer_then plan x m (head_journal log) (head_journal log) (past plan log) (events plan log (Said f)) g r i refl (words.answers g r i is);
}
  where
    new : SaidWord f.tag.kind plan x m f (and_then (past plan log) (events plan log (Said f)))
    new =
        let is = sends plan x m disk log f has agrees may in
        word_then f.tag.kind plan x m f (past plan log) (events plan log (Said f))
        (subst (λ k. SaidWord k plan x m f (past plan log)) (sym is.is_kind) (word_now is.kind plan x m f (past plan log) is.has))

words_all : (plan : PlanView) (x : Readings) (m : Masks) (disk : Disk) (log : List Happening) → 2 ≤ plan.w2 → HasMarks x log → IsCourse plan m disk log → Words plan x m log
words_all plan x m disk [] long has course = record {
  said = λ f was. absurd was;
  readings = λ g r i is. absurd (nobody_taken g r Reading i is);
  answers = λ g r i is. absurd (nobody_taken g r Answer i is);
}
words_all plan x m disk (h ∷ log) long has course =
    let before = marks_before x h log has in
    step plan x m disk log h before (agrees_all plan x m disk log long before course.1) (words_all plan x m disk log long before course.1) course.0

has_words : (plan : PlanView) (x : Readings) (m : Masks) (log : List Happening) → Agrees plan x log → Words plan x m log → HasWordsOf plan x m (head_journal log)
has_words plan x m log agrees words = record {
  readings = words.readings;
  answers = λ g r i is.
      let a = words.answers g r i is in
      a.word_is ∙ ap ((contents_of_tables plan.groups x m).answer g r i) (sym a.told.set_is ∙ missing_same plan x (head_journal log) (past plan log) g r agrees.same);
}

pub totals_exact : TotalsAreExactApart
totals_exact plan x m steps long bounded course has g r none =
    let whole = course_of plan m steps course in
    let log = log_of steps in
    exact plan x m (head_journal log) bounded (has_words plan x m log (agrees_all plan x m (disk_of steps) log long has whole) (words_all plan x m (disk_of steps) log long has whole)) g r none
