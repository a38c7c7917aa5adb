-- Equal transcripts have equal sums in opened rounds.
use Rattle.std.proofs.Common.{◌≡◌, ℕ, ◌+◌, Bool, true, not, ◌&&◌, ◌||◌, List, [], ◌∷◌, sym, ap, ◌∙◌, ⊎_elim}
use Rattle.std.specs.Prelude.{is_some, unwrap_or, Option, Some, None}
use Rattle.std.specs.List.{sum_by, filter, list_all}
use Rattle.std.proofs.lemmas.Bool.{false≢true, or_cases}
use Rattle.group_plan.specs.declared.Kind.TheVariants.{Reading, Answer}
use Rattle.group_plan.specs.declared.Tag.{Tag}
use Rattle.meter_frames.specs.declared.Frame.{Frame}
use Rattle.event_schedule.specs.declared.Event.{Event}
use Rattle.event_schedule.specs.declared.Event.TheVariants.{Send}
use Rattle.event_schedule.specs.declared.Line.{Line}
use Rattle.event_schedule.specs.declared.Line.TheVariants.{Send as SendLine, Take as TakeLine, Close as CloseLine, End as EndLine}
use Rattle.missing_round.specs.Words.{word, minus, reading_word, answer_word}
use Rattle.group_plan.specs.Plans.{Group, members}
use Rattle.event_schedule.specs.Schedule.{Shape, is_closed, is_reading_sent, is_reading_taken, survivors, missing, is_announced, is_announcement_taken, is_answer_sent}
use Rattle.event_schedule.specs.Events.{once, is_send}
use Rattle.event_schedule.specs.Tables.{Readings, Masks, reading_at, plain_sum, IsBounded}
use Rattle.event_schedule.specs.Transcript.{shape_of_readings, Contents, contents_of_tables, frame, line, lines_after, transcript}
use Rattle.ideal_masks.specs.Pools.{Pool, nobody, others, is_open, ShareWords}
use Rattle.ideal_masks.specs.Offsets.{AgreeFor, Agree}
use Rattle.event_schedule.proofs.ScheduleLemmas.{after, is_closed-from_answer, is_closed-from_taken, is_reading_sent-from_taken, missing-closed, once-cons}
use Rattle.event_schedule.proofs.ListLemmas.{and_first, and_last, sum_by-filter_same}
use Rattle.event_schedule.proofs.EventLemmas.{is_send-true}
use Rattle.event_schedule.proofs.MemberLemmas.{plain_sum_fits}
use Rattle.event_schedule.proofs.TranscriptLemmas.{shape-same}
use Rattle.missing_round.proofs.WordLemmas.{frame_total-words}
use Rattle.ideal_masks.proofs.PoolLemmas.{all-or, answer-shared, nobody-shares, word-outside}

-- what a transcript tells of its words
pub record Told (s : Shape) (c d : Contents) (p : List Event) : Type 0 where
  pub readings : (g r i : ℕ) → is_reading_sent s g r i p ≡ true → c.reading g r i ≡ d.reading g r i
  pub answers : (g r i : ℕ) → is_answer_sent s g r i p ≡ true → c.answer g r i (missing s g r p) ≡ d.answer g r i (missing s g r p)

frame_word : Option Frame → ℕ
frame_word None = 0
frame_word (Some f) = f.word

line_word : Line → ℕ
line_word (SendLine tag f) = frame_word f
line_word (TakeLine tag v) = 0
line_word (CloseLine g r c) = 0
line_word (EndLine g r e) = 0

word_at : (s : Shape) (c d : Contents) (p : List Event) (tag : Tag) → line s c p (Send tag) ≡ line s d p (Send tag) → frame_word (frame s c tag p) ≡ frame_word (frame s d tag p)
unfolding line_word
word_at s c d p tag e = ap line_word e

told_reading : (s : Shape) (c d : Contents) (p : List Event) (e : Event) → line s c p e ≡ line s d p e → Told s c d p
    → (g r i : ℕ) → is_reading_sent s g r i (e ∷ p) ≡ true → c.reading g r i ≡ d.reading g r i
unfolding frame_word
told_reading s c d p e same told g r i h =
    ⊎_elim
    (λ now.
    let present : s.present g r i ≡ true = and_last (is_send g r i Reading e) (s.present g r i) now in
    let is : e ≡ Send (record { group = g; round = r; meter = i; kind = Reading }) = is_send-true g r i Reading e (and_first (is_send g r i Reading e) (s.present g r i) now) in
    rw present at (word_at s c d p (record { group = g; round = r; meter = i; kind = Reading }) (rw is at same)))
    (told.readings g r i)
    (or_cases (is_send g r i Reading e && s.present g r i) (is_reading_sent s g r i p) (sym (once-cons _ e p) ∙ h))

told_answer : (s : Shape) (c d : Contents) (p : List Event) (e : Event) → line s c p e ≡ line s d p e → Told s c d p
    → (g r i : ℕ) → is_answer_sent s g r i (e ∷ p) ≡ true → c.answer g r i (missing s g r (e ∷ p)) ≡ d.answer g r i (missing s g r (e ∷ p))
unfolding frame_word
told_answer s c d p e same told g r i h =
    let carry = λ (closed : is_closed g r p ≡ true) (before : c.answer g r i (missing s g r p) ≡ d.answer g r i (missing s g r p)).
    ap (c.answer g r i) (missing-closed s g r e p closed) ∙ before ∙ ap (d.answer g r i) (sym (missing-closed s g r e p closed)) in
    ⊎_elim
    (λ now.
    let taken : is_announcement_taken s g r i p ≡ true = and_last (is_send g r i Answer e) (is_announcement_taken s g r i p) now in
    let is : e ≡ Send (record { group = g; round = r; meter = i; kind = Answer }) = is_send-true g r i Answer e (and_first (is_send g r i Answer e) (is_announcement_taken s g r i p) now) in
    carry (is_closed-from_taken s g r i p taken) (rw taken at (word_at s c d p (record { group = g; round = r; meter = i; kind = Answer }) (rw is at same))))
    (λ earlier. carry (is_closed-from_answer s g r i p earlier) (told.answers g r i earlier))
    (or_cases (is_send g r i Answer e && is_announcement_taken s g r i p) (is_answer_sent s g r i p) (sym (once-cons _ e p) ∙ h))

told_more : (s : Shape) (c d : Contents) (p : List Event) (e : Event) → line s c p e ≡ line s d p e → Told s c d p → Told s c d (e ∷ p)
told_more s c d p e same told = record {
  readings = told_reading s c d p e same told;
  answers = told_answer s c d p e same told;
}

pub told_after : (s : Shape) (c d : Contents) (p rest : List Event) → lines_after s c p rest ≡ lines_after s d p rest → Told s c d p → Told s c d (after p rest)
unfolding after lines_after
told_after s c d p [] same told = told
told_after s c d p (e ∷ rest) same told =
    let head : line s c p e ≡ line s d p e = cc same in
    let tail : lines_after s c (e ∷ p) rest ≡ lines_after s d (e ∷ p) rest = cc same in
    told_after s c d (e ∷ p) rest tail (told_more s c d p e head told)

told_none : (s : Shape) (c d : Contents) → Told s c d []
unfolding once
told_none s c d = record { readings = λ g r i h. absurd (false≢true h); answers = λ g r i h. absurd (false≢true h) }

-- rounds that are open to a pool have one frame_total where the words of the pool are the same, and so one sum modulo 2^64
pub word-plain_sum : (pool : Pool) (groups : List Group) (x y : Readings) (m k : Masks) (p : List Event) → ShareWords pool m k
    → Told (shape_of_readings groups x) (contents_of_tables groups x m) (contents_of_tables groups y k) p
    → (g r : ℕ) → is_open pool (shape_of_readings groups x) g r p ≡ true → word (plain_sum x g r (survivors (shape_of_readings groups x) g r p)) ≡ word (plain_sum y g r (survivors (shape_of_readings groups x) g r p))
word-plain_sum pool groups x y m k p shared told g r open_to =
    let s : Shape = shape_of_readings groups x in
    let ms : List ℕ = members groups g r in
    let t : ℕ → Bool = λ i. is_reading_taken s g r i p in
    let b : ℕ → Bool = λ i. is_answer_sent s g r i p in
    let either : ℕ → Bool = λ i. pool g i || b i in
    let gone : List ℕ = missing s g r p in
    let all : list_all either (filter t ms) ≡ true = all-or (pool g) t b ms (and_last (is_announced s g r p) (list_all b (others pool s g r p)) open_to) in
    sym (frame_total-words (m.own g r) (m.pair g r) ms (reading_at x g r) t)
    ∙ ap (λ z. word (z + minus (sum_by (λ i. answer_word (m.own g r) (m.pair g r) i gone) (filter t ms))))
    (sum_by-filter_same t either (λ i. reading_word (m.own g r) (m.pair g r) ms i (reading_at x g r i)) (λ i. reading_word (k.own g r) (k.pair g r) ms i (reading_at y g r i))
    (λ i taken answer. told.readings g r i (is_reading_sent-from_taken s g r i p taken)) ms all)
    ∙ ap (λ z. word (sum_by (λ i. reading_word (k.own g r) (k.pair g r) ms i (reading_at y g r i)) (filter t ms) + minus z))
    (sum_by-filter_same t either (λ i. answer_word (m.own g r) (m.pair g r) i gone) (λ i. answer_word (k.own g r) (k.pair g r) i gone)
    (λ i taken known. ⊎_elim (λ inside. answer-shared pool m k g r i gone shared inside) (λ answer. told.answers g r i answer) (or_cases (pool g i) (b i) known)) ms all)
    ∙ frame_total-words (k.own g r) (k.pair g r) ms (reading_at y g r) t

pub converse_for : (pool : Pool) (groups : List Group) (x y : Readings) (m k : Masks) (events : List Event)
    → ((g r i : ℕ) → is_some (x g r i) ≡ is_some (y g r i)) → ((g r i : ℕ) → pool g i ≡ true → x g r i ≡ y g r i) → IsBounded groups x → IsBounded groups y → ShareWords pool m k
    → transcript groups x m events ≡ transcript groups y k events → AgreeFor pool groups x y (after [] events)
converse_for pool groups x y m k events presence known x_bounded y_bounded shared same =
    let s : Shape = shape_of_readings groups x in
    let told : Told s (contents_of_tables groups x m) (contents_of_tables groups y k) (after [] events)
    = told_after s (contents_of_tables groups x m) (contents_of_tables groups y k) [] events
    (same ∙ ap (λ z. lines_after z (contents_of_tables groups y k) [] events) (sym (shape-same groups x y presence)))
    (told_none s (contents_of_tables groups x m) (contents_of_tables groups y k)) in
    record {
      presence = presence;
      readings = known;
      totals = λ g r open_to.
          sym (plain_sum_fits groups x g r (λ i. not (pool g i) && is_reading_taken s g r i (after [] events)) x_bounded)
          ∙ word-outside pool s (reading_at x g r) (reading_at y g r) g r (after [] events) (λ i inside. ap (λ o. unwrap_or o 0) (known g r i inside))
          (word-plain_sum pool groups x y m k (after [] events) shared told g r open_to)
          ∙ plain_sum_fits groups y g r (λ i. not (pool g i) && is_reading_taken s g r i (after [] events)) y_bounded;
    }

pub converse : (groups : List Group) (x y : Readings) (m k : Masks) (events : List Event)
    → ((g r i : ℕ) → is_some (x g r i) ≡ is_some (y g r i)) → IsBounded groups x → IsBounded groups y
    → transcript groups x m events ≡ transcript groups y k events → Agree groups x y (after [] events)
converse groups x y m k events presence x_bounded y_bounded same =
    converse_for nobody groups x y m k events presence (λ g r i inside. absurd (false≢true inside)) x_bounded y_bounded (nobody-shares m k) same
