-- What the lines of a transcript say by their frames.
use Rattle.std.proofs.Common.{◌≡◌, ℕ, ◌+◌, ◌-◌, ◌*◌, ◌^◌, ◌≤◌, Bool, true, false, cond, ◌&&◌, ◌||◌, List, [], ◌∷◌, length, get_or, map, refl, sym, ap, ◌∙◌, ⊎_elim, inl, inr, ◌⊎◌, arith}
use Rattle.std.specs.Prelude.{if◌then◌else◌, is_some, Option, Some, None}
use Rattle.std.specs.List.{sum_by, filter, list_any, list_all}
use Rattle.std.proofs.lemmas.Bool.{false≢true, or_cases, or_left, or_right}
use Rattle.std.proofs.lemmas.List.Sums.{sum_by-le}
use Rattle.group_plan.specs.declared.Kind.{Kind}
use Rattle.group_plan.specs.declared.Kind.TheVariants.{Reading, Answer}
use Rattle.meter_frames.specs.declared.Frame.{Frame}
use Rattle.event_schedule.specs.declared.Event.{Event}
use Rattle.event_schedule.specs.declared.Line.{Line}
use Rattle.missing_round.specs.Words.{word, minus, reading_word, answer_word}
use Rattle.group_plan.specs.Plans.{Group, is_member, members}
use Rattle.event_schedule.specs.Schedule.{Shape, is_reading_taken, survivors, missing, is_announced, is_announcement_taken, is_answer_sent, all_answered, is_opened}
use Rattle.event_schedule.specs.Events.{once, is_send, event_of, frame_of}
use Rattle.event_schedule.specs.Tables.{Readings, Masks, reading_at, plain_sum, IsBounded, IsOfPlan}
use Rattle.event_schedule.specs.Transcript.{shape_of_readings, Contents, contents_of_tables, frame, line, lines_after, transcript}
use Rattle.event_schedule.specs.Frames.{word_or_zero, first_frame, first_word, shape_of_lines, contents_of_lines, IsPossible}
use Rattle.event_schedule.proofs.ShapeLemmas.{AgreeOn, and_where, lines_agree, missing_agree, reply_agree}
use Rattle.event_schedule.proofs.TranscriptLemmas.{Alike, lines_after-same}
use Rattle.event_schedule.proofs.ScheduleLemmas.{after, after-reverse, is_closed-from_taken, is_closed-more, missing-after, missing-closed, once-cons, present-from_taken}
use Rattle.event_schedule.proofs.ListLemmas.{and_last, sum_by-filter_same}
use Rattle.event_schedule.proofs.EventLemmas.{event_of-line, is_send-true}
use Rattle.event_schedule.proofs.MemberLemmas.{plain_sum_fits}
use Rattle.missing_round.proofs.WordLemmas.{frame_total-words}

some_is : {A : Type 0} (q : Bool) (x : A) → is_some (cond q (Some x) None) ≡ q
some_is true x = refl
some_is false x = refl

-- the line of a Send that is tested for
frame_here : (s : Shape) (c : Contents) (g r i : ℕ) (k : Kind) (p : List Event) (e : Event) → is_send g r i k e ≡ true → frame_of (line s c p e) ≡ frame s c (record { group = g; round = r; meter = i; kind = k }) p
frame_here s c g r i k p e h = ap (λ z. frame_of (line s c p z)) (is_send-true g r i k e h)

first_frame-is : (s : Shape) (c : Contents) (g r i : ℕ) (p rest : List Event) → list_any (λ e. is_send g r i Reading e) rest ≡ true → is_some (first_frame g r i (lines_after s c p rest)) ≡ s.present g r i
unfolding lines_after
first_frame-is s c g r i p [] h = absurd (false≢true h)
first_frame-is s c g r i p (e ∷ rest) h =
    ap (λ z. is_some (if is_send g r i Reading z then frame_of (line s c p e) else first_frame g r i (lines_after s c (e ∷ p) rest))) (event_of-line s c p e)
    ∙ by_case (is_send g r i Reading e) refl h (first_frame-is s c g r i (e ∷ p) rest)
  where
    by_case : (q : Bool) → is_send g r i Reading e ≡ q → (q || list_any (λ f. is_send g r i Reading f) rest) ≡ true
        → (list_any (λ f. is_send g r i Reading f) rest ≡ true → is_some (first_frame g r i (lines_after s c (e ∷ p) rest)) ≡ s.present g r i)
        → is_some (cond q (frame_of (line s c p e)) (first_frame g r i (lines_after s c (e ∷ p) rest))) ≡ s.present g r i
    by_case true is now later = ap is_some (frame_here s c g r i Reading p e is) ∙ some_is (s.present g r i) _
    by_case false is now later = later now

first_word-reading : (s : Shape) (c : Contents) (g r i : ℕ) (p rest : List Event) → is_some (first_frame g r i (lines_after s c p rest)) ≡ true → first_word g r i Reading (lines_after s c p rest) ≡ c.reading g r i
unfolding lines_after
first_word-reading s c g r i p [] h = absurd (false≢true h)
first_word-reading s c g r i p (e ∷ rest) h =
    ap (λ z. if is_send g r i Reading z && is_some (frame_of (line s c p e)) then word_or_zero (frame_of (line s c p e)) else first_word g r i Reading (lines_after s c (e ∷ p) rest)) (event_of-line s c p e)
    ∙ by_case (is_send g r i Reading e) refl
    (sym (ap (λ z. is_some (if is_send g r i Reading z then frame_of (line s c p e) else first_frame g r i (lines_after s c (e ∷ p) rest))) (event_of-line s c p e)) ∙ h)
    (first_word-reading s c g r i (e ∷ p) rest)
  where
    word_is : (q : Bool) (f : Frame) → is_some (cond q (Some f) None) ≡ true → word_or_zero (cond q (Some f) None) ≡ f.word
    word_is true f now = refl
    word_is false f now = absurd (false≢true now)

    by_case : (q : Bool) → is_send g r i Reading e ≡ q → is_some (cond q (frame_of (line s c p e)) (first_frame g r i (lines_after s c (e ∷ p) rest))) ≡ true
        → (is_some (first_frame g r i (lines_after s c (e ∷ p) rest)) ≡ true → first_word g r i Reading (lines_after s c (e ∷ p) rest) ≡ c.reading g r i)
        → cond (q && is_some (frame_of (line s c p e))) (word_or_zero (frame_of (line s c p e))) (first_word g r i Reading (lines_after s c (e ∷ p) rest)) ≡ c.reading g r i
    by_case true is now later =
        ap (λ z. cond z (word_or_zero (frame_of (line s c p e))) (first_word g r i Reading (lines_after s c (e ∷ p) rest))) now
        ∙ ap word_or_zero (frame_here s c g r i Reading p e is)
        ∙ word_is (s.present g r i) (record { tag = record { group = g; round = r; meter = i; kind = Reading }; missing = []; word = c.reading g r i }) (sym (ap is_some (frame_here s c g r i Reading p e is)) ∙ now)
    by_case false is now later = later now

first_word-answer : (s : Shape) (c : Contents) (g r i : ℕ) (p rest : List Event) → is_answer_sent s g r i p ≡ false → is_answer_sent s g r i (after p rest) ≡ true
    → first_word g r i Answer (lines_after s c p rest) ≡ c.answer g r i (missing s g r (after p rest))
unfolding after lines_after
first_word-answer s c g r i p [] none sent = absurd (false≢true (sym none ∙ sent))
first_word-answer s c g r i p (e ∷ rest) none sent =
    ap (λ z. if is_send g r i Answer z && is_some (frame_of (line s c p e)) then word_or_zero (frame_of (line s c p e)) else first_word g r i Answer (lines_after s c (e ∷ p) rest)) (event_of-line s c p e)
    ∙ by_case (is_send g r i Answer e) (is_announcement_taken s g r i p) refl refl (first_word-answer s c g r i (e ∷ p) rest)
  where
    made : Option Frame
    made = Some (record { tag = record { group = g; round = r; meter = i; kind = Answer }; missing = missing s g r p; word = c.answer g r i (missing s g r p) })

    by_case : (q heard : Bool) → is_send g r i Answer e ≡ q → is_announcement_taken s g r i p ≡ heard
        → (is_answer_sent s g r i (e ∷ p) ≡ false → is_answer_sent s g r i (after (e ∷ p) rest) ≡ true → first_word g r i Answer (lines_after s c (e ∷ p) rest) ≡ c.answer g r i (missing s g r (after (e ∷ p) rest)))
        → cond (q && is_some (frame_of (line s c p e))) (word_or_zero (frame_of (line s c p e))) (first_word g r i Answer (lines_after s c (e ∷ p) rest)) ≡ c.answer g r i (missing s g r (after (e ∷ p) rest))
    by_case false heard is hears later =
        later (once-cons _ e p ∙ ap (λ z. z && is_announcement_taken s g r i p || is_answer_sent s g r i p) is ∙ none) sent
    by_case true false is hears later =
        ap (λ f. cond (is_some f) (word_or_zero f) (first_word g r i Answer (lines_after s c (e ∷ p) rest))) (frame_here s c g r i Answer p e is ∙ ap (λ z. cond z made None) hears)
        ∙ later (once-cons _ e p ∙ ap (λ z. is_send g r i Answer e && z || is_answer_sent s g r i p) hears ∙ ap (λ z. z && false || is_answer_sent s g r i p) is ∙ none) sent
    by_case true true is hears later =
        ap (λ f. cond (is_some f) (word_or_zero f) (first_word g r i Answer (lines_after s c (e ∷ p) rest))) (frame_here s c g r i Answer p e is ∙ ap (λ z. cond z made None) hears)
        ∙ ap (c.answer g r i) (sym (missing-after s g r (e ∷ p) rest (is_closed-more g r e p (is_closed-from_taken s g r i p hears)) ∙ missing-closed s g r e p (is_closed-from_taken s g r i p hears)))

once_in : (p : Event → Bool) (q rest : List Event) → once (λ e _. p e) (after q rest) ≡ true → (once (λ e _. p e) q ≡ true) ⊎ (list_any p rest ≡ true)
unfolding after
once_in p q [] h = inl h
once_in p q (e ∷ rest) h =
    ⊎_elim
    (λ first. ⊎_elim (λ now. inr (or_left (p e) (list_any p rest) now)) (λ before. inl before) (or_cases (p e) (once (λ f _. p f) q) (sym (once-cons (λ f _. p f) e q) ∙ first)))
    (λ second. inr (or_right (p e) (list_any p rest) second))
    (once_in p (e ∷ q) rest h)

any_from_once : (p : Event → Bool) (rest : List Event) → once (λ e _. p e) (after [] rest) ≡ true → list_any p rest ≡ true
unfolding once
any_from_once p rest h = ⊎_elim (λ none. absurd (false≢true none)) (λ some. some) (once_in p [] rest h)

not_sent_yet : (s : Shape) (g r i : ℕ) → is_answer_sent s g r i [] ≡ false
unfolding once
not_sent_yet s g r i = refl

present_of : Readings → ℕ → ℕ → ℕ → Bool
present_of x g r i = is_some (x g r i)

module _ (groups : List Group) (x : Readings) (m : Masks) (ls : List Line) (of_plan : IsOfPlan groups x) (bounded : IsBounded groups x) (told : transcript groups x m (map event_of ls) ≡ ls) where
  abbrev evs : List Event
  evs = map event_of ls

  abbrev whole : List Event
  whole = after [] evs

  abbrev s1 : Shape
  s1 = shape_of_readings groups x

  abbrev s2 : Shape
  s2 = shape_of_lines groups ls

  abbrev c1 : Contents
  c1 = contents_of_tables groups x m

  abbrev c2 : Contents
  c2 = contents_of_lines ls

  lines_told : lines_after s1 c1 [] evs ≡ ls
  lines_told = told

  pub shapes_agree : AgreeOn s1 s2 whole
  unfolding AgreeOn
  shapes_agree = λ g r i sent.
      let told_frame : s1.present g r i ≡ is_some (first_frame g r i ls)
      = sym (first_frame-is s1 c1 g r i [] evs (any_from_once (λ e. is_send g r i Reading e) evs sent)) ∙ ap (λ l. is_some (first_frame g r i l)) lines_told in
      and_where (s1.present g r i) (is_member groups g r i) (is_some (first_frame g r i ls)) (of_plan g r i) told_frame

  readings_told : (g r i : ℕ) → s2.present g r i ≡ true → c1.reading g r i ≡ c2.reading g r i
  readings_told g r i there =
      sym (first_word-reading s1 c1 g r i [] evs (ap (λ l. is_some (first_frame g r i l)) lines_told ∙ and_last (is_member groups g r i) (is_some (first_frame g r i ls)) there)) ∙ ap (λ l. first_word g r i Reading l) lines_told

  answers_told : (g r i : ℕ) → is_answer_sent s2 g r i whole ≡ true → c1.answer g r i (missing s2 g r whole) ≡ c2.answer g r i (missing s2 g r whole)
  answers_told g r i sent =
      ap (c1.answer g r i) (sym (missing_agree groups s1.present s2.present g r whole shapes_agree))
      ∙ sym (first_word-answer s1 c1 g r i [] evs (not_sent_yet s1 g r i) (reply_agree groups s1.present s2.present g r i whole shapes_agree ∙ sent))
      ∙ ap (λ l. first_word g r i Answer l) lines_told

  pub totals_told : (g r : ℕ) → is_opened s2 g r whole ≡ true → c1.total g r (survivors s2 g r whole) ≡ c2.total g r (survivors s2 g r whole)
  totals_told g r opened =
      let ms : List ℕ = members groups g r in
      let taken : ℕ → Bool = λ i. is_reading_taken s2 g r i whole in
      let b : ℕ → Bool = λ i. is_answer_sent s2 g r i whole in
      let gone : List ℕ = missing s2 g r whole in
      let all : list_all b (filter taken ms) ≡ true = and_last (is_announced s2 g r whole) (all_answered s2 g r whole) opened in
      sym (plain_sum_fits groups x g r taken bounded)
      ∙ sym (frame_total-words (m.own g r) (m.pair g r) ms (reading_at x g r) taken)
      ∙ ap (λ z. word (z + minus (sum_by (λ i. answer_word (m.own g r) (m.pair g r) i gone) (filter taken ms))))
      (sum_by-filter_same taken b (λ i. reading_word (m.own g r) (m.pair g r) ms i (reading_at x g r i)) (λ i. first_word g r i Reading ls)
      (λ i got _. readings_told g r i (present-from_taken s2 g r i whole got)) ms all)
      ∙ ap (λ z. word (sum_by (λ i. first_word g r i Reading ls) (filter taken ms) + minus z))
      (sum_by-filter_same taken b (λ i. answer_word (m.own g r) (m.pair g r) i gone) (λ i. first_word g r i Answer ls)
      (λ i _ sent. answers_told g r i sent) ms all)

  alike_told : Alike s2 c1 c2 whole
  alike_told = record { readings = readings_told; answers = answers_told; totals = totals_told }

  bound_told : (g r : ℕ) → is_opened s2 g r whole ≡ true → c2.total g r (survivors s2 g r whole) ≤ (2 ^ 40 - 1) * length (survivors s2 g r whole)
  bound_told g r opened =
      let a : List ℕ = survivors s2 g r whole in
      let le : plain_sum x g r a ≤ length a * (2 ^ 40 - 1) = sum_by-le (reading_at x g r) (2 ^ 40 - 1) a (λ k d below. omega (arith, bounded.readings g r (get_or a k d))) in
      let same : c1.total g r a ≡ c2.total g r a = totals_told g r opened in
      omega (arith, le, same)

  pub possible : IsPossible groups ls
  possible = record {
    lines = sym (lines_after-same s2 c1 c2 [] evs alike_told) ∙ sym (lines_agree groups s1.present s2.present c1 [] evs shapes_agree) ∙ told;
    totals = λ g r. rw (← after-reverse evs) (bound_told g r);
  }
