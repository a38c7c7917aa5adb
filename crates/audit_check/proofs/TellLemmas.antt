-- Lines that are what their own frames make of their events: one line more, and one line less.
use Rattle.std.proofs.Common.{◌≡◌, ℕ, ◌+◌, Bool, true, false, ◌&&◌, ◌||◌, List, [], ◌∷◌, ◌++◌, map, refl, sym, ap, ◌∙◌, subst, append-nil, append_assoc, inl, inr}
use Rattle.std.specs.Prelude.{if◌then◌else◌, is_some, Some, None}
use Rattle.std.specs.List.{sum_by, filter, list_all}
use mathlib.Core.Path.{fun_ext}
use Rattle.std.proofs.lemmas.Bool.{false≢true, cases_Bool}
use Rattle.std.proofs.lemmas.List.{same_from_push}
use Rattle.missing_round.specs.Words.{word, minus}
use Rattle.group_plan.specs.declared.Kind.{Kind}
use Rattle.group_plan.specs.declared.Kind.TheVariants.{Reading, Announcement, Answer}
use Rattle.group_plan.specs.Plans.{Group}
use Rattle.event_schedule.specs.declared.Event.{Event}
use Rattle.event_schedule.specs.declared.Event.TheVariants.{Send}
use Rattle.event_schedule.specs.declared.Line.{Line}
use Rattle.event_schedule.specs.Events.{once, event_of, frame_of, is_send}
use Rattle.event_schedule.specs.Schedule.{Shape, may_send, is_sent, is_reading_sent, is_reading_taken, is_answer_sent, survivors, is_announced, is_opened, all_answered, members_of}
use Rattle.event_schedule.specs.Transcript.{Contents, line, lines_after}
use Rattle.event_schedule.specs.Frames.{word_or_zero, first_word, contents_of_lines}
use Rattle.event_schedule.specs.Journal.{past_of}
use Rattle.event_schedule.proofs.EventLemmas.{is_send-true}
use Rattle.event_schedule.proofs.ListLemmas.{and_last, sum_by-filter_same}
use Rattle.event_schedule.proofs.ScheduleLemmas.{after, after-reverse, is_reading_sent-from_taken}
use Rattle.event_schedule.proofs.ShapeLemmas.{AgreeOn, announced_agree, reply_agree, survivors_agree, lines_agree}
use Rattle.event_schedule.proofs.TranscriptLemmas.{Alike, lines_after-same, lines_after-push}
use Rattle.group_book.specs.Books.{posted}
use Rattle.group_book.proofs.LineLemmas.{IsFramed, framed-push}
use Rattle.audit_check.specs.Steps.{IsTold}

-- these lines are what these contents make of their events
abbrev pub Says : Shape → Contents → List Line → Type 0
Says s c j = lines_after s c [] (map event_of j) ≡ j

-- and these are what their own frames make of them
abbrev pub Tells : Shape → List Line → Type 0
Tells s j = Says s (contents_of_lines j) j

-- what holds of no line, and stays with each line more, holds of all
pub line_by_line : (P : List Line → Type 0) → P [] → ((j : List Line) (l : Line) → P j → P (j ++ l ∷ [])) → (j : List Line) → P j
line_by_line P none more j = from [] j none
  where
    from : (j rest : List Line) → P j → P (j ++ rest)
    from j [] p = subst P (sym (append-nil j)) p
    from j (l ∷ rest) p = subst P (append_assoc j (l ∷ []) rest) (from (j ++ l ∷ []) rest (more j l p))

events-push : (j : List Line) (l : Line) → map event_of (j ++ l ∷ []) ≡ map event_of j ++ event_of l ∷ []
events-push [] l = refl
events-push (x ∷ j) l = ap (λ es. event_of x ∷ es) (events-push j l)

-- ---- one line more, with the same contents

lines-push : (s : Shape) (c : Contents) (j : List Line) (l : Line) → lines_after s c [] (map event_of (j ++ l ∷ [])) ≡ lines_after s c [] (map event_of j) ++ line s c (past_of j) (event_of l) ∷ []
lines-push s c j l =
    ap (λ es. lines_after s c [] es) (events-push j l) ∙ lines_after-push s c [] (map event_of j) (event_of l)
    ∙ ap (λ p. lines_after s c [] (map event_of j) ++ line s c p (event_of l) ∷ []) (after-reverse (map event_of j))

pub says-pop : (s : Shape) (c : Contents) (j : List Line) (l : Line) → Says s c (j ++ l ∷ []) → Says s c j × (l ≡ line s c (past_of j) (event_of l))
says-pop s c j l says =
    let both = same_from_push (lines_after s c [] (map event_of j)) j (line s c (past_of j) (event_of l)) l (sym (lines-push s c j l) ∙ says) in
    (both.0, sym both.1)

says-push : (s : Shape) (c : Contents) (j : List Line) (l : Line) → Says s c j → l ≡ line s c (past_of j) (event_of l) → Says s c (j ++ l ∷ [])
says-push s c j l says is =
    lines-push s c j l ∙ ap (λ ls. ls ++ line s c (past_of j) (event_of l) ∷ []) says ∙ ap (λ x. j ++ x ∷ []) (sym is)

-- ---- a frame stands exactly where an effective Send of its tag came

some_is : {A : Type 0} (q : Bool) (x : A) → is_some (if q then Some x else None) ≡ q
some_is true x = refl
some_is false x = refl

pub framed_line : (s : Shape) (c : Contents) (j : List Line) (l : Line) → l ≡ line s c (past_of j) (event_of l) → IsFramed s j l
framed_line s c j l is g r i k =
    elim (cases_Bool (is_send g r i k (event_of l))) [
      | inl here ↦
          let event : event_of l ≡ Send (record { group = g; round = r; meter = i; kind = k }) = is_send-true g r i k (event_of l) here in
          ap (λ q. is_some (if q then frame_of l else None)) here
          ∙ ap is_some (ap frame_of is ∙ ap (λ e. frame_of (line s c (past_of j) e)) event)
          ∙ some_is (may_send s k g r i (past_of j)) _
          ∙ sym (ap (λ q. q && may_send s k g r i (past_of j)) here)
      | inr other ↦ ap (λ q. is_some (if q then frame_of l else None)) other ∙ sym (ap (λ q. q && may_send s k g r i (past_of j)) other)
    ]

-- every frame is posted where it was sent
abbrev pub AreFramed : Shape → List Line → Type 0
AreFramed s j = (g r i : ℕ) (k : Kind) → is_some (posted g r i k j) ≡ is_sent s k g r i (past_of j)

none_framed : (s : Shape) → AreFramed s []
unfolding once posted
none_framed s g r i Reading = refl
none_framed s g r i Announcement = refl
none_framed s g r i Answer = refl

pub framed : (s : Shape) (c : Contents) (j : List Line) → Says s c j → AreFramed s j
framed s c j = line_by_line (λ x. Says s c x → AreFramed s x) (λ says. none_framed s)
    (λ x l before says. let both = says-pop s c x l says in framed-push s x l (before both.0) (framed_line s c x l both.1)) j

-- ---- the words of frames that were sent

-- the first word of a tag that has one is the first of more lines too
pub first_word-more : (g r i : ℕ) (k : Kind) (j rest : List Line) → is_some (posted g r i k j) ≡ true → first_word g r i k (j ++ rest) ≡ first_word g r i k j
unfolding posted
first_word-more g r i k [] rest there = absurd (false≢true there)
first_word-more g r i k (l ∷ j) rest there = by_case (is_send g r i k (event_of l) && is_some (frame_of l)) there (first_word-more g r i k j rest)
  where
    by_case : (q : Bool) → is_some (if q then frame_of l else posted g r i k j) ≡ true → (is_some (posted g r i k j) ≡ true → first_word g r i k (j ++ rest) ≡ first_word g r i k j)
        → (if q then word_or_zero (frame_of l) else first_word g r i k (j ++ rest)) ≡ (if q then word_or_zero (frame_of l) else first_word g r i k j)
    by_case true there later = refl
    by_case false there later = later there

pub first_word-sent : (s : Shape) (c : Contents) (j rest : List Line) → Says s c j → (g r i : ℕ) (k : Kind) → is_sent s k g r i (past_of j) ≡ true
    → first_word g r i k (j ++ rest) ≡ first_word g r i k j
first_word-sent s c j rest says g r i k sent = first_word-more g r i k j rest (framed s c j says g r i k ∙ sent)

-- the frame total of an opened round
pub total-opened : (s : Shape) (c : Contents) (j rest : List Line) → Says s c j → (g r : ℕ) → is_opened s g r (past_of j) ≡ true
    → (contents_of_lines (j ++ rest)).total g r (survivors s g r (past_of j)) ≡ (contents_of_lines j).total g r (survivors s g r (past_of j))
total-opened s c j rest says g r opened =
    let t : ℕ → Bool = λ i. is_reading_taken s g r i (past_of j) in
    let b : ℕ → Bool = λ i. is_answer_sent s g r i (past_of j) in
    let ms : List ℕ = members_of s g r in
    let all : list_all b (filter t ms) ≡ true = and_last (is_announced s g r (past_of j)) (all_answered s g r (past_of j)) opened in
    ap (λ n. word (n + minus (sum_by (λ i. first_word g r i Answer (j ++ rest)) (filter t ms))))
    (sum_by-filter_same t b (λ i. first_word g r i Reading (j ++ rest)) (λ i. first_word g r i Reading j)
    (λ i taken _. first_word-sent s c j rest says g r i Reading (is_reading_sent-from_taken s g r i (past_of j) taken)) ms all)
    ∙ ap (λ n. word (sum_by (λ i. first_word g r i Reading j) (filter t ms) + minus n))
    (sum_by-filter_same t b (λ i. first_word g r i Answer (j ++ rest)) (λ i. first_word g r i Answer j)
    (λ i _ sent. first_word-sent s c j rest says g r i Answer sent) ms all)

-- ---- two shapes that differ at no reading that was sent

pub opened_agree : (groups : List Group) (one two : ℕ → ℕ → ℕ → Bool) (g r : ℕ) (p : List Event) →
    let s : Shape = record { groups = groups; present = one } in
    let t : Shape = record { groups = groups; present = two } in
    AgreeOn s t p → is_opened s g r p ≡ is_opened t g r p
opened_agree groups one two g r p agree =
    let s : Shape = record { groups = groups; present = one } in
    let t : Shape = record { groups = groups; present = two } in
    ap (λ q. q && all_answered s g r p) (announced_agree groups one two g r p agree)
    ∙ ap (λ f. is_announced t g r p && list_all f (survivors s g r p)) (fun_ext (λ i. reply_agree groups one two g r i p agree))
    ∙ ap (λ a. is_announced t g r p && list_all (λ i. is_answer_sent t g r i p) a) (survivors_agree groups one two g r p agree)

-- a shape with no reading but those that were sent
abbrev cut : Shape → List Event → Shape
cut s p = record { groups = s.groups; present = λ g r i. is_reading_sent s g r i p }

once-and : (test : Event → Bool) (c : Bool) (p : List Event) → once (λ e _. test e && c) p ≡ (once (λ e _. test e) p && c)
unfolding once
once-and test c [] = refl
once-and test c (e ∷ p) = ap (λ q. (test e && c) || q) (once-and test c p) ∙ by_cases (test e) c (once (λ f _. test f) p)
  where
    by_cases : (a c o : Bool) → ((a && c) || (o && c)) ≡ ((a || o) && c)
    by_cases true true o = refl
    by_cases true false true = refl
    by_cases true false false = refl
    by_cases false c o = refl

cut_agrees : (s : Shape) (p : List Event) → AgreeOn s (cut s p) p
unfolding AgreeOn
cut_agrees s p g r i sent = sym (once-and (is_send g r i Reading) (s.present g r i) p ∙ ap (λ q. q && s.present g r i) sent)

-- ---- one line more or less, each with its own frames

cut_alike : (s : Shape) (c : Contents) (j : List Line) (l : Line) → Says s c j → Alike (cut s (past_of j)) (contents_of_lines j) (contents_of_lines (j ++ l ∷ [])) (past_of j)
cut_alike s c j l says =
    let t : Shape = cut s (past_of j) in
    let agree : AgreeOn s t (past_of j) = cut_agrees s (past_of j) in
    record {
      readings = λ g r i present. sym (first_word-sent s c j (l ∷ []) says g r i Reading present);
      answers = λ g r i sent. sym (first_word-sent s c j (l ∷ []) says g r i Answer (reply_agree s.groups s.present t.present g r i (past_of j) agree ∙ sent));
      totals = λ g r opened.
          ap ((contents_of_lines j).total g r) (sym (survivors_agree s.groups s.present t.present g r (past_of j) agree))
          ∙ sym (total-opened s c j (l ∷ []) says g r (opened_agree s.groups s.present t.present g r (past_of j) agree ∙ opened))
          ∙ ap ((contents_of_lines (j ++ l ∷ [])).total g r) (survivors_agree s.groups s.present t.present g r (past_of j) agree);
    }

same_lines : (s : Shape) (c : Contents) (j : List Line) (l : Line) → Says s c j
    → lines_after s (contents_of_lines j) [] (map event_of j) ≡ lines_after s (contents_of_lines (j ++ l ∷ [])) [] (map event_of j)
same_lines s c j l says =
    let t : Shape = cut s (past_of j) in
    let past : after [] (map event_of j) ≡ past_of j = after-reverse (map event_of j) in
    let agree : AgreeOn s t (after [] (map event_of j)) = subst (AgreeOn s t) (sym past) (cut_agrees s (past_of j)) in
    let alike : Alike t (contents_of_lines j) (contents_of_lines (j ++ l ∷ [])) (after [] (map event_of j))
    = subst (Alike t (contents_of_lines j) (contents_of_lines (j ++ l ∷ []))) (sym past) (cut_alike s c j l says) in
    lines_agree s.groups s.present t.present (contents_of_lines j) [] (map event_of j) agree
    ∙ lines_after-same t (contents_of_lines j) (contents_of_lines (j ++ l ∷ [])) [] (map event_of j) alike
    ∙ sym (lines_agree s.groups s.present t.present (contents_of_lines (j ++ l ∷ [])) [] (map event_of j) agree)

pub tells-push : (s : Shape) (j : List Line) (l : Line) → Tells s j → IsTold s j l → Tells s (j ++ l ∷ [])
tells-push s j l tells told =
    says-push s (contents_of_lines (j ++ l ∷ [])) j l (sym (same_lines s (contents_of_lines j) j l tells) ∙ tells) told

pub tells-pop : (s : Shape) (j : List Line) (l : Line) → Tells s (j ++ l ∷ []) → Tells s j × IsTold s j l
tells-pop s j l tells =
    let both = says-pop s (contents_of_lines (j ++ l ∷ [])) j l tells in
    (same_lines s (contents_of_lines (j ++ l ∷ [])) j l both.0 ∙ both.0, both.1)

-- in a shape that differs at no reading that was sent
pub tells-agree : (groups : List Group) (one two : ℕ → ℕ → ℕ → Bool) (j : List Line) →
    let s : Shape = record { groups = groups; present = one } in
    let t : Shape = record { groups = groups; present = two } in
    AgreeOn s t (past_of j) → Tells s j → Tells t j
tells-agree groups one two j agree tells =
    let s : Shape = record { groups = groups; present = one } in
    let t : Shape = record { groups = groups; present = two } in
    sym (lines_agree groups one two (contents_of_lines j) [] (map event_of j) (subst (AgreeOn s t) (sym (after-reverse (map event_of j))) agree)) ∙ tells
