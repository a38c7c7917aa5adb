-- The state of a head end: at its beginning, after a frame that was taken fresh, and after a tick.
use Rattle.std.proofs.Common.{◌≡◌, ℕ, ◌+◌, ◌<◌, ◌%◌, Bool, true, false, ◌&&◌, List, [], ◌∷◌, ◌++◌, length, map, replicate, set, refl, sym, ap, ◌∙◌, subst, arith}
use Rattle.std.specs.Prelude.{◌==◌, nat_lt, if◌then◌else◌, filter, slice_index_or}
use Rattle.std.specs.List.{range_with_len}
use Rattle.std.proofs.Math.Bool.{and-false}
use Rattle.std.proofs.lemmas.Bool.{false≢true, ltb-true, lt-ltb}
use Rattle.std.proofs.lemmas.Nat.{div-mul-add, mod-mul-add}
use Rattle.std.proofs.lemmas.List.{get_or-replicate, length-replicate}
use Rattle.std.proofs.lemmas.List.FromFn.{length-map-range_with_len, get_or-map-range_with_len}
use Rattle.group_plan.specs.declared.Kind.{Kind}
use Rattle.group_plan.specs.declared.Kind.TheVariants.{Reading, Answer}
use Rattle.group_plan.specs.declared.Tag.{Tag}
use Rattle.group_plan.specs.Plans.{PlanView, members, is_place}
use Rattle.group_plan.specs.Places.{place_at, places}
use Rattle.group_plan.proofs.MeterNumbers.{in_place, place_at-lt}
use Rattle.meter_frames.specs.declared.Frame.{Frame}
use Rattle.round_machine.specs.Rounds.{RoundView}
use Rattle.event_schedule.specs.Events.{same_kind}
use Rattle.group_book.specs.Places.{all_rounds, page_at}
use Rattle.head_end.specs.declared.answers.Logged.{Logged}
use Rattle.head_end.specs.declared.answers.Logged.TheVariants.{Took, Passed}
use Rattle.head_end.specs.Journal.{passed, is_closed, is_taken, word_taken}
use Rattle.head_end.specs.Kept.{KeepsRounds, first_round, first_round_at}
use Rattle.head_end.specs.Head.{IsOf, IsKept, AreWords, IsState}
use Rattle.head_end.proofs.JournalLemmas.{word_taken-other, passed-took, passed-passed}
use Rattle.head_end.proofs.RoundLemmas.{of_other, word_here}
use Rattle.head_end.proofs.PlaceLemmas.{KnownTag, page_at-lt, rounds_after, words_after}

-- ---- the beginning

nothing_passes : (test : ℕ → Bool) (xs : List ℕ) → ((i : ℕ) → test i ≡ false) → filter test xs ≡ []
nothing_passes test [] none = refl
nothing_passes test (x ∷ xs) none = ap (λ b. if b then x ∷ filter test xs else filter test xs) (none x) ∙ nothing_passes test xs none

none_taken : (g r : ℕ) (k : Kind) (i : ℕ) → is_taken g r k [] i ≡ false
unfolding is_taken
none_taken g r k i = refl

no_word : (g r : ℕ) (k : Kind) (i : ℕ) → 0 ≡ word_taken g r k [] i
unfolding word_taken
no_word g r k i = refl

no_tick : 0 ≡ passed []
unfolding passed
no_tick = refl

kept_first : (plan : PlanView) (g r : ℕ) → IsKept plan [] g r (first_round plan g r)
kept_first plan g r = record {
  of = record {
    members_are = refl;
    floor = refl;
    taken = sym (nothing_passes (is_taken g r Reading []) (members plan.groups g r) (none_taken g r Reading));
    answered = sym (nothing_passes (is_taken g r Answer []) (members plan.groups g r) (none_taken g r Answer));
    readings = refl;
    answers = refl;
    asked = λ i m a. absurd (false≢true (sym (none_taken g r Answer i) ∙ a));
  };
  closed = λ h. absurd (false≢true h);
  running = refl;
}

first_at : (plan : PlanView) (g r : ℕ) (d : RoundView) → g < length plan.groups → r < plan.rounds
    → slice_index_or (map (first_round_at plan) (range_with_len 0 (all_rounds plan))) (page_at plan g r) d ≡ first_round plan g r
first_at plan g r d hg hr =
    get_or-map-range_with_len (first_round_at plan) 0 (all_rounds plan) (page_at plan g r) (page_at plan g r) d (page_at-lt plan g r hg hr) (omega arith)
    ∙ ap (λ n. first_round plan n (page_at plan g r % plan.rounds)) (div-mul-add g plan.rounds r hr)
    ∙ ap (λ n. first_round plan g n) (mod-mul-add g plan.rounds r hr)

words_first : (plan : PlanView) (k : Kind) → AreWords plan [] k (replicate (places plan) 0)
words_first plan k g r i d is =
    let both = in_place plan g r i is in
    get_or-replicate (places plan) (place_at plan g r i) 0 d (place_at-lt plan g r i both.0 both.1) ∙ no_word g r k i

pub keeps_first : (plan : PlanView) → KeepsRounds plan (map (first_round_at plan) (range_with_len 0 (all_rounds plan))) (replicate (places plan) 0) (replicate (places plan) 0)
keeps_first plan = record {
  rounds_long = length-map-range_with_len (first_round_at plan) 0 (all_rounds plan);
  readings_long = length-replicate (places plan) 0;
  answers_long = length-replicate (places plan) 0;
  members_are = λ g r d hg hr. ap (λ s. s.members) (first_at plan g r d hg hr);
}

pub state_first : (plan : PlanView) → IsState plan 0 (map (first_round_at plan) (range_with_len 0 (all_rounds plan))) (replicate (places plan) 0) (replicate (places plan) 0) []
state_first plan = record {
  ticks_are = no_tick;
  rounds_are = λ g r d hg hr. subst (IsKept plan [] g r) (sym (first_at plan g r d hg hr)) (kept_first plan g r);
  readings_are = words_first plan Reading;
  answers_are = words_first plan Answer;
}

-- ---- a frame

-- a frame of another round
kept_other : (plan : PlanView) (j : List Logged) (f : Frame) (g r : ℕ) (s : RoundView) → ((f.tag.group == g) && (f.tag.round == r)) ≡ false
    → IsKept plan j g r s → IsKept plan (j ++ Took f ∷ []) g r s
kept_other plan j f g r s other is = record {
  of = of_other plan j g r s (Took f) (λ k i. ap (λ b. b && (f.tag.meter == i) && same_kind f.tag.kind k) other) is.of;
  closed = λ h. ap (nat_lt (r + plan.w1)) (passed-took j f) ∙ is.closed h;
  running = is.running;
}

-- the round of the frame
kept_here : (plan : PlanView) (j : List Logged) (f : Frame) (t : RoundView) → IsOf plan (j ++ Took f ∷ []) f.tag.group f.tag.round t → t.closed ≡ is_closed plan j f.tag.round → t.ended ≡ false
    → IsKept plan (j ++ Took f ∷ []) f.tag.group f.tag.round t
kept_here plan j f t of closed unended = record {
  of = of;
  closed = λ h. ap (nat_lt (f.tag.round + plan.w1)) (passed-took j f) ∙ sym closed ∙ h;
  running = unended;
}

-- the words of another kind
words_other : (plan : PlanView) (j : List Logged) (f : Frame) (k : Kind) (words : List ℕ) → same_kind f.tag.kind k ≡ false → AreWords plan j k words → AreWords plan (j ++ Took f ∷ []) k words
words_other plan j f k words other are g r i d is =
    are g r i d is ∙ sym (word_taken-other g r k j (Took f) i (ap (λ b. is_here_in f.tag g r i && b) other ∙ and-false (is_here_in f.tag g r i)))
  where
    is_here_in : Tag → ℕ → ℕ → ℕ → Bool
    is_here_in tag g r i = (tag.group == g) && (tag.round == r) && (tag.meter == i)

-- the words of the frame's kind
words_here : (plan : PlanView) (j : List Logged) (f : Frame) (k : Kind) (words : List ℕ) → same_kind f.tag.kind k ≡ true → is_place plan f.tag.group f.tag.round f.tag.meter ≡ true → length words ≡ places plan
    → is_taken f.tag.group f.tag.round k j f.tag.meter ≡ false → AreWords plan j k words
    → AreWords plan (j ++ Took f ∷ []) k (set words (place_at plan f.tag.group f.tag.round f.tag.meter) f.word)
words_here plan j f k words same place long none are =
    words_after plan words f.tag f.word (λ g r i x. x ≡ word_taken g r k (j ++ Took f ∷ []) i) place long (sym (word_here f j k same none))
    (λ g r i d is other. are g r i d is ∙ sym (word_taken-other g r k j (Took f) i (ap (λ b. b && same_kind f.tag.kind k) other)))

-- what is kept of the rounds after the frame
rounds_with : (plan : PlanView) (ticks : ℕ) (rounds : List RoundView) (readings answers : List ℕ) (j : List Logged) (f : Frame) (t : RoundView) → IsState plan ticks rounds readings answers j
    → length rounds ≡ all_rounds plan → KnownTag plan f.tag
    → IsOf plan (j ++ Took f ∷ []) f.tag.group f.tag.round t → t.closed ≡ is_closed plan j f.tag.round → t.ended ≡ false
    → (g r : ℕ) (d : RoundView) → g < length plan.groups → r < plan.rounds
    → IsKept plan (j ++ Took f ∷ []) g r (slice_index_or (set rounds (page_at plan f.tag.group f.tag.round) t) (page_at plan g r) d)
rounds_with plan ticks rounds readings answers j f t is long known of closed unended =
    rounds_after plan rounds f.tag.group f.tag.round t (IsKept plan (j ++ Took f ∷ [])) known.group known.round long (kept_here plan j f t of closed unended)
    (λ g r d hg hr other. kept_other plan j f g r (slice_index_or rounds (page_at plan g r) d) other (is.rounds_are g r d hg hr))

pub state_reading : (plan : PlanView) (ticks : ℕ) (rounds : List RoundView) (readings answers : List ℕ) (j : List Logged) (f : Frame) (t : RoundView) → f.tag.kind ≡ Reading
    → IsState plan ticks rounds readings answers j → KeepsRounds plan rounds readings answers → KnownTag plan f.tag → is_taken f.tag.group f.tag.round Reading j f.tag.meter ≡ false
    → IsOf plan (j ++ Took f ∷ []) f.tag.group f.tag.round t → t.closed ≡ is_closed plan j f.tag.round → t.ended ≡ false
    → IsState plan ticks (set rounds (page_at plan f.tag.group f.tag.round) t) (set readings (place_at plan f.tag.group f.tag.round f.tag.meter) f.word) answers (j ++ Took f ∷ [])
state_reading plan ticks rounds readings answers j f t kind is keeps known none of closed unended = record {
  ticks_are = is.ticks_are ∙ sym (passed-took j f);
  rounds_are = rounds_with plan ticks rounds readings answers j f t is keeps.rounds_long known of closed unended;
  readings_are = words_here plan j f Reading readings (ap (λ k. same_kind k Reading) kind) known.place keeps.readings_long none is.readings_are;
  answers_are = words_other plan j f Answer answers (ap (λ k. same_kind k Answer) kind) is.answers_are;
}

pub state_answer : (plan : PlanView) (ticks : ℕ) (rounds : List RoundView) (readings answers : List ℕ) (j : List Logged) (f : Frame) (t : RoundView) → f.tag.kind ≡ Answer
    → IsState plan ticks rounds readings answers j → KeepsRounds plan rounds readings answers → KnownTag plan f.tag → is_taken f.tag.group f.tag.round Answer j f.tag.meter ≡ false
    → IsOf plan (j ++ Took f ∷ []) f.tag.group f.tag.round t → t.closed ≡ is_closed plan j f.tag.round → t.ended ≡ false
    → IsState plan ticks (set rounds (page_at plan f.tag.group f.tag.round) t) readings (set answers (place_at plan f.tag.group f.tag.round f.tag.meter) f.word) (j ++ Took f ∷ [])
state_answer plan ticks rounds readings answers j f t kind is keeps known none of closed unended = record {
  ticks_are = is.ticks_are ∙ sym (passed-took j f);
  rounds_are = rounds_with plan ticks rounds readings answers j f t is keeps.rounds_long known of closed unended;
  readings_are = words_other plan j f Reading readings (ap (λ k. same_kind k Reading) kind) is.readings_are;
  answers_are = words_here plan j f Answer answers (ap (λ k. same_kind k Answer) kind) known.place keeps.answers_long none is.answers_are;
}

-- ---- a tick

kept_passed : (plan : PlanView) (j : List Logged) (g r : ℕ) (s : RoundView) → IsKept plan j g r s → IsKept plan (j ++ Passed ∷ []) g r s
kept_passed plan j g r s is = record {
  of = of_other plan j g r s Passed (λ k i. refl) is.of;
  closed = λ h.
      let lt : r + plan.w1 < passed j = ltb-true (r + plan.w1) (passed j) (is.closed h) in
      lt-ltb (r + plan.w1) (passed (j ++ Passed ∷ [])) (omega (arith, lt, passed-passed j));
  running = is.running;
}

pub state_passed : (plan : PlanView) (ticks : ℕ) (rounds : List RoundView) (readings answers : List ℕ) (j : List Logged) → IsState plan ticks rounds readings answers j
    → IsState plan (ticks + 1) rounds readings answers (j ++ Passed ∷ [])
state_passed plan ticks rounds readings answers j is = record {
  ticks_are = ap (λ n. n + 1) is.ticks_are ∙ sym (passed-passed j);
  rounds_are = λ g r d hg hr. kept_passed plan j g r (slice_index_or rounds (page_at plan g r) d) (is.rounds_are g r d hg hr);
  readings_are = λ g r i d p. is.readings_are g r i d p ∙ sym (word_taken-other g r Reading j Passed i refl);
  answers_are = λ g r i d p. is.answers_are g r i d p ∙ sym (word_taken-other g r Answer j Passed i refl);
}
