-- What each call of a head end comes to, by what it finds.
use Rattle.std.proofs.Common.{◌≡◌, ℕ, ◌+◌, ◌<◌, ◌≤◌, Bool, true, false, List, [], ◌∷◌, ◌++◌, length, map, replicate, set, refl, sym, ap, ◌∙◌, subst, arith}
use Rattle.std.specs.Prelude.{nat_lt, nat_le, slice_index_or, Some}
use Rattle.std.specs.List.{range_with_len}
use Rattle.std.proofs.lemmas.Bool.{false≢true, and_parts, and_from, lt-ltb}
use Rattle.std.proofs.lemmas.Bool.Decides.{nat_tests}
use Rattle.missing_round.specs.Sets.{is_member, less}
use Rattle.group_plan.specs.declared.Kind.TheVariants.{Reading, Answer}
use Rattle.group_plan.specs.Plans.{PlanView, members, floor_of, IsWithinLimits}
use Rattle.group_plan.specs.Places.{place_at, places}
use Rattle.meter_frames.specs.declared.Frame.{Frame}
use Rattle.round_machine.specs.declared.Verdict.TheVariants as verdicts
use Rattle.round_machine.specs.Rounds.{RoundView, TakesReading, TakesAnswer}
use Rattle.round_machine.specs.Rounds.{is_announced as round_announced}
use Rattle.group_book.specs.Places.{all_rounds}
use Rattle.head_end.specs.declared.answers.Logged.{Logged}
use Rattle.head_end.specs.declared.answers.Logged.TheVariants.{Took}
use Rattle.head_end.specs.declared.answers.Reply.{Reply}
use Rattle.head_end.specs.declared.answers.Reply.TheVariants.{Fresh}
use Rattle.head_end.specs.declared.head.HeadEnd.{HeadEnd}
use Rattle.head_end.specs.Journal.{passed, all_ticks, is_closed, is_ended, is_taken, word_taken, survivors}
use Rattle.head_end.specs.Replies.{announced_set, repeated, repeated_by, replied, can_pass}
use Rattle.head_end.specs.Kept.{KeepsRounds, first_round_at, has_closed}
use Rattle.head_end.specs.Head.{IsOf, IsNow, IsState, IsAfter, Replies, KeepsReading, KeepsAnswer}
use Rattle.head_end.proofs.RoundLemmas.{closed_before_end, of_reading, of_answer}
use Rattle.head_end.proofs.PlaceLemmas.{KnownTag, members-set}
use Rattle.head_end.proofs.StateLemmas.{keeps_first, state_first, state_reading, state_answer}
use Rattle.head_end.proofs.ReplyLemmas.{ReadingCame, AnswerCame, reading_taken, answer_taken, says_reading_again, says_reading_fresh, says_answer_again, says_answer_fresh, set_some, nothing_appended}

-- ---- the beginning

pub keeps_new : (plan copy : PlanView) (rounds : List RoundView) (readings answers : List ℕ) → copy ≡ plan → rounds ≡ map (first_round_at plan) (range_with_len 0 (all_rounds plan))
    → readings ≡ replicate (places plan) 0 → answers ≡ replicate (places plan) 0 → KeepsRounds copy rounds readings answers
keeps_new plan copy rounds readings answers same rounds_are readings_are answers_are =
    subst (λ p. KeepsRounds p rounds readings answers) (sym same)
    (subst (λ x. KeepsRounds plan x readings answers) (sym rounds_are)
    (subst (λ x. KeepsRounds plan (map (first_round_at plan) (range_with_len 0 (all_rounds plan))) x answers) (sym readings_are)
    (subst (λ x. KeepsRounds plan (map (first_round_at plan) (range_with_len 0 (all_rounds plan))) (replicate (places plan) 0) x) (sym answers_are) (keeps_first plan))))

pub state_new : (plan copy : PlanView) (rounds : List RoundView) (readings answers : List ℕ) → copy ≡ plan → rounds ≡ map (first_round_at plan) (range_with_len 0 (all_rounds plan))
    → readings ≡ replicate (places plan) 0 → answers ≡ replicate (places plan) 0 → IsState copy 0 rounds readings answers []
state_new plan copy rounds readings answers same rounds_are readings_are answers_are =
    subst (λ p. IsState p 0 rounds readings answers []) (sym same)
    (subst (λ x. IsState plan 0 x readings answers []) (sym rounds_are)
    (subst (λ x. IsState plan 0 (map (first_round_at plan) (range_with_len 0 (all_rounds plan))) x answers []) (sym readings_are)
    (subst (λ x. IsState plan 0 (map (first_round_at plan) (range_with_len 0 (all_rounds plan))) (replicate (places plan) 0) x []) (sym answers_are) (state_first plan))))

-- ---- the state of other fields

same_state : (p q : PlanView) (m n : ℕ) (rs ss : List RoundView) (us bs cs ds : List ℕ) (j : List Logged) → q ≡ p → n ≡ m → ss ≡ rs → bs ≡ us → ds ≡ cs → IsState p m rs us cs j → IsState q n ss bs ds j
same_state p q m n rs ss us bs cs ds j plan ticks rounds readings answers is =
    subst (λ x. IsState x n ss bs ds j) (sym plan)
    (subst (λ x. IsState p x ss bs ds j) (sym ticks)
    (subst (λ x. IsState p m x bs ds j) (sym rounds)
    (subst (λ x. IsState p m rs x ds j) (sym readings)
    (subst (λ x. IsState p m rs us x j) (sym answers) is))))

-- ---- readings

-- a round that isn't closed has not ended
unended : (plan : PlanView) (j : List Logged) (r : ℕ) → is_closed plan j r ≡ false → is_ended plan j r ≡ false
unended plan j r unclosed = by_end (is_ended plan j r) refl
  where
    by_end : (b : Bool) → is_ended plan j r ≡ b → is_ended plan j r ≡ false
    by_end true is = absurd (false≢true (sym unclosed ∙ closed_before_end r plan.w1 plan.w2 (passed j) is))
    by_end false is = is

pub reading_fresh : (old new : HeadEnd) (j : List Logged) (f : Frame) (s t : RoundView) → IsAfter j old → ReadingCame old.plan j f s → KnownTag old.plan f.tag → IsWithinLimits old.plan
    → TakesReading s f.tag.meter f.word verdicts.Fresh t → KeepsReading old f.tag t f.word new → Replies old j f Fresh new
reading_fresh old new j f s t after came known limits takes keeps =
    let g = f.tag.group in
    let r = f.tag.round in
    let set = members-set old.plan g r limits in
    let of : IsOf old.plan (j ++ Took f ∷ []) g r t
    = subst (IsOf old.plan (j ++ Took f ∷ []) g r) (sym takes.2) (of_reading old.plan j f s came.kind set came.is_in_round takes.0 came.now.of) in
    let none : is_taken g r Reading j f.tag.meter ≡ false = sym (reading_taken old.plan j f s came) ∙ takes.0 in
    let closed : t.closed ≡ is_closed old.plan j r = ap (λ x. x.closed) takes.2 ∙ came.now.closed in
    let ended : t.ended ≡ false = ap (λ x. x.ended) takes.2 ∙ came.now.ended ∙ unended old.plan j r (sym came.now.closed ∙ takes.1) in
    record {
      plan = keeps.plan;
      said_is = says_reading_fresh old.plan j f s came takes.0 takes.1;
      after = same_state old.plan new.plan old.ticks new.ticks _ _ _ _ _ _ (j ++ Took f ∷ []) keeps.plan keeps.ticks keeps.rounds keeps.readings keeps.answers
          (state_reading old.plan old.ticks old.rounds.items old.readings.items old.answers.items j f t came.kind after old.keeps known none of closed ended);
    }

pub reading_again : (old : HeadEnd) (j : List Logged) (f : Frame) (s : RoundView) (said : Reply) (x at : ℕ) → IsAfter j old → ReadingCame old.plan j f s → KnownTag old.plan f.tag
    → is_member f.tag.meter s.taken ≡ true → said ≡ repeated_by x f.word → x ≡ slice_index_or old.readings.items at x → at ≡ place_at old.plan f.tag.group f.tag.round f.tag.meter
    → Replies old j f said old
reading_again old j f s said x at after came known t said_is x_is at_is =
    let word : x ≡ word_taken f.tag.group f.tag.round Reading j f.tag.meter
    = x_is ∙ ap (λ n. slice_index_or old.readings.items n x) at_is ∙ after.readings_are f.tag.group f.tag.round f.tag.meter x known.place in
    let says : said ≡ repeated j f
    = said_is ∙ ap (λ n. repeated_by n f.word) word ∙ ap (λ k. repeated_by (word_taken f.tag.group f.tag.round k j f.tag.meter) f.word) (sym came.kind) in
    record {
      plan = refl;
      said_is = says ∙ says_reading_again old.plan j f s came t;
      after = subst (λ jj. IsAfter jj old) (sym (ap (λ y. replied y f j) said_is ∙ nothing_appended x f.word f j)) after;
    }

-- ---- answers

pub answer_fresh : (old new : HeadEnd) (j : List Logged) (f : Frame) (s t : RoundView) → IsAfter j old → AnswerCame old.plan j f s → KnownTag old.plan f.tag → IsWithinLimits old.plan
    → TakesAnswer s f.tag.meter f.word verdicts.Fresh t → KeepsAnswer old f.tag t f.word new → Replies old j f Fresh new
answer_fresh old new j f s t after came known limits takes keeps =
    let g = f.tag.group in
    let r = f.tag.round in
    let set = members-set old.plan g r limits in
    let asked : is_member f.tag.meter s.taken ≡ true = (and_parts (round_announced s) (is_member f.tag.meter s.taken) takes.0).1 in
    let of : IsOf old.plan (j ++ Took f ∷ []) g r t
    = subst (IsOf old.plan (j ++ Took f ∷ []) g r) (sym takes.3) (of_answer old.plan j f s came.kind set came.is_in_round takes.1 asked came.now.of) in
    let none : is_taken g r Answer j f.tag.meter ≡ false = sym (answer_taken old.plan j f s came) ∙ takes.1 in
    let closed : t.closed ≡ is_closed old.plan j r = ap (λ x. x.closed) takes.3 ∙ came.now.closed in
    let ended : t.ended ≡ false = ap (λ x. x.ended) takes.3 ∙ takes.2 in
    record {
      plan = keeps.plan;
      said_is = says_answer_fresh old.plan j f s came takes.0 takes.1 takes.2;
      after = same_state old.plan new.plan old.ticks new.ticks _ _ _ _ _ _ (j ++ Took f ∷ []) keeps.plan keeps.ticks keeps.rounds keeps.readings keeps.answers
          (state_answer old.plan old.ticks old.rounds.items old.readings.items old.answers.items j f t came.kind after old.keeps known none of closed ended);
    }

pub answer_again : (old : HeadEnd) (j : List Logged) (f : Frame) (s : RoundView) (said : Reply) (x at : ℕ) → IsAfter j old → AnswerCame old.plan j f s → KnownTag old.plan f.tag
    → TakesAnswer s f.tag.meter f.word verdicts.Again s → said ≡ repeated_by x f.word → x ≡ slice_index_or old.answers.items at x → at ≡ place_at old.plan f.tag.group f.tag.round f.tag.meter
    → Replies old j f said old
answer_again old j f s said x at after came known t said_is x_is at_is =
    let word : x ≡ word_taken f.tag.group f.tag.round Answer j f.tag.meter
    = x_is ∙ ap (λ n. slice_index_or old.answers.items n x) at_is ∙ after.answers_are f.tag.group f.tag.round f.tag.meter x known.place in
    let says : said ≡ repeated j f
    = said_is ∙ ap (λ n. repeated_by n f.word) word ∙ ap (λ k. repeated_by (word_taken f.tag.group f.tag.round k j f.tag.meter) f.word) (sym came.kind) in
    record {
      plan = refl;
      said_is = says ∙ says_answer_again old.plan j f s came t.0 t.1;
      after = subst (λ jj. IsAfter jj old) (sym (ap (λ y. replied y f j) said_is ∙ nothing_appended x f.word f j)) after;
    }

-- ---- the announced set

pub announced_some : (plan : PlanView) (ticks : ℕ) (j : List Logged) (g r : ℕ) (s : RoundView) (xs ms set : List ℕ) (n floor : ℕ) → IsNow plan j g r s → has_closed plan ticks r ≡ true → ticks ≡ passed j
    → xs ≡ s.taken → n ≡ length xs → floor ≡ floor_of plan.groups g → floor ≤ n → ms ≡ members plan.groups g r → set ≡ less ms xs → Some set ≡ announced_set plan j g r
announced_some plan ticks j g r s xs ms set n floor now closed ticks_are xs_are n_is floor_is enough ms_are set_is =
    let are : xs ≡ survivors plan j g r = xs_are ∙ now.of.taken in
    let closes : is_closed plan j r ≡ true = ap (nat_lt (r + plan.w1)) (sym ticks_are) ∙ closed in
    let long : floor_of plan.groups g ≤ length (survivors plan j g r) = omega (arith, enough, floor_is, n_is, ap length are) in
    let reaches : nat_le (floor_of plan.groups g) (length (survivors plan j g r)) ≡ true = grind (arith, nat_tests, long) in
    set_some plan j g r xs set (and_from (is_closed plan j r) (nat_le (floor_of plan.groups g) (length (survivors plan j g r))) closes reaches) are (set_is ∙ ap (λ x. less x xs) ms_are)

-- ---- ticks

pub passes : (h : HeadEnd) (j : List Logged) → IsAfter j h → h.ticks < all_ticks h.plan → true ≡ can_pass h.plan j
passes h j after lt = sym (lt-ltb (passed j) (all_ticks h.plan) (omega (arith, lt, after.ticks_are)))
