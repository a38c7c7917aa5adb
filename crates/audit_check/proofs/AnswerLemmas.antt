-- Who has answered, with one line more, and which rounds the line opens.
use Rattle.std.proofs.Common.{◌≡◌, ℕ, zero, suc, ◌/◌, ◌%◌, ◌<◌, ◌≤◌, Bool, true, false, ◌&&◌, ◌||◌, List, [], ◌∷◌, ◌++◌, length, set, replicate, refl, sym, ap, ◌∙◌, subst, inl, inr, arith, ⊎_elim, get_or-set_same, get_or-set_other}
use Rattle.std.specs.Prelude.{◌==◌, if◌then◌else◌, is_some, nat_le, Option, Some, None, slice_get, slice_index_or}
use Rattle.std.specs.List.{filter, list_all, range_with_len}
use mathlib.Core.Path.{fun_ext}
use Rattle.std.proofs.lemmas.Bool.{false≢true, cases_Bool, cases_lt, and_from, and_parts, eqb-true, eq-eqb, or_cases}
use Rattle.std.proofs.lemmas.Bool.Decides.{nat_tests}
use Rattle.std.proofs.lemmas.List.{get_or-replicate, length-replicate}
use Rattle.std.proofs.Math.ListN.{length-set}
use Rattle.std.proofs.lemmas.Nat.{div-mul-add, mod-mul-add, mul-add-lt}
use Rattle.missing_round.specs.Sets.{IsSet, is_member, joined}
use Rattle.missing_round.proofs.SetLemmas.{is_member-picked, set-picked, is_member-filter, is_member-joined, joined-filter}
use Rattle.group_plan.specs.declared.Kind.{Kind}
use Rattle.group_plan.specs.declared.Kind.TheVariants.{Answer}
use Rattle.group_plan.specs.declared.Tag.{Tag}
use Rattle.group_plan.specs.Plans.{Group, PlanView, size, size_or, floor_or, members, IsWithinLimits}
use Rattle.group_plan.specs.Plans.{is_member as is_member_of_group}
use Rattle.group_plan.specs.Tables.{IsPresenceTable}
use Rattle.group_plan.proofs.MeterNumbers.{in_place}
use Rattle.meter_frames.specs.declared.Frame.{Frame}
use Rattle.event_schedule.specs.declared.Event.{Event}
use Rattle.event_schedule.specs.declared.Line.{Line}
use Rattle.event_schedule.specs.declared.Line.TheVariants.{Send as SendLine, Take as TakeLine, Close as CloseLine, End as EndLine}
use Rattle.event_schedule.specs.Events.{event_of, same_kind, is_tag, is_close}
use Rattle.event_schedule.specs.Schedule.{Shape, shape_of_presence, is_closed, is_reading_taken, is_announced, reaches_floor, is_answer_sent, all_answered, is_opened, survivors, members_of}
use Rattle.event_schedule.specs.Frames.{contents_of_lines}
use Rattle.event_schedule.specs.Journal.{past_of}
use Rattle.event_schedule.proofs.ListLemmas.{and_first, and_last}
use Rattle.event_schedule.proofs.ScheduleLemmas.{once-cons, is_opened-more, survivors-closed, is_announced-from_answer, is_closed-from_answer, is_reading_taken-from_answer, present-from_taken}
use Rattle.group_book.specs.Books.{BookView, shape_of, past, posted}
use Rattle.group_book.specs.Places.{all_rounds, page_at}
use Rattle.group_book.specs.Replay.{IsJournal}
use Rattle.group_book.proofs.Tags.{is_tag-in_round}
use Rattle.group_book.proofs.LineLemmas.{first_of, posts, posted-push, past_of-push}
use Rattle.group_book.proofs.PlaceLemmas.{in_round, is_round-from_place}
use Rattle.audit_check.specs.Steps.{IsTold, IsWithinReadings, OpensWithinReadings, MayFollow}
use Rattle.audit_check.specs.Replays.{FitsBook, Gains, Says, answered_in, AreAnswered, Replays}
use Rattle.audit_check.specs.Answers.{HasNoAnswer, IsAnswerOf, MayOpen, place_of, IsOld, IsNew, AnswerEnds}
use Rattle.audit_check.proofs.TellLemmas.{framed}
use Rattle.audit_check.proofs.SayLemmas.{none_posted}
use Rattle.audit_check.proofs.JournalLemmas.{journal-pop, journals_tell}

-- ---- posted answers

posted_some : (g r i : ℕ) (k : Kind) (j : List Line) (l : Line) → is_some (posted g r i k (j ++ l ∷ [])) ≡ (is_some (posted g r i k j) || is_some (posts g r i k l))
posted_some g r i k j l = ap is_some (posted-push g r i k j l) ∙ first (posted g r i k j) (posts g r i k l)
  where
    first : (f h : Option Frame) → is_some (first_of f h) ≡ (is_some f || is_some h)
    first (Some f) h = refl
    first None h = refl

-- the line posts no answer of a meter that has sent none
abbrev pub HasNoNew : List Line → Line → Type 0
HasNoNew j l = (g r i : ℕ) → is_some (posts g r i Answer l) ≡ true → is_some (posted g r i Answer j) ≡ true

same_posted : (j : List Line) (l : Line) (g r : ℕ) → ((i : ℕ) → is_some (posts g r i Answer l) ≡ true → is_some (posted g r i Answer j) ≡ true)
    → (i : ℕ) → is_some (posted g r i Answer (j ++ l ∷ [])) ≡ is_some (posted g r i Answer j)
same_posted j l g r old i = posted_some g r i Answer j l ∙ both (is_some (posted g r i Answer j)) (is_some (posts g r i Answer l)) (old i)
  where
    both : (a b : Bool) → (b ≡ true → a ≡ true) → (a || b) ≡ a
    both true b h = refl
    both false true h = sym (h refl)
    both false false h = refl

-- an answer was sent exactly where one is posted
sent_is : (s : Shape) (j : List Line) → IsJournal s j → (g r i : ℕ) → is_answer_sent s g r i (past_of j) ≡ is_some (posted g r i Answer j)
sent_is s j is g r i = sym (framed s (contents_of_lines j) j (journals_tell s j is) g r i Answer)

-- ---- rounds that the line doesn't open

-- where each answer is an old one, a round of the plan isn't opened now
not_opened : (s : Shape) (j : List Line) (l : Line) (g r : ℕ) → IsJournal s j → IsJournal s (j ++ l ∷ []) → 2 ≤ floor_or (slice_get s.groups g)
    → ((i : ℕ) → is_some (posts g r i Answer l) ≡ true → is_some (posted g r i Answer j) ≡ true)
    → is_opened s g r (past_of (j ++ l ∷ [])) ≡ true → is_opened s g r (past_of j) ≡ true
not_opened s j l g r before now floor old opened =
    let p : List Event = past_of j in
    let q : List Event = past_of (j ++ l ∷ []) in
    let same : (i : ℕ) → is_answer_sent s g r i q ≡ is_answer_sent s g r i p = λ i. sent_is s (j ++ l ∷ []) now g r i ∙ same_posted j l g r old i ∙ sym (sent_is s j before g r i) in
    let announced : is_announced s g r q ≡ true = and_first (is_announced s g r q) (all_answered s g r q) opened in
    let all : list_all (λ i. is_answer_sent s g r i q) (survivors s g r q) ≡ true = and_last (is_announced s g r q) (all_answered s g r q) opened in
    let reached : nat_le (floor_or (slice_get s.groups g)) (length (survivors s g r q)) ≡ true = and_last (is_closed g r q) (reaches_floor s g r q) announced in
    let one : (i : ℕ) × (is_answer_sent s g r i q ≡ true) = some_of (λ i. is_answer_sent s g r i q) (survivors s g r q) (grind (arith, nat_tests, floor, reached)) all in
    let sent : is_answer_sent s g r one.0 p ≡ true = sym (same one.0) ∙ one.1 in
    let stays : survivors s g r q ≡ survivors s g r p = ap (survivors s g r) (past_of-push j l) ∙ survivors-closed s g r (event_of l) p (is_closed-from_answer s g r one.0 p sent) in
    and_from (is_announced s g r p) (all_answered s g r p) (is_announced-from_answer s g r one.0 p sent)
    (ap (λ f. list_all f (survivors s g r p)) (fun_ext (λ i. sym (same i))) ∙ ap (list_all (λ i. is_answer_sent s g r i q)) (sym stays) ∙ all)
  where
    some_of : (f : ℕ → Bool) (xs : List ℕ) → 2 ≤ length xs → list_all f xs ≡ true → (i : ℕ) × (f i ≡ true)
    some_of f [] long all = absurd (omega (arith, long))
    some_of f (x ∷ xs) long all = (x, (and_parts (f x) (list_all f xs) all).0)

-- no line closes a round outside the plan
close_inside : (b : BookView) (l : Line) (g r : ℕ) → FitsBook b l → is_close g r (event_of l) ≡ true → g < length b.presence.plan.groups
close_inside b (SendLine tag f) g r fits is = absurd (false≢true is)
close_inside b (TakeLine tag v) g r fits is = absurd (false≢true is)
close_inside b (EndLine a m e) g r fits is = absurd (false≢true is)
close_inside b (CloseLine a m c) g r fits is =
    subst (λ x. x < length b.presence.plan.groups) (eqb-true a g (and_parts (a == g) (m == r) is).0) (in_round b.presence.plan a m fits).0

group_past : (groups : List Group) (g : ℕ) → length groups ≤ g → slice_get groups g ≡ None
group_past [] g past = none g
  where
    none : (n : ℕ) → ◌≡◌ {A = Option Group} (slice_get [] n) None
    none zero = refl
    none (suc n) = refl
group_past (x ∷ groups) zero past = absurd (omega (arith, past))
group_past (x ∷ groups) (suc g) past = group_past groups g (omega (arith, past))

-- outside the plan a round that is closed is opened, since it has no member
outside_opened : (s : Shape) (g r : ℕ) (p : List Event) → slice_get s.groups g ≡ None → is_closed g r p ≡ true → is_opened s g r p ≡ true
outside_opened s g r p none closed =
    let nobody : survivors s g r p ≡ [] = ap (λ o. filter (λ i. is_reading_taken s g r i p) (filter (is_member_of_group s.groups g r) (range_with_len 0 (size_or o)))) none in
    let low : reaches_floor s g r p ≡ true = ap (λ a. nat_le (floor_or (slice_get s.groups g)) (length a)) nobody ∙ ap (λ o. nat_le (floor_or o) 0) none in
    and_from (is_announced s g r p) (all_answered s g r p) (and_from (is_closed g r p) (reaches_floor s g r p) closed low) (ap (list_all (λ i. is_answer_sent s g r i p)) nobody)

-- a line that may be replayed opens no round in which it posts no new answer
pub opens_none : (b : BookView) (l : Line) → IsWithinLimits b.presence.plan → FitsBook b l → IsJournal (shape_of b) (b.journal ++ l ∷ []) → (g r : ℕ)
    → ((i : ℕ) → is_some (posts g r i Answer l) ≡ true → is_some (posted g r i Answer b.journal) ≡ true)
    → is_opened (shape_of b) g r (past_of (b.journal ++ l ∷ [])) ≡ true → is_opened (shape_of b) g r (past b) ≡ true
opens_none b l limits fits is g r old opened =
    let s : Shape = shape_of b in
    let q : List Event = past_of (b.journal ++ l ∷ []) in
    elim (cases_lt g (length b.presence.plan.groups)) [
      | inl inside ↦ not_opened s b.journal l g r (journal-pop s b.journal l is).0 is (limits.floor_from g inside) old opened
      | inr outside ↦
          let closed : is_closed g r q ≡ true = and_first (is_closed g r q) (reaches_floor s g r q) (and_first (is_announced s g r q) (all_answered s g r q) opened) in
          outside_opened s g r (past b) (group_past b.presence.plan.groups g outside)
          (⊎_elim (λ now. absurd (omega (arith, outside, close_inside b l g r fits now))) (λ before. before)
          (or_cases (is_close g r (event_of l)) (is_closed g r (past b)) (sym (ap (is_closed g r) (past_of-push b.journal l) ∙ once-cons _ (event_of l) (past b)) ∙ closed)))
    ]

-- ---- a new answer

members-set : (plan : PlanView) (g r : ℕ) → IsWithinLimits plan → IsSet (members plan.groups g r)
members-set plan g r limits =
    let few : size plan.groups g ≤ 256 = limits.meters g in
    set-picked (is_member_of_group plan.groups g r) 0 (size plan.groups g) (omega (arith, few))

-- the line of an answer posts one under its own tag alone
posts_own : (tag : Tag) (f : Frame) (i : ℕ) → tag.kind ≡ Answer → is_some (posts tag.group tag.round i Answer (SendLine tag (Some f))) ≡ (tag.meter == i)
posts_own tag f i kind =
    some_is (is_tag tag.group tag.round i Answer tag) ∙ is_tag-in_round tag i Answer ∙ ap (λ k. (tag.meter == i) && same_kind k Answer) kind ∙ and-true (tag.meter == i)
  where
    some_is : (q : Bool) → is_some (if q then Some f else None) ≡ q
    some_is true = refl
    some_is false = refl

    and-true : (q : Bool) → (q && true) ≡ q
    and-true true = refl
    and-true false = refl

posts_elsewhere : (tag : Tag) (f : Frame) (g r i : ℕ) → ((tag.group == g) && (tag.round == r)) ≡ false → is_some (posts g r i Answer (SendLine tag (Some f))) ≡ false
posts_elsewhere tag f g r i other =
    ap (λ q. is_some (if q && (tag.meter == i) && same_kind tag.kind Answer then Some f else None)) other

-- the meters that have answered, with the meter of the tag
answered_joined : (plan : PlanView) (j : List Line) (tag : Tag) (f : Frame) → IsWithinLimits plan → tag.kind ≡ Answer → is_member tag.meter (members plan.groups tag.group tag.round) ≡ true
    → joined tag.meter (answered_in plan j tag.group tag.round) ≡ answered_in plan (j ++ SendLine tag (Some f) ∷ []) tag.group tag.round
answered_joined plan j tag f limits kind member =
    joined-filter (λ i. is_some (posted tag.group tag.round i Answer j)) tag.meter (members plan.groups tag.group tag.round) (members-set plan tag.group tag.round limits) member
    ∙ ap (λ t. filter t (members plan.groups tag.group tag.round))
    (fun_ext (λ i. sym (posted_some tag.group tag.round i Answer j (SendLine tag (Some f)) ∙ ap (λ q. is_some (posted tag.group tag.round i Answer j) || q) (posts_own tag f i kind)
    ∙ or-swap (is_some (posted tag.group tag.round i Answer j)) (tag.meter == i))))
  where
    or-swap : (a b : Bool) → (a || b) ≡ (b || a)
    or-swap true true = refl
    or-swap true false = refl
    or-swap false true = refl
    or-swap false false = refl

-- ---- the sets, with one line more

pub none_answered : (plan : PlanView) (sets : List (List ℕ)) → sets ≡ replicate (all_rounds plan) [] → AreAnswered plan [] sets
none_answered plan sets is = subst (AreAnswered plan []) (sym is) (record {
  long = length-replicate (all_rounds plan) [];
  answered = λ g r d hg hr.
      get_or-replicate (all_rounds plan) (page_at plan g r) [] d (mul-add-lt g plan.rounds r (length plan.groups) hg hr)
      ∙ sym (nothing_passes (λ i. is_some (posted g r i Answer [])) (members plan.groups g r) (λ i. ap is_some (none_posted g r i Answer)));
})
  where
    nothing_passes : (t : ℕ → Bool) (xs : List ℕ) → ((i : ℕ) → t i ≡ false) → filter t xs ≡ []
    nothing_passes t [] none = refl
    nothing_passes t (x ∷ xs) none = ap (λ q. if q then x ∷ filter t xs else filter t xs) (none x) ∙ nothing_passes t xs none

answered_same : (plan : PlanView) (j : List Line) (l : Line) (sets : List (List ℕ)) → HasNoNew j l → AreAnswered plan j sets → AreAnswered plan (j ++ l ∷ []) sets
answered_same plan j l sets old are = record {
  long = are.long;
  answered = λ g r d hg hr. are.answered g r d hg hr ∙ ap (λ t. filter t (members plan.groups g r)) (fun_ext (λ i. sym (same_posted j l g r (old g r) i)));
}

-- after the set of one round was set
sets_after : (plan : PlanView) (sets : List (List ℕ)) (a b : ℕ) (new : List ℕ) (f : ℕ → ℕ → List ℕ) → a < length plan.groups → b < plan.rounds → length sets ≡ all_rounds plan → new ≡ f a b
    → ((g r : ℕ) (d : List ℕ) → g < length plan.groups → r < plan.rounds → ((a == g) && (b == r)) ≡ false → slice_index_or sets (page_at plan g r) d ≡ f g r)
    → (g r : ℕ) (d : List ℕ) → g < length plan.groups → r < plan.rounds → slice_index_or (set sets (page_at plan a b) new) (page_at plan g r) d ≡ f g r
sets_after plan sets a b new f ha hb long here others g r d hg hr =
    elim (cases_Bool ((a == g) && (b == r))) [
      | inl same ↦
          let both = and_parts (a == g) (b == r) same in
          let eg : a ≡ g = eqb-true a g both.0 in
          let er : b ≡ r = eqb-true b r both.1 in
          ap (λ x. slice_index_or (set sets (page_at plan a b) new) x d) (ap (λ x. page_at plan x r) (sym eg) ∙ ap (page_at plan a) (sym er))
          ∙ get_or-set_same sets (page_at plan a b) new d (rw long (mul-add-lt a plan.rounds b (length plan.groups) ha hb)) ∙ here ∙ ap (λ x. f x b) eg ∙ ap (f g) er
      | inr other ↦
          get_or-set_other sets (page_at plan a b) (page_at plan g r) new d (λ e. clash other (sym e)) ∙ others g r d hg hr other
    ]
  where
    clash : ((a == g) && (b == r)) ≡ false → page_at plan a b ≡ page_at plan g r → ⊥
    clash other e =
        let groups : a ≡ g = sym (div-mul-add a plan.rounds b hb) ∙ ap (λ n. n / plan.rounds) e ∙ div-mul-add g plan.rounds r hr in
        let rounds : b ≡ r = sym (mod-mul-add a plan.rounds b hb) ∙ ap (λ n. n % plan.rounds) e ∙ mod-mul-add g plan.rounds r hr in
        false≢true (sym other ∙ and_from (a == g) (b == r) (eq-eqb a g groups) (eq-eqb b r rounds))

-- ---- a round that is opened

-- the survivors are those that have answered exactly where the round is opened
survivors_answered : (s : Shape) (j : List Line) (g r : ℕ) → IsJournal s j → is_opened s g r (past_of j) ≡ true → survivors s g r (past_of j) ≡ filter (λ i. is_some (posted g r i Answer j)) (members_of s g r)
survivors_answered s j g r is opened =
    same (λ i. is_reading_taken s g r i (past_of j)) (λ i. is_answer_sent s g r i (past_of j)) (λ i sent. is_reading_taken-from_answer s g r i (past_of j) sent) (members_of s g r)
    (and_last (is_announced s g r (past_of j)) (all_answered s g r (past_of j)) opened)
    ∙ ap (λ t. filter t (members_of s g r)) (fun_ext (λ i. sent_is s j is g r i))
  where
    same : (t b : ℕ → Bool) → ((i : ℕ) → b i ≡ true → t i ≡ true) → (xs : List ℕ) → list_all b (filter t xs) ≡ true → filter t xs ≡ filter b xs
    same t b less [] all = refl
    same t b less (x ∷ xs) all = by_case (t x) (b x) refl (less x) all (same t b less xs)
      where
        by_case : (p q : Bool) → b x ≡ q → (q ≡ true → p ≡ true) → list_all b (if p then x ∷ filter t xs else filter t xs) ≡ true → (list_all b (filter t xs) ≡ true → filter t xs ≡ filter b xs)
            → (if p then x ∷ filter t xs else filter t xs) ≡ (if q then x ∷ filter b xs else filter b xs)
        by_case true true isnt less all later = ap (λ ys. x ∷ ys) (later (and_parts (b x) (list_all b (filter t xs)) all).1)
        by_case true false isnt less all later = absurd (false≢true (sym isnt ∙ (and_parts (b x) (list_all b (filter t xs)) all).0))
        by_case false true isnt less all later = absurd (false≢true (less refl))
        by_case false false isnt less all later = later all

opened_now : (s : Shape) (j : List Line) (g r i : ℕ) → IsJournal s j → is_some (posted g r i Answer j) ≡ true → survivors s g r (past_of j) ≡ filter (λ k. is_some (posted g r k Answer j)) (members_of s g r)
    → is_opened s g r (past_of j) ≡ true
opened_now s j g r i is sent same =
    and_from (is_announced s g r (past_of j)) (all_answered s g r (past_of j)) (is_announced-from_answer s g r i (past_of j) (sent_is s j is g r i ∙ sent))
    (ap (λ f. list_all f (survivors s g r (past_of j))) (fun_ext (λ k. sent_is s j is g r k)) ∙ ap (list_all (λ k. is_some (posted g r k Answer j))) same ∙ all_pass (λ k. is_some (posted g r k Answer j)) (members_of s g r))
  where
    all_pass : (b : ℕ → Bool) (xs : List ℕ) → list_all b (filter b xs) ≡ true
    all_pass b [] = refl
    all_pass b (x ∷ xs) = by_case (b x) refl (all_pass b xs)
      where
        by_case : (q : Bool) → b x ≡ q → list_all b (filter b xs) ≡ true → list_all b (if q then x ∷ filter b xs else filter b xs) ≡ true
        by_case true is rest = and_from (b x) (list_all b (filter b xs)) is rest
        by_case false is rest = rest

-- ---- a line that is replayed

-- one that brings no new answer
pub plain_replayed : (b : BookView) (l : Line) (c : BookView) (sets : List (List ℕ)) → IsWithinLimits b.presence.plan → FitsBook b l → Gains b l c → IsTold (shape_of b) b.journal l → IsJournal (shape_of c) c.journal
    → AreAnswered b.presence.plan b.journal sets → HasNoNew b.journal l → Replays b l true c sets
plain_replayed b l c sets limits fits gains told is are old =
    let here : IsJournal (shape_of b) (b.journal ++ l ∷ []) = subst (λ p. IsJournal (shape_of_presence p) (b.journal ++ l ∷ [])) gains.presence (subst (IsJournal (shape_of c)) gains.journal is) in (
      gains,
      record { told = told; opens = λ g r opened not_yet. absurd (false≢true (sym not_yet ∙ opens_none b l limits fits here g r (old g r) opened)) },
      subst (λ p. AreAnswered p.plan c.journal sets) (sym gains.presence) (subst (λ j. AreAnswered b.presence.plan j sets) (sym gains.journal) (answered_same b.presence.plan b.journal l sets old are)),
    )

-- lines that post no answer
posts_none : (j : List Line) (l : Line) → ((g r i : ℕ) → is_some (posts g r i Answer l) ≡ false) → HasNoNew j l
posts_none j l none g r i some = absurd (false≢true (sym (none g r i) ∙ some))

-- an answer whose tag has one already
old_answer : (tag : Tag) (f : Frame) (j : List Line) → tag.kind ≡ Answer → is_some (posted tag.group tag.round tag.meter Answer j) ≡ true → HasNoNew j (SendLine tag (Some f))
old_answer tag f j kind there g r i some =
    elim (cases_Bool ((tag.group == g) && (tag.round == r))) [
      | inl here ↦
          let both = and_parts (tag.group == g) (tag.round == r) here in
          let eg : tag.group ≡ g = eqb-true tag.group g both.0 in
          let er : tag.round ≡ r = eqb-true tag.round r both.1 in
          let mine : is_some (posts tag.group tag.round i Answer (SendLine tag (Some f))) ≡ true = ap (λ x. is_some (posts x tag.round i Answer (SendLine tag (Some f)))) eg ∙ ap (λ x. is_some (posts g x i Answer (SendLine tag (Some f)))) er ∙ some in
          let ei : tag.meter ≡ i = eqb-true tag.meter i (sym (posts_own tag f i kind) ∙ mine) in
          ap (λ x. is_some (posted x r i Answer j)) (sym eg) ∙ ap (λ x. is_some (posted tag.group x i Answer j)) (sym er) ∙ ap (λ x. is_some (posted tag.group tag.round x Answer j)) (sym ei) ∙ there
      | inr other ↦ absurd (false≢true (sym (posts_elsewhere tag f g r i other) ∙ some))
    ]

module _ (b : BookView) (tag : Tag) (f : Frame) (c : BookView) (sets new : List (List ℕ)) (limits : IsWithinLimits b.presence.plan) (table : IsPresenceTable b.presence.plan b.presence.table)
    (fits : FitsBook b (SendLine tag (Some f))) (kind : tag.kind ≡ Answer) (gains : Gains b (SendLine tag (Some f)) c) (told : IsTold (shape_of b) b.journal (SendLine tag (Some f))) (is : IsJournal (shape_of c) c.journal)
    (are : AreAnswered b.presence.plan b.journal sets) where
  abbrev l : Line
  l = SendLine tag (Some f)

  abbrev s : Shape
  s = shape_of b

  abbrev plan : PlanView
  plan = b.presence.plan

  abbrev now : List Line
  now = b.journal ++ l ∷ []

  here : IsJournal s now
  here = subst (λ p. IsJournal (shape_of_presence p) now) gains.presence (subst (IsJournal (shape_of c)) gains.journal is)

  inside : (tag.group < length plan.groups) × (tag.round < plan.rounds)
  inside = in_round plan tag.group tag.round (is_round-from_place plan tag.group tag.round tag.meter fits.0)

  at_place : slice_index_or sets (place_of c tag) [] ≡ answered_in plan b.journal tag.group tag.round
  at_place = ap (λ p. slice_index_or sets (page_at p.plan tag.group tag.round) []) gains.presence ∙ are.answered tag.group tag.round [] inside.0 inside.1

  sent_now : is_some (posted tag.group tag.round tag.meter Answer now) ≡ true
  sent_now =
      posted_some tag.group tag.round tag.meter Answer b.journal l
      ∙ ap (λ q. is_some (posted tag.group tag.round tag.meter Answer b.journal) || q) (posts_own tag f tag.meter kind ∙ eq-eqb tag.meter tag.meter refl)
      ∙ or-true (is_some (posted tag.group tag.round tag.meter Answer b.journal))
    where
      or-true : (q : Bool) → (q || true) ≡ true
      or-true true = refl
      or-true false = refl

  member : is_member tag.meter (members plan.groups tag.group tag.round) ≡ true
  member =
      let below : tag.meter < size plan.groups tag.group = (in_place plan tag.group tag.round tag.meter fits.0).1 in
      let taken : is_reading_taken s tag.group tag.round tag.meter (past_of now) ≡ true = is_reading_taken-from_answer s tag.group tag.round tag.meter (past_of now) (sent_is s now here tag.group tag.round tag.meter ∙ sent_now) in
      is_member-picked (is_member_of_group plan.groups tag.group tag.round) 0 (size plan.groups tag.group) tag.meter (omega arith) (omega (arith, below))
      ∙ table.of_members tag.group tag.round tag.meter (present-from_taken s tag.group tag.round tag.meter (past_of now) taken)

  old_replayed : IsOld c tag sets true new → Replays b l true c new
  old_replayed old =
      let among : is_member tag.meter (answered_in plan b.journal tag.group tag.round) ≡ true = sym (ap (is_member tag.meter) at_place) ∙ old.among in
      let there : is_some (posted tag.group tag.round tag.meter Answer b.journal) ≡ true
      = and_last (is_member tag.meter (members plan.groups tag.group tag.round)) (is_some (posted tag.group tag.round tag.meter Answer b.journal))
      (sym (is_member-filter (λ i. is_some (posted tag.group tag.round i Answer b.journal)) tag.meter (members plan.groups tag.group tag.round)) ∙ among) in
      subst (Replays b l true c) (sym old.stays) (plain_replayed b l c sets limits fits gains told is are (old_answer tag f b.journal kind there))

  abbrev joins : List ℕ
  joins = joined tag.meter (slice_index_or sets (place_of c tag) [])

  joins_is : joins ≡ answered_in plan now tag.group tag.round
  joins_is = ap (joined tag.meter) at_place ∙ answered_joined plan b.journal tag f limits kind member

  answered_now : new ≡ set sets (place_of c tag) joins → AreAnswered c.presence.plan c.journal new
  answered_now joined_is =
      subst (λ p. AreAnswered p.plan c.journal new) (sym gains.presence) (subst (λ j. AreAnswered plan j new) (sym gains.journal)
      (subst (AreAnswered plan now) (sym (joined_is ∙ ap (λ p. set sets (page_at p.plan tag.group tag.round) joins) gains.presence)) (record {
        long = length-set sets (page_at plan tag.group tag.round) joins ∙ are.long;
        answered = sets_after plan sets tag.group tag.round joins (answered_in plan now) inside.0 inside.1 are.long joins_is
            (λ g r d hg hr other. are.answered g r d hg hr ∙ ap (λ t. filter t (members plan.groups g r))
            (fun_ext (λ i. sym (same_posted b.journal l g r (λ k some. absurd (false≢true (sym (posts_elsewhere tag f g r k other) ∙ some))) i))));
      })))

  -- in the shape and the journal of the book that was
  within_now : (g r : ℕ) → IsWithinReadings (shape_of c) c.journal g r → IsWithinReadings s now g r
  within_now g r le = subst (λ p. IsWithinReadings (shape_of_presence p) now g r) gains.presence (subst (λ j. IsWithinReadings (shape_of c) j g r) gains.journal le)

  within_then : (g r : ℕ) → IsWithinReadings s now g r → IsWithinReadings (shape_of c) c.journal g r
  within_then g r le = subst (λ j. IsWithinReadings (shape_of c) j g r) (sym gains.journal) (subst (λ p. IsWithinReadings (shape_of_presence p) now g r) (sym gains.presence) le)

  survivors_now : survivors (shape_of c) tag.group tag.round (past c) ≡ survivors s tag.group tag.round (past_of now)
  survivors_now = ap (λ p. survivors (shape_of_presence p) tag.group tag.round (past c)) gains.presence ∙ ap (λ j. survivors s tag.group tag.round (past_of j)) gains.journal

  opens_true : MayOpen c tag.group tag.round joins true → OpensWithinReadings s b.journal l
  opens_true may g r opened not_yet =
      elim (cases_Bool ((tag.group == g) && (tag.round == r))) [
        | inl same ↦
            let both = and_parts (tag.group == g) (tag.round == r) same in
            let eg : tag.group ≡ g = eqb-true tag.group g both.0 in
            let er : tag.round ≡ r = eqb-true tag.round r both.1 in
            let mine : is_opened s tag.group tag.round (past_of now) ≡ true = ap (λ x. is_opened s x tag.round (past_of now)) eg ∙ ap (λ x. is_opened s g x (past_of now)) er ∙ opened in
            subst (λ x. IsWithinReadings s now x r) eg (subst (λ x. IsWithinReadings s now tag.group x) er
            (within_now tag.group tag.round (may (survivors_now ∙ survivors_answered s now tag.group tag.round here mine ∙ sym joins_is))))
        | inr other ↦
            absurd (false≢true (sym not_yet ∙ opens_none b l limits fits here g r (λ k some. absurd (false≢true (sym (posts_elsewhere tag f g r k other) ∙ some))) opened))
      ]

  not_among : is_member tag.meter (slice_index_or sets (place_of c tag) []) ≡ false → is_opened s tag.group tag.round (past b) ≡ false
  not_among isnt =
      elim (cases_Bool (is_opened s tag.group tag.round (past b))) [
        | inl opened ↦
            let closed : is_closed tag.group tag.round (past b) ≡ true = and_first (is_closed tag.group tag.round (past b)) (reaches_floor s tag.group tag.round (past b)) (and_first (is_announced s tag.group tag.round (past b)) (all_answered s tag.group tag.round (past b)) opened) in
            let before : IsJournal s b.journal = (journal-pop s b.journal l here).0 in
            let stays : survivors s tag.group tag.round (past_of now) ≡ survivors s tag.group tag.round (past b)
            = ap (survivors s tag.group tag.round) (past_of-push b.journal l) ∙ survivors-closed s tag.group tag.round (event_of l) (past b) closed in
            let after : is_opened s tag.group tag.round (past_of now) ≡ true = ap (is_opened s tag.group tag.round) (past_of-push b.journal l) ∙ is_opened-more s tag.group tag.round (event_of l) (past b) opened in
            let same : joins ≡ slice_index_or sets (place_of c tag) []
            = joins_is ∙ sym (survivors_answered s now tag.group tag.round here after) ∙ stays ∙ survivors_answered s b.journal tag.group tag.round before opened ∙ sym at_place in
            absurd (false≢true (sym isnt ∙ sym (ap (is_member tag.meter) same) ∙ is_member-joined tag.meter tag.meter (slice_index_or sets (place_of c tag) [])
            ∙ ap (λ q. q || is_member tag.meter (slice_index_or sets (place_of c tag) [])) (eq-eqb tag.meter tag.meter refl)))
        | inr not_yet ↦ not_yet
      ]

  opens_false : is_member tag.meter (slice_index_or sets (place_of c tag) []) ≡ false → MayOpen c tag.group tag.round joins false → ¬ MayFollow s b.journal l
  opens_false isnt may follows =
      may.1 (within_then tag.group tag.round (follows.opens tag.group tag.round
      (opened_now s now tag.group tag.round tag.meter here sent_now (sym survivors_now ∙ may.0 ∙ joins_is)) (not_among isnt)))

  pub answer_replayed : (q : Bool) → AnswerEnds c tag sets q new → Replays b l q c new
  answer_replayed q ends = ⊎_elim (λ old. by_old q old.may_is old) (λ fresh. by_new q fresh) ends
    where
      by_old : (q : Bool) → q ≡ true → IsOld c tag sets q new → Replays b l q c new
      by_old true is old = old_replayed old
      by_old false is old = absurd (false≢true is)

      by_new : (q : Bool) → IsNew c tag sets q new → Replays b l q c new
      by_new true fresh = (gains, record { told = told; opens = opens_true fresh.opens }, answered_now fresh.joins)
      by_new false fresh = opens_false fresh.not_among fresh.opens

-- what a line that is no answer brings
pub none_replayed : (b : BookView) (l : Line) (c : BookView) (sets : List (List ℕ)) → IsWithinLimits b.presence.plan → FitsBook b l → Says b l true c → IsJournal (shape_of c) c.journal
    → AreAnswered b.presence.plan b.journal sets → HasNoAnswer l → Replays b l true c sets
none_replayed b l c sets limits fits says is are none = plain_replayed b l c sets limits fits says.0 says.1 is are (posts_none b.journal l none)

-- and what one that is brings
pub some_replayed : (b : BookView) (x : Line) (tag : Tag) (c : BookView) (sets new : List (List ℕ)) (q : Bool) → IsWithinLimits b.presence.plan → IsPresenceTable b.presence.plan b.presence.table → FitsBook b x → Says b x true c
    → IsJournal (shape_of c) c.journal → AreAnswered b.presence.plan b.journal sets → IsAnswerOf x (Some tag) → AnswerEnds c tag sets q new → Replays b x q c new
some_replayed b x tag c sets new q limits table fits says is are answer ends =
    let f : Frame = answer.1.0 in
    let same : x ≡ SendLine tag (Some f) = answer.1.1 in
    let told : Says b (SendLine tag (Some f)) true c = subst (λ y. Says b y true c) same says in
    subst (λ y. Replays b y q c new) (sym same)
    (answer_replayed b tag f c sets new limits table (subst (FitsBook b) same fits) answer.0 told.0 told.1 is are q ends)
