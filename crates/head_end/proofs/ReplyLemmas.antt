-- What is said to a frame, by what is kept of its round.
use Rattle.std.proofs.Common.{◌≡◌, ℕ, Bool, true, false, not, ◌&&◌, List, length, refl, sym, ap, ◌∙◌}
use Rattle.std.specs.Prelude.{◌==◌, nat_le, if◌then◌else◌, Some, None}
use Rattle.missing_round.specs.Sets.{is_member, less}
use Rattle.missing_round.proofs.SetLemmas.{less-filter}
use Rattle.group_plan.specs.declared.Kind.{Kind}
use Rattle.group_plan.specs.declared.Kind.TheVariants.{Reading, Announcement, Answer}
use Rattle.group_plan.specs.Plans.{PlanView, members, floor_of}
use Rattle.meter_frames.specs.declared.Frame.{Frame}
use Rattle.round_machine.specs.Rounds.{RoundView, has_floor}
use Rattle.round_machine.specs.Rounds.{is_announced as round_announced, is_asked as round_asked}
use Rattle.head_end.specs.declared.answers.Logged.{Logged}
use Rattle.head_end.specs.declared.answers.Refusal.TheVariants as refusals
use Rattle.head_end.specs.declared.answers.Reply.{Reply}
use Rattle.head_end.specs.declared.answers.Reply.TheVariants.{Fresh, Again, Differs, Late, Void, Refused}
use Rattle.head_end.specs.Journal.{is_closed, is_ended, is_taken, survivors, missing, is_announced}
use Rattle.head_end.specs.Replies.{is_known, announced_set, has_other_set, refusal_by, repeated, repeated_by, is_asked, verdict_by, reply_by, reply, replied}
use Rattle.head_end.specs.Head.{IsNow}
use Rattle.head_end.proofs.RoundLemmas.{taken_who}

-- the reply by the kind
reply_of : Kind → PlanView → List Logged → Frame → Reply
reply_of k plan j f = reply_by (refusal_by k plan j f) (verdict_by k plan j f)

by_kind : (k : Kind) (plan : PlanView) (j : List Logged) (f : Frame) → f.tag.kind ≡ k → reply plan j f ≡ reply_of k plan j f
unfolding reply_of
by_kind k plan j f kind = ap (λ x. reply_by (refusal_by x plan j f) (verdict_by x plan j f)) kind

-- ---- refusals

pub says_announcement : (plan : PlanView) (j : List Logged) (f : Frame) → f.tag.kind ≡ Announcement → Refused refusals.Announcement ≡ reply plan j f
unfolding reply_of
says_announcement plan j f kind = sym (by_kind Announcement plan j f kind)

pub says_plan_reading : (plan : PlanView) (j : List Logged) (f : Frame) → f.tag.kind ≡ Reading → is_known plan f.tag ≡ false → Refused refusals.Plan ≡ reply plan j f
unfolding reply_of
says_plan_reading plan j f kind unknown =
    sym (by_kind Reading plan j f kind ∙ ap (λ b. reply_by (if b then None else Some refusals.Plan) (verdict_by Reading plan j f)) unknown)

pub says_plan_answer : (plan : PlanView) (j : List Logged) (f : Frame) → f.tag.kind ≡ Answer → is_known plan f.tag ≡ false → Refused refusals.Plan ≡ reply plan j f
unfolding reply_of
says_plan_answer plan j f kind unknown =
    sym (by_kind Answer plan j f kind
    ∙ ap (λ b. reply_by (if b then (if has_other_set plan j f then Some refusals.Set else None) else Some refusals.Plan) (verdict_by Answer plan j f)) unknown)

-- a reading that isn't refused
reading_verdict : (plan : PlanView) (j : List Logged) (f : Frame) → f.tag.kind ≡ Reading → is_known plan f.tag ≡ true → reply plan j f ≡ verdict_by Reading plan j f
unfolding reply_of
reading_verdict plan j f kind known =
    by_kind Reading plan j f kind ∙ ap (λ b. reply_by (if b then None else Some refusals.Plan) (verdict_by Reading plan j f)) known

-- an answer that isn't refused
answer_reply : (plan : PlanView) (j : List Logged) (f : Frame) (b : Bool) → f.tag.kind ≡ Answer → is_known plan f.tag ≡ true → has_other_set plan j f ≡ b
    → reply plan j f ≡ reply_by (if b then Some refusals.Set else None) (verdict_by Answer plan j f)
unfolding reply_of
answer_reply plan j f b kind known other =
    by_kind Answer plan j f kind
    ∙ ap (λ x. reply_by (if x then (if has_other_set plan j f then Some refusals.Set else None) else Some refusals.Plan) (verdict_by Answer plan j f)) known
    ∙ ap (λ x. reply_by (if x then Some refusals.Set else None) (verdict_by Answer plan j f)) other

pub says_set : (plan : PlanView) (j : List Logged) (f : Frame) → f.tag.kind ≡ Answer → is_known plan f.tag ≡ true → has_other_set plan j f ≡ true → Refused refusals.Set ≡ reply plan j f
says_set plan j f kind known other = sym (answer_reply plan j f true kind known other)

-- ---- readings

-- the reading of a member, and the round as it is now
pub record ReadingCame (plan : PlanView) (j : List Logged) (f : Frame) (s : RoundView) : Type 0 where
  pub kind : f.tag.kind ≡ Reading
  pub known : is_known plan f.tag ≡ true
  pub is_in_round : is_member f.tag.meter (members plan.groups f.tag.group f.tag.round) ≡ true
  pub now : IsNow plan j f.tag.group f.tag.round s

pub reading_taken : (plan : PlanView) (j : List Logged) (f : Frame) (s : RoundView) → ReadingCame plan j f s → is_member f.tag.meter s.taken ≡ is_taken f.tag.group f.tag.round Reading j f.tag.meter
reading_taken plan j f s came =
    taken_who (is_taken f.tag.group f.tag.round Reading j) f.tag.meter (members plan.groups f.tag.group f.tag.round) s.taken came.now.of.taken came.is_in_round

reading_says : Bool → Bool → List Logged → Frame → Reply
reading_says taken closed j f = if taken then repeated j f else if closed then Late else Fresh

reading_by : (plan : PlanView) (j : List Logged) (f : Frame) (s : RoundView) (taken closed : Bool) → ReadingCame plan j f s → is_member f.tag.meter s.taken ≡ taken → s.closed ≡ closed
    → reading_says taken closed j f ≡ reply plan j f
unfolding reading_says
reading_by plan j f s taken closed came is_taken_by is_closed_by =
    sym (reading_verdict plan j f came.kind came.known
    ∙ ap (λ b. reading_says b (is_closed plan j f.tag.round) j f) (sym (reading_taken plan j f s came) ∙ is_taken_by)
    ∙ ap (λ b. reading_says taken b j f) (sym came.now.closed ∙ is_closed_by))

pub says_reading_again : (plan : PlanView) (j : List Logged) (f : Frame) (s : RoundView) → ReadingCame plan j f s → is_member f.tag.meter s.taken ≡ true → repeated j f ≡ reply plan j f
unfolding reading_says
says_reading_again plan j f s came t = reading_by plan j f s true s.closed came t refl

pub says_reading_late : (plan : PlanView) (j : List Logged) (f : Frame) (s : RoundView) → ReadingCame plan j f s → is_member f.tag.meter s.taken ≡ false → s.closed ≡ true → Late ≡ reply plan j f
unfolding reading_says
says_reading_late plan j f s came t c = reading_by plan j f s false true came t c

pub says_reading_fresh : (plan : PlanView) (j : List Logged) (f : Frame) (s : RoundView) → ReadingCame plan j f s → is_member f.tag.meter s.taken ≡ false → s.closed ≡ false → Fresh ≡ reply plan j f
unfolding reading_says
says_reading_fresh plan j f s came t c = reading_by plan j f s false false came t c

-- ---- answers

-- the answer of a member to no other set, and the round as it is now
pub record AnswerCame (plan : PlanView) (j : List Logged) (f : Frame) (s : RoundView) : Type 0 where
  pub kind : f.tag.kind ≡ Answer
  pub known : is_known plan f.tag ≡ true
  pub is_in_round : is_member f.tag.meter (members plan.groups f.tag.group f.tag.round) ≡ true
  pub set : has_other_set plan j f ≡ false
  pub now : IsNow plan j f.tag.group f.tag.round s

pub answer_taken : (plan : PlanView) (j : List Logged) (f : Frame) (s : RoundView) → AnswerCame plan j f s → is_member f.tag.meter s.answered ≡ is_taken f.tag.group f.tag.round Answer j f.tag.meter
answer_taken plan j f s came =
    taken_who (is_taken f.tag.group f.tag.round Answer j) f.tag.meter (members plan.groups f.tag.group f.tag.round) s.answered came.now.of.answered came.is_in_round

pub announced_now : (plan : PlanView) (j : List Logged) (g r : ℕ) (s : RoundView) → IsNow plan j g r s → round_announced s ≡ is_announced plan j g r
announced_now plan j g r s now =
    ap (λ b. b && has_floor s) now.closed
    ∙ ap (λ n. is_closed plan j r && nat_le n (length s.taken)) now.of.floor ∙ ap (λ xs. is_closed plan j r && nat_le (floor_of plan.groups g) (length xs)) now.of.taken

asked_now : (plan : PlanView) (j : List Logged) (f : Frame) (s : RoundView) → AnswerCame plan j f s → round_asked s f.tag.meter ≡ is_asked plan j f.tag
asked_now plan j f s came =
    ap (λ b. b && is_member f.tag.meter s.taken) (announced_now plan j f.tag.group f.tag.round s came.now)
    ∙ ap (λ b. is_announced plan j f.tag.group f.tag.round && b)
    (taken_who (is_taken f.tag.group f.tag.round Reading j) f.tag.meter (members plan.groups f.tag.group f.tag.round) s.taken came.now.of.taken came.is_in_round)

answer_says : Bool → Bool → Bool → List Logged → Frame → Reply
answer_says asked taken ended j f = if not asked then Void else if taken then repeated j f else if ended then Late else Fresh

answer_by : (plan : PlanView) (j : List Logged) (f : Frame) (s : RoundView) (asked taken ended : Bool) → AnswerCame plan j f s
    → round_asked s f.tag.meter ≡ asked → is_member f.tag.meter s.answered ≡ taken → s.ended ≡ ended → answer_says asked taken ended j f ≡ reply plan j f
unfolding answer_says
answer_by plan j f s asked taken ended came is_asked_by is_taken_by is_ended_by =
    sym (answer_reply plan j f false came.kind came.known came.set
    ∙ ap (λ b. answer_says b (is_taken f.tag.group f.tag.round Answer j f.tag.meter) (is_ended plan j f.tag.round) j f) (sym (asked_now plan j f s came) ∙ is_asked_by)
    ∙ ap (λ b. answer_says asked b (is_ended plan j f.tag.round) j f) (sym (answer_taken plan j f s came) ∙ is_taken_by)
    ∙ ap (λ b. answer_says asked taken b j f) (sym came.now.ended ∙ is_ended_by))

pub says_answer_void : (plan : PlanView) (j : List Logged) (f : Frame) (s : RoundView) → AnswerCame plan j f s → round_asked s f.tag.meter ≡ false → Void ≡ reply plan j f
unfolding answer_says
says_answer_void plan j f s came a = answer_by plan j f s false (is_member f.tag.meter s.answered) s.ended came a refl refl

pub says_answer_again : (plan : PlanView) (j : List Logged) (f : Frame) (s : RoundView) → AnswerCame plan j f s → round_asked s f.tag.meter ≡ true → is_member f.tag.meter s.answered ≡ true → repeated j f ≡ reply plan j f
unfolding answer_says
says_answer_again plan j f s came a t = answer_by plan j f s true true s.ended came a t refl

pub says_answer_late : (plan : PlanView) (j : List Logged) (f : Frame) (s : RoundView) → AnswerCame plan j f s
    → round_asked s f.tag.meter ≡ true → is_member f.tag.meter s.answered ≡ false → s.ended ≡ true → Late ≡ reply plan j f
unfolding answer_says
says_answer_late plan j f s came a t e = answer_by plan j f s true false true came a t e

pub says_answer_fresh : (plan : PlanView) (j : List Logged) (f : Frame) (s : RoundView) → AnswerCame plan j f s
    → round_asked s f.tag.meter ≡ true → is_member f.tag.meter s.answered ≡ false → s.ended ≡ false → Fresh ≡ reply plan j f
unfolding answer_says
says_answer_fresh plan j f s came a t e = answer_by plan j f s true false false came a t e

-- ---- the announced set

pub set_none : (plan : PlanView) (j : List Logged) (g r : ℕ) → is_announced plan j g r ≡ false → None ≡ announced_set plan j g r
set_none plan j g r none = sym (ap (λ b. if b then Some (missing plan j g r) else None) none)

pub set_some : (plan : PlanView) (j : List Logged) (g r : ℕ) (xs set : List ℕ) → is_announced plan j g r ≡ true → xs ≡ survivors plan j g r → set ≡ less (members plan.groups g r) xs
    → Some set ≡ announced_set plan j g r
set_some plan j g r xs set some is set_is =
    ap Some (set_is ∙ ap (less (members plan.groups g r)) is ∙ less-filter (is_taken g r Reading j) (members plan.groups g r))
    ∙ sym (ap (λ b. if b then Some (missing plan j g r) else None) some)

-- ---- what is appended

pub nothing_appended : (a b : ℕ) (f : Frame) (j : List Logged) → replied (repeated_by a b) f j ≡ j
nothing_appended a b f j = by_test (a == b)
  where
    by_test : (q : Bool) → replied (if q then Again else Differs) f j ≡ j
    by_test true = refl
    by_test false = refl
