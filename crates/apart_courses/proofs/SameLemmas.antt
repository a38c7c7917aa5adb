-- The schedule and the head end's journal say the same of each round.
use Rattle.std.proofs.Common.{◌≡◌, ℕ, ◌+◌, ◌<◌, ◌≤◌, Bool, true, false, not, ◌&&◌, ◌||◌, List, [], ◌∷◌, ◌++◌, length, refl, sym, ap, ◌∙◌, subst, arith}
use Rattle.std.specs.Prelude.{nat_lt, ◌==◌}
use Rattle.std.proofs.Math.Bool.{and-false}
use Rattle.std.proofs.lemmas.Bool.{and_from, le-ltb, or_right}
use Rattle.group_plan.specs.declared.Kind.{Kind}
use Rattle.group_plan.specs.declared.Kind.TheVariants.{Reading, Announcement, Answer}
use Rattle.group_plan.specs.declared.Tag.{Tag}
use Rattle.group_plan.specs.Plans.{PlanView}
use Rattle.meter_frames.specs.declared.Frame.{Frame}
use Rattle.event_schedule.specs.declared.Event.{Event}
use Rattle.event_schedule.specs.declared.Event.TheVariants.{Send, Take, Close, End}
use Rattle.event_schedule.specs.Events.{once, same_kind, is_tag, is_take, is_close, is_end}
use Rattle.event_schedule.specs.Schedule.{Shape, is_closed, is_ended, is_reading_sent, is_reading_taken, is_answer_sent, is_answer_taken}
use Rattle.event_schedule.proofs.EventLemmas.{is_send-true}
use Rattle.event_schedule.proofs.ScheduleLemmas.{once-cons, once-now}
use Rattle.head_end.specs.declared.answers.Logged.{Logged}
use Rattle.head_end.specs.declared.answers.Logged.TheVariants.{Took, Passed}
use Rattle.head_end.specs.declared.answers.Reply.TheVariants.{Fresh}
use Rattle.head_end.specs.Journal.{passed, is_taken}
use Rattle.head_end.specs.Lines.{round_before}
use Rattle.head_end.specs.Replies.{reply}
use Rattle.head_end.proofs.JournalLemmas.{is_taken-more, passed-took, passed-passed}
use Rattle.apart_courses.specs.Courses.{and_then, ends, closes, told_tag}
use Rattle.apart_courses.proofs.PastLemmas.{then_both, untouched}
use Rattle.apart_courses.proofs.TickLemmas.{closed_by_tick, ended_by_tick}
use Rattle.apart_courses.proofs.ReplyLemmas.{place_known, FreshOf, fresh_is}
use Rattle.apart_courses.proofs.SentLemmas.{SentBy}

-- the past says of each round of the plan what the journal says
pub record Same (plan : PlanView) (s : Shape) (j : List Logged) (p : List Event) : Type 0 where
  pub closed : (g r : ℕ) → g < length plan.groups → r < plan.rounds → is_closed g r p ≡ nat_lt (r + plan.w1) (passed j)
  pub ended : (g r : ℕ) → g < length plan.groups → r < plan.rounds → is_ended g r p ≡ nat_lt (r + plan.w1 + plan.w2) (passed j)
  pub readings : (g r i : ℕ) → is_reading_taken s g r i p ≡ is_taken g r Reading j i
  pub answers : (g r i : ℕ) → is_answer_taken s g r i p ≡ is_taken g r Answer j i

-- ---- the beginning

pub same_nil : (plan : PlanView) (s : Shape) → Same plan s [] []
unfolding once passed is_taken
same_nil plan s = record {
  closed = λ g r group round. sym (le-ltb (r + plan.w1) 0 (omega arith));
  ended = λ g r group round. sym (le-ltb (r + plan.w1 + plan.w2) 0 (omega arith));
  readings = λ g r i. refl;
  answers = λ g r i. refl;
}

-- ---- events that touch no round

reading_left : (s : Shape) (g r i : ℕ) (e : Event) (p : List Event) → is_take g r i Reading e ≡ false → is_reading_taken s g r i (e ∷ p) ≡ is_reading_taken s g r i p
reading_left s g r i e p other =
    once-cons (λ e before. is_take g r i Reading e && is_reading_sent s g r i before && not (is_closed g r before)) e p
    ∙ ap (λ b. (b && is_reading_sent s g r i p && not (is_closed g r p)) || is_reading_taken s g r i p) other

answer_left : (s : Shape) (g r i : ℕ) (e : Event) (p : List Event) → is_take g r i Answer e ≡ false → is_answer_taken s g r i (e ∷ p) ≡ is_answer_taken s g r i p
answer_left s g r i e p other =
    once-cons (λ e before. is_take g r i Answer e && is_answer_sent s g r i before && not (is_ended g r before)) e p
    ∙ ap (λ b. (b && is_answer_sent s g r i p && not (is_ended g r p)) || is_answer_taken s g r i p) other

closed_left : (g r : ℕ) (e : Event) (p : List Event) → is_close g r e ≡ false → is_closed g r (e ∷ p) ≡ is_closed g r p
closed_left g r e p other = once-cons (λ e before. is_close g r e) e p ∙ ap (λ b. b || is_closed g r p) other

ended_left : (g r : ℕ) (e : Event) (p : List Event) → is_end g r e ≡ false → is_ended g r (e ∷ p) ≡ is_ended g r p
ended_left g r e p other = once-cons (λ e before. is_end g r e && is_closed g r before) e p ∙ ap (λ b. (b && is_closed g r p) || is_ended g r p) other

-- a frame is said
pub same_sent : (plan : PlanView) (s : Shape) (j : List Logged) (p : List Event) (tag : Tag) → Same plan s j p → Same plan s j (Send tag ∷ p)
same_sent plan s j p tag is = record {
  closed = λ g r group round. closed_left g r (Send tag) p refl ∙ is.closed g r group round;
  ended = λ g r group round. ended_left g r (Send tag) p refl ∙ is.ended g r group round;
  readings = λ g r i. reading_left s g r i (Send tag) p refl ∙ is.readings g r i;
  answers = λ g r i. answer_left s g r i (Send tag) p refl ∙ is.answers g r i;
}

other_kind : (g r i h q k : ℕ) (kind : Kind) → same_kind Announcement kind ≡ false → is_tag g r i kind (told_tag h q k) ≡ false
other_kind g r i h q k kind other = ap (λ b. ((h == g) && (q == r) && (k == i)) && b) other ∙ and-false ((h == g) && (q == r) && (k == i))

-- a meter hears an announcement
pub same_told : (plan : PlanView) (s : Shape) (j : List Logged) (p : List Event) (h q k : ℕ) → Same plan s j p → Same plan s j (Take (told_tag h q k) ∷ p)
same_told plan s j p h q k is = record {
  closed = λ g r group round. closed_left g r (Take (told_tag h q k)) p refl ∙ is.closed g r group round;
  ended = λ g r group round. ended_left g r (Take (told_tag h q k)) p refl ∙ is.ended g r group round;
  readings = λ g r i. reading_left s g r i (Take (told_tag h q k)) p (other_kind g r i h q k Reading refl) ∙ is.readings g r i;
  answers = λ g r i. answer_left s g r i (Take (told_tag h q k)) p (other_kind g r i h q k Answer refl) ∙ is.answers g r i;
}

-- ---- a tick passes

pub same_passed : (plan : PlanView) (s : Shape) (j : List Logged) (p : List Event) → 2 ≤ plan.w2 → Same plan s j p → Same plan s (j ++ Passed ∷ []) (and_then p (ends plan (passed j) ++ closes plan (passed j)))
same_passed plan s j p long is = record {
  closed = λ g r group round. closed_by_tick plan (passed j) g r p group round (is.closed g r group round) ∙ ap (nat_lt (r + plan.w1)) (sym (passed-passed j));
  ended = λ g r group round.
      ended_by_tick plan (passed j) g r p long group round (is.closed g r group round) (is.ended g r group round) ∙ ap (nat_lt (r + plan.w1 + plan.w2)) (sym (passed-passed j));
  readings = λ g r i.
      by_tick (is_reading_taken s g r i) (λ h q l. reading_left s g r i (End h q) l refl) (λ h q l. reading_left s g r i (Close h q) l refl) ∙ is.readings g r i ∙ sym (none g r Reading i);
  answers = λ g r i. by_tick (is_answer_taken s g r i) (λ h q l. answer_left s g r i (End h q) l refl) (λ h q l. answer_left s g r i (Close h q) l refl) ∙ is.answers g r i ∙ sym (none g r Answer i);
}
  where
    by_tick : (test : List Event → Bool) → ((g r : ℕ) (q : List Event) → test (End g r ∷ q) ≡ test q) → ((g r : ℕ) (q : List Event) → test (Close g r ∷ q) ≡ test q)
        → test (and_then p (ends plan (passed j) ++ closes plan (passed j))) ≡ test p
    by_tick test ended closed =
        ap test (then_both p (ends plan (passed j)) (closes plan (passed j)))
        ∙ untouched test Close closed plan (round_before plan.rounds plan.w1 (passed j)) (and_then p (ends plan (passed j)))
        ∙ untouched test End ended plan (round_before plan.rounds (plan.w1 + plan.w2) (passed j)) p

    or_none : (b : Bool) → (b || false) ≡ b
    or_none true = refl
    or_none false = refl

    none : (g r : ℕ) (k : Kind) (i : ℕ) → is_taken g r k (j ++ Passed ∷ []) i ≡ is_taken g r k j i
    none g r k i = is_taken-more g r k j Passed i ∙ or_none (is_taken g r k j i)

-- ---- a frame is taken

abbrev tag_in : Event → Tag
tag_in (Send tag) = tag
tag_in (Take tag) = tag
tag_in (Close g r) = told_tag g r 0
tag_in (End g r) = told_tag g r 0

pub tag_is : (g r i : ℕ) (k : Kind) (tag : Tag) → is_tag g r i k tag ≡ true → tag ≡ record { group = g; round = r; meter = i; kind = k }
tag_is g r i k tag is = ap tag_in (is_send-true g r i k (Send tag) is)

or_either : (a b : Bool) → b ≡ true → (a || b) ≡ true
or_either a b is = or_right a b is

pub same_took : (plan : PlanView) (s : Shape) (j : List Logged) (p : List Event) (f : Frame) → SentBy f.tag.kind s f p → reply plan j f ≡ Fresh → Same plan s j p → Same plan s (j ++ Took f ∷ []) (Take f.tag ∷ p)
same_took plan s j p f sent fresh is = record {
  closed = λ g r group round. closed_left g r (Take f.tag) p refl ∙ is.closed g r group round ∙ ap (nat_lt (r + plan.w1)) (sym (passed-took j f));
  ended = λ g r group round. ended_left g r (Take f.tag) p refl ∙ is.ended g r group round ∙ ap (nat_lt (r + plan.w1 + plan.w2)) (sym (passed-took j f));
  readings = λ g r i. reading g r i (is_tag g r i Reading f.tag) refl;
  answers = λ g r i. answer g r i (is_tag g r i Answer f.tag) refl;
}
  where
    or_none : (b : Bool) → (b || false) ≡ b
    or_none true = refl
    or_none false = refl

    untaken : (g r i : ℕ) (k : Kind) → is_tag g r i k f.tag ≡ false → is_taken g r k (j ++ Took f ∷ []) i ≡ is_taken g r k j i
    untaken g r i k other = is_taken-more g r k j (Took f) i ∙ ap (λ b. is_taken g r k j i || b) other ∙ or_none (is_taken g r k j i)

    taken : (g r i : ℕ) (k : Kind) → is_tag g r i k f.tag ≡ true → is_taken g r k (j ++ Took f ∷ []) i ≡ true
    taken g r i k here = is_taken-more g r k j (Took f) i ∙ or_either (is_taken g r k j i) (is_tag g r i k f.tag) here

    -- a reading that is taken was sent before its round's Close
    reading_in_time : (kind : Kind) → f.tag.kind ≡ kind → kind ≡ Reading → SentBy kind s f p → FreshOf kind plan j f
        → (is_reading_sent s f.tag.group f.tag.round f.tag.meter p && not (is_closed f.tag.group f.tag.round p)) ≡ true
    reading_in_time Reading is_kind same was new =
        let place = place_known plan f.tag new.0 in
        and_from (is_reading_sent s f.tag.group f.tag.round f.tag.meter p) (not (is_closed f.tag.group f.tag.round p)) was
        (ap not (is.closed f.tag.group f.tag.round place.group place.round ∙ new.2))
    reading_in_time Announcement is_kind same was new = absurd new
    reading_in_time Answer is_kind same was new = absurd (false_kind (ap (same_kind Reading) same))
      where
        false_kind : false ≡ true → ⊥
        false_kind e = absurd cc

    answer_in_time : (kind : Kind) → f.tag.kind ≡ kind → kind ≡ Answer → SentBy kind s f p → FreshOf kind plan j f
        → (is_answer_sent s f.tag.group f.tag.round f.tag.meter p && not (is_ended f.tag.group f.tag.round p)) ≡ true
    answer_in_time Answer is_kind same was new =
        let place = place_known plan f.tag new.0 in
        and_from (is_answer_sent s f.tag.group f.tag.round f.tag.meter p) (not (is_ended f.tag.group f.tag.round p)) was
        (ap not (is.ended f.tag.group f.tag.round place.group place.round ∙ new.2))
    answer_in_time Announcement is_kind same was new = absurd new
    answer_in_time Reading is_kind same was new = absurd (false_kind (ap (same_kind Answer) same))
      where
        false_kind : false ≡ true → ⊥
        false_kind e = absurd cc

    reading : (g r i : ℕ) (b : Bool) → is_tag g r i Reading f.tag ≡ b → is_reading_taken s g r i (Take f.tag ∷ p) ≡ is_taken g r Reading (j ++ Took f ∷ []) i
    reading g r i false other = reading_left s g r i (Take f.tag) p other ∙ is.readings g r i ∙ sym (untaken g r i Reading other)
    reading g r i true here =
        let at = tag_is g r i Reading f.tag here in
        let timely = subst (λ (t : Tag). (is_reading_sent s t.group t.round t.meter p && not (is_closed t.group t.round p)) ≡ true) at
        (reading_in_time f.tag.kind refl (ap (λ (t : Tag). t.kind) at) sent (fresh_is plan j f fresh)) in
        once-now (λ e before. is_take g r i Reading e && is_reading_sent s g r i before && not (is_closed g r before)) (Take f.tag) p (joined here timely) ∙ sym (taken g r i Reading here)
      where
        joined : is_tag g r i Reading f.tag ≡ true → (is_reading_sent s g r i p && not (is_closed g r p)) ≡ true → (is_tag g r i Reading f.tag && is_reading_sent s g r i p && not (is_closed g r p)) ≡ true
        joined here timely = ap (λ b. b && is_reading_sent s g r i p && not (is_closed g r p)) here ∙ timely

    answer : (g r i : ℕ) (b : Bool) → is_tag g r i Answer f.tag ≡ b → is_answer_taken s g r i (Take f.tag ∷ p) ≡ is_taken g r Answer (j ++ Took f ∷ []) i
    answer g r i false other = answer_left s g r i (Take f.tag) p other ∙ is.answers g r i ∙ sym (untaken g r i Answer other)
    answer g r i true here =
        let at = tag_is g r i Answer f.tag here in
        let timely = subst (λ (t : Tag). (is_answer_sent s t.group t.round t.meter p && not (is_ended t.group t.round p)) ≡ true) at
        (answer_in_time f.tag.kind refl (ap (λ (t : Tag). t.kind) at) sent (fresh_is plan j f fresh)) in
        once-now (λ e before. is_take g r i Answer e && is_answer_sent s g r i before && not (is_ended g r before)) (Take f.tag) p (joined here timely) ∙ sym (taken g r i Answer here)
      where
        joined : is_tag g r i Answer f.tag ≡ true → (is_answer_sent s g r i p && not (is_ended g r p)) ≡ true → (is_tag g r i Answer f.tag && is_answer_sent s g r i p && not (is_ended g r p)) ≡ true
        joined here timely = ap (λ b. b && is_answer_sent s g r i p && not (is_ended g r p)) here ∙ timely
