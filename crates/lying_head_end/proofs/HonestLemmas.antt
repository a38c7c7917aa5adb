-- On honest schedules the bare parts are the rounds that are open.
use Rattle.std.proofs.Common.{◌≡◌, ℕ, ◌<◌, ◌≤◌, Bool, true, false, not, ◌&&◌, ◌||◌, List, [], ◌∷◌, ◌++◌, length, refl, sym, ap, ◌∙◌, ⊎_elim, arith}
use Rattle.std.specs.Prelude.{◌==◌, nat_lt, nat_le, Option, Some, None, is_some, if◌then◌else◌}
use Rattle.std.specs.Option.{option_or}
use Rattle.std.specs.List.{filter}
use Rattle.std.proofs.lemmas.Bool.{false≢true, cases_lt, eqb-true, and_parts, both_ways, le-ltb}
use Rattle.std.proofs.lemmas.List.Filters.{length-filter_both}
use Rattle.missing_round.specs.Sets.{is_member, less}
use Rattle.missing_round.proofs.SetLemmas.{is_member-filter, same_filter}
use Rattle.group_plan.specs.declared.Kind.{Kind}
use Rattle.group_plan.specs.declared.Kind.TheVariants.{Reading, Announcement, Answer}
use Rattle.meter_core.specs.Meters.{is_within, survivors as left_by}
use Rattle.event_schedule.specs.declared.Event.{Event}
use Rattle.event_schedule.specs.declared.Event.TheVariants.{Send, Take, Close, End}
use Rattle.event_schedule.specs.Events.{is_send, once}
use Rattle.event_schedule.specs.Schedule.{Shape, members_of, floor_of, is_closed, is_reading_sent, is_reading_taken, survivors, missing, reaches_floor, is_announced, may_announce, is_announcement_taken, is_answer_sent}
use Rattle.event_schedule.proofs.ScheduleLemmas.{once-cons, once-more, once-gives, is_announced-from_sent, is_announcement_sent-from_taken, is_reading_sent-from_taken, is_closed-from_answer, is_closed-from_taken, missing-closed}
use Rattle.lying_head_end.specs.Acts.{Tell, has_read, may_answer, set_heard, set_answered}
use Rattle.lying_head_end.specs.Honest.{act_sent, acts_in}

-- ---- readings

pub honest-read : (s : Shape) (g r i : ℕ) (past : List Event) → has_read s g r i (acts_in s past) ≡ is_reading_sent s g r i past
unfolding once
honest-read s g r i [] = refl
honest-read s g r i (Send tag ∷ past) = step tag.kind refl (honest-read s g r i past)
  where
    here : (k : Kind) → tag.kind ≡ k → Bool
    here k e = true

    and-true : (a b c : Bool) → ((a && b && c && true)) ≡ (a && b && c)
    and-true true true true = refl
    and-true true true false = refl
    and-true true false c = refl
    and-true false b c = refl

    and-false : (a b c : Bool) → (a && b && c && false) ≡ false
    and-false true true true = refl
    and-false true true false = refl
    and-false true false c = refl
    and-false false b c = refl

    answer : (b : Bool) → has_read s g r i ((if b then Tell tag.group tag.round tag.meter (missing s tag.group tag.round past) ∷ [] else []) ++ acts_in s past) ≡ has_read s g r i (acts_in s past)
    answer true = refl
    answer false = refl

    none : (k : Kind) → (x y z p : Bool) → ((x && y && z && false) && p) ≡ false
    none k x y z p = ap (λ b. b && p) (and-false x y z)

    step : (k : Kind) → tag.kind ≡ k → has_read s g r i (acts_in s past) ≡ is_reading_sent s g r i past
        → has_read s g r i (act_sent s tag.kind tag.group tag.round tag.meter past ++ acts_in s past)
        ≡ ((is_send g r i Reading (Send tag) && s.present g r i) || is_reading_sent s g r i past)
    step Reading e rest = rw e (ap (λ b. (b && s.present g r i) || has_read s g r i (acts_in s past)) (sym (and-true (tag.group == g) (tag.round == r) (tag.meter == i))) ∙ ap (λ z. (((tag.group == g) && (tag.round == r) && (tag.meter == i) && true) && s.present g r i) || z) rest)
    step Announcement e rest = rw e (rest ∙ sym (ap (λ b. b || is_reading_sent s g r i past) (none Announcement (tag.group == g) (tag.round == r) (tag.meter == i) (s.present g r i))))
    step Answer e rest = rw e (answer (is_announcement_taken s tag.group tag.round tag.meter past) ∙ rest ∙ sym (ap (λ b. b || is_reading_sent s g r i past) (none Answer (tag.group == g) (tag.round == r) (tag.meter == i) (s.present g r i))))
honest-read s g r i (Take tag ∷ past) = honest-read s g r i past
honest-read s g r i (Close a b ∷ past) = honest-read s g r i past
honest-read s g r i (End a b ∷ past) = honest-read s g r i past

-- ---- the missing set meets the rule

taken-from_announcement : (s : Shape) (g r i : ℕ) (p : List Event) → is_announcement_taken s g r i p ≡ true → is_reading_taken s g r i p ≡ true
taken-from_announcement s g r i p h =
    once-gives _ (λ q. is_reading_taken s g r i q ≡ true)
    (λ e q t. (and_parts (is_announced s g r q) (is_reading_taken s g r i q) (and_parts (is_send g r i Announcement e) (may_announce s g r i q) t).1).1)
    (λ e q u. once-more _ e q u) p (is_announcement_sent-from_taken s g r i p h)

less-none : (t : ℕ → Bool) (ms : List ℕ) → less (filter t ms) ms ≡ []
less-none t ms = same_filter (λ j. not (is_member j ms)) (λ _. false) (filter t ms)
    (λ j h. ap not (and_parts (is_member j ms) (t j) (sym (is_member-filter t j ms) ∙ h)).0) ∙ none (filter t ms)
  where
    none : (xs : List ℕ) → filter (λ (_ : ℕ). false) xs ≡ []
    none [] = refl
    none (x ∷ xs) = none xs

pub honest-rule : (s : Shape) (g r i : ℕ) (p : List Event) → is_announcement_taken s g r i p ≡ true → may_answer s g r i (missing s g r p) ≡ true
honest-rule s g r i p taken =
    step (is_within (missing s g r p) (members_of s g r)) (is_member i (missing s g r p)) (nat_lt (left_by (members_of s g r) (missing s g r p)) (floor_of s g))
    (ap (λ l. length l == 0) (less-none (λ k. not (is_reading_taken s g r k p)) (members_of s g r)))
    (is_member-filter (λ k. not (is_reading_taken s g r k p)) i (members_of s g r) ∙ ap (λ b. is_member i (members_of s g r) && not b) (taken-from_announcement s g r i p taken) ∙ and-false (is_member i (members_of s g r)))
    (le-ltb (left_by (members_of s g r) (missing s g r p)) (floor_of s g) enough)
  where
    and-false : (b : Bool) → (b && false) ≡ false
    and-false true = refl
    and-false false = refl

    announced : is_announced s g r p ≡ true
    announced = is_announced-from_sent s g r i p (is_announcement_sent-from_taken s g r i p taken)

    at_least : (a b : ℕ) → nat_le a b ≡ true → a ≤ b
    at_least a b h = le_from (nat_lt b a) refl h
      where
        le_from : (c : Bool) → nat_lt b a ≡ c → nat_le a b ≡ true → a ≤ b
        le_from c e h = ⊎_elim (λ lt. absurd (both_ways (nat_le a b) (gt lt) h)) (λ ge. ge) (cases_lt b a)
          where
            gt : b < a → nat_le a b ≡ false
            gt lt = grind (arith, lt)

    enough : floor_of s g ≤ left_by (members_of s g r) (missing s g r p)
    enough =
        let floor = at_least (floor_of s g) (length (survivors s g r p)) (and_parts (is_closed g r p) (reaches_floor s g r p) announced).1 in
        omega (arith, floor, length-filter_both (λ k. is_reading_taken s g r k p) (λ k. not (is_reading_taken s g r k p)) (λ _. refl) (members_of s g r))

    step : (a b c : Bool) → a ≡ true → b ≡ false → c ≡ false
        → not (is_some (if not a then Some Rattle.meter_core.specs.declared.Why.TheVariants.OutOfPlan else if b then Some Rattle.meter_core.specs.declared.Why.TheVariants.SelfMissing else if c then Some (Rattle.meter_core.specs.declared.Why.TheVariants.Thin (left_by (members_of s g r) (missing s g r p))) else None)) ≡ true
    step true false false is_a is_b is_c = refl
    step false b c is_a is_b is_c = absurd (false≢true is_a)
    step true true c is_a is_b is_c = absurd (false≢true (sym is_b))
    step true false true is_a is_b is_c = absurd (false≢true (sym is_c))

-- ---- what is answered

abbrev pub answered_or_none : Shape → ℕ → ℕ → ℕ → List Event → Option (List ℕ)
answered_or_none s g r i past = if is_answer_sent s g r i past then Some (missing s g r past) else None

-- what an act that is told of the missing set makes a meter answer
told-heard : (s : Shape) (g r i a b c : ℕ) (past : List Event) → is_announcement_taken s a b c past ≡ true
    → set_heard s g r i (acts_in s past) (Tell a b c (missing s a b past)) ≡ (if (a == g) && (b == r) && (c == i) then Some (missing s g r past) else None)
told-heard s g r i a b c past taken = step ((a == g) && (b == r) && (c == i)) refl
  where
    step : (t : Bool) → ((a == g) && (b == r) && (c == i)) ≡ t
        → (if t && has_read s g r i (acts_in s past) && may_answer s g r i (missing s a b past) then Some (missing s a b past) else None) ≡ (if t then Some (missing s g r past) else None)
    step false e = refl
    step true e =
        let ab = and_parts ((a == g) && (b == r)) (c == i) e in
        let aa = and_parts (a == g) (b == r) ab.0 in
        let same : missing s a b past ≡ missing s g r past = ap (λ z. missing s z b past) (eqb-true a g aa.0) ∙ ap (λ z. missing s g z past) (eqb-true b r aa.1) in
        let took : is_announcement_taken s g r i past ≡ true
        = ap (λ z. is_announcement_taken s z r i past) (sym (eqb-true a g aa.0)) ∙ ap (λ z. is_announcement_taken s a z i past) (sym (eqb-true b r aa.1)) ∙ ap (λ z. is_announcement_taken s a b z past) (sym (eqb-true c i ab.1)) ∙ taken in
        ap (λ t. if t && may_answer s g r i (missing s a b past) then Some (missing s a b past) else None) (honest-read s g r i past ∙ is_reading_sent-from_taken s g r i past (taken-from_announcement s g r i past took))
        ∙ ap (λ z. if may_answer s g r i z then Some z else None) same
        ∙ ap (λ t. if t then Some (missing s g r past) else None) (honest-rule s g r i past took)

-- one more event
more : (s : Shape) (g r i : ℕ) (past : List Event) (e : Event) (now : Bool) → (is_send g r i Answer e && is_announcement_taken s g r i past) ≡ now
    → option_or (answered_or_none s g r i past) (if now then Some (missing s g r past) else None) ≡ answered_or_none s g r i (e ∷ past)
more s g r i past e now is =
    step now (is_answer_sent s g r i past) is refl
    ∙ sym (ap (λ b. if b then Some (missing s g r (e ∷ past)) else None) (once-cons _ e past))
  where
    closed_now : (is_send g r i Answer e && is_announcement_taken s g r i past) ≡ true → missing s g r past ≡ missing s g r (e ∷ past)
    closed_now h = sym (missing-closed s g r e past (is_closed-from_taken s g r i past (and_parts (is_send g r i Answer e) (is_announcement_taken s g r i past) h).1))

    closed_before : is_answer_sent s g r i past ≡ true → missing s g r past ≡ missing s g r (e ∷ past)
    closed_before h = sym (missing-closed s g r e past (is_closed-from_answer s g r i past h))

    step : (n b : Bool) → (is_send g r i Answer e && is_announcement_taken s g r i past) ≡ n → is_answer_sent s g r i past ≡ b
        → option_or (if b then Some (missing s g r past) else None) (if n then Some (missing s g r past) else None)
        ≡ (if (is_send g r i Answer e && is_announcement_taken s g r i past) || is_answer_sent s g r i past then Some (missing s g r (e ∷ past)) else None)
    step n true is_n is_b =
        ap Some (closed_before is_b)
        ∙ sym (ap (λ z. if (is_send g r i Answer e && is_announcement_taken s g r i past) || z then Some (missing s g r (e ∷ past)) else None) is_b
        ∙ ap (λ z. if z then Some (missing s g r (e ∷ past)) else None) (or-true (is_send g r i Answer e && is_announcement_taken s g r i past)))
      where
        or-true : (b : Bool) → (b || true) ≡ true
        or-true true = refl
        or-true false = refl
    step true false is_n is_b = ap Some (closed_now is_n) ∙ sym (ap (λ z. if z || is_answer_sent s g r i past then Some (missing s g r (e ∷ past)) else None) is_n)
    step false false is_n is_b =
        sym (ap (λ z. if z || is_answer_sent s g r i past then Some (missing s g r (e ∷ past)) else None) is_n ∙ ap (λ z. if z then Some (missing s g r (e ∷ past)) else None) is_b)

option_or-none : (o : Option (List ℕ)) → option_or o None ≡ o
option_or-none None = refl
option_or-none (Some set) = refl

pub honest-answered : (s : Shape) (g r i : ℕ) (past : List Event) → set_answered s g r i (acts_in s past) ≡ answered_or_none s g r i past
unfolding once
honest-answered s g r i [] = refl
honest-answered s g r i (Send tag ∷ past) = step tag.kind refl (honest-answered s g r i past)
  where
    never : (a b c t : Bool) → ((a && b && c && false) && t) ≡ false
    never true true true t = refl
    never true true false t = refl
    never true false c t = refl
    never false b c t = refl

    always : (a b c t : Bool) → ((a && b && c && true) && t) ≡ ((a && b && c) && t)
    always true true true t = refl
    always true true false t = refl
    always true false c t = refl
    always false b c t = refl

    -- with the kind of the tag
    is_same_kind : (k : Kind) → Bool
    is_same_kind Answer = true
    is_same_kind _ = false

    sent-is : (k : Kind) → tag.kind ≡ k → is_send g r i Answer (Send tag) ≡ ((tag.group == g) && (tag.round == r) && (tag.meter == i) && is_same_kind k)
    sent-is Reading e = rw e refl
    sent-is Announcement e = rw e refl
    sent-is Answer e = rw e refl

    heard-is : (t : Bool) → is_announcement_taken s tag.group tag.round tag.meter past ≡ t
        → set_answered s g r i ((if t then Tell tag.group tag.round tag.meter (missing s tag.group tag.round past) ∷ [] else []) ++ acts_in s past)
        ≡ option_or (set_answered s g r i (acts_in s past)) (if ((tag.group == g) && (tag.round == r) && (tag.meter == i)) && t then Some (missing s g r past) else None)
    heard-is true e =
        ap (option_or (set_answered s g r i (acts_in s past))) (told-heard s g r i tag.group tag.round tag.meter past e ∙ ap (λ b. if b then Some (missing s g r past) else None) (sym (and-true ((tag.group == g) && (tag.round == r) && (tag.meter == i)))))
      where
        and-true : (b : Bool) → (b && true) ≡ b
        and-true true = refl
        and-true false = refl
    heard-is false e =
        sym (ap (λ b. option_or (set_answered s g r i (acts_in s past)) (if b then Some (missing s g r past) else None)) (and-false ((tag.group == g) && (tag.round == r) && (tag.meter == i))) ∙ option_or-none (set_answered s g r i (acts_in s past)))
      where
        and-false : (b : Bool) → (b && false) ≡ false
        and-false true = refl
        and-false false = refl

    -- whose announcement was taken
    taken-same : (place : Bool) → ((tag.group == g) && (tag.round == r) && (tag.meter == i)) ≡ place
        → (place && is_announcement_taken s tag.group tag.round tag.meter past) ≡ (place && is_announcement_taken s g r i past)
    taken-same false e = refl
    taken-same true e =
        let ab = and_parts ((tag.group == g) && (tag.round == r)) (tag.meter == i) e in
        let aa = and_parts (tag.group == g) (tag.round == r) ab.0 in
        ap (λ z. is_announcement_taken s z tag.round tag.meter past) (eqb-true tag.group g aa.0) ∙ ap (λ z. is_announcement_taken s g z tag.meter past) (eqb-true tag.round r aa.1) ∙ ap (λ z. is_announcement_taken s g r z past) (eqb-true tag.meter i ab.1)

    nothing : (k : Kind) → tag.kind ≡ k → is_same_kind k ≡ false → set_answered s g r i (acts_in s past) ≡ answered_or_none s g r i past → set_answered s g r i (acts_in s past) ≡ answered_or_none s g r i (Send tag ∷ past)
    nothing k e other rest =
        rest
        ∙ sym (option_or-none (answered_or_none s g r i past))
        ∙ more s g r i past (Send tag) false
        (ap (λ b. b && is_announcement_taken s g r i past) (sent-is k e ∙ ap (λ b. (tag.group == g) && (tag.round == r) && (tag.meter == i) && b) other) ∙ never (tag.group == g) (tag.round == r) (tag.meter == i) (is_announcement_taken s g r i past))

    step : (k : Kind) → tag.kind ≡ k → set_answered s g r i (acts_in s past) ≡ answered_or_none s g r i past
        → set_answered s g r i (act_sent s tag.kind tag.group tag.round tag.meter past ++ acts_in s past) ≡ answered_or_none s g r i (Send tag ∷ past)
    step Reading e rest =
        ap (λ k. set_answered s g r i (act_sent s k tag.group tag.round tag.meter past ++ acts_in s past)) e
        ∙ option_or-none (set_answered s g r i (acts_in s past))
        ∙ nothing Reading e refl rest
    step Announcement e rest =
        ap (λ k. set_answered s g r i (act_sent s k tag.group tag.round tag.meter past ++ acts_in s past)) e
        ∙ nothing Announcement e refl rest
    step Answer e rest =
        ap (λ k. set_answered s g r i (act_sent s k tag.group tag.round tag.meter past ++ acts_in s past)) e
        ∙ heard-is (is_announcement_taken s tag.group tag.round tag.meter past) refl
        ∙ ap (λ o. option_or o (if ((tag.group == g) && (tag.round == r) && (tag.meter == i)) && is_announcement_taken s tag.group tag.round tag.meter past then Some (missing s g r past) else None)) rest
        ∙ ap (λ b. option_or (answered_or_none s g r i past) (if b then Some (missing s g r past) else None)) (taken-same ((tag.group == g) && (tag.round == r) && (tag.meter == i)) refl)
        ∙ more s g r i past (Send tag) (((tag.group == g) && (tag.round == r) && (tag.meter == i)) && is_announcement_taken s g r i past)
        (ap (λ b. b && is_announcement_taken s g r i past) (sent-is Answer e) ∙ always (tag.group == g) (tag.round == r) (tag.meter == i) (is_announcement_taken s g r i past))
honest-answered s g r i (Take tag ∷ past) = honest-answered s g r i past ∙ sym (option_or-none (answered_or_none s g r i past)) ∙ more s g r i past (Take tag) false refl
honest-answered s g r i (Close a b ∷ past) = honest-answered s g r i past ∙ sym (option_or-none (answered_or_none s g r i past)) ∙ more s g r i past (Close a b) false refl
honest-answered s g r i (End a b ∷ past) = honest-answered s g r i past ∙ sym (option_or-none (answered_or_none s g r i past)) ∙ more s g r i past (End a b) false refl
