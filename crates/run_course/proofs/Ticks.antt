-- A tick ends and the next one begins.
use Rattle.std.proofs.Common.{◌≡◌, ℕ, ◌+◌, ◌*◌, ◌<◌, ◌≤◌, Bool, true, false, cond, not, ◌&&◌, List, [], ◌∷◌, ◌++◌, refl, sym, ap, ◌∙◌, subst, ⊎_elim, arith, append-nil}
use Rattle.std.specs.Prelude.{◌==◌, nat_le}
use Rattle.std.specs.List.{filter, count_by, All}
use Rattle.std.proofs.lemmas.Bool.{and_right, cases_eq, cases_lt, ne_eqb, eq-eqb, eqb-false, le-leb, lt-leb, not-true}
use Rattle.std.proofs.lemmas.List.Sums.{sum_by-cons}
use Rattle.group_plan.specs.declared.Tag.{Tag}
use Rattle.group_plan.specs.Plans.{PlanView}
use Rattle.event_schedule.specs.declared.Event.{Event}
use Rattle.event_schedule.specs.declared.Entry.{Entry}
use Rattle.event_schedule.specs.Events.{is_tag, is_close, is_end}
use Rattle.run_rows.specs.Ticks.{moment, copies, sent_at}
use Rattle.run_course.specs.declared.waiting.Arrival.{Arrival}
use Rattle.run_course.specs.Lists.{IsIn}
use Rattle.run_course.specs.Sends.{owed}
use Rattle.run_course.specs.Stages.{Stage, is_round_of, AreCalled, Ascends, all_ranks, IsWholeTick, CanCome, Follows, IsSending, AreDueCopies, AreDueRounds}
use Rattle.run_course.proofs.Members.{all_in, all_from_in, in_from_filter}
use Rattle.run_course.proofs.Ranks.{ascends_wider}
use Rattle.run_course.proofs.Entries.{stage}

count-one_of : (p : Tag → Bool) (t u : ℕ) (a : Arrival) (later : List Arrival)
    → count_by (λ b. p b.tag && (b.tick == t)) (filter (λ b. not (b.tick == u)) later) ≡ cond (t == u) 0 (count_by (λ b. p b.tag && (b.tick == t)) later)
    → count_by (λ b. p b.tag && (b.tick == t)) (filter (λ b. not (b.tick == u)) (a ∷ later)) ≡ cond (t == u) 0 (count_by (λ b. p b.tag && (b.tick == t)) (a ∷ later))
count-one_of p t u a later ih =
    ⊎_elim
    (λ same.
    ⊎_elim
    (λ at.
    let here : (t == u) ≡ true = eq-eqb t u same in
    let gone : (a.tick == u) ≡ true = eq-eqb a.tick u at in
    ap (λ q. count_by (λ b. p b.tag && (b.tick == t)) (cond (not q) (a ∷ (filter (λ b. not (b.tick == u)) later)) (filter (λ b. not (b.tick == u)) later))) gone ∙ ih ∙ ap (λ q. cond q 0 (count_by (λ b. p b.tag && (b.tick == t)) later)) here ∙ sym (ap (λ q. cond q 0 (count_by (λ b. p b.tag && (b.tick == t)) (a ∷ later))) here))
    (λ off.
    let here : (t == u) ≡ true = eq-eqb t u same in
    let stays : (a.tick == u) ≡ false = ne_eqb a.tick u off in
    let no : cond {A = ℕ} (p a.tag && (a.tick == t)) 1 0 ≡ 0 = ap (λ q. cond q 1 0) (and_right (p a.tag) (a.tick == t) (ne_eqb a.tick t (λ e. off (omega arith)))) in
    ap (λ q. count_by (λ b. p b.tag && (b.tick == t)) (cond (not q) (a ∷ (filter (λ b. not (b.tick == u)) later)) (filter (λ b. not (b.tick == u)) later))) stays
    ∙ omega (arith, sum_by-cons (λ (b : Arrival). cond (p b.tag && (b.tick == t)) 1 0) a (filter (λ b. not (b.tick == u)) later), no, ih, ap (λ q. cond q 0 (count_by (λ b. p b.tag && (b.tick == t)) later)) here, ap (λ q. cond q 0 (count_by (λ b. p b.tag && (b.tick == t)) (a ∷ later))) here))
    (cases_eq a.tick u))
    (λ differ.
    ⊎_elim
    (λ at.
    let here : (t == u) ≡ false = ne_eqb t u differ in
    let gone : (a.tick == u) ≡ true = eq-eqb a.tick u at in
    let no : cond {A = ℕ} (p a.tag && (a.tick == t)) 1 0 ≡ 0 = ap (λ q. cond q 1 0) (and_right (p a.tag) (a.tick == t) (ne_eqb a.tick t (λ e. differ (omega arith)))) in
    ap (λ q. count_by (λ b. p b.tag && (b.tick == t)) (cond (not q) (a ∷ (filter (λ b. not (b.tick == u)) later)) (filter (λ b. not (b.tick == u)) later))) gone
    ∙ omega (arith, sum_by-cons (λ (b : Arrival). cond (p b.tag && (b.tick == t)) 1 0) a later, no, ih, ap (λ q. cond q 0 (count_by (λ b. p b.tag && (b.tick == t)) later)) here, ap (λ q. cond q 0 (count_by (λ b. p b.tag && (b.tick == t)) (a ∷ later))) here))
    (λ off.
    let here : (t == u) ≡ false = ne_eqb t u differ in
    let stays : (a.tick == u) ≡ false = ne_eqb a.tick u off in
    ap (λ q. count_by (λ b. p b.tag && (b.tick == t)) (cond (not q) (a ∷ (filter (λ b. not (b.tick == u)) later)) (filter (λ b. not (b.tick == u)) later))) stays
    ∙ omega (
      arith,
      sum_by-cons (λ (b : Arrival). cond (p b.tag && (b.tick == t)) 1 0) a (filter (λ b. not (b.tick == u)) later),
      sum_by-cons (λ (b : Arrival). cond (p b.tag && (b.tick == t)) 1 0) a later,
      ih,
      ap (λ q. cond q 0 (count_by (λ b. p b.tag && (b.tick == t)) later)) here,
      ap (λ q. cond q 0 (count_by (λ b. p b.tag && (b.tick == t)) (a ∷ later))) here,
    ))
    (cases_eq a.tick u))
    (cases_eq t u)

-- the copies of other ticks
count-others : (p : Tag → Bool) (t u : ℕ) (later : List Arrival)
    → count_by (λ a. p a.tag && (a.tick == t)) (filter (λ a. not (a.tick == u)) later) ≡ cond (t == u) 0 (count_by (λ a. p a.tag && (a.tick == t)) later)
count-others p t u [] = none (t == u)
  where
    none : (q : Bool) → 0 ≡ cond {A = ℕ} q 0 0
    none true = refl
    none false = refl
count-others p t u (a ∷ later) = count-one_of p t u a later (count-others p t u later)

-- a tick is whole where nothing is left to be sent
pub whole_now : (plan : PlanView) (xs : List Entry) (st : Stage) → IsSending plan xs st → st.left ≡ [] → IsWholeTick plan xs st.tick
whole_now plan xs st sending none =
    let all : owed plan xs st.tick ≡ sending.gone = sending.owed_are ∙ ap (λ l. sending.gone ++ l) none ∙ append-nil sending.gone in
    let high : st.least ≤ all_ranks plan = subst (Ascends st.least (all_ranks plan)) none sending.onwards in
    record {
      ascends = ascends_wider 0 0 st.least (all_ranks plan) (sent_at xs st.tick) (omega arith) high sending.ascends;
      only = λ y at other. subst (IsIn y) (sym all) (sending.only y at other);
      each = λ y at. sending.each y (subst (IsIn y) all at);
    }

next_called : (plan : PlanView) (test : ℕ → ℕ → Event → Bool) (window : ℕ) (xs : List Entry) (tick : ℕ) (groups next : List ℕ) → groups ≡ []
    → AreDueRounds plan window (tick + 1) next → AreCalled plan test window xs tick groups → AreCalled plan test window xs (tick + 1) next
next_called plan test window xs tick groups next none due called = record {
  counted = λ g r.
      let past : cond {A = ℕ} (r + window == tick) (count_by (λ h. h == g) groups) 0 ≡ 0
      = ap (λ hs. cond (r + window == tick) (count_by (λ h. h == g) hs) 0) none ∙ zero_or (r + window == tick) in
      ⊎_elim
      (λ now.
      let here : (r + window == tick + 1) ≡ true = eq-eqb (r + window) (tick + 1) now in
      let a : cond {A = ℕ} (r + window == tick + 1) (count_by (λ h. h == g) next) 0 ≡ count_by (λ h. h == g) next = ap (λ q. cond q (count_by (λ h. h == g) next) 0) here in
      let b : cond {A = ℕ} (is_round_of plan g r && nat_le (r + window) tick) 1 0 ≡ 0 = ap (λ q. cond q 1 0) (and_right (is_round_of plan g r) (nat_le (r + window) tick) (lt-leb (r + window) tick (omega arith))) in
      let d : cond {A = ℕ} (is_round_of plan g r && nat_le (r + window) (tick + 1)) 1 0 ≡ cond (is_round_of plan g r) 1 0
      = ap (λ q. cond (is_round_of plan g r && q) 1 0) (le-leb (r + window) (tick + 1) (omega arith)) ∙ and_true (is_round_of plan g r) in
      omega (arith, called.counted g r, past, a, b, d, due.each g r now))
      (λ other.
      let here : (r + window == tick + 1) ≡ false = ne_eqb (r + window) (tick + 1) other in
      let a : cond {A = ℕ} (r + window == tick + 1) (count_by (λ h. h == g) next) 0 ≡ 0 = ap (λ q. cond q (count_by (λ h. h == g) next) 0) here in
      let d : nat_le (r + window) (tick + 1) ≡ nat_le (r + window) tick
      = ⊎_elim (λ late. lt-leb (r + window) (tick + 1) (omega arith) ∙ sym (lt-leb (r + window) tick late)) (λ early. le-leb (r + window) (tick + 1) (omega arith) ∙ sym (le-leb (r + window) tick early)) (cases_lt tick (r + window)) in
      omega (arith, called.counted g r, past, a, ap (λ q. cond {A = ℕ} (is_round_of plan g r && q) 1 0) d))
      (cases_eq (r + window) (tick + 1));
  when = called.when;
  began = due.began;
}
  where
    zero_or : (q : Bool) → cond {A = ℕ} q 0 0 ≡ 0
    zero_or true = refl
    zero_or false = refl

    and_true : (p : Bool) → cond {A = ℕ} (p && true) 1 0 ≡ cond p 1 0
    and_true true = refl
    and_true false = refl

-- the next tick begins
pub next_tick : (plan : PlanView) (xs : List Entry) (st : Stage) (due : List Tag) (later : List Arrival) (closing ending : List ℕ) (left : List Tag) (least : ℕ)
    → Follows plan xs st → IsSending plan xs st → st.phase ≤ 2 → st.left ≡ [] → AreDueCopies (st.tick + 1) st.later due later
    → AreDueRounds plan plan.w1 (st.tick + 1) closing → AreDueRounds plan (plan.w1 + plan.w2) (st.tick + 1) ending
    → Follows plan xs (stage (st.tick + 1) 0 due later closing ending left least)
next_tick plan xs st due later closing ending left least f sending low none copies closes ends = record {
  ordered = f.ordered;
  reached = all_from_in (λ x. moment x ≤ 3 * (st.tick + 1) + 0) xs (λ x at. let h = all_in (λ y. moment y ≤ 3 * st.tick + st.phase) xs f.reached x at in omega arith);
  within = f.within;
  taken = λ tag t.
      let p : Tag → Bool = is_tag tag.group tag.round tag.meter tag.kind in
      let q : Arrival → Bool = λ a. p a.tag && (a.tick == t) in
      let old : cond {A = ℕ} (t == st.tick) (count_by p st.due) 0 ≡ 0 = ap (λ d. cond (t == st.tick) (count_by p d) 0) sending.taken ∙ zero_or (t == st.tick) in
      let rest : count_by q later ≡ cond (t == st.tick + 1) 0 (count_by q st.later) = ap (count_by q) copies.others ∙ count-others p t (st.tick + 1) st.later in
      ⊎_elim
      (λ now.
      let here : (t == st.tick + 1) ≡ true = eq-eqb t (st.tick + 1) now in
      let a : cond {A = ℕ} (t == st.tick + 1) (count_by p due) 0 ≡ count_by p due = ap (λ b. cond b (count_by p due) 0) here in
      let b : cond (t == st.tick + 1) 0 (count_by q st.later) ≡ 0 = ap (λ b. cond b 0 (count_by q st.later)) here in
      let d : count_by p due ≡ count_by q st.later = subst (λ u. count_by p due ≡ count_by (λ (z : Arrival). p z.tag && (z.tick == u)) st.later) (sym now) (copies.counted p) in
      omega (arith, f.taken tag t, old, rest, a, b, d))
      (λ other.
      let here : (t == st.tick + 1) ≡ false = ne_eqb t (st.tick + 1) other in
      let a : cond {A = ℕ} (t == st.tick + 1) (count_by p due) 0 ≡ 0 = ap (λ b. cond b (count_by p due) 0) here in
      let b : cond (t == st.tick + 1) 0 (count_by q st.later) ≡ count_by q st.later = ap (λ b. cond b 0 (count_by q st.later)) here in
      omega (arith, f.taken tag t, old, rest, a, b))
      (cases_eq t (st.tick + 1));
  ahead = subst (All (λ a. st.tick + 1 < a.tick)) (sym copies.others) (all_from_in (λ a. st.tick + 1 < a.tick) (filter (λ a. not (a.tick == st.tick + 1)) st.later) (λ a at.
      let kept = in_from_filter (λ a. not (a.tick == st.tick + 1)) a st.later at in
      let ahead = all_in (λ a. st.tick < a.tick) st.later f.ahead a kept.0 in
      let differ : a.tick ≡ st.tick + 1 → ⊥ = eqb-false a.tick (st.tick + 1) (not-true (a.tick == st.tick + 1) kept.1) in
      omega arith));
  closed = next_called plan is_close plan.w1 xs st.tick st.closing closing sending.closed closes f.closed;
  ended = next_called plan is_end (plan.w1 + plan.w2) xs st.tick st.ending ending sending.ended ends f.ended;
  whole = λ t before. ⊎_elim (λ past. f.whole t past) (λ now. subst (IsWholeTick plan xs) (let e : st.tick ≡ t = omega arith in e) (whole_now plan xs st sending none)) (cases_lt t st.tick);
  in_time = f.in_time;
  fates = f.fates;
  others = f.others;
  posted = f.posted;
  could = f.could;
  due_can = all_from_in (λ tag. CanCome plan tag (st.tick + 1)) due (λ tag at.
      let from = copies.from tag at in
      subst (λ u. CanCome plan tag u) from.2 (subst (λ z. CanCome plan z from.0.tick) from.3 (all_in (λ a. CanCome plan a.tag a.tick) st.later f.later_can from.0 from.1)));
  later_can = subst (All (λ a. CanCome plan a.tag a.tick)) (sym copies.others) (all_from_in (λ a. CanCome plan a.tag a.tick) (filter (λ a. not (a.tick == st.tick + 1)) st.later) (λ a at.
      all_in (λ a. CanCome plan a.tag a.tick) st.later f.later_can a (in_from_filter (λ a. not (a.tick == st.tick + 1)) a st.later at).0));
}
  where
    zero_or : (q : Bool) → cond {A = ℕ} q 0 0 ≡ 0
    zero_or true = refl
    zero_or false = refl
