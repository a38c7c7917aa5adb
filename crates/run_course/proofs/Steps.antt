-- The steps of a run: a copy is taken, a round is closed or ended, a frame is sent, a tick begins.
use Rattle.std.proofs.Common.{◌≡◌, ℕ, ◌+◌, ◌*◌, ◌<◌, ◌≤◌, Bool, true, false, cond, ◌&&◌, List, [], ◌∷◌, ◌++◌, ◌⊎◌, refl, sym, ap, ◌∙◌, subst, ⊎_elim, inl, inr, arith}
use Rattle.std.specs.Prelude.{◌==◌, nat_le}
use Rattle.std.specs.List.{list_all, sum_by, count_by, All}
use Rattle.std.proofs.lemmas.Bool.{and_parts, cases_eq, ne_eqb, eq-eqb, eqb-true, leb-true}
use Rattle.std.proofs.lemmas.List.Sums.{sum_by-cons}
use Rattle.std.proofs.lemmas.List.Elements.{All-append}
use Rattle.group_plan.specs.declared.Kind.{Kind}
use Rattle.group_plan.specs.declared.Tag.{Tag}
use Rattle.group_plan.specs.Plans.{PlanView, IsWithinLimits}
use Rattle.link_lanes.specs.Fates.{is_delay, IsFate}
use Rattle.event_schedule.specs.declared.Event.{Event}
use Rattle.event_schedule.specs.declared.Event.TheVariants.{Send, Take, Close, End}
use Rattle.event_schedule.specs.declared.Entry.{Entry}
use Rattle.event_schedule.specs.Events.{event_of, is_tag, is_send, is_take, is_close, is_end}
use Rattle.run_rows.specs.Ticks.{clock_of, last_tick, moment, phase, takes_at, copies, sent_at, tags_of}
use Rattle.run_course.specs.declared.waiting.Arrival.{Arrival}
use Rattle.run_course.specs.Beginnings.{is_void_send}
use Rattle.run_course.specs.Lists.{IsIn}
use Rattle.run_course.specs.Sends.{rank, is_reading, owed}
use Rattle.run_course.specs.Stages.{Stage, on_way, AreCalled, Ascends, all_ranks, IsSendInTime, IsInTime, CouldCome, CanCome, start_of, last_of, Follows, IsSending, arrivals}
use Rattle.run_course.proofs.Members.{all_in, all_from_in, all_more, in_append, in_from_append, in_from_map}
use Rattle.run_course.proofs.Ranks.{ascends_append}
use Rattle.run_course.proofs.Calls.{owed_ascends}
use Rattle.run_course.proofs.Stays.{owed_stays, takes-append}
use Rattle.run_course.proofs.Entries.{stage, ordered_more, count-append, count-one, count-more, count-without, sent-append, sent-none, copies-append, closed_by_now, called_other, whole_stays}

follows_more : (plan : PlanView) (xs : List Entry) (st : Stage) (e : Entry) (ph : ℕ) (due : List Tag) (later : List Arrival) (closing ending : List ℕ) (left : List Tag) (least : ℕ)
    → Follows plan xs st → e.tick ≡ st.tick → st.phase ≤ ph → phase (event_of e.line) ≡ ph → st.tick ≤ last_tick (clock_of plan)
    → ((tag : Tag) (t : ℕ) → takes_at (xs ++ e ∷ []) tag t + on_way (stage st.tick ph due later closing ending left least) tag t ≡ sum_by (copies tag t) (xs ++ e ∷ []))
    → All (λ a. st.tick < a.tick) later
    → AreCalled plan is_close plan.w1 (xs ++ e ∷ []) st.tick closing
    → AreCalled plan is_end (plan.w1 + plan.w2) (xs ++ e ∷ []) st.tick ending
    → IsInTime plan e (event_of e.line) → IsFate e.fate → (tags_of (event_of e.line) ≡ [] → e.fate ≡ []) → is_void_send e.line ≡ false
    → CouldCome plan e.tick (event_of e.line) → All (λ tag. CanCome plan tag st.tick) due → All (λ a. CanCome plan a.tag a.tick) later
    → Follows plan (xs ++ e ∷ []) (stage st.tick ph due later closing ending left least)
follows_more plan xs st e ph due later closing ending left least f tick up is last taken ahead closed ended in_time fate other posted could due_can later_can = record {
  ordered = ordered_more xs e f.ordered (all_from_in (λ x. moment x ≤ moment e) xs (λ x at. let h = all_in (λ y. moment y ≤ 3 * st.tick + st.phase) xs f.reached x at in omega arith));
  reached = all_more (λ x. moment x ≤ 3 * st.tick + ph) xs e
      (all_from_in (λ x. moment x ≤ 3 * st.tick + ph) xs (λ x at. let h = all_in (λ y. moment y ≤ 3 * st.tick + st.phase) xs f.reached x at in omega arith)) (omega arith);
  within = all_more (λ x. x.tick ≤ last_tick (clock_of plan)) xs e f.within (omega arith);
  taken = taken;
  ahead = ahead;
  closed = closed;
  ended = ended;
  whole = λ t before. whole_stays plan xs (e ∷ []) t (closed_by_now plan xs st.tick st.closing f.closed t (inl before))
      (λ x at now. ⊎_elim (λ here. let k : e.tick ≡ x.tick = ap (λ y. y.tick) here in omega arith) (λ none. none) at) (f.whole t before);
  in_time = all_more (λ x. IsInTime plan x (event_of x.line)) xs e f.in_time in_time;
  fates = all_more (λ x. IsFate x.fate) xs e f.fates fate;
  others = all_more (λ x. tags_of (event_of x.line) ≡ [] → x.fate ≡ []) xs e f.others other;
  posted = all_more (λ x. is_void_send x.line ≡ false) xs e f.posted posted;
  could = all_more (λ x. CouldCome plan x.tick (event_of x.line)) xs e f.could could;
  due_can = due_can;
  later_can = later_can;
}

no_fate : (fate : List ℕ) → fate ≡ [] → IsFate fate
no_fate fate is = subst IsFate (sym is) (record { few = omega arith; delays = refl; order = refl })

-- ---- a copy is taken

and_true : (p : Bool) → cond {A = ℕ} (p && true) 1 0 ≡ cond p 1 0
and_true true = refl
and_true false = refl

and_false : (p : Bool) → cond {A = ℕ} (p && false) 1 0 ≡ 0
and_false true = refl
and_false false = refl

copies_of_other : (e : Entry) (tag : Tag) (t : ℕ) → ((g r i : ℕ) (k : Kind) → is_send g r i k (event_of e.line) ≡ false) → copies tag t e ≡ 0
copies_of_other e tag t none = ap (λ q. cond q (sum_by (λ d. cond (e.tick + d == t) 1 0) e.fate) 0) (none tag.group tag.round tag.meter tag.kind)

one-copies : (e : Entry) (tag : Tag) (t : ℕ) → sum_by (copies tag t) (e ∷ []) ≡ copies tag t e
one-copies e tag t = sum_by-cons (copies tag t) e [] ∙ omega arith

pub take_step : (plan : PlanView) (xs : List Entry) (st : Stage) (e : Entry) (tag : Tag) (before after : List Tag)
    → Follows plan xs st → st.phase ≡ 0 → st.due ≡ before ++ tag ∷ after → st.tick ≤ last_tick (clock_of plan) → e.tick ≡ st.tick → event_of e.line ≡ Take tag → e.fate ≡ [] → is_void_send e.line ≡ false
    → Follows plan (xs ++ e ∷ []) (record st { due = before ++ after })
take_step plan xs st e tag before after f now due_is last tick is fate posted =
    let can : All (λ z. CanCome plan z st.tick) (before ++ tag ∷ after) = subst (All (λ z. CanCome plan z st.tick)) due_is f.due_can in
    follows_more plan xs st e st.phase (before ++ after) st.later st.closing st.ending st.left st.least f tick (omega arith) (ap phase is ∙ sym now) last
    (λ z t.
    let p : Tag → Bool = is_tag z.group z.round z.meter z.kind in
    let none : copies z t e ≡ 0 = copies_of_other e z t (λ g r i k. ap (is_send g r i k) is) in
    let one : takes_at (e ∷ []) z t ≡ cond (is_take z.group z.round z.meter z.kind (event_of e.line) && (e.tick == t)) 1 0
    = count-one (λ (x : Entry). is_take z.group z.round z.meter z.kind (event_of x.line) && (x.tick == t)) e in
    let this : cond {A = ℕ} (is_take z.group z.round z.meter z.kind (event_of e.line) && (e.tick == t)) 1 0 ≡ cond (p tag && (e.tick == t)) 1 0
    = ap (λ v. cond (is_take z.group z.round z.meter z.kind v && (e.tick == t)) 1 0) is in
    let old : takes_at xs z t + (cond (t == st.tick) (count_by p (before ++ tag ∷ after)) 0 + count_by (λ a. p a.tag && (a.tick == t)) st.later) ≡ sum_by (copies z t) xs
    = subst (λ d. takes_at xs z t + (cond (t == st.tick) (count_by p d) 0 + count_by (λ a. p a.tag && (a.tick == t)) st.later) ≡ sum_by (copies z t) xs) due_is (f.taken z t) in
    ⊎_elim
    (λ same.
    let here : (t == st.tick) ≡ true = eq-eqb t st.tick same in
    let there : (e.tick == t) ≡ true = eq-eqb e.tick t (omega arith) in
    let a : cond {A = ℕ} (p tag && (e.tick == t)) 1 0 ≡ cond (p tag) 1 0 = ap (λ q. cond (p tag && q) 1 0) there ∙ and_true (p tag) in
    let b : cond (t == st.tick) (count_by p (before ++ tag ∷ after)) 0 ≡ count_by p (before ++ tag ∷ after) = ap (λ q. cond q (count_by p (before ++ tag ∷ after)) 0) here in
    let d : cond (t == st.tick) (count_by p (before ++ after)) 0 ≡ count_by p (before ++ after) = ap (λ q. cond q (count_by p (before ++ after)) 0) here in
    omega (arith, old, takes-append xs (e ∷ []) z t, copies-append xs (e ∷ []) z t, one-copies e z t, none, one, this, a, b, d, count-without p before tag after))
    (λ other.
    let here : (t == st.tick) ≡ false = ne_eqb t st.tick other in
    let there : (e.tick == t) ≡ false = ne_eqb e.tick t (λ k. other (omega arith)) in
    let a : cond {A = ℕ} (p tag && (e.tick == t)) 1 0 ≡ 0 = ap (λ q. cond (p tag && q) 1 0) there ∙ and_false (p tag) in
    let b : cond (t == st.tick) (count_by p (before ++ tag ∷ after)) 0 ≡ 0 = ap (λ q. cond q (count_by p (before ++ tag ∷ after)) 0) here in
    let d : cond (t == st.tick) (count_by p (before ++ after)) 0 ≡ 0 = ap (λ q. cond q (count_by p (before ++ after)) 0) here in
    omega (arith, old, takes-append xs (e ∷ []) z t, copies-append xs (e ∷ []) z t, one-copies e z t, none, one, this, a, b, d))
    (cases_eq t st.tick))
    f.ahead
    (called_other plan is_close plan.w1 xs st.tick st.closing e (λ g r. ap (is_close g r) is) f.closed)
    (called_other plan is_end (plan.w1 + plan.w2) xs st.tick st.ending e (λ g r. ap (is_end g r) is) f.ended)
    (subst (IsInTime plan e) (sym is) tt) (no_fate e.fate fate) (λ h. fate) posted
    (subst (CouldCome plan e.tick) (sym is) (subst (CanCome plan tag) (sym tick) (all_in (λ z. CanCome plan z st.tick) (before ++ tag ∷ after) can tag (in_append tag before (tag ∷ after) (inr (inl refl))))))
    (all_from_in (λ z. CanCome plan z st.tick) (before ++ after) (λ z at. all_in (λ z. CanCome plan z st.tick) (before ++ tag ∷ after) can z
    (in_append z before (tag ∷ after) (⊎_elim (λ first. inl first) (λ second. inr (inr second)) (in_from_append z before after at)))))
    f.later_can

-- ---- a round is closed or ended

called_this : (plan : PlanView) (test : ℕ → ℕ → Event → Bool) (window : ℕ) (xs : List Entry) (tick : ℕ) (e : Entry) (g r : ℕ) (before after : List ℕ)
    → ((h q : ℕ) → test h q (event_of e.line) ≡ ((g == h) && (r == q))) → r + window ≡ tick → e.tick ≡ tick
    → AreCalled plan test window xs tick (before ++ g ∷ after) → AreCalled plan test window (xs ++ e ∷ []) tick (before ++ after)
called_this plan test window xs tick e g r before after is at now called = record {
  counted = λ h q.
      let p : ℕ → Bool = λ z. z == h in
      let one : cond {A = ℕ} (test h q (event_of e.line)) 1 0 ≡ cond ((g == h) && (r == q)) 1 0 = ap (λ b. cond b 1 0) (is h q) in
      let more : count_by (λ (x : Entry). test h q (event_of x.line)) (xs ++ e ∷ []) ≡ count_by (λ (x : Entry). test h q (event_of x.line)) xs + cond (test h q (event_of e.line)) 1 0
      = count-more (λ (x : Entry). test h q (event_of x.line)) xs e in
      ⊎_elim
      (λ same.
      let here : (q + window == tick) ≡ true = eq-eqb (q + window) tick same in
      let there : (r == q) ≡ true = eq-eqb r q (omega arith) in
      let a : cond {A = ℕ} ((g == h) && (r == q)) 1 0 ≡ cond (g == h) 1 0 = ap (λ b. cond ((g == h) && b) 1 0) there ∙ and_true (g == h) in
      let b : cond (q + window == tick) (count_by p (before ++ g ∷ after)) 0 ≡ count_by p (before ++ g ∷ after) = ap (λ b. cond b (count_by p (before ++ g ∷ after)) 0) here in
      let d : cond (q + window == tick) (count_by p (before ++ after)) 0 ≡ count_by p (before ++ after) = ap (λ b. cond b (count_by p (before ++ after)) 0) here in
      omega (arith, called.counted h q, one, more, a, b, d, count-without p before g after))
      (λ other.
      let here : (q + window == tick) ≡ false = ne_eqb (q + window) tick other in
      let there : (r == q) ≡ false = ne_eqb r q (λ k. other (omega arith)) in
      let a : cond {A = ℕ} ((g == h) && (r == q)) 1 0 ≡ 0 = ap (λ b. cond ((g == h) && b) 1 0) there ∙ and_false (g == h) in
      let b : cond (q + window == tick) (count_by p (before ++ g ∷ after)) 0 ≡ 0 = ap (λ b. cond b (count_by p (before ++ g ∷ after)) 0) here in
      let d : cond (q + window == tick) (count_by p (before ++ after)) 0 ≡ 0 = ap (λ b. cond b (count_by p (before ++ after)) 0) here in
      omega (arith, called.counted h q, one, more, a, b, d))
      (cases_eq (q + window) tick);
  when = λ h q. all_more (λ x. test h q (event_of x.line) ≡ true → x.tick ≡ q + window) xs e (called.when h q)
      (λ yes. let k : r ≡ q = eqb-true r q (and_parts (g == h) (r == q) (sym (is h q) ∙ yes)).1 in omega arith);
  began = all_from_in (λ z. window ≤ tick) (before ++ after) (λ z _. omega arith);
}

taken_as_before : (plan : PlanView) (xs : List Entry) (st : Stage) (e : Entry) (ph : ℕ) (closing ending : List ℕ) (left : List Tag) (least : ℕ) → Follows plan xs st
    → ((g r i : ℕ) (k : Kind) → is_send g r i k (event_of e.line) ≡ false) → ((g r i : ℕ) (k : Kind) → is_take g r i k (event_of e.line) ≡ false)
    → (tag : Tag) (t : ℕ) → takes_at (xs ++ e ∷ []) tag t + on_way (stage st.tick ph st.due st.later closing ending left least) tag t ≡ sum_by (copies tag t) (xs ++ e ∷ [])
taken_as_before plan xs st e ph closing ending left least f no_send no_take tag t =
    let none : copies tag t e ≡ 0 = copies_of_other e tag t no_send in
    let one : takes_at (e ∷ []) tag t ≡ cond (is_take tag.group tag.round tag.meter tag.kind (event_of e.line) && (e.tick == t)) 1 0
    = count-one (λ (x : Entry). is_take tag.group tag.round tag.meter tag.kind (event_of x.line) && (x.tick == t)) e in
    let this : cond {A = ℕ} (is_take tag.group tag.round tag.meter tag.kind (event_of e.line) && (e.tick == t)) 1 0 ≡ 0
    = ap (λ b. cond (b && (e.tick == t)) 1 0) (no_take tag.group tag.round tag.meter tag.kind) in
    omega (arith, f.taken tag t, takes-append xs (e ∷ []) tag t, copies-append xs (e ∷ []) tag t, one-copies e tag t, none, one, this)

pub close_step : (plan : PlanView) (xs : List Entry) (st : Stage) (e : Entry) (g r : ℕ) (before after : List ℕ)
    → Follows plan xs st → st.phase ≤ 1 → st.closing ≡ before ++ g ∷ after → r + plan.w1 ≡ st.tick → st.tick ≤ last_tick (clock_of plan) → e.tick ≡ st.tick → event_of e.line ≡ Close g r → e.fate ≡ [] → is_void_send e.line ≡ false
    → Follows plan (xs ++ e ∷ []) (record st { phase = 1; closing = before ++ after })
close_step plan xs st e g r before after f now closing_is at last tick is fate posted =
    follows_more plan xs st e 1 st.due st.later (before ++ after) st.ending st.left st.least f tick now (ap phase is) last
    (taken_as_before plan xs st e 1 (before ++ after) st.ending st.left st.least f (λ g r i k. ap (is_send g r i k) is) (λ g r i k. ap (is_take g r i k) is))
    f.ahead
    (called_this plan is_close plan.w1 xs st.tick e g r before after (λ h q. ap (is_close h q) is) at tick (subst (AreCalled plan is_close plan.w1 xs st.tick) closing_is f.closed))
    (called_other plan is_end (plan.w1 + plan.w2) xs st.tick st.ending e (λ g r. ap (is_end g r) is) f.ended)
    (subst (IsInTime plan e) (sym is) tt) (no_fate e.fate fate) (λ h. fate) posted (subst (CouldCome plan e.tick) (sym is) tt) f.due_can f.later_can

pub end_step : (plan : PlanView) (xs : List Entry) (st : Stage) (e : Entry) (g r : ℕ) (before after : List ℕ)
    → Follows plan xs st → st.phase ≤ 1 → st.ending ≡ before ++ g ∷ after → r + (plan.w1 + plan.w2) ≡ st.tick → st.tick ≤ last_tick (clock_of plan) → e.tick ≡ st.tick → event_of e.line ≡ End g r → e.fate ≡ [] → is_void_send e.line ≡ false
    → Follows plan (xs ++ e ∷ []) (record st { phase = 1; ending = before ++ after })
end_step plan xs st e g r before after f now ending_is at last tick is fate posted =
    follows_more plan xs st e 1 st.due st.later st.closing (before ++ after) st.left st.least f tick now (ap phase is) last
    (taken_as_before plan xs st e 1 st.closing (before ++ after) st.left st.least f (λ g r i k. ap (is_send g r i k) is) (λ g r i k. ap (is_take g r i k) is))
    f.ahead
    (called_other plan is_close plan.w1 xs st.tick st.closing e (λ g r. ap (is_close g r) is) f.closed)
    (called_this plan is_end (plan.w1 + plan.w2) xs st.tick e g r before after (λ h q. ap (is_end h q) is) at tick (subst (AreCalled plan is_end (plan.w1 + plan.w2) xs st.tick) ending_is f.ended))
    (subst (IsInTime plan e) (sym is) tt) (no_fate e.fate fate) (λ h. fate) posted (subst (CouldCome plan e.tick) (sym is) tt) f.due_can f.later_can

-- ---- a frame is sent

count-arrivals : (p : Tag → Bool) (t tick : ℕ) (tag : Tag) (fate : List ℕ)
    → count_by (λ a. p a.tag && (a.tick == t)) (arrivals tick tag fate) ≡ cond (p tag) (count_by (λ d. tick + d == t) fate) 0
count-arrivals p t tick tag [] = none (p tag)
  where
    none : (q : Bool) → 0 ≡ cond {A = ℕ} q 0 0
    none true = refl
    none false = refl
count-arrivals p t tick tag (d ∷ fate) = split (p tag) (count-arrivals p t tick tag fate)
    (sum_by-cons (λ (a : Arrival). cond (p a.tag && (a.tick == t)) 1 0) (record { tick = tick + d; tag = tag }) (arrivals tick tag fate))
  where
    split : (q : Bool) → count_by (λ (a : Arrival). p a.tag && (a.tick == t)) (arrivals tick tag fate) ≡ cond q (count_by (λ d. tick + d == t) fate) 0
        → count_by (λ (a : Arrival). p a.tag && (a.tick == t)) (arrivals tick tag (d ∷ fate)) ≡ cond {A = ℕ} (q && (tick + d == t)) 1 0 + count_by (λ (a : Arrival). p a.tag && (a.tick == t)) (arrivals tick tag fate)
        → count_by (λ (a : Arrival). p a.tag && (a.tick == t)) (arrivals tick tag (d ∷ fate)) ≡ cond q (count_by (λ d. tick + d == t) (d ∷ fate)) 0
    split true later one = omega (arith, later, one, sum_by-cons (λ (x : ℕ). cond (tick + x == t) 1 0) d fate)
    split false later one = omega (arith, later, one)

-- a frame of this tag can be sent at this tick: its copies can come
pub record CanSend (plan : PlanView) (tag : Tag) (t : ℕ) : Type 0 where
  pub round : tag.round < plan.rounds
  pub after : start_of plan tag tag.kind ≤ t
  pub before : t + 16 ≤ last_of plan tag tag.kind

pub delays_of : (fate : List ℕ) → IsFate fate → (d : ℕ) → IsIn d fate → (1 ≤ d) × (d ≤ 16)
delays_of fate is d at = all_delays fate is.delays at
  where
    all_delays : (ds : List ℕ) → list_all is_delay ds ≡ true → IsIn d ds → (1 ≤ d) × (d ≤ 16)
    all_delays [] h at = absurd at
    all_delays (x ∷ ds) h at =
        let parts = and_parts (is_delay x) (list_all is_delay ds) h in
        let here = and_parts (nat_le 1 x) (nat_le x 16) parts.0 in
        ⊎_elim (λ e. subst (λ z. (1 ≤ z) × (z ≤ 16)) e (leb-true 1 x here.0, leb-true x 16 here.1)) (λ there. all_delays ds parts.1 there) at

pub send_step : (plan : PlanView) (xs : List Entry) (st : Stage) (e : Entry) (tag : Tag) (left : List Tag) (least : ℕ)
    → Follows plan xs st → st.phase ≤ 2 → st.tick ≤ last_tick (clock_of plan) → e.tick ≡ st.tick → event_of e.line ≡ Send tag → IsFate e.fate → is_void_send e.line ≡ false
    → IsSendInTime plan e tag → CanSend plan tag st.tick
    → Follows plan (xs ++ e ∷ []) (stage st.tick 2 st.due (st.later ++ arrivals st.tick tag e.fate) st.closing st.ending left least)
send_step plan xs st e tag left least f now last tick is fate posted in_time can =
    follows_more plan xs st e 2 st.due (st.later ++ arrivals st.tick tag e.fate) st.closing st.ending left least f tick now (ap phase is) last
    (λ z t.
    let p : Tag → Bool = is_tag z.group z.round z.meter z.kind in
    let q : Arrival → Bool = λ a. p a.tag && (a.tick == t) in
    let sent : copies z t e ≡ cond (p tag) (count_by (λ d. e.tick + d == t) e.fate) 0 = ap (λ v. cond (is_send z.group z.round z.meter z.kind v) (count_by (λ d. e.tick + d == t) e.fate) 0) is in
    let same : cond (p tag) (count_by (λ d. e.tick + d == t) e.fate) 0 ≡ cond (p tag) (count_by (λ d. st.tick + d == t) e.fate) 0 = ap (λ u. cond (p tag) (count_by (λ d. u + d == t) e.fate) 0) tick in
    let one : takes_at (e ∷ []) z t ≡ cond (is_take z.group z.round z.meter z.kind (event_of e.line) && (e.tick == t)) 1 0
    = count-one (λ (x : Entry). is_take z.group z.round z.meter z.kind (event_of x.line) && (x.tick == t)) e in
    let this : cond {A = ℕ} (is_take z.group z.round z.meter z.kind (event_of e.line) && (e.tick == t)) 1 0 ≡ 0
    = ap (λ v. cond (is_take z.group z.round z.meter z.kind v && (e.tick == t)) 1 0) is in
    omega (
      arith,
      f.taken z t,
      takes-append xs (e ∷ []) z t,
      copies-append xs (e ∷ []) z t,
      one-copies e z t,
      sent,
      same,
      one,
      this,
      count-append q st.later (arrivals st.tick tag e.fate),
      count-arrivals p t st.tick tag e.fate,
    ))
    (All-append (λ a. st.tick < a.tick) st.later (arrivals st.tick tag e.fate) f.ahead
    (all_from_in (λ a. st.tick < a.tick) (arrivals st.tick tag e.fate) (λ a at.
    let made = in_from_map (λ (d : ℕ). record { tick = st.tick + d; tag = tag }) a e.fate at in
    let ds = delays_of e.fate fate made.0 made.1 in
    let tick_is : st.tick + made.0 ≡ a.tick = ap (λ (b : Arrival). b.tick) made.2 in
    omega arith)))
    (called_other plan is_close plan.w1 xs st.tick st.closing e (λ g r. ap (is_close g r) is) f.closed)
    (called_other plan is_end (plan.w1 + plan.w2) xs st.tick st.ending e (λ g r. ap (is_end g r) is) f.ended)
    (subst (IsInTime plan e) (sym is) in_time) fate
    (λ h. let none : tags_of (Send tag) ≡ [] = ap tags_of (sym is) ∙ h in absurd (cc none)) posted
    (subst (CouldCome plan e.tick) (sym is) tt) f.due_can
    (All-append (λ a. CanCome plan a.tag a.tick) st.later (arrivals st.tick tag e.fate) f.later_can
    (all_from_in (λ a. CanCome plan a.tag a.tick) (arrivals st.tick tag e.fate) (λ a at.
    let made = in_from_map (λ (d : ℕ). record { tick = st.tick + d; tag = tag }) a e.fate at in
    let ds = delays_of e.fate fate made.0 made.1 in
    subst (λ (b : Arrival). CanCome plan b.tag b.tick) made.2
    (let low : start_of plan tag tag.kind ≤ st.tick = can.after in let high : st.tick + 16 ≤ last_of plan tag tag.kind = can.before in
    let d_low : 1 ≤ made.0 = ds.0 in let d_high : made.0 ≤ 16 = ds.1 in
    record { round = can.round; after = omega arith; before = omega arith }))))

-- the Sends of the tick with this one
pub sending_more : (plan : PlanView) (xs : List Entry) (st : Stage) (e : Entry) (tag : Tag) (later : List Arrival) (gone left : List Tag)
    → Follows plan xs st → (sending : IsSending plan xs st) → e.tick ≡ st.tick → event_of e.line ≡ Send tag
    → st.least ≤ rank tag → owed plan xs st.tick ≡ gone ++ left → Ascends (rank tag + 1) (all_ranks plan) left
    → ((y : Tag) → IsIn y (sending.gone) → IsIn y gone) → (is_reading tag.kind ≡ false → IsIn tag gone)
    → ((y : Tag) → IsIn y gone → IsIn y (sending.gone) ⊎ (y ≡ tag))
    → IsSending plan (xs ++ e ∷ []) (stage st.tick 2 st.due later st.closing st.ending left (rank tag + 1))
sending_more plan xs st e tag later gone left f sending tick is least owed_are onwards keeps goes comes =
    let one : sent_at (e ∷ []) st.tick ≡ tag ∷ [] = ap (λ q. cond q (tags_of (event_of e.line)) [] ++ []) (eq-eqb e.tick st.tick tick) ∙ ap (λ v. tags_of v ++ []) is in
    let sent : sent_at (xs ++ e ∷ []) st.tick ≡ sent_at xs st.tick ++ tag ∷ [] = sent-append xs (e ∷ []) st.tick ∙ ap (λ l. sent_at xs st.tick ++ l) one in
    let same : owed plan (xs ++ e ∷ []) st.tick ≡ owed plan xs st.tick
    = owed_stays plan xs (e ∷ []) st.tick (closed_by_now plan xs st.tick st.closing f.closed st.tick (inr (refl, sending.closed)))
    (λ z. count-one (λ (x : Entry). is_take z.group z.round z.meter z.kind (event_of x.line) && (x.tick == st.tick)) e ∙ ap (λ v. cond (is_take z.group z.round z.meter z.kind v && (e.tick == st.tick)) 1 0) is) in
    record {
      taken = sending.taken;
      closed = sending.closed;
      ended = sending.ended;
      gone = gone;
      owed_are = same ∙ owed_are;
      ascends = subst (Ascends 0 (rank tag + 1)) (sym sent) (ascends_append 0 st.least (rank tag + 1) (sent_at xs st.tick) (tag ∷ []) sending.ascends (least, omega arith));
      onwards = onwards;
      only = λ y at other. ⊎_elim (λ first. keeps y (sending.only y first other))
          (λ second. ⊎_elim (λ here. subst (λ z. IsIn z gone) here (goes (subst (λ (z : Tag). is_reading z.kind ≡ false) (sym here) other))) (λ none. absurd none) second)
          (in_from_append y (sent_at xs st.tick) (tag ∷ []) (subst (IsIn y) sent at));
      each = λ y at. subst (IsIn y) (sym sent) (in_append y (sent_at xs st.tick) (tag ∷ [])
          (⊎_elim (λ before. inl (sending.each y before)) (λ here. inr (inl (sym here))) (comes y at)));
      last = inr (tag, subst (IsIn tag) (sym sent) (in_append tag (sent_at xs st.tick) (tag ∷ []) (inr (inl refl))), refl);
    }

-- ---- the Sends of a tick begin

pub begin_sends : (plan : PlanView) → IsWithinLimits plan → (xs : List Entry) (st : Stage) → Follows plan xs st → st.phase ≤ 1 → st.due ≡ [] → st.closing ≡ [] → st.ending ≡ []
    → Follows plan xs (stage st.tick 2 st.due st.later st.closing st.ending (owed plan xs st.tick) 0)
    × IsSending plan xs (stage st.tick 2 st.due st.later st.closing st.ending (owed plan xs st.tick) 0)
begin_sends plan limits xs st f now due_none closing_none ending_none =
    let quiet : sent_at xs st.tick ≡ [] = sent-none xs st.tick (λ e at tick.
    let h = all_in (λ x. moment x ≤ 3 * st.tick + st.phase) xs f.reached e at in no_send (event_of e.line) (omega arith)) in (
      record {
        ordered = f.ordered;
        reached = all_from_in (λ x. moment x ≤ 3 * st.tick + 2) xs (λ x at. let h = all_in (λ y. moment y ≤ 3 * st.tick + st.phase) xs f.reached x at in omega arith);
        within = f.within;
        taken = f.taken;
        ahead = f.ahead;
        closed = f.closed;
        ended = f.ended;
        whole = f.whole;
        in_time = f.in_time;
        fates = f.fates;
        others = f.others;
        posted = f.posted;
        could = f.could;
        due_can = f.due_can;
        later_can = f.later_can;
      },
      record {
        taken = due_none;
        closed = closing_none;
        ended = ending_none;
        gone = [];
        owed_are = refl;
        ascends = subst (Ascends 0 0) (sym quiet) (omega arith);
        onwards = owed_ascends plan limits xs st.tick;
        only = λ y at other. absurd (subst (IsIn y) quiet at);
        each = λ y at. absurd at;
        last = inl refl;
      },
    )
  where
    no_send : (v : Event) → phase v ≤ 1 → tags_of v ≡ []
    no_send (Send tag) h = absurd (omega arith)
    no_send (Take tag) h = refl
    no_send (Close g r) h = refl
    no_send (End g r) h = refl
