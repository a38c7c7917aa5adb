-- An entry that can come next stands among those that are left of a run, behind entries only that it may pass.
use Rattle.std.proofs.Common.{◌≡◌, ℕ, ◌+◌, ◌*◌, ◌<◌, ◌≤◌, Bool, true, false, cond, not, ◌&&◌, List, [], ◌∷◌, ◌++◌, length, refl, sym, ap, ◌∙◌, subst, ⊎_elim, inl, inr, arith, append-nil, append_assoc, length-append}
use Rattle.std.specs.Prelude.{◌==◌, nat_lt, reverse, if◌then◌else◌}
use Rattle.std.specs.List.{filter, sum_by, count_by, flat_map, range_with_len, All}
use mathlib.Core.Path.{fun_ext}
use Rattle.std.proofs.lemmas.Bool.{true≢false, cases_Bool, cases_eq, cases_lt, eq-eqb, eqb-true, and_from}
use Rattle.std.proofs.lemmas.List.{map-append, reverse-append, append_cancel_left}
use Rattle.std.proofs.lemmas.List.Sums.{sum_by-cons}
use Rattle.group_plan.specs.declared.Kind.TheVariants.{Reading, Announcement, Answer}
use Rattle.group_plan.specs.declared.Tag.{Tag}
use Rattle.link_lanes.specs.Lanes.{Slot}
use Rattle.event_schedule.specs.declared.Event.{Event}
use Rattle.event_schedule.specs.declared.Event.TheVariants.{Send, Take, Close, End}
use Rattle.event_schedule.specs.declared.Line.{Line}
use Rattle.event_schedule.specs.declared.Entry.{Entry}
use Rattle.event_schedule.specs.Events.{once, event_of, events_of, is_tag, is_send, is_take, is_close, is_end}
use Rattle.event_schedule.specs.Schedule.{Shape, members_of, survivors, is_announced}
use Rattle.event_schedule.proofs.EventLemmas.{is_send-itself}
use Rattle.event_schedule.specs.Transcript.{Contents, line}
use Rattle.run_rows.specs.Runs.{IsRun}
use Rattle.run_rows.specs.Ticks.{Clock, IsRunPlan, StandsOnce, in_plan, moment, phase, takes_at, copies, tag_of, tags, tags_of, sent_at, due_of}
use Rattle.run_course.specs.Lists.{IsIn}
use Rattle.run_course.proofs.Entries.{count-append, count-one, copies-append, sent-append, sent-elsewhere}
use Rattle.run_course.proofs.Members.{all_in, all_from_in, in_append}
use Rattle.run_course.proofs.Refusals.{first_of, later_than, once_at, once_count}
use Rattle.run_course.proofs.Stays.{takes-append}
use Rattle.cut_resume.specs.OnCourse.{IsNext, IsDueTake, IsDueCall, IsDueSend, TakesAreWhole, CallsAreWhole, due_at, fate_due}
use Rattle.cut_resume.specs.Order.{IsPicked, are_apart, may_pass}
use Rattle.cut_resume.proofs.OnCourse.{first, next}
use Rattle.cut_resume.proofs.Splits.{phase_most, sends_left}
use Rattle.cut_resume.proofs.Swapped.{apart_turned, quiet, same_pair, same_tag}

-- ---- the first that passes a test

record IsFirstSuch {X : Type 0} (p : X → Bool) (xs : List X) : Type 0 where
  passed : List X
  here : X
  more : List X
  stands : xs ≡ passed ++ here ∷ more
  passes : p here ≡ true
  none : (x : X) → IsIn x passed → p x ≡ false

first_such : {X : Type 0} (p : X → Bool) (xs : List X) → 0 < count_by p xs → IsFirstSuch p xs
first_such p [] some = absurd (omega (arith, some))
first_such {X} p (x ∷ xs) some =
    ⊎_elim
    (λ here. record { passed = []; here = x; more = xs; stands = refl; passes = here; none = λ y at. absurd at })
    (λ off.
    let zero : cond {A = ℕ} (p x) 1 0 ≡ 0 = ap (λ q. cond q 1 0) off in
    let later : IsFirstSuch p xs = first_such p xs (omega (arith, some, sum_by-cons (λ (y : X). cond (p y) 1 0) x xs, zero)) in
    record {
      passed = x ∷ later.passed;
      here = later.here;
      more = later.more;
      stands = ap (λ l. x ∷ l) later.stands;
      passes = later.passes;
      none = λ y at. ⊎_elim (λ same. subst (λ z. p z ≡ false) same off) (λ there. later.none y there) at;
    })
    (cases_Bool (p x))

-- ---- entries that are the same

pub same_entry : (x e : Entry) → x.tick ≡ e.tick → x.fate ≡ e.fate → x.line ≡ e.line → x ≡ e
same_entry x e tick fate says =
    ap (made x.fate x.line) tick ∙ ap (λ f. made f x.line e.tick) fate ∙ ap (λ l. made e.fate l e.tick) says
  where
    made : List ℕ → Line → ℕ → Entry
    made fate says tick = record { tick = tick; fate = fate; line = says }

pub past_of_one : (xs : List Entry) (x : Entry) → reverse (events_of (xs ++ x ∷ [])) ≡ event_of x.line ∷ reverse (events_of xs)
past_of_one xs x = ap reverse (map-append (λ (z : Entry). event_of z.line) xs (x ∷ [])) ∙ reverse-append (events_of xs) (event_of x.line ∷ [])

-- the line of an event is the same after events that are apart from it
line_after_apart : (s : Shape) (words : Contents) (b : Event) (passed before : List Entry) → ((x : Entry) → IsIn x passed → are_apart (event_of x.line) b ≡ true)
    → line s words (reverse (events_of (before ++ passed))) b ≡ line s words (reverse (events_of before)) b
line_after_apart s words b [] before apart = ap (λ l. line s words (reverse (events_of l)) b) (append-nil before)
line_after_apart s words b (x ∷ passed) before apart =
    ap (λ l. line s words (reverse (events_of l)) b) (sym (append_assoc before (x ∷ []) passed))
    ∙ line_after_apart s words b passed (before ++ x ∷ []) (λ y at. apart y (inr at))
    ∙ ap (λ p. line s words p b) (past_of_one before x)
    ∙ (quiet s (reverse (events_of before)) (event_of x.line) b (apart x (inl refl))).says words

-- ---- tests of events

take_itself : (tag : Tag) → is_tag tag.group tag.round tag.meter tag.kind tag ≡ true
take_itself tag = is_send-itself tag.group tag.round tag.meter tag.kind

pair_itself : (g r : ℕ) → ((g == g) && (r == r)) ≡ true
pair_itself g r = and_from (g == g) (r == r) (eq-eqb g g refl) (eq-eqb r r refl)

pub left_of : (p q : Bool) → (p && q) ≡ true → p ≡ true
left_of true q is = refl
left_of false q is = is

pub right_of : (p q : Bool) → (p && q) ≡ true → q ≡ true
right_of true q is = is
right_of false q is = absurd (true≢false (sym is))

take_is : (tag : Tag) (v : Event) → is_take tag.group tag.round tag.meter tag.kind v ≡ true → v ≡ Take tag
take_is tag (Take y) is = ap Take (same_tag tag y is)
take_is tag (Send y) is = absurd (true≢false (sym is))
take_is tag (Close h q) is = absurd (true≢false (sym is))
take_is tag (End h q) is = absurd (true≢false (sym is))

close_is : (g r : ℕ) (v : Event) → is_close g r v ≡ true → v ≡ Close g r
close_is g r (Close h q) is = let both = same_pair h q g r is in ap (λ a. Close a q) both.0 ∙ ap (Close g) both.1
close_is g r (Take y) is = absurd (true≢false (sym is))
close_is g r (Send y) is = absurd (true≢false (sym is))
close_is g r (End h q) is = absurd (true≢false (sym is))

end_is : (g r : ℕ) (v : Event) → is_end g r v ≡ true → v ≡ End g r
end_is g r (End h q) is = let both = same_pair h q g r is in ap (λ a. End a q) both.0 ∙ ap (End g) both.1
end_is g r (Take y) is = absurd (true≢false (sym is))
end_is g r (Send y) is = absurd (true≢false (sym is))
end_is g r (Close h q) is = absurd (true≢false (sym is))

-- a Take of another tag is apart
take_apart : (tag : Tag) (v : Event) → phase v ≡ 0 → is_take tag.group tag.round tag.meter tag.kind v ≡ false → are_apart v (Take tag) ≡ true
take_apart tag (Take y) now off = apart_turned (Take tag) (Take y) (ap not off)
take_apart tag (Send y) now off = absurd (omega (arith, now))
take_apart tag (Close h q) now off = absurd (omega (arith, now))
take_apart tag (End h q) now off = absurd (omega (arith, now))

-- so is a Close or an End of another round
close_apart : (g r : ℕ) (v : Event) → phase v ≡ 1 → is_close g r v ≡ false → is_end g r v ≡ false → are_apart v (Close g r) ≡ true
close_apart g r (Close h q) now off none = ap not off
close_apart g r (End h q) now off none = ap not none
close_apart g r (Take y) now off none = absurd (omega (arith, now))
close_apart g r (Send y) now off none = absurd (omega (arith, now))

end_apart : (g r : ℕ) (v : Event) → phase v ≡ 1 → is_end g r v ≡ false → is_close g r v ≡ false → are_apart v (End g r) ≡ true
end_apart g r (Close h q) now off none = ap not none
end_apart g r (End h q) now off none = ap not off
end_apart g r (Take y) now off none = absurd (omega (arith, now))
end_apart g r (Send y) now off none = absurd (omega (arith, now))

-- ---- what is due after a Send is what was due before it

due_send : (s : Shape) (c : Clock) (before : List Entry) (e : Entry) (tag : Tag) (t g : ℕ) → event_of e.line ≡ Send tag → due_of s c (before ++ e ∷ []) t g ≡ due_of s c before t g
unfolding once
due_send s c before e tag t g k =
    ap (λ p. readings ++ flat_map (announced p) rounds ++ flat_map (answered (before ++ e ∷ [])) rounds) (past_of_one before e ∙ ap (λ v. v ∷ reverse (events_of before)) k)
    ∙ ap (λ f. readings ++ flat_map (announced (reverse (events_of before))) rounds ++ flat_map f rounds) (fun_ext (λ r.
    ap (λ test. tags Answer g r (filter test (members_of s g r))) (fun_ext (λ i. ap (nat_lt 0) (none_more (tag_of Announcement g r i))))))
  where
    rounds : List ℕ
    rounds = range_with_len 0 c.rounds

    readings : List Tag
    readings = tags Reading g t (if nat_lt t c.rounds then filter (λ i. s.present g t i) (members_of s g t) else [])

    announced : List Event → ℕ → List Tag
    announced p r = if (r + c.w1 == t) && is_announced s g r p then tags Announcement g r (survivors s g r p) else []

    answered : List Entry → ℕ → List Tag
    answered es r = tags Answer g r (filter (λ i. nat_lt 0 (takes_at es (tag_of Announcement g r i) t)) (members_of s g r))

    none_more : (z : Tag) → takes_at (before ++ e ∷ []) z t ≡ takes_at before z t
    none_more z =
        let off : cond {A = ℕ} (is_take z.group z.round z.meter z.kind (event_of e.line) && (e.tick == t)) 1 0 ≡ 0 = ap (λ v. cond {A = ℕ} (is_take z.group z.round z.meter z.kind v && (e.tick == t)) 1 0) k in
        omega (arith, takes-append before (e ∷ []) z t, count-one (λ (x : Entry). is_take z.group z.round z.meter z.kind (event_of x.line) && (x.tick == t)) e, off)

-- ---- an entry that can come next

module _ (s : Shape) (c : Clock) (slots : List Slot) (words : Contents) (plan : IsRunPlan s c) (before : List Entry) (e : Entry) (nx : IsNext s c slots words before e) where
  delays_in : (left : List Entry) → IsRun s c slots words (before ++ left) → (y : Entry) → IsIn y left → All (λ d. 0 < d) y.fate
  delays_in left is y at = all_in (λ z. All (λ d. 0 < d) z.fate) (before ++ left) is.delays y (in_append y before left (inr at))

  takes_more : (x : Entry) (tag : Tag) → event_of x.line ≡ Take tag → (takes_at (before ++ x ∷ []) tag x.tick ≡ takes_at before tag x.tick + 1) × (sum_by (copies tag x.tick) (before ++ x ∷ []) ≡ sum_by (copies tag x.tick) before)
  takes_more x tag k =
      let on : (is_take tag.group tag.round tag.meter tag.kind (event_of x.line) && (x.tick == x.tick)) ≡ true
      = and_from _ (x.tick == x.tick) (ap (is_take tag.group tag.round tag.meter tag.kind) k ∙ take_itself tag) (eq-eqb x.tick x.tick refl) in
      let one : cond {A = ℕ} (is_take tag.group tag.round tag.meter tag.kind (event_of x.line) && (x.tick == x.tick)) 1 0 ≡ 1 = ap (λ q. cond {A = ℕ} q 1 0) on in
      let none : copies tag x.tick x ≡ 0 = ap (λ v. if is_send tag.group tag.round tag.meter tag.kind v then count_by (λ d. x.tick + d == x.tick) x.fate else 0) k in (
        omega (arith, takes-append before (x ∷ []) tag x.tick, count-one (λ (z : Entry). is_take tag.group tag.round tag.meter tag.kind (event_of z.line) && (z.tick == x.tick)) x, one),
        omega (arith, copies-append before (x ∷ []) tag x.tick, sum_by-cons (copies tag x.tick) x [], none),
      )

  called_more : (test : Event → Bool) (x : Entry) → test (event_of x.line) ≡ true → count_by (λ (z : Entry). test (event_of z.line)) (before ++ x ∷ []) ≡ count_by (λ (z : Entry). test (event_of z.line)) before + 1
  called_more test x on =
      let one : cond {A = ℕ} (test (event_of x.line)) 1 0 ≡ 1 = ap (λ q. cond {A = ℕ} q 1 0) on in
      omega (arith, count-append (λ (z : Entry). test (event_of z.line)) before (x ∷ []), count-one (λ (z : Entry). test (event_of z.line)) x, one)

  -- the rest of a run begins no earlier than it
  earlier_take : (x : Entry) (more : List Entry) → IsRun s c slots words (before ++ x ∷ more) → (tag : Tag) → event_of x.line ≡ Take tag → moment x < moment e → ⊥
  earlier_take x more is tag k less =
      let mine : takes_at (before ++ x ∷ []) tag x.tick ≤ sum_by (copies tag x.tick) (before ++ x ∷ []) = subst (IsDueTake (before ++ x ∷ []) x.tick) k (next s c slots words before x more is).take in
      let first_phase : phase (event_of x.line) ≡ 0 = ap phase k in
      let whole : TakesAreWhole before x.tick = ⊎_elim (λ below. (nx.whole.ticks x.tick below).takes)
      (λ above. let at : e.tick ≡ x.tick = (let p = phase_most (event_of e.line) in omega (arith, first_phase)) in subst (TakesAreWhole before) at (nx.whole.takes (omega (arith, at, first_phase)))) (cases_lt x.tick e.tick) in
      let both = takes_more x tag k in
      omega (arith, mine, whole tag, both.0, both.1)

  earlier_call : (test : Event → Bool) (due : Bool) (tick : ℕ) (x : Entry) → StandsOnce test due tick (before ++ x ∷ []) → (x.tick ≡ tick → StandsOnce test due tick before) → test (event_of x.line) ≡ true → ⊥
  earlier_call test due tick x mine whole on =
      let at = once_at test due tick (before ++ x ∷ []) mine x (in_append x before (x ∷ []) (inr (inl refl))) on in
      omega (arith, once_count test due tick (before ++ x ∷ []) mine, once_count test due tick before (whole at.1), called_more test x on)

  calls_before : (x : Entry) → phase (event_of x.line) ≡ 1 → moment x < moment e → CallsAreWhole s c before x.tick
  calls_before x second less =
      ⊎_elim (λ below. (nx.whole.ticks x.tick below).calls)
      (λ above. let at : e.tick ≡ x.tick = (let p = phase_most (event_of e.line) in omega (arith, second)) in subst (CallsAreWhole s c before) at (nx.whole.calls (omega (arith, at, second)))) (cases_lt x.tick e.tick)

  sends_more : (left : List Entry) → IsRun s c slots words (before ++ left) → (t : ℕ) → ((y : Entry) → IsIn y left → 3 * t + 1 < moment y) → due_at s c before t ≡ sent_at before t ++ sent_at left t
  sends_more left is t later = sends_left s c before left is.run.taken is.run.closed is.run.ended is.run.sent (delays_in left is) t later

  sent_first : (x : Entry) (more : List Entry) (tag : Tag) → event_of x.line ≡ Send tag → sent_at (x ∷ more) x.tick ≡ tag ∷ sent_at more x.tick
  sent_first x more tag k = ap (λ q. cond q (tags_of (event_of x.line)) [] ++ sent_at more x.tick) (eq-eqb x.tick x.tick refl) ∙ ap (λ v. tags_of v ++ sent_at more x.tick) k

  earlier_send : (x : Entry) (more : List Entry) → IsRun s c slots words (before ++ x ∷ more) → (tag : Tag) → event_of x.line ≡ Send tag → moment x < moment e → ⊥
  earlier_send x more is tag k less =
      let last : phase (event_of x.line) ≡ 2 = ap phase k in
      let below : x.tick < e.tick = (let p = phase_most (event_of e.line) in omega (arith, last)) in
      let left = sends_more (x ∷ more) is x.tick (λ y at. let h = first_of before x more is.run.ordered y at in omega (arith, last)) in
      let lengths = ap length ((nx.whole.ticks x.tick below).sends ∙ left) in
      let some = ap length (sent_first x more tag k) in
      omega (arith, lengths, some, length-append (sent_at before x.tick) (sent_at (x ∷ more) x.tick))

  not_earlier : (x : Entry) (more : List Entry) → IsRun s c slots words (before ++ x ∷ more) → (v : Event) → event_of x.line ≡ v → moment x < moment e → ⊥
  not_earlier x more is (Take tag) k less = earlier_take x more is tag k less
  not_earlier x more is (Send tag) k less = earlier_send x more is tag k less
  not_earlier x more is (Close g r) k less =
      earlier_call (is_close g r) (in_plan s c g r) (r + c.w1) x (subst (IsDueCall s c (before ++ x ∷ [])) k (next s c slots words before x more is).call)
      (λ at. subst (λ t. StandsOnce (is_close g r) (in_plan s c g r) t before) at ((calls_before x (ap phase k) less).closed g r (sym at)))
      (ap (is_close g r) k ∙ pair_itself g r)
  not_earlier x more is (End g r) k less =
      earlier_call (is_end g r) (in_plan s c g r) (r + c.w1 + c.w2) x (subst (IsDueCall s c (before ++ x ∷ [])) k (next s c slots words before x more is).call)
      (λ at. subst (λ t. StandsOnce (is_end g r) (in_plan s c g r) t before) at ((calls_before x (ap phase k) less).ended g r (sym at)))
      (ap (is_end g r) k ∙ pair_itself g r)

  none_earlier : (left : List Entry) → IsRun s c slots words (before ++ left) → (y : Entry) → IsIn y left → moment e ≤ moment y
  none_earlier [] is y at = absurd at
  none_earlier (x ∷ more) is y at =
      ⊎_elim (λ less. absurd (not_earlier x more is (event_of x.line) refl less)) (λ above. let h = first_of before x more is.run.ordered y at in omega arith) (cases_lt (moment x) (moment e))

  -- ---- it is there

  abbrev Picks : List Entry → Type 0
  Picks left = (others : List Entry) × IsPicked e left others

  found : (left : List Entry) → IsRun s c slots words (before ++ left) → (p : Entry → Bool) (v : Event) → event_of e.line ≡ v → e.fate ≡ [] → tags_of v ≡ []
      → ((z : Entry) → IsIn z left → p z ≡ true → (z.tick ≡ e.tick) × (event_of z.line ≡ v))
      → ((z : Entry) → IsIn z left → z.tick ≡ e.tick → phase (event_of z.line) ≡ phase v → p z ≡ false → are_apart (event_of z.line) v ≡ true)
      → 0 < count_by p left → Picks left
  found left is p v k no_copies no_send passes apart some = (
    f.passed ++ f.more,
    record {
      passed = f.passed;
      after = f.more;
      stands = f.stands ∙ ap (λ z. f.passed ++ z ∷ f.more) same;
      others = refl;
      may = all_from_in (λ z. may_pass e z ≡ true) f.passed (λ z at. and_from (z.tick == e.tick) _ (eq-eqb z.tick e.tick (now z at).0) (subst (λ w. are_apart (event_of z.line) w ≡ true) (sym k) (apart_here z at)));
    },
  )
    where
      f : IsFirstSuch p left
      f = first_such p left some

      x : Entry
      x = f.here

      whole : IsRun s c slots words ((before ++ f.passed) ++ x ∷ f.more)
      whole = subst (IsRun s c slots words) (ap (λ l. before ++ l) f.stands ∙ sym (append_assoc before f.passed (x ∷ f.more))) is

      x_in : IsIn x left
      x_in = subst (IsIn x) (sym f.stands) (in_append x f.passed (x ∷ f.more) (inr (inl refl)))

      z_in : (z : Entry) → IsIn z f.passed → IsIn z left
      z_in z at = subst (IsIn z) (sym f.stands) (in_append z f.passed (x ∷ f.more) (inl at))

      is_x : (x.tick ≡ e.tick) × (event_of x.line ≡ v)
      is_x = passes x x_in f.passes

      now : (z : Entry) → IsIn z f.passed → (z.tick ≡ e.tick) × (phase (event_of z.line) ≡ phase v)
      now z at =
          let low = none_earlier left is z (z_in z at) in
          let high = later_than (before ++ f.passed) (x ∷ f.more) whole.run.ordered z x (in_append z before f.passed (inr at)) (inl refl) in
          let px : phase (event_of x.line) ≡ phase v = ap phase is_x.1 in
          let pe : phase (event_of e.line) ≡ phase v = ap phase k in
          let a = phase_most (event_of z.line) in
          let b = phase_most v in (
            omega (arith, low, high, px, pe, is_x.0, a, b),
            omega (arith, low, high, px, pe, is_x.0, a, b),
          )

      apart_here : (z : Entry) → IsIn z f.passed → are_apart (event_of z.line) v ≡ true
      apart_here z at = apart z (z_in z at) (now z at).0 (now z at).1 (f.none z at)

      same : x ≡ e
      same = same_entry x e is_x.0
          (all_in (λ z. tags_of (event_of z.line) ≡ [] → z.fate ≡ []) (before ++ left) is.run.others x (in_append x before left (inr x_in)) (ap tags_of is_x.1 ∙ no_send) ∙ sym no_copies)
          ((next s c slots words (before ++ f.passed) x f.more whole).says ∙ ap (line s words (reverse (events_of (before ++ f.passed)))) is_x.1
          ∙ line_after_apart s words v f.passed before apart_here ∙ sym (ap (line s words (reverse (events_of before))) k) ∙ sym nx.says)

  picks_take : (left : List Entry) → IsRun s c slots words (before ++ left) → (tag : Tag) → event_of e.line ≡ Take tag → Picks left
  picks_take left is tag k =
      found left is p (Take tag) k (subst (λ v. e.fate ≡ fate_due slots before e.tick v) k nx.fate) refl
      (λ z at on. (eqb-true z.tick e.tick (right_of (is_take tag.group tag.round tag.meter tag.kind (event_of z.line)) (z.tick == e.tick) on), take_is tag (event_of z.line) (left_of (is_take tag.group tag.round tag.meter tag.kind (event_of z.line)) (z.tick == e.tick) on)))
      (λ z at now first off. take_apart tag (event_of z.line) first (only (is_take tag.group tag.round tag.meter tag.kind (event_of z.line)) (z.tick == e.tick) (eq-eqb z.tick e.tick now) off))
      (omega (arith, mine, both.0, both.1, is.run.taken tag e.tick, takes-append before left tag e.tick, copies-append before left tag e.tick))
    where
      p : Entry → Bool
      p z = is_take tag.group tag.round tag.meter tag.kind (event_of z.line) && (z.tick == e.tick)

      only : (a b : Bool) → b ≡ true → (a && b) ≡ false → a ≡ false
      only false b on off = refl
      only true b on off = absurd (true≢false (sym on ∙ off))

      mine : takes_at (before ++ e ∷ []) tag e.tick ≤ sum_by (copies tag e.tick) (before ++ e ∷ [])
      mine = subst (IsDueTake (before ++ e ∷ []) e.tick) k nx.take

      both : (takes_at (before ++ e ∷ []) tag e.tick ≡ takes_at before tag e.tick + 1) × (sum_by (copies tag e.tick) (before ++ e ∷ []) ≡ sum_by (copies tag e.tick) before)
      both = takes_more e tag k

  -- a call that is due, and was not made yet
  call_left : (test : Event → Bool) (due : Bool) (tick : ℕ) (left : List Entry) → StandsOnce test due tick (before ++ e ∷ []) → StandsOnce test due tick (before ++ left) → test (event_of e.line) ≡ true
      → 0 < count_by (λ (z : Entry). test (event_of z.line)) left
  call_left test due tick left mine all on =
      omega (arith, once_count test due tick (before ++ e ∷ []) mine, once_count test due tick (before ++ left) all, called_more test e on, count-append (λ (z : Entry). test (event_of z.line)) before left)

  picks_close : (left : List Entry) → IsRun s c slots words (before ++ left) → (g r : ℕ) → event_of e.line ≡ Close g r → Picks left
  picks_close left is g r k =
      found left is (λ z. is_close g r (event_of z.line)) (Close g r) k (subst (λ v. e.fate ≡ fate_due slots before e.tick v) k nx.fate) refl
      (λ z at is_one. ((once_at (is_close g r) (in_plan s c g r) (r + c.w1) (before ++ left) (is.run.closed g r) z (in_append z before left (inr at)) is_one).1 ∙ sym when, close_is g r (event_of z.line) is_one))
      (λ z at now second off. close_apart g r (event_of z.line) second off (⊎_elim
      (λ ended. let when_called = (once_at (is_end g r) (in_plan s c g r) (r + c.w1 + c.w2) (before ++ left) (is.run.ended g r) z (in_append z before left (inr at)) ended).1 in let w = plan.open_window in absurd (omega (arith, when_called, now, when)))
      (λ no. no) (cases_Bool (is_end g r (event_of z.line)))))
      (call_left (is_close g r) (in_plan s c g r) (r + c.w1) left mine (is.run.closed g r) on)
    where
      mine : StandsOnce (is_close g r) (in_plan s c g r) (r + c.w1) (before ++ e ∷ [])
      mine = subst (IsDueCall s c (before ++ e ∷ [])) k nx.call

      on : is_close g r (event_of e.line) ≡ true
      on = ap (is_close g r) k ∙ pair_itself g r

      when : e.tick ≡ r + c.w1
      when = (once_at (is_close g r) (in_plan s c g r) (r + c.w1) (before ++ e ∷ []) mine e (in_append e before (e ∷ []) (inr (inl refl))) on).1

  picks_end : (left : List Entry) → IsRun s c slots words (before ++ left) → (g r : ℕ) → event_of e.line ≡ End g r → Picks left
  picks_end left is g r k =
      found left is (λ z. is_end g r (event_of z.line)) (End g r) k (subst (λ v. e.fate ≡ fate_due slots before e.tick v) k nx.fate) refl
      (λ z at is_one. ((once_at (is_end g r) (in_plan s c g r) (r + c.w1 + c.w2) (before ++ left) (is.run.ended g r) z (in_append z before left (inr at)) is_one).1 ∙ sym when, end_is g r (event_of z.line) is_one))
      (λ z at now second off. end_apart g r (event_of z.line) second off (⊎_elim
      (λ closed. let when_called = (once_at (is_close g r) (in_plan s c g r) (r + c.w1) (before ++ left) (is.run.closed g r) z (in_append z before left (inr at)) closed).1 in let w = plan.open_window in absurd (omega (arith, when_called, now, when)))
      (λ no. no) (cases_Bool (is_close g r (event_of z.line)))))
      (call_left (is_end g r) (in_plan s c g r) (r + c.w1 + c.w2) left mine (is.run.ended g r) on)
    where
      mine : StandsOnce (is_end g r) (in_plan s c g r) (r + c.w1 + c.w2) (before ++ e ∷ [])
      mine = subst (IsDueCall s c (before ++ e ∷ [])) k nx.call

      on : is_end g r (event_of e.line) ≡ true
      on = ap (is_end g r) k ∙ pair_itself g r

      when : e.tick ≡ r + c.w1 + c.w2
      when = (once_at (is_end g r) (in_plan s c g r) (r + c.w1 + c.w2) (before ++ e ∷ []) mine e (in_append e before (e ∷ []) (inr (inl refl))) on).1

  -- the Sends of its tick that are left begin with it
  sent_next : (left : List Entry) → IsRun s c slots words (before ++ left) → (tag : Tag) → event_of e.line ≡ Send tag → (after : List Tag) × (sent_at left e.tick ≡ tag ∷ after)
  sent_next left is tag k =
      let last : phase (event_of e.line) ≡ 2 = ap phase k in
      let mine : (after : List Tag) × (due_at s c (before ++ e ∷ []) e.tick ≡ sent_at (before ++ e ∷ []) e.tick ++ after) = subst (IsDueSend s c (before ++ e ∷ []) e.tick) k nx.send in
      let due : due_at s c (before ++ e ∷ []) e.tick ≡ due_at s c before e.tick = ap (λ f. flat_map f (range_with_len 0 (length s.groups))) (fun_ext (λ g. due_send s c before e tag e.tick g k)) in
      let left_due = sends_more left is e.tick (λ y at. let h = none_earlier left is y at in omega (arith, last)) in
      let sent : sent_at (before ++ e ∷ []) e.tick ≡ sent_at before e.tick ++ tag ∷ [] = sent-append before (e ∷ []) e.tick ∙ ap (λ l. sent_at before e.tick ++ l) (sent_first e [] tag k) in (
        mine.0,
        append_cancel_left (sent_at before e.tick) (sent_at left e.tick) (tag ∷ mine.0)
            (sym left_due ∙ sym due ∙ mine.1 ∙ ap (λ l. l ++ mine.0) sent ∙ append_assoc (sent_at before e.tick) (tag ∷ []) mine.0),
      )

  send_is : (x : Entry) (more : List Entry) → IsRun s c slots words (before ++ x ∷ more) → (tag : Tag) → event_of e.line ≡ Send tag → (v : Event) → event_of x.line ≡ v → x.tick ≡ e.tick
      → (after : List Tag) → sent_at (x ∷ more) e.tick ≡ tag ∷ after → x ≡ e
  send_is x more is tag k (Send other) kx now after sent =
      let tags_same : other ≡ tag = first tag other tag (sent_at more x.tick) after (sym (sent_first x more other kx) ∙ ap (sent_at (x ∷ more)) now ∙ sent) in
      let events_same : event_of x.line ≡ event_of e.line = kx ∙ ap Send tags_same ∙ sym k in
      let at_x = next s c slots words before x more is in
      same_entry x e now
      (at_x.fate ∙ ap (fate_due slots before x.tick) events_same ∙ ap (λ t. fate_due slots before t (event_of e.line)) now ∙ sym nx.fate)
      (at_x.says ∙ ap (line s words (reverse (events_of before))) events_same ∙ sym nx.says)
  send_is x more is tag k (Take other) kx now after sent = absurd (let h = none_earlier (x ∷ more) is x (inl refl) in let a : phase (event_of x.line) ≡ 0 = ap phase kx in let b : phase (event_of e.line) ≡ 2 = ap phase k in omega (arith, h, a, b, now))
  send_is x more is tag k (Close g r) kx now after sent = absurd (let h = none_earlier (x ∷ more) is x (inl refl) in let a : phase (event_of x.line) ≡ 1 = ap phase kx in let b : phase (event_of e.line) ≡ 2 = ap phase k in omega (arith, h, a, b, now))
  send_is x more is tag k (End g r) kx now after sent = absurd (let h = none_earlier (x ∷ more) is x (inl refl) in let a : phase (event_of x.line) ≡ 1 = ap phase kx in let b : phase (event_of e.line) ≡ 2 = ap phase k in omega (arith, h, a, b, now))

  picks_send : (left : List Entry) → IsRun s c slots words (before ++ left) → (tag : Tag) → event_of e.line ≡ Send tag → Picks left
  picks_send [] is tag k = absurd (let none = ap length (sent_next [] is tag k).1 in omega (arith, none))
  picks_send (x ∷ more) is tag k =
      let sent = sent_next (x ∷ more) is tag k in
      let now : x.tick ≡ e.tick = ⊎_elim (λ same. same)
      (λ other. absurd (let none = sent-elsewhere (x ∷ more) e.tick (λ y at is_now. other (let low = none_earlier (x ∷ more) is x (inl refl) in let h = first_of before x more is.run.ordered y at in let a = phase_most (event_of y.line) in let b = phase_most (event_of x.line) in let d = phase_most (event_of e.line) in let q : phase (event_of e.line) ≡ 2 = ap phase k in omega (arith, low, h, a, b, d, q, is_now))) in
      let lengths = ap length (sym none ∙ sent.1) in omega (arith, lengths)))
      (cases_eq x.tick e.tick) in
      let same = send_is x more is tag k (event_of x.line) refl now sent.0 sent.1 in
      (more, record { passed = []; after = more; stands = ap (λ z. z ∷ more) same; others = refl; may = all_from_in (λ z. may_pass e z ≡ true) [] (λ z at. absurd at) })

  picks_by : (left : List Entry) → IsRun s c slots words (before ++ left) → (v : Event) → event_of e.line ≡ v → Picks left
  picks_by left is (Take tag) k = picks_take left is tag k
  picks_by left is (Close g r) k = picks_close left is g r k
  picks_by left is (End g r) k = picks_end left is g r k
  picks_by left is (Send tag) k = picks_send left is tag k

  pub picks : (left : List Entry) → IsRun s c slots words (before ++ left) → (others : List Entry) × IsPicked e left others
  picks left is = picks_by left is (event_of e.line) refl
