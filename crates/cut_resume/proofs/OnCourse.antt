-- A run begins with entries that are on course.
use Rattle.std.proofs.Common.{◌≡◌, ℕ, ◌+◌, ◌<◌, ◌≤◌, Bool, true, ◌&&◌, List, [], ◌∷◌, ◌++◌, map, refl, sym, ap, ◌∙◌, subst, ⊎_elim, inl, inr, arith, append-nil, append_assoc, drop, get_or}
use Rattle.std.specs.Prelude.{◌==◌}
use Rattle.std.specs.List.{sum_by, All}
use Rattle.std.proofs.lemmas.Bool.{and_from, eq-eqb}
use Rattle.std.proofs.lemmas.Grind.{flat_map-append}
use Rattle.group_plan.specs.declared.Tag.{Tag}
use Rattle.link_lanes.specs.declared.Post.{Post}
use Rattle.link_lanes.specs.Lanes.{Slot, fate_after, fates_after}
use Rattle.event_schedule.specs.declared.Event.{Event}
use Rattle.event_schedule.specs.declared.Event.TheVariants.{Send, Take, Close, End}
use Rattle.event_schedule.specs.declared.Entry.{Entry}
use Rattle.event_schedule.specs.Events.{event_of, events_of, lines_of, is_close, is_end}
use Rattle.event_schedule.specs.Schedule.{Shape}
use Rattle.event_schedule.specs.Transcript.{Contents, line, lines_after}
use Rattle.event_schedule.specs.Transcripts.{last_tick_from}
use Rattle.event_schedule.proofs.ScheduleLemmas.{after, after-reverse}
use Rattle.run_rows.specs.Runs.{IsRun}
use Rattle.run_rows.specs.Ticks.{Clock, last_tick, in_plan, moment, phase, takes_at, copies, sent_at, tags_of, posts_of, StandsOnce, IsOrdered}
use Rattle.run_course.specs.Lists.{IsIn}
use Rattle.run_course.proofs.Entries.{copies-append}
use Rattle.run_course.proofs.Members.{all_in, all_from_in, in_append}
use Rattle.run_course.proofs.Refusals.{later_than}
use Rattle.run_course.proofs.Stays.{takes-append}
use Rattle.cut_resume.specs.OnCourse.{IsDueCall, IsDueSend, IsDueTake, IsNext, IsWholeBefore, due_at, fate_due}
use Rattle.cut_resume.specs.Statements.{BeginningsAreOnCourse}
use Rattle.cut_resume.proofs.Splits.{calls_whole, none_after, none_sent_back, once_before, phase_most, sends_left, sends_whole, takes_whole}

-- ---- the line, and the fate

pub first : {X : Type 0} (d : X) (x y : X) (xs ys : List X) → x ∷ xs ≡ y ∷ ys → x ≡ y
first d x y xs ys same = ap (λ l. get_or l 0 d) same

pub rest : {X : Type 0} (x y : X) (xs ys : List X) → x ∷ xs ≡ y ∷ ys → xs ≡ ys
rest x y xs ys same = ap (drop 1) same

line_there : (s : Shape) (words : Contents) (before : List Entry) (e : Entry) (more : List Entry) (past : List Event)
    → lines_of (before ++ e ∷ more) ≡ lines_after s words past (events_of (before ++ e ∷ more)) → e.line ≡ line s words (after past (events_of before)) (event_of e.line)
unfolding after lines_after
line_there s words [] e more past same = first e.line _ _ _ _ same
line_there s words (x ∷ before) e more past same = line_there s words before e more (event_of x.line ∷ past) (rest _ _ _ _ same)

fate_there : (slots : List Slot) (ps : List Post) (p : Post) (qs b : List Post) → map (λ p. p.fate) (ps ++ p ∷ qs) ≡ fates_after slots b (ps ++ p ∷ qs) → p.fate ≡ fate_after slots (b ++ ps) p.tick p.tag
fate_there slots [] p qs b same = first [] _ _ _ _ same ∙ ap (λ l. fate_after slots l p.tick p.tag) (sym (append-nil b))
fate_there slots (q ∷ ps) p qs b same =
    fate_there slots ps p qs (b ++ q ∷ []) (rest _ _ _ _ same) ∙ ap (λ l. fate_after slots l p.tick p.tag) (append_assoc b (q ∷ []) ps)

-- ---- ticks

last_below : (last t : ℕ) (xs : List Entry) → last ≤ t → ((x : Entry) → IsIn x xs → x.tick ≤ t) → last_tick_from last xs ≤ t
last_below last t [] low all = low
last_below last t (x ∷ xs) low all = last_below x.tick t xs (all x (inl refl)) (λ y at. all y (inr at))

-- ---- each entry of a run

module _ (s : Shape) (c : Clock) (slots : List Slot) (words : Contents) (before : List Entry) (e : Entry) (more : List Entry) (is : IsRun s c slots words (before ++ e ∷ more)) where
  at_once : IsIn e (before ++ e ∷ more)
  at_once = in_append e before (e ∷ more) (inr (inl refl))

  joined : (before ++ e ∷ []) ++ more ≡ before ++ e ∷ more
  joined = append_assoc before (e ∷ []) more

  delays_of : (xs ys : List Entry) → before ++ e ∷ more ≡ xs ++ ys → (y : Entry) → IsIn y ys → All (λ d. 0 < d) y.fate
  delays_of xs ys same y at = all_in (λ x. All (λ d. 0 < d) x.fate) (before ++ e ∷ more) is.delays y (subst (IsIn y) (sym same) (in_append y xs ys (inr at)))

  -- the entries before it are no later, and those after it no earlier
  below : (x : Entry) → IsIn x before → moment x ≤ moment e
  below x at = later_than before (e ∷ more) is.run.ordered x e at (inl refl)

  above : (y : Entry) → IsIn y (e ∷ more) → moment e ≤ moment y
  above y at = ⊎_elim (λ same. (let k : moment e ≡ moment y = ap moment same in omega arith))
      (λ there. later_than (before ++ e ∷ []) more (subst (λ l. IsOrdered l) (sym joined) is.run.ordered) e y (in_append e before (e ∷ []) (inr (inl refl))) there) at

  its_fate : (v : Event) → event_of e.line ≡ v → e.fate ≡ fate_due slots before e.tick v
  its_fate (Send tag) k =
      let p : Post = record { tick = e.tick; tag = tag; fate = e.fate } in
      let posts : posts_of (before ++ e ∷ more) ≡ posts_of before ++ p ∷ posts_of more
      = flat_map-append (λ e. map (λ tag. record { tick = e.tick; tag = tag; fate = e.fate }) (tags_of (event_of e.line))) before (e ∷ more)
      ∙ ap (λ v. posts_of before ++ (map (λ tag. record { tick = e.tick; tag = tag; fate = e.fate }) (tags_of v) ++ posts_of more)) k in
      fate_there slots (posts_of before) p (posts_of more) [] (subst (λ l. map (λ p. p.fate) l ≡ fates_after slots [] l) posts is.run.fates)
  its_fate (Take tag) k = all_in (λ x. tags_of (event_of x.line) ≡ [] → x.fate ≡ []) (before ++ e ∷ more) is.run.others e at_once (ap tags_of k)
  its_fate (Close g r) k = all_in (λ x. tags_of (event_of x.line) ≡ [] → x.fate ≡ []) (before ++ e ∷ more) is.run.others e at_once (ap tags_of k)
  its_fate (End g r) k = all_in (λ x. tags_of (event_of x.line) ≡ [] → x.fate ≡ []) (before ++ e ∷ more) is.run.others e at_once (ap tags_of k)

  -- the copies that are due at its tick were sent before it
  takes_due : (tag : Tag) → takes_at (before ++ e ∷ []) tag e.tick ≤ sum_by (copies tag e.tick) (before ++ e ∷ [])
  takes_due tag =
      let so : takes_at ((before ++ e ∷ []) ++ more) tag e.tick ≡ sum_by (copies tag e.tick) ((before ++ e ∷ []) ++ more) = subst (λ l. takes_at l tag e.tick ≡ sum_by (copies tag e.tick) l) (sym joined) (is.run.taken tag e.tick) in
      let none = none_sent_back more e.tick (delays_of (before ++ e ∷ []) more (sym joined)) (λ y at. (let h = above y (inr at) in let p = phase_most (event_of y.line) in let q = phase_most (event_of e.line) in omega arith)) tag in
      omega (arith, so, takes-append (before ++ e ∷ []) more tag e.tick, copies-append (before ++ e ∷ []) more tag e.tick, none)

  take : (v : Event) → IsDueTake (before ++ e ∷ []) e.tick v
  take (Take tag) = takes_due tag
  take (Close g r) = tt
  take (End g r) = tt
  take (Send tag) = tt

  -- its round is closed or ended by it for the first time
  called : (test : Event → Bool) (due : Bool) (tick : ℕ) → StandsOnce test due tick (before ++ e ∷ more) → test (event_of e.line) ≡ true → StandsOnce test due tick (before ++ e ∷ [])
  called test due tick once is_such =
      let cut : StandsOnce test due tick ((before ++ e ∷ []) ++ more) = subst (StandsOnce test due tick) (sym joined) once in
      once_before test due tick (before ++ e ∷ []) more cut (none_after test due tick (before ++ e ∷ []) more e cut (in_append e before (e ∷ []) (inr (inl refl))) is_such)

  itself : (g r : ℕ) → ((g == g) && (r == r)) ≡ true
  itself g r = and_from (g == g) (r == r) (eq-eqb g g refl) (eq-eqb r r refl)

  call : (v : Event) → event_of e.line ≡ v → IsDueCall s c (before ++ e ∷ []) v
  call (Take tag) k = tt
  call (Close g r) k = called (is_close g r) (in_plan s c g r) (r + c.w1) (is.run.closed g r) (ap (is_close g r) k ∙ itself g r)
  call (End g r) k = called (is_end g r) (in_plan s c g r) (r + c.w1 + c.w2) (is.run.ended g r) (ap (is_end g r) k ∙ itself g r)
  call (Send tag) k = tt

  -- it is a Send of its tick, after those before it
  send : (v : Event) → event_of e.line ≡ v → IsDueSend s c (before ++ e ∷ []) e.tick v
  send (Take tag) k = tt
  send (Close g r) k = tt
  send (End g r) k = tt
  send (Send tag) k =
      let last : phase (event_of e.line) ≡ 2 = ap phase k in (
        sent_at more e.tick,
        sends_left s c (before ++ e ∷ []) more
            (λ z t. subst (λ l. takes_at l z t ≡ sum_by (copies z t) l) (sym joined) (is.run.taken z t))
            (λ g r. subst (StandsOnce (is_close g r) (in_plan s c g r) (r + c.w1)) (sym joined) (is.run.closed g r))
            (λ g r. subst (StandsOnce (is_end g r) (in_plan s c g r) (r + c.w1 + c.w2)) (sym joined) (is.run.ended g r))
            (λ t. subst (λ l. sent_at l t ≡ due_at s c l t) (sym joined) (is.run.sent t))
            (delays_of (before ++ e ∷ []) more (sym joined)) e.tick
            (λ y at. let h = above y (inr at) in omega arith),
      )

  -- what comes before it stands before it
  whole : IsWholeBefore s c before e
  whole =
      let taken = is.run.taken in
      let delays = delays_of before (e ∷ more) refl in
      record {
        ticks = λ t less. record {
          takes = takes_whole s c before (e ∷ more) taken is.run.closed is.run.ended is.run.sent delays t (λ y at. let h = above y at in omega arith);
          calls = calls_whole s c before (e ∷ more) taken is.run.closed is.run.ended is.run.sent delays t (λ y at. let h = above y at in omega arith);
          sends = sends_whole s c before (e ∷ more) taken is.run.closed is.run.ended is.run.sent delays t (λ y at. let h = above y at in omega arith);
        };
        takes = λ some. takes_whole s c before (e ∷ more) taken is.run.closed is.run.ended is.run.sent delays e.tick (λ y at. let h = above y at in omega arith);
        calls = λ some. calls_whole s c before (e ∷ more) taken is.run.closed is.run.ended is.run.sent delays e.tick (λ y at. let h = above y at in omega arith);
      }

  pub next : IsNext s c slots words before e
  next = record {
    says = line_there s words before e more [] is.lines ∙ ap (λ p. line s words p (event_of e.line)) (after-reverse (events_of before));
    ticks = record {
      rises = last_below 0 e.tick before (omega arith) (λ x at. let h = below x at in let p = phase_most (event_of x.line) in let q = phase_most (event_of e.line) in omega arith);
      within = all_in (λ x. x.tick ≤ last_tick c) (before ++ e ∷ more) is.run.within e at_once;
    };
    fate = its_fate (event_of e.line) refl;
    order = all_from_in (λ x. x.tick ≡ e.tick → phase (event_of x.line) ≤ phase (event_of e.line)) before (λ x at now. let h = below x at in omega arith);
    take = take (event_of e.line);
    call = call (event_of e.line) refl;
    send = send (event_of e.line) refl;
    whole = whole;
  }

pub beginnings_are_on_course : BeginningsAreOnCourse
beginnings_are_on_course s c slots words entries begins before e after same =
    let whole : entries ++ begins.0 ≡ before ++ e ∷ (after ++ begins.0) = ap (λ l. l ++ begins.0) same ∙ append_assoc before (e ∷ after) begins.0 in
    next s c slots words before e (after ++ begins.0) (subst (IsRun s c slots words) whole begins.1)
