-- Entries on course one after another, and those of which each tick is whole: they are a run.
use Rattle.std.proofs.Common.{◌≡◌, ℕ, ◌+◌, ◌≤◌, List, [], ◌∷◌, ◌++◌, length, map, length-append, ◌⊎◌, ⊎_elim, inl, inr, refl, sym, ap, ◌∙◌, subst, arith, append-nil, append_assoc}
use Rattle.std.specs.List.{All}
use Rattle.std.proofs.lemmas.Bool.{cases_eq}
use Rattle.std.proofs.lemmas.Grind.{flat_map-append}
use Rattle.std.proofs.lemmas.List.{map-append}
use Rattle.std.proofs.lemmas.List.Elements.{All-nil}
use Rattle.link_lanes.specs.declared.Post.{Post}
use Rattle.link_lanes.specs.Lanes.{Slot, fate_after, fates_after}
use Rattle.event_schedule.specs.declared.Event.{Event}
use Rattle.event_schedule.specs.declared.Event.TheVariants.{Send, Take, Close, End}
use Rattle.event_schedule.specs.declared.Entry.{Entry}
use Rattle.event_schedule.specs.Events.{event_of, events_of, lines_of}
use Rattle.event_schedule.specs.Schedule.{Shape}
use Rattle.event_schedule.specs.Transcript.{Contents, line, lines_after}
use Rattle.event_schedule.specs.Transcripts.{last_tick_from}
use Rattle.event_schedule.proofs.ScheduleLemmas.{after-reverse}
use Rattle.event_schedule.proofs.TranscriptLemmas.{lines_after-push}
use Rattle.run_rows.specs.Ticks.{Clock, IsOrdered, last_tick, moment, phase, posts_of, tags_of}
use Rattle.run_course.specs.Lists.{IsIn}
use Rattle.run_course.proofs.Entries.{ordered_more}
use Rattle.run_course.proofs.Members.{all_from_in, all_in, all_more}
use Rattle.run_course.proofs.Refusals.{first_of}
use Rattle.cut_resume.specs.OnCourse.{AreOnCourse, IsNext, fate_due}
use Rattle.cut_resume.specs.Statements.{CoursesGoOnByOne, WholeTicksAreRuns}
use Rattle.cut_resume.proofs.OnCourse.{first, rest}
use Rattle.cut_resume.proofs.Splits.{phase_most}

-- ---- one entry after another

last_cut : (xs : List Entry) (x : Entry) (before : List Entry) (e : Entry) (more : List Entry) → xs ++ x ∷ [] ≡ before ++ e ∷ more
    → ((xs ≡ before) × (x ≡ e)) ⊎ ((rest : List Entry) × (xs ≡ before ++ e ∷ rest))
last_cut [] x [] e more same = inl (refl, first x x e [] more same)
last_cut [] x (b ∷ before) e more same = absurd (let count = ap length same in omega (arith, count, length-append before (e ∷ more)))
last_cut (y ∷ xs) x [] e more same = inr (xs, ap (λ z. z ∷ xs) (first y y e (xs ++ x ∷ []) more same))
last_cut (y ∷ xs) x (b ∷ before) e more same =
    let head : y ≡ b = first y y b (xs ++ x ∷ []) (before ++ e ∷ more) same in
    ⊎_elim (λ here. inl (ap (λ l. y ∷ l) here.0 ∙ ap (λ z. z ∷ before) head, here.1))
    (λ there. inr (there.0, ap (λ l. y ∷ l) there.1 ∙ ap (λ z. z ∷ (before ++ e ∷ there.0)) head))
    (last_cut xs x before e more (rest y b (xs ++ x ∷ []) (before ++ e ∷ more) same))

pub by_one : CoursesGoOnByOne
by_one s c slots words entries e = record {
  nothing = λ before x more none. (let count = ap length none in absurd (omega (arith, count, length-append before (x ∷ more))));
  more = λ all next before x more same. ⊎_elim
      (λ here. subst (λ z. IsNext s c slots words before z) here.1 (subst (λ l. IsNext s c slots words l e) here.0 next))
      (λ there. all before x there.0 there.1)
      (last_cut entries e before x more same);
  back = λ all. ((λ before x more same. all before x (more ++ e ∷ []) (ap (λ l. l ++ e ∷ []) same ∙ append_assoc before (x ∷ more) (e ∷ []))), all entries e [] refl);
}

-- ---- what the entries so far have

record IsRunSoFar (s : Shape) (c : Clock) (slots : List Slot) (words : Contents) (xs : List Entry) : Type 0 where
  ordered : IsOrdered xs
  within : All (λ e. e.tick ≤ last_tick c) xs
  fates : map (λ p. p.fate) (posts_of xs) ≡ fates_after slots [] (posts_of xs)
  others : All (λ e. tags_of (event_of e.line) ≡ [] → e.fate ≡ []) xs
  lines : lines_of xs ≡ lines_after s words [] (events_of xs)

fates_push : (slots : List Slot) (b ps : List Post) (p : Post) → fates_after slots b (ps ++ p ∷ []) ≡ fates_after slots b ps ++ fate_after slots (b ++ ps) p.tick p.tag ∷ []
fates_push slots b [] p = ap (λ l. fate_after slots l p.tick p.tag ∷ []) (sym (append-nil b))
fates_push slots b (q ∷ ps) p =
    ap (λ l. fate_after slots b q.tick q.tag ∷ l)
    (fates_push slots (b ++ q ∷ []) ps p ∙ ap (λ l. fates_after slots (b ++ q ∷ []) ps ++ fate_after slots l p.tick p.tag ∷ []) (append_assoc b (q ∷ []) ps))

ticks_rise : (last : ℕ) (xs : List Entry) → IsOrdered xs → ((x : Entry) → IsIn x xs → last ≤ x.tick) → last ≤ last_tick_from last xs
ticks_rise last [] ordered low = omega arith
ticks_rise last (x ∷ xs) ordered low =
    let here = low x (inl refl) in
    let later = ticks_rise x.tick xs ordered.1 (λ y at. let h = first_of [] x xs ordered y (inr at) in let p = phase_most (event_of y.line) in omega arith) in
    omega arith

last_above : (last : ℕ) (xs : List Entry) → IsOrdered xs → (x : Entry) → IsIn x xs → x.tick ≤ last_tick_from last xs
last_above last [] ordered x at = absurd at
last_above last (y ∷ xs) ordered x at =
    ⊎_elim
    (λ here. subst (λ (z : Entry). z.tick ≤ last_tick_from y.tick xs) here
    (ticks_rise y.tick xs ordered.1 (λ z there. let h = first_of [] y xs ordered z (inr there) in let p = phase_most (event_of z.line) in omega arith)))
    (λ there. last_above y.tick xs ordered.1 x there) at

module _ (s : Shape) (c : Clock) (slots : List Slot) (words : Contents) (xs : List Entry) (e : Entry) (so : IsRunSoFar s c slots words xs) (next : IsNext s c slots words xs e) where
  below : (x : Entry) → IsIn x xs → moment x ≤ moment e
  below x at =
      let up : x.tick ≤ e.tick = (let h = last_above 0 xs so.ordered x at in let k = next.ticks.rises in omega arith) in
      ⊎_elim
      (λ same. let h = all_in (λ x. x.tick ≡ e.tick → phase (event_of x.line) ≤ phase (event_of e.line)) xs next.order x at same in omega arith)
      (λ other. let p = phase_most (event_of x.line) in omega arith)
      (cases_eq x.tick e.tick)

  posts_more : (v : Event) → event_of e.line ≡ v → e.fate ≡ fate_due slots xs e.tick v → map (λ p. p.fate) (posts_of (xs ++ e ∷ [])) ≡ fates_after slots [] (posts_of (xs ++ e ∷ []))
  posts_more v k fate = by_event v k fate (posts v k)
    where
      posts : (v : Event) → event_of e.line ≡ v → posts_of (xs ++ e ∷ []) ≡ posts_of xs ++ (map (λ tag. record { tick = e.tick; tag = tag; fate = e.fate }) (tags_of v) ++ [])
      posts v k = flat_map-append (λ e. map (λ tag. record { tick = e.tick; tag = tag; fate = e.fate }) (tags_of (event_of e.line))) xs (e ∷ [])
          ∙ ap (λ v. posts_of xs ++ (map (λ tag. record { tick = e.tick; tag = tag; fate = e.fate }) (tags_of v) ++ [])) k

      none : posts_of (xs ++ e ∷ []) ≡ posts_of xs ++ [] → map (λ (p : Post). p.fate) (posts_of (xs ++ e ∷ [])) ≡ fates_after slots [] (posts_of (xs ++ e ∷ []))
      none is = subst (λ l. map (λ (p : Post). p.fate) l ≡ fates_after slots [] l) (sym (is ∙ append-nil (posts_of xs))) so.fates

      by_event : (v : Event) → event_of e.line ≡ v → e.fate ≡ fate_due slots xs e.tick v
          → posts_of (xs ++ e ∷ []) ≡ posts_of xs ++ (map (λ tag. record { tick = e.tick; tag = tag; fate = e.fate }) (tags_of v) ++ [])
          → map (λ (p : Post). p.fate) (posts_of (xs ++ e ∷ [])) ≡ fates_after slots [] (posts_of (xs ++ e ∷ []))
      by_event (Send tag) k fate is =
          let p : Post = record { tick = e.tick; tag = tag; fate = e.fate } in
          subst (λ l. map (λ (p : Post). p.fate) l ≡ fates_after slots [] l) (sym is)
          (map-append (λ (p : Post). p.fate) (posts_of xs) (p ∷ []) ∙ ap (λ l. l ++ e.fate ∷ []) so.fates ∙ ap (λ f. fates_after slots [] (posts_of xs) ++ f ∷ []) fate
          ∙ sym (fates_push slots [] (posts_of xs) p))
      by_event (Take tag) k fate is = none is
      by_event (Close g r) k fate is = none is
      by_event (End g r) k fate is = none is

  quiet : (v : Event) → event_of e.line ≡ v → e.fate ≡ fate_due slots xs e.tick v → tags_of (event_of e.line) ≡ [] → e.fate ≡ []
  quiet (Send tag) k fate none = absurd (let h : tags_of (Send tag) ≡ [] = ap tags_of (sym k) ∙ none in cc h)
  quiet (Take tag) k fate none = fate
  quiet (Close g r) k fate none = fate
  quiet (End g r) k fate none = fate

  one_more : IsRunSoFar s c slots words (xs ++ e ∷ [])
  one_more = record {
    ordered = ordered_more xs e so.ordered (all_from_in (λ x. moment x ≤ moment e) xs below);
    within = all_more (λ x. x.tick ≤ last_tick c) xs e so.within next.ticks.within;
    fates = posts_more (event_of e.line) refl next.fate;
    others = all_more (λ x. tags_of (event_of x.line) ≡ [] → x.fate ≡ []) xs e so.others (quiet (event_of e.line) refl next.fate);
    lines =
        map-append (λ (x : Entry). x.line) xs (e ∷ []) ∙ ap (λ l. l ++ e.line ∷ []) so.lines
        ∙ ap (λ z. lines_after s words [] (events_of xs) ++ z ∷ []) (next.says ∙ sym (ap (λ p. line s words p (event_of e.line)) (after-reverse (events_of xs))))
        ∙ sym (lines_after-push s words [] (events_of xs) (event_of e.line))
        ∙ sym (ap (lines_after s words []) (map-append (λ (x : Entry). event_of x.line) xs (e ∷ [])));
  }

all_so_far : (s : Shape) (c : Clock) (slots : List Slot) (words : Contents) (before after : List Entry) → AreOnCourse s c slots words (before ++ after) → IsRunSoFar s c slots words before → IsRunSoFar s c slots words (before ++ after)
all_so_far s c slots words before [] all so = subst (IsRunSoFar s c slots words) (sym (append-nil before)) so
all_so_far s c slots words before (e ∷ more) all so =
    let joined : (before ++ e ∷ []) ++ more ≡ before ++ e ∷ more = append_assoc before (e ∷ []) more in
    subst (IsRunSoFar s c slots words) joined
    (all_so_far s c slots words (before ++ e ∷ []) more (subst (AreOnCourse s c slots words) (sym joined) all) (one_more s c slots words before e so (all before e more refl)))

pub runs : WholeTicksAreRuns
unfolding lines_after
runs s c slots words entries all whole delays =
    let so : IsRunSoFar s c slots words entries = all_so_far s c slots words [] entries all (record { ordered = tt; within = All-nil (λ e. e.tick ≤ last_tick c); fates = refl; others = All-nil (λ e. tags_of (event_of e.line) ≡ [] → e.fate ≡ []); lines = refl }) in
    record {
      run = record {
        ordered = so.ordered;
        within = so.within;
        taken = λ tag t. (whole t).takes tag;
        closed = λ g r. (whole (r + c.w1)).calls.closed g r refl;
        ended = λ g r. (whole (r + c.w1 + c.w2)).calls.ended g r refl;
        sent = λ t. (whole t).sends;
        fates = so.fates;
        others = so.others;
      };
      delays = delays;
      lines = so.lines;
    }
