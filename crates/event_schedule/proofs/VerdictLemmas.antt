-- The verdict by the first effective Take is the verdict of the table.
use Rattle.std.proofs.Common.{◌≡◌, ℕ, Bool, true, false, not, ◌&&◌, ◌||◌, List, [], ◌∷◌, refl, sym, ap, ◌∙◌, ⊎_elim}
use Rattle.std.specs.Prelude.{if◌then◌else◌}
use mathlib.Core.Path.{fun_ext}
use Rattle.std.proofs.lemmas.Bool.{false≢true, true≢false, or_cases}
use Rattle.group_plan.specs.declared.Kind.{Kind}
use Rattle.group_plan.specs.declared.Kind.TheVariants.{Reading, Announcement, Answer}
use Rattle.event_schedule.specs.declared.Event.{Event}
use Rattle.round_machine.specs.declared.Verdict.TheVariants.{Fresh, Again, Late, Void}
use Rattle.event_schedule.specs.Schedule.{Shape, is_sent, is_taken, is_late, has_effective_take, has_fresh_take, verdict, verdict_by_table, is_closed, is_ended, is_reading_sent, is_announcement_sent, is_answer_sent}
use Rattle.event_schedule.specs.Events.{once, is_take}
use Rattle.event_schedule.proofs.ListLemmas.{and_first}
use Rattle.event_schedule.proofs.ScheduleLemmas.{is_closed-more, is_ended-more, once-more, once-now}

-- ---- for any test, any sending and any lateness that stays

-- what was heard and not taken is late
heard_late : (a : Event → Bool) (sent late : List Event → Bool) → ((e : Event) (q : List Event) → late q ≡ true → late (e ∷ q) ≡ true) → (p : List Event)
    → once (λ e q. a e && sent q) p ≡ true → once (λ e q. a e && sent q && not (late q)) p ≡ false → late p ≡ true
unfolding once
heard_late a sent late stays [] h n = absurd (false≢true h)
heard_late a sent late stays (e ∷ q) h n =
    stays e q (step (a e && sent q) (late q) (once (λ f p. a f && sent p) q) (once (λ f p. a f && sent p && not (late p)) q) h n (heard_late a sent late stays q))
  where
    step : (now late heard taken : Bool) → (now || heard) ≡ true → (now && not late || taken) ≡ false → (heard ≡ true → taken ≡ false → late ≡ true) → late ≡ true
    step true true heard taken h' n' before = refl
    step true false heard taken h' n' before = absurd (true≢false n')
    step false late true taken h' n' before = before refl n'
    step false late false taken h' n' before = absurd (false≢true h')

once-weaker : (f h : Event → List Event → Bool) → ((e : Event) (q : List Event) → f e q ≡ true → h e q ≡ true) → (p : List Event) → once f p ≡ true → once h p ≡ true
unfolding once
once-weaker f h weaker [] is = absurd (false≢true is)
once-weaker f h weaker (e ∷ q) is =
    ⊎_elim (λ now. once-now h e q (weaker e q now)) (λ before. once-more h e q (once-weaker f h weaker q before)) (or_cases (f e q) (once f q) is)

-- a Fresh Take stands where one came in time
fresh_is : (a : Event → Bool) (sent late : List Event → Bool) → ((e : Event) (q : List Event) → late q ≡ true → late (e ∷ q) ≡ true) → (p : List Event)
    → once (λ e q. a e && (sent q && not (once (λ f z. a f && sent z) q) && not (late q))) p ≡ once (λ e q. a e && sent q && not (late q)) p
unfolding once
fresh_is a sent late stays [] = refl
fresh_is a sent late stays (e ∷ q) =
    ap (λ f. a e && (sent q && not (once (λ f z. a f && sent z) q) && not (late q)) || f) (fresh_is a sent late stays q)
    ∙ step (a e) (sent q) (once (λ f z. a f && sent z) q) (late q) (once (λ f z. a f && sent z && not (late z)) q) (heard_late a sent late stays q)
  where
    step : (a s h l t : Bool) → (h ≡ true → t ≡ false → l ≡ true) → (a && (s && not h && not l) || t) ≡ (a && s && not l || t)
    step false s h l t late_then = refl
    step true false h l t late_then = refl
    step true true false l t late_then = refl
    step true true true true t late_then = refl
    step true true true false true late_then = refl
    step true true true false false late_then = absurd (false≢true (late_then refl refl))

verdict_cases : (s h l t f : Bool) → f ≡ t → (h ≡ true → t ≡ false → l ≡ true) → (t ≡ true → h ≡ true) →
    (if not s then Void else if s && not h && not l then Fresh else if f then Again else Late) ≡ (if not s then Void else if t then Again else if l then Late else Fresh)
verdict_cases false h l t f e late_then heard_then = refl
verdict_cases true h l t f e late_then heard_then = ap (λ q. if not h && not l then Fresh else if q then Again else Late) e ∙ step h l t late_then heard_then
  where
    step : (h l t : Bool) → (h ≡ true → t ≡ false → l ≡ true) → (t ≡ true → h ≡ true) → (if not h && not l then Fresh else if t then Again else Late) ≡ (if t then Again else if l then Late else Fresh)
    step true l true late_then' heard_then' = refl
    step true true false late_then' heard_then' = refl
    step true false false late_then' heard_then' = absurd (false≢true (late_then' refl refl))
    step false l true late_then' heard_then' = absurd (false≢true (heard_then' refl))
    step false true false late_then' heard_then' = refl
    step false false false late_then' heard_then' = refl

and_not_false : (b : Bool) → (b && not false) ≡ b
and_not_false true = refl
and_not_false false = refl

never_late : (g r i : ℕ) (s : Shape) (p : List Event) → once (λ e q. is_take g r i Announcement e && is_announcement_sent s g r i q && not false) p ≡ is_taken s Announcement g r i p
never_late g r i s p = ap (λ t. once t p) (fun_ext (λ e. fun_ext (λ q. and_not_false (is_take g r i Announcement e && is_announcement_sent s g r i q))))

pub fresh-taken : (s : Shape) (kind : Kind) (g r i : ℕ) (p : List Event) → is_taken s kind g r i p ≡ has_fresh_take s kind g r i p
fresh-taken s Reading g r i p = sym (fresh_is (is_take g r i Reading) (is_reading_sent s g r i) (is_closed g r) (is_closed-more g r) p)
fresh-taken s Announcement g r i p = sym (fresh_is (is_take g r i Announcement) (is_announcement_sent s g r i) (λ _. false) (λ _ _ h. h) p ∙ never_late g r i s p)
fresh-taken s Answer g r i p = sym (fresh_is (is_take g r i Answer) (is_answer_sent s g r i) (is_ended g r) (is_ended-more g r) p)

pub verdict-table : (s : Shape) (kind : Kind) (g r i : ℕ) (p : List Event) → verdict s kind g r i p ≡ verdict_by_table s kind g r i p
verdict-table s Reading g r i p =
    verdict_cases (is_sent s Reading g r i p) (has_effective_take s Reading g r i p) (is_late Reading g r p) (is_taken s Reading g r i p) (has_fresh_take s Reading g r i p) (sym (fresh-taken s Reading g r i p))
    (heard_late (is_take g r i Reading) (is_reading_sent s g r i) (is_closed g r) (is_closed-more g r) p)
    (once-weaker _ _ (λ e q is. and_first (is_take g r i Reading e && is_reading_sent s g r i q) (not (is_closed g r q)) is) p)
verdict-table s Announcement g r i p =
    verdict_cases (is_sent s Announcement g r i p) (has_effective_take s Announcement g r i p) (is_late Announcement g r p) (is_taken s Announcement g r i p) (has_fresh_take s Announcement g r i p) (sym (fresh-taken s Announcement g r i p))
    (λ heard none. absurd (false≢true (sym none ∙ heard))) (λ taken. taken)
verdict-table s Answer g r i p =
    verdict_cases (is_sent s Answer g r i p) (has_effective_take s Answer g r i p) (is_late Answer g r p) (is_taken s Answer g r i p) (has_fresh_take s Answer g r i p) (sym (fresh-taken s Answer g r i p))
    (heard_late (is_take g r i Answer) (is_answer_sent s g r i) (is_ended g r) (is_ended-more g r) p)
    (once-weaker _ _ (λ e q is. and_first (is_take g r i Answer e && is_answer_sent s g r i q) (not (is_ended g r q)) is) p)
