-- What later entries leave as it was.
use Rattle.std.proofs.Common.{◌≡◌, ℕ, ◌+◌, ◌<◌, Bool, true, false, cond, ◌&&◌, ◌||◌, List, [], ◌∷◌, ◌++◌, length, refl, sym, ap, ◌∙◌, subst, arith}
use Rattle.std.specs.Prelude.{◌==◌, nat_lt, nat_le, if◌then◌else◌}
use mathlib.Core.List.{reverse_aux, reverse}
use mathlib.Core.Path.{fun_ext}
use Rattle.std.specs.List.{count_by, filter, flat_map, range_with_len, list_any}
use Rattle.std.proofs.lemmas.Bool.{and_from, and_parts, or_left, eqb-true, eq-eqb}
use Rattle.std.proofs.lemmas.List.{map-append}
use Rattle.std.proofs.lemmas.List.Sums.{sum_by-cons, sum_by-append}
use Rattle.group_plan.specs.declared.Kind.{Kind}
use Rattle.group_plan.specs.declared.Kind.TheVariants.{Reading, Announcement, Answer}
use Rattle.group_plan.specs.declared.Tag.{Tag}
use Rattle.event_schedule.specs.declared.Event.{Event}
use Rattle.event_schedule.specs.declared.Event.TheVariants.{Send, Take, Close, End}
use Rattle.event_schedule.specs.declared.Entry.{Entry}
use Rattle.event_schedule.specs.Events.{is_take, event_of, events_of}
use Rattle.event_schedule.specs.Schedule.{Shape, is_closed, is_sent, is_announced, reaches_floor, survivors, members_of, floor_of, is_announcement_sent, is_announcement_taken}
use Rattle.event_schedule.proofs.ScheduleLemmas.{after, after-keeps, after-reverse_aux, once-more, once-now, is_closed-more, is_announced-more, survivors-after, missing-after}
use Rattle.event_schedule.proofs.ListLemmas.{flat_map_same}
use Rattle.run_rows.specs.Ticks.{Clock, tag_of, tags, takes_at, due_of}
use Rattle.tick_run.specs.Progress.{HadEffect, KeepSets, past_of_entries}

-- ---- the past

pub reverse_aux-append : {X : Type 0} (xs ys acc : List X) → reverse_aux (xs ++ ys) acc ≡ reverse_aux ys (reverse_aux xs acc)
reverse_aux-append [] ys acc = refl
reverse_aux-append (x ∷ xs) ys acc = reverse_aux-append xs ys (x ∷ acc)

pub past-append : (xs ys : List Entry) → past_of_entries (xs ++ ys) ≡ after (past_of_entries xs) (events_of ys)
past-append xs ys =
    ap reverse (map-append (λ e. event_of e.line) xs ys)
    ∙ reverse_aux-append (events_of xs) (events_of ys) []
    ∙ sym (after-reverse_aux (past_of_entries xs) (events_of ys))

pub is_sent-more : (s : Shape) (k : Kind) (g r i : ℕ) (e : Event) (p : List Event) → is_sent s k g r i p ≡ true → is_sent s k g r i (e ∷ p) ≡ true
is_sent-more s Reading g r i e p h = once-more _ e p h
is_sent-more s Announcement g r i e p h = once-more _ e p h
is_sent-more s Answer g r i e p h = once-more _ e p h

had_effect-more : (s : Shape) (v e : Event) (p : List Event) → HadEffect s p v → HadEffect s (e ∷ p) v
had_effect-more s (Send tag) e p h = is_sent-more s tag.kind tag.group tag.round tag.meter e p h
had_effect-more s (Take tag) e p h = tt
had_effect-more s (Close g r) e p h = tt
had_effect-more s (End g r) e p h = tt

pub had_effect-append : (s : Shape) (v : Event) (xs ys : List Entry) → HadEffect s (past_of_entries xs) v → HadEffect s (past_of_entries (xs ++ ys)) v
had_effect-append s v xs ys h =
    subst (λ p. HadEffect s p v) (sym (past-append xs ys)) (after-keeps (λ p. HadEffect s p v) (had_effect-more s v) (past_of_entries xs) (events_of ys) h)

pub closed-append : (g r : ℕ) (xs ys : List Entry) → is_closed g r (past_of_entries xs) ≡ true → is_closed g r (past_of_entries (xs ++ ys)) ≡ true
closed-append g r xs ys h =
    subst (λ p. is_closed g r p ≡ true) (sym (past-append xs ys)) (after-keeps (λ p. is_closed g r p ≡ true) (is_closed-more g r) (past_of_entries xs) (events_of ys) h)

pub survivors-append : (s : Shape) (g r : ℕ) (xs ys : List Entry) → is_closed g r (past_of_entries xs) ≡ true → survivors s g r (past_of_entries (xs ++ ys)) ≡ survivors s g r (past_of_entries xs)
survivors-append s g r xs ys h = ap (survivors s g r) (past-append xs ys) ∙ survivors-after s g r (past_of_entries xs) (events_of ys) h

pub announced-append : (s : Shape) (g r : ℕ) (xs ys : List Entry) → is_closed g r (past_of_entries xs) ≡ true → is_announced s g r (past_of_entries (xs ++ ys)) ≡ is_announced s g r (past_of_entries xs)
announced-append s g r xs ys h =
    ap (λ b. b && reaches_floor s g r (past_of_entries (xs ++ ys))) (closed-append g r xs ys h ∙ sym h)
    ∙ ap (λ a. is_closed g r (past_of_entries xs) && nat_le (floor_of s g) (length a)) (survivors-append s g r xs ys h)

-- ---- announcements heard

announcement_taken-after : (s : Shape) (g r i : ℕ) (p rest : List Event) → is_announcement_taken s g r i p ≡ true → is_announcement_taken s g r i (after p rest) ≡ true
announcement_taken-after s g r i p rest h = after-keeps (λ q. is_announcement_taken s g r i q ≡ true) (λ e q u. once-more _ e q u) p rest h

pub taken-append : (s : Shape) (g r i : ℕ) (xs ys : List Entry) → is_announcement_taken s g r i (past_of_entries xs) ≡ true → is_announcement_taken s g r i (past_of_entries (xs ++ ys)) ≡ true
taken-append s g r i xs ys h = subst (λ p. is_announcement_taken s g r i p ≡ true) (sym (past-append xs ys)) (announcement_taken-after s g r i (past_of_entries xs) (events_of ys) h)

heard_after : (s : Shape) (g r i : ℕ) (p : List Event) (ys : List Entry) → is_announcement_sent s g r i p ≡ true
    → 0 < count_by (λ e. is_take g r i Announcement (event_of e.line)) ys → is_announcement_taken s g r i (after p (events_of ys)) ≡ true
unfolding after
heard_after s g r i p [] sent pos = absurd (omega arith)
heard_after s g r i p (y ∷ ys) sent pos = step (is_take g r i Announcement (event_of y.line)) refl (heard_after s g r i (event_of y.line ∷ p) ys)
  where
    step : (b : Bool) → is_take g r i Announcement (event_of y.line) ≡ b
        → (is_announcement_sent s g r i (event_of y.line ∷ p) ≡ true → 0 < count_by (λ e. is_take g r i Announcement (event_of e.line)) ys → is_announcement_taken s g r i (after (event_of y.line ∷ p) (events_of ys)) ≡ true)
        → is_announcement_taken s g r i (after (event_of y.line ∷ p) (events_of ys)) ≡ true
    step true is later =
        announcement_taken-after s g r i (event_of y.line ∷ p) (events_of ys)
        (once-now _ (event_of y.line) p (and_from (is_take g r i Announcement (event_of y.line)) (is_announcement_sent s g r i p) is sent))
    step false is later =
        later (once-more _ (event_of y.line) p sent)
        (omega (arith, pos, sum_by-cons (λ e. cond {A = ℕ} (is_take g r i Announcement (event_of e.line)) 1 0) y ys, ap (λ b. cond {A = ℕ} b 1 0) is))

pub heard-append : (s : Shape) (g r i : ℕ) (xs ys : List Entry) → is_announcement_sent s g r i (past_of_entries xs) ≡ true
    → 0 < count_by (λ e. is_take g r i Announcement (event_of e.line)) ys → is_announcement_taken s g r i (past_of_entries (xs ++ ys)) ≡ true
heard-append s g r i xs ys sent pos = subst (λ p. is_announcement_taken s g r i p ≡ true) (sym (past-append xs ys)) (heard_after s g r i (past_of_entries xs) ys sent pos)

-- ---- announced sets

sets-after : (s : Shape) (p rest : List Event) → KeepSets s p (after p rest)
sets-after s p rest = record {
  sets = λ g r announced. (
    after-keeps (λ q. is_announced s g r q ≡ true) (is_announced-more s g r) p rest announced,
    missing-after s g r p rest (and_parts (is_closed g r p) (reaches_floor s g r p) announced).0,
  );
  taken = λ g r i. announcement_taken-after s g r i p rest;
}

pub sets-append : (s : Shape) (xs ys : List Entry) → KeepSets s (past_of_entries xs) (past_of_entries (xs ++ ys))
sets-append s xs ys = subst (KeepSets s (past_of_entries xs)) (sym (past-append xs ys)) (sets-after s (past_of_entries xs) (events_of ys))

-- ---- what is due

pub takes-append : (xs ys : List Entry) (tag : Tag) (u : ℕ) → takes_at (xs ++ ys) tag u ≡ takes_at xs tag u + takes_at ys tag u
takes-append xs ys tag u = sum_by-append (λ e. cond {A = ℕ} (is_take tag.group tag.round tag.meter tag.kind (event_of e.line) && (e.tick == u)) 1 0) xs ys

announced_part : Shape → Clock → List Entry → ℕ → ℕ → ℕ → List Tag
announced_part s c entries u g r =
    if (r + c.w1 == u) && is_announced s g r (past_of_entries entries) then tags Announcement g r (survivors s g r (past_of_entries entries)) else []

announced_stays : (s : Shape) (c : Clock) (xs ys : List Entry) (u g r : ℕ) → (r + c.w1 ≡ u → is_closed g r (past_of_entries xs) ≡ true)
    → announced_part s c (xs ++ ys) u g r ≡ announced_part s c xs u g r
unfolding announced_part
announced_stays s c xs ys u g r closed = step (r + c.w1 == u) refl
  where
    step : (b : Bool) → (r + c.w1 == u) ≡ b
        → cond (b && is_announced s g r (past_of_entries (xs ++ ys))) (tags Announcement g r (survivors s g r (past_of_entries (xs ++ ys)))) []
        ≡ cond (b && is_announced s g r (past_of_entries xs)) (tags Announcement g r (survivors s g r (past_of_entries xs))) []
    step true is =
        let h : is_closed g r (past_of_entries xs) ≡ true = closed (eqb-true (r + c.w1) u is) in
        ap (λ b. cond b (tags Announcement g r (survivors s g r (past_of_entries (xs ++ ys)))) []) (announced-append s g r xs ys h)
        ∙ ap (λ a. cond (is_announced s g r (past_of_entries xs)) (tags Announcement g r a) []) (survivors-append s g r xs ys h)
    step false is = refl

answers_part : Shape → List Entry → ℕ → ℕ → ℕ → List Tag
answers_part s entries u g r = tags Answer g r (filter (λ i. nat_lt 0 (takes_at entries (tag_of Announcement g r i) u)) (members_of s g r))

answers_stay : (s : Shape) (xs ys : List Entry) (u g r : ℕ) → ((tag : Tag) → takes_at ys tag u ≡ 0) → answers_part s (xs ++ ys) u g r ≡ answers_part s xs u g r
unfolding answers_part
answers_stay s xs ys u g r none =
    ap (λ f. tags Answer g r (filter f (members_of s g r))) (fun_ext (λ i. ap (nat_lt 0)
    (omega (arith, takes-append xs ys (tag_of Announcement g r i) u, none (tag_of Announcement g r i)))))

due_of_stays : (s : Shape) (c : Clock) (xs ys : List Entry) (u g : ℕ) → ((tag : Tag) → takes_at ys tag u ≡ 0)
    → ((r : ℕ) → r < c.rounds → r + c.w1 ≡ u → is_closed g r (past_of_entries xs) ≡ true)
    → due_of s c (xs ++ ys) u g ≡ due_of s c xs u g
unfolding announced_part answers_part
due_of_stays s c xs ys u g none closed =
    let firsts : List Tag = tags Reading g u (if nat_lt u c.rounds then filter (λ i. s.present g u i) (members_of s g u) else []) in
    let rounds : List ℕ = range_with_len 0 c.rounds in
    let same_announced : flat_map (announced_part s c (xs ++ ys) u g) rounds ≡ flat_map (announced_part s c xs u g) rounds
    = flat_map_same c.rounds 0 (announced_part s c (xs ++ ys) u g) (announced_part s c xs u g) (λ r _ r_in. announced_stays s c xs ys u g r (closed r (omega arith))) in
    let same_answers : flat_map (answers_part s (xs ++ ys) u g) rounds ≡ flat_map (answers_part s xs u g) rounds
    = ap (λ f. flat_map f rounds) (fun_ext (λ r. answers_stay s xs ys u g r none)) in
    ap (λ l. (firsts ++ l) ++ flat_map (answers_part s (xs ++ ys) u g) rounds) same_announced
    ∙ ap (λ l. (firsts ++ flat_map (announced_part s c xs u g) rounds) ++ l) same_answers

-- functions that are alike on these groups
pub flat_map_these : {X : Type 0} (these : List ℕ) (f h : ℕ → List X) → ((g : ℕ) → list_any (λ k. k == g) these ≡ true → f g ≡ h g) → flat_map f these ≡ flat_map h these
flat_map_these [] f h same = refl
flat_map_these (k ∷ these) f h same =
    ap (λ l. l ++ flat_map f these) (same k (or_left (k == k) (list_any (λ j. j == k) these) (eq-eqb k k refl)))
    ∙ ap (λ l. h k ++ l) (flat_map_these these f h (λ g inside. same g (or_right (k == g) (list_any (λ j. j == g) these) inside)))
  where
    or_right : (a b : Bool) → b ≡ true → (a || b) ≡ true
    or_right true b is = refl
    or_right false b is = is

-- later entries that take nothing at a tick leave what is due then, once its rounds are closed
pub due-stays : (s : Shape) (c : Clock) (these : List ℕ) (xs ys : List Entry) (u : ℕ) → ((tag : Tag) → takes_at ys tag u ≡ 0)
    → ((g r : ℕ) → list_any (λ h. h == g) these ≡ true → r < c.rounds → r + c.w1 ≡ u → is_closed g r (past_of_entries xs) ≡ true)
    → flat_map (due_of s c (xs ++ ys) u) these ≡ flat_map (due_of s c xs u) these
due-stays s c these xs ys u none closed =
    flat_map_these these (due_of s c (xs ++ ys) u) (due_of s c xs u) (λ g inside. due_of_stays s c xs ys u g none (λ r. closed g r inside))
