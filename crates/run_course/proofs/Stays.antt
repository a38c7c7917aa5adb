-- What is owed stays so with more entries, and does not depend on who has a reading that is never sent.
use Rattle.std.proofs.Common.{◌≡◌, ℕ, ◌+◌, ◌<◌, Bool, true, false, cond, not, ◌&&◌, List, [], ◌∷◌, ◌++◌, length, ◌⊎◌, refl, sym, ap, ◌∙◌, subst, ⊎_elim, inl, inr, arith}
use Rattle.std.specs.Prelude.{◌==◌, nat_lt, nat_le, if◌then◌else◌, reverse}
use mathlib.Core.Path.{fun_ext}
use Rattle.std.specs.List.{filter, flat_map, range_with_len}
use Rattle.std.proofs.lemmas.Bool.{false≢true, both_ways, and_parts, or_cases, or_left, or_right, cases_eq, cases_Bool, ne_eqb, false_from_ne_true}
use Rattle.std.proofs.lemmas.List.{map-append}
use Rattle.std.proofs.lemmas.List.Sums.{sum_by-append}
use Rattle.group_plan.specs.declared.Kind.TheVariants.{Reading, Announcement, Answer}
use Rattle.group_plan.specs.declared.Tag.{Tag}
use Rattle.group_plan.specs.Plans.{PlanView}
use Rattle.event_schedule.specs.declared.Event.{Event}
use Rattle.event_schedule.specs.declared.Entry.{Entry}
use Rattle.event_schedule.specs.Events.{once, event_of, events_of, is_send, is_take}
use Rattle.event_schedule.specs.Schedule.{Shape, members_of, floor_of, survivors, is_announced, is_closed, is_reading_sent, is_reading_taken}
use Rattle.event_schedule.proofs.ListLemmas.{flat_map_same}
use Rattle.event_schedule.proofs.ScheduleLemmas.{after, once-cons, after-keeps, after-reverse, survivors-after, is_closed-more, is_reading_sent-from_taken, present-from_taken}
use Rattle.run_rows.specs.Ticks.{tag_of, tags, takes_at}
use Rattle.run_course.specs.Beginnings.{shape_where}
use Rattle.run_course.specs.Sends.{all_present, is_read_in, owed_by, owed}
use Rattle.run_course.proofs.Calls.{rest_by}

-- ---- more entries

after-append : (p xs ys : List Event) → after p (xs ++ ys) ≡ after (after p xs) ys
unfolding after
after-append p [] ys = refl
after-append p (x ∷ xs) ys = after-append (x ∷ p) xs ys

pub past-append : (xs ys : List Entry) → reverse (events_of (xs ++ ys)) ≡ after (reverse (events_of xs)) (events_of ys)
past-append xs ys =
    ap reverse (map-append (λ (e : Entry). event_of e.line) xs ys) ∙ sym (after-reverse (events_of xs ++ events_of ys))
    ∙ after-append [] (events_of xs) (events_of ys) ∙ ap (λ p. after p (events_of ys)) (after-reverse (events_of xs))

pub takes-append : (xs ys : List Entry) (tag : Tag) (t : ℕ) → takes_at (xs ++ ys) tag t ≡ takes_at xs tag t + takes_at ys tag t
takes-append xs ys tag t = sum_by-append (λ (e : Entry). cond (is_take tag.group tag.round tag.meter tag.kind (event_of e.line) && (e.tick == t)) 1 0) xs ys

announcements_stay : (plan : PlanView) (present : ℕ → ℕ → ℕ → Bool) (p rest : List Event) (t g r : ℕ) → (r + plan.w1 ≡ t → is_closed g r p ≡ true)
    → (if (r + plan.w1 == t) && is_announced (shape_where plan present) g r (after p rest) then tags Announcement g r (survivors (shape_where plan present) g r (after p rest)) else [])
    ≡ (if (r + plan.w1 == t) && is_announced (shape_where plan present) g r p then tags Announcement g r (survivors (shape_where plan present) g r p) else [])
announcements_stay plan present p rest t g r closed =
    let s : Shape = shape_where plan present in
    let f : Bool → Bool → List ℕ → List Tag = λ q b ms. if q && (b && nat_le (floor_of s g) (length ms)) then tags Announcement g r ms else [] in
    ⊎_elim
    (λ e.
    let was : is_closed g r p ≡ true = closed e in
    let stays : is_closed g r (after p rest) ≡ true = after-keeps (λ q. is_closed g r q ≡ true) (λ e q h. is_closed-more g r e q h) p rest was in
    ap (λ b. f (r + plan.w1 == t) b (survivors s g r (after p rest))) (stays ∙ sym was) ∙ ap (f (r + plan.w1 == t) (is_closed g r p)) (survivors-after s g r p rest was))
    (λ ne.
    let no : (r + plan.w1 == t) ≡ false = ne_eqb (r + plan.w1) t ne in
    ap (λ q. f q (is_closed g r (after p rest)) (survivors s g r (after p rest))) no ∙ sym (ap (λ q. f q (is_closed g r p) (survivors s g r p)) no))
    (cases_eq (r + plan.w1) t)

-- where the rounds that close at a tick are closed, and none of the further entries is a Take in it, it calls for the same
pub rest_stays : (plan : PlanView) (present : ℕ → ℕ → ℕ → Bool) (xs ys : List Entry) (t g : ℕ)
    → ((r : ℕ) → r < plan.rounds → r + plan.w1 ≡ t → is_closed g r (reverse (events_of xs)) ≡ true)
    → ((tag : Tag) → takes_at ys tag t ≡ 0) → rest_by plan present (xs ++ ys) t g ≡ rest_by plan present xs t g
rest_stays plan present xs ys t g closed none =
    let s : Shape = shape_where plan present in
    let first : List Event → List Tag = λ p. flat_map (λ r. if (r + plan.w1 == t) && is_announced s g r p then tags Announcement g r (survivors s g r p) else []) (range_with_len 0 plan.rounds) in
    let second : List Entry → List Tag = λ zs. flat_map (λ r. tags Answer g r (filter (λ i. nat_lt 0 (takes_at zs (tag_of Announcement g r i) t)) (members_of s g r))) (range_with_len 0 plan.rounds) in
    let a : first (reverse (events_of (xs ++ ys))) ≡ first (reverse (events_of xs))
    = ap first (past-append xs ys)
    ∙ flat_map_same plan.rounds 0
    (λ r. if (r + plan.w1 == t) && is_announced s g r (after (reverse (events_of xs)) (events_of ys)) then tags Announcement g r (survivors s g r (after (reverse (events_of xs)) (events_of ys))) else [])
    (λ r. if (r + plan.w1 == t) && is_announced s g r (reverse (events_of xs)) then tags Announcement g r (survivors s g r (reverse (events_of xs))) else [])
    (λ r above below. announcements_stay plan present (reverse (events_of xs)) (events_of ys) t g r (closed r (omega arith))) in
    let b : second (xs ++ ys) ≡ second xs
    = flat_map_same plan.rounds 0
    (λ r. tags Answer g r (filter (λ i. nat_lt 0 (takes_at (xs ++ ys) (tag_of Announcement g r i) t)) (members_of s g r)))
    (λ r. tags Answer g r (filter (λ i. nat_lt 0 (takes_at xs (tag_of Announcement g r i) t)) (members_of s g r)))
    (λ r above below. ap (λ p. tags Answer g r (filter p (members_of s g r)))
    (fun_ext (λ i. ap (nat_lt 0) (omega (arith, takes-append xs ys (tag_of Announcement g r i) t, none (tag_of Announcement g r i)))))) in
    ap (λ l. l ++ second (xs ++ ys)) a ∙ ap (λ l. first (reverse (events_of xs)) ++ l) b

pub owed_stays : (plan : PlanView) (xs ys : List Entry) (t : ℕ)
    → ((g r : ℕ) → g < length plan.groups → r < plan.rounds → r + plan.w1 ≡ t → is_closed g r (reverse (events_of xs)) ≡ true)
    → ((tag : Tag) → takes_at ys tag t ≡ 0) → owed plan (xs ++ ys) t ≡ owed plan xs t
owed_stays plan xs ys t closed none =
    flat_map_same (length plan.groups) 0 (owed_by plan (xs ++ ys) t) (owed_by plan xs t)
    (λ g above below. rest_stays plan (λ g r i. true) xs ys t g (λ r. closed g r (omega arith)) none)

-- ---- presence

sent_is_read : (g r i : ℕ) (p : List Event) (xs : List Entry) → is_reading_sent (record { groups = []; present = λ g r i. true }) g r i (after p (events_of xs)) ≡ true
    → (is_reading_sent (record { groups = []; present = λ g r i. true }) g r i p ≡ true) ⊎ (is_read_in xs g r i ≡ true)
unfolding after
sent_is_read g r i p [] h = inl h
sent_is_read g r i p (x ∷ xs) h =
    ⊎_elim
    (λ sent. ⊎_elim
    (λ now. inr (or_left (is_send g r i Reading (event_of x.line)) (is_read_in xs g r i) (and_parts (is_send g r i Reading (event_of x.line)) true now).0))
    (λ before. inl before)
    (or_cases (is_send g r i Reading (event_of x.line) && true) (is_reading_sent (record { groups = []; present = λ g r i. true }) g r i p)
    (sym (once-cons (λ e before. is_send g r i Reading e && true) (event_of x.line) p) ∙ sent)))
    (λ later. inr (or_right (is_send g r i Reading (event_of x.line)) (is_read_in xs g r i) later))
    (sent_is_read g r i (event_of x.line ∷ p) xs h)

none_sent : (g r i : ℕ) → is_reading_sent (record { groups = []; present = λ g r i. true }) g r i [] ≡ true → false ≡ true
unfolding once
none_sent g r i h = h

taken_where : (plan : PlanView) (present : ℕ → ℕ → ℕ → Bool) (xs : List Entry) (g r i : ℕ) → (is_read_in xs g r i ≡ true → present g r i ≡ true)
    → is_reading_taken (shape_where plan present) g r i (reverse (events_of xs)) ≡ is_reading_taken (all_present plan) g r i (reverse (events_of xs))
taken_where plan present xs g r i covers =
    let past : List Event = reverse (events_of xs) in
    ⊎_elim
    (λ yes. ap (λ q. once (λ e before. is_take g r i Reading e && once (λ e _. is_send g r i Reading e && q) before && not (is_closed g r before)) past) yes)
    (λ no.
    let unread : is_read_in xs g r i ≡ true → ⊥ = λ h. both_ways (present g r i) no (covers h) in
    false_from_ne_true (is_reading_taken (shape_where plan present) g r i past) (λ h. both_ways (present g r i) no (present-from_taken (shape_where plan present) g r i past h))
    ∙ sym (false_from_ne_true (is_reading_taken (all_present plan) g r i past)
    (λ h. ⊎_elim (λ none. false≢true (none_sent g r i none)) unread (sent_is_read g r i [] xs (subst (λ p. is_reading_sent (record { groups = []; present = λ g r i. true }) g r i p ≡ true) (sym (after-reverse (events_of xs)))
    (is_reading_sent-from_taken (all_present plan) g r i past h))))))
    (cases_Bool (present g r i))

-- where all that is read is present, a tick calls for the same as where all is
pub rest_where : (plan : PlanView) (present : ℕ → ℕ → ℕ → Bool) (xs : List Entry) (t g : ℕ) → ((g r i : ℕ) → is_read_in xs g r i ≡ true → present g r i ≡ true)
    → rest_by plan present xs t g ≡ owed_by plan xs t g
rest_where plan present xs t g covers =
    let s : Shape = shape_where plan present in
    let past : List Event = reverse (events_of xs) in
    let f : ℕ → (ℕ → Bool) → List Tag = λ r p. if (r + plan.w1 == t) && (is_closed g r past && nat_le (floor_of s g) (length (filter p (members_of s g r)))) then tags Announcement g r (filter p (members_of s g r)) else [] in
    ap (λ l. l ++ flat_map (λ r. tags Answer g r (filter (λ i. nat_lt 0 (takes_at xs (tag_of Announcement g r i) t)) (members_of s g r))) (range_with_len 0 plan.rounds))
    (flat_map_same plan.rounds 0 (λ r. f r (λ i. is_reading_taken s g r i past)) (λ r. f r (λ i. is_reading_taken (all_present plan) g r i past))
    (λ r above below. ap (f r) (fun_ext (λ i. taken_where plan present xs g r i (covers g r i)))))

pub all_where : (plan : PlanView) (present : ℕ → ℕ → ℕ → Bool) (xs : List Entry) (t : ℕ) → ((g r i : ℕ) → is_read_in xs g r i ≡ true → present g r i ≡ true)
    → flat_map (rest_by plan present xs t) (range_with_len 0 (length plan.groups)) ≡ owed plan xs t
all_where plan present xs t covers =
    flat_map_same (length plan.groups) 0 (rest_by plan present xs t) (owed_by plan xs t) (λ g above below. rest_where plan present xs t g covers)
