-- The posts of a tick run are those by the lanes alone.
use Rattle.std.proofs.Common.{◌≡◌, ℕ, zero, suc, ◌+◌, ◌*◌, ◌<◌, ◌≤◌, Bool, true, false, cond, ◌&&◌, List, [], ◌∷◌, ◌++◌, length, map, refl, sym, ap, ◌∙◌, subst, append_assoc, append-nil, zero-add, ⊎_elim, inl, inr, arith}
use Rattle.std.specs.Prelude.{◌==◌, nat_lt, nat_le, if◌then◌else◌}
use mathlib.Core.List.{reverse}
use mathlib.Core.Path.{fun_ext}
use Rattle.std.specs.List.{sum_by, count_by, filter, flat_map, range_with_len, list_any, All}
use Rattle.std.proofs.lemmas.Bool.{false≢true, and_from, lt-ltb, eqb-true, cases_lt, ne_eqb}
use Rattle.std.proofs.lemmas.Bool.Decides.{nat_tests}
use Rattle.std.proofs.lemmas.List.Sums.{sum_by-cons}
use Rattle.std.proofs.lemmas.List.Elements.{All-head, All-tail}
use Rattle.group_plan.specs.declared.Kind.TheVariants.{Reading, Announcement, Answer}
use Rattle.group_plan.specs.declared.Tag.{Tag}
use Rattle.event_schedule.specs.declared.Event.{Event}
use Rattle.event_schedule.specs.declared.Event.TheVariants.{Send, Take, Close, End}
use Rattle.event_schedule.specs.Schedule.{Shape, is_closed, is_announced, reaches_floor, survivors, members_of, floor_of}
use Rattle.event_schedule.specs.Events.{is_tag, is_send, is_close, events_of, event_of}
use Rattle.link_lanes.specs.Lanes.{Slot, fate_after, fates_after}
use Rattle.link_lanes.specs.declared.Post.{Post}
use Rattle.run_rows.specs.Ticks.{Clock, phase, tag_of, tags, tags_of, sent_at, takes_at, copies, last_tick, due_of, in_plan, NoneBefore, IsOrdered, posts_of, HaveDelays, IsTickRun, IsRunPlan}
use Rattle.event_schedule.specs.declared.Entry.{Entry}
use Rattle.run_rows.specs.Report.{fate_at, report_survivors}
use Rattle.run_rows.proofs.TickRun.{IsRunBy, all_member, events-reverse, member_from_flat_map, member_from_map, once_stands, run_facts}
use Rattle.run_rows.specs.Posts.{coming, due_by, post_all, posts_before, posts_by_lanes}
use Rattle.run_rows.proofs.TickLemmas.{Member, Stands, TickFacts, is_reading_taken-ticks, once-from}
use Rattle.event_schedule.proofs.ListLemmas.{flat_map_same, sum_by-flat_map}
use Rattle.run_rows.proofs.FateLemmas.{run_by}

-- ---- posts in the order of ticks

NoneEarlier : ℕ → List Post → Type 0
NoneEarlier m [] = Unit {0}
NoneEarlier m (p ∷ rest) = (m ≤ p.tick) × NoneEarlier m rest

InOrder : List Post → Type 0
InOrder [] = Unit {0}
InOrder (p ∷ rest) = NoneEarlier p.tick rest × InOrder rest

abbrev pub before : ℕ → List Post → List Post
before t posts = filter (λ p. nat_lt p.tick t) posts

abbrev pub at_tick : ℕ → List Post → List Post
at_tick t posts = filter (λ p. p.tick == t) posts

none_before : (t m : ℕ) (posts : List Post) → t ≤ m → NoneEarlier m posts → before t posts ≡ []
unfolding NoneEarlier
none_before t m [] le all = refl
none_before t m (p ∷ rest) le all = ap (λ b. cond b (p ∷ before t rest) (before t rest)) (not_lt p.tick t (omega (arith, all.0))) ∙ none_before t m rest le all.1
  where
    not_lt : (a b : ℕ) → b ≤ a → nat_lt a b ≡ false
    not_lt a b h = grind (arith, nat_tests)

none_at : (t m : ℕ) (posts : List Post) → t < m → NoneEarlier m posts → at_tick t posts ≡ []
unfolding NoneEarlier
none_at t m [] lt all = refl
none_at t m (p ∷ rest) lt all = ap (λ b. cond b (p ∷ at_tick t rest) (at_tick t rest)) (ne_eqb p.tick t (λ e. omega (arith, all.0, e))) ∙ none_at t m rest lt all.1

before_more : (t : ℕ) (posts : List Post) → InOrder posts → before (suc t) posts ≡ before t posts ++ at_tick t posts
unfolding InOrder
before_more t [] order = refl
before_more t (p ∷ rest) order = step (nat_lt p.tick t) (p.tick == t) refl refl (before_more t rest order.1)
  where
    lt_more : (a : ℕ) → nat_lt a t ≡ true → nat_lt a (suc t) ≡ true
    lt_more a h = grind (arith, nat_tests)

    is_more : (a : ℕ) → (a == t) ≡ true → nat_lt a (suc t) ≡ true
    is_more a h = grind (arith, nat_tests)

    not_more : (a : ℕ) → nat_lt a t ≡ false → (a == t) ≡ false → nat_lt a (suc t) ≡ false
    not_more a h g = grind (arith, nat_tests)

    both_not : (a : ℕ) → nat_lt a t ≡ true → (a == t) ≡ false
    both_not a h = grind (arith, nat_tests)

    step : (b q : Bool) → nat_lt p.tick t ≡ b → (p.tick == t) ≡ q → before (suc t) rest ≡ before t rest ++ at_tick t rest → before (suc t) (p ∷ rest) ≡ before t (p ∷ rest) ++ at_tick t (p ∷ rest)
    step true q is eq later =
        ap (λ b. cond b (p ∷ before (suc t) rest) (before (suc t) rest)) (lt_more p.tick is)
        ∙ ap (λ l. p ∷ l) later
        ∙ sym (ap (λ b. cond b (p ∷ before t rest) (before t rest) ++ at_tick t (p ∷ rest)) is ∙ ap (λ b. (p ∷ before t rest) ++ cond b (p ∷ at_tick t rest) (at_tick t rest)) (both_not p.tick is))
    step false true is eq later =
        let here : p.tick ≡ t = eqb-true p.tick t eq in
        let none : before t rest ≡ [] = none_before t p.tick rest (omega arith) order.0 in
        ap (λ b. cond b (p ∷ before (suc t) rest) (before (suc t) rest)) (is_more p.tick eq)
        ∙ ap (λ l. p ∷ l) (later ∙ ap (λ l. l ++ at_tick t rest) none)
        ∙ sym (ap (λ b. cond b (p ∷ before t rest) (before t rest) ++ at_tick t (p ∷ rest)) is ∙ ap (λ l. l ++ at_tick t (p ∷ rest)) none ∙ ap (λ b. cond b (p ∷ at_tick t rest) (at_tick t rest)) eq)
    step false false is eq later =
        ap (λ b. cond b (p ∷ before (suc t) rest) (before (suc t) rest)) (not_more p.tick is eq) ∙ later
        ∙ sym (ap (λ b. cond b (p ∷ before t rest) (before t rest) ++ at_tick t (p ∷ rest)) is ∙ ap (λ b. before t rest ++ cond b (p ∷ at_tick t rest) (at_tick t rest)) eq)

-- the posts are those before a tick and then the others
before_first : (t : ℕ) (posts : List Post) → InOrder posts → (later : List Post) × (posts ≡ before t posts ++ later)
unfolding InOrder
before_first t [] order = ([], refl)
before_first t (p ∷ rest) order = step (nat_lt p.tick t) refl (before_first t rest order.1)
  where
    le_of : (a : ℕ) → nat_lt a t ≡ false → t ≤ a
    le_of a h = ⊎_elim (λ lt. absurd (false≢true (sym h ∙ lt-ltb a t lt))) (λ le. le) (cases_lt a t)

    step : (b : Bool) → nat_lt p.tick t ≡ b → ((later : List Post) × (rest ≡ before t rest ++ later)) → (later : List Post) × ((p ∷ rest) ≡ before t (p ∷ rest) ++ later)
    step true is found = (found.0, ap (λ l. p ∷ l) found.1 ∙ sym (ap (λ b. cond b (p ∷ before t rest) (before t rest) ++ found.0) is))
    step false is found = (p ∷ rest, sym (ap (λ b. cond b (p ∷ before t rest) (before t rest) ++ (p ∷ rest)) is ∙ ap (λ l. l ++ (p ∷ rest)) (none_before t p.tick rest (le_of p.tick is) order.0)))

before_all : (t : ℕ) (posts : List Post) → ((p : Post) → Member p posts → p.tick < t) → before t posts ≡ posts
before_all t [] all = refl
before_all t (p ∷ rest) all =
    ap (λ b. cond b (p ∷ before t rest) (before t rest)) (lt-ltb p.tick t (all p (inl refl))) ∙ ap (λ l. p ∷ l) (before_all t rest (λ q at. all q (inr at)))

-- ---- from entries to posts

made : Entry → List Post
made e = map (λ tag. record { tick = e.tick; tag = tag; fate = e.fate }) (tags_of (event_of e.line))

in_order : (entries : List Entry) → IsOrdered entries → InOrder (posts_of entries)
unfolding InOrder NoneEarlier
in_order [] order = tt
in_order (e ∷ rest) order = by_event (event_of e.line) refl (in_order rest order.1)
  where
    none_earlier : (xs : List Entry) → NoneBefore (3 * e.tick + 2) xs → NoneEarlier e.tick (posts_of xs)
    none_earlier [] none = tt
    none_earlier (x ∷ xs) none = one (event_of x.line) refl (none_earlier xs none.1)
      where
        one : (v : Event) → (event_of x.line) ≡ v → NoneEarlier e.tick (posts_of xs) → NoneEarlier e.tick (map (λ tag. record { tick = x.tick; tag = tag; fate = x.fate }) (tags_of v) ++ posts_of xs)
        one (Send tag) is later = (let le : 3 * e.tick + 2 ≤ 3 * x.tick + phase (event_of x.line) = none.0 in let p2 : phase (event_of x.line) ≡ 2 = ap phase is in omega arith, later)
        one (Take tag) is later = later
        one (Close g r) is later = later
        one (End g r) is later = later

    by_event : (v : Event) → (event_of e.line) ≡ v → InOrder (posts_of rest) → InOrder (map (λ tag. record { tick = e.tick; tag = tag; fate = e.fate }) (tags_of v) ++ posts_of rest)
    by_event (Send tag) is later = (none_earlier rest (subst (λ v. NoneBefore (3 * e.tick + phase v) rest) is order.0), later)
    by_event (Take tag) is later = later
    by_event (Close g r) is later = later
    by_event (End g r) is later = later

-- the tags of the posts of a tick are what is sent at it
tags_at : (t : ℕ) (entries : List Entry) → map (λ p. p.tag) (at_tick t (posts_of entries)) ≡ sent_at entries t
tags_at t [] = refl
tags_at t (e ∷ rest) = by_event (event_of e.line) (e.tick == t) refl (tags_at t rest)
  where
    by_event : (v : Event) (b : Bool) → (e.tick == t) ≡ b → map (λ p. p.tag) (at_tick t (posts_of rest)) ≡ sent_at rest t
        → map (λ p. p.tag) (at_tick t (map (λ tag. record { tick = e.tick; tag = tag; fate = e.fate }) (tags_of v) ++ posts_of rest)) ≡ (if b then tags_of v else []) ++ sent_at rest t
    by_event (Send tag) true is later =
        ap (λ b. map (λ p. p.tag) (cond b (record { tick = e.tick; tag = tag; fate = e.fate } ∷ at_tick t (posts_of rest)) (at_tick t (posts_of rest)))) is ∙ ap (λ l. tag ∷ l) later
    by_event (Send tag) false is later =
        ap (λ b. map (λ p. p.tag) (cond b (record { tick = e.tick; tag = tag; fate = e.fate } ∷ at_tick t (posts_of rest)) (at_tick t (posts_of rest)))) is ∙ later
    by_event (Take tag) true is later = later
    by_event (Take tag) false is later = later
    by_event (Close g r) true is later = later
    by_event (Close g r) false is later = later
    by_event (End g r) true is later = later
    by_event (End g r) false is later = later

-- ---- fates in order

Posted : List Slot → List Post → List Post → Type 0
Posted slots done [] = Unit {0}
Posted slots done (p ∷ rest) = (p.fate ≡ fate_after slots done p.tick p.tag) × Posted slots (done ++ p ∷ []) rest

posted_from : (slots : List Slot) (done posts : List Post) → map (λ p. p.fate) posts ≡ fates_after slots done posts → Posted slots done posts
unfolding Posted
posted_from slots done [] same = tt
posted_from slots done (p ∷ rest) same =
    let head : p.fate ≡ fate_after slots done p.tick p.tag = cc same in
    let tail : map (λ q. q.fate) rest ≡ fates_after slots (done ++ p ∷ []) rest = cc same in
    (head, posted_from slots (done ++ p ∷ []) rest tail)

posted_first : (slots : List Slot) (done xs ys : List Post) → Posted slots done (xs ++ ys) → Posted slots done xs
unfolding Posted
posted_first slots done [] ys all = tt
posted_first slots done (p ∷ xs) ys all = (all.0, posted_first slots (done ++ p ∷ []) xs ys all.1)

posted_last : (slots : List Slot) (done xs ys : List Post) → Posted slots done (xs ++ ys) → Posted slots (done ++ xs) ys
unfolding Posted
posted_last slots done [] ys all = subst (λ l. Posted slots l ys) (sym (append-nil done)) all
posted_last slots done (p ∷ xs) ys all = subst (λ l. Posted slots l ys) (append_assoc done (p ∷ []) xs) (posted_last slots (done ++ p ∷ []) xs ys all.1)

AllAt : ℕ → List Post → Type 0
AllAt t [] = Unit {0}
AllAt t (p ∷ rest) = (p.tick ≡ t) × AllAt t rest

all_at : (t : ℕ) (posts : List Post) → AllAt t (at_tick t posts)
unfolding AllAt
all_at t [] = tt
all_at t (p ∷ rest) = step (p.tick == t) refl (all_at t rest)
  where
    step : (b : Bool) → (p.tick == t) ≡ b → AllAt t (at_tick t rest) → AllAt t (cond b (p ∷ at_tick t rest) (at_tick t rest))
    step true is later = (eqb-true p.tick t is, later)
    step false is later = later

post_all-is : (slots : List Slot) (done : List Post) (t : ℕ) (xs : List Post) → AllAt t xs → Posted slots done xs → post_all slots done t (map (λ p. p.tag) xs) ≡ done ++ xs
unfolding AllAt Posted
post_all-is slots done t [] all posted = sym (append-nil done)
post_all-is slots done t (p ∷ xs) all posted =
    let fate_is : fate_after slots done t p.tag ≡ p.fate = sym (posted.0 ∙ ap (λ z. fate_after slots done z p.tag) all.0) in
    let same : ◌≡◌ {A = Post} (record { tick = t; tag = p.tag; fate = fate_after slots done t p.tag }) p = λ j. record { tick = (sym all.0) j; tag = p.tag; fate = fate_is j } in
    ap (λ q. post_all slots (done ++ q ∷ []) t (map (λ z. z.tag) xs)) same
    ∙ post_all-is slots (done ++ p ∷ []) t xs all.1 posted.1
    ∙ append_assoc done (p ∷ []) xs

-- ---- what is due

fate_before : (t r : ℕ) (tag : Tag) (posts : List Post) → r < t → fate_at posts r tag ≡ fate_at (before t posts) r tag
fate_before t r tag [] lt = refl
fate_before t r tag (p ∷ rest) lt = step (nat_lt p.tick t) refl (fate_before t r tag rest lt)
  where
    other : nat_lt p.tick t ≡ false → (p.tick == r) ≡ false
    other is = grind (arith, nat_tests)

    step : (b : Bool) → nat_lt p.tick t ≡ b → fate_at rest r tag ≡ fate_at (before t rest) r tag → fate_at (p ∷ rest) r tag ≡ fate_at (cond b (p ∷ before t rest) (before t rest)) r tag
    step true is later = ap (λ f. cond ((p.tick == r) && is_tag tag.group tag.round tag.meter tag.kind p.tag) p.fate f) later
    step false is later = ap (λ b. cond (b && is_tag tag.group tag.round tag.meter tag.kind p.tag) p.fate (fate_at rest r tag)) (other is) ∙ later

abbrev pub post_copies : Tag → ℕ → Post → ℕ
post_copies tag t p = if is_tag tag.group tag.round tag.meter tag.kind p.tag then count_by (λ d. p.tick + d == t) p.fate else 0

coming_is : (tag : Tag) (t : ℕ) (entries : List Entry) → sum_by (copies tag t) entries ≡ coming (posts_of entries) tag t
coming_is tag t entries =
    sym (sum_by-flat_map (post_copies tag t) (λ e. map (λ z. record { tick = e.tick; tag = z; fate = e.fate }) (tags_of (event_of e.line))) entries
    ∙ ap (λ f. sum_by f entries) (fun_ext (λ e. by_event e (event_of e.line))))
  where
    by_event : (e : Entry) (v : Event) → sum_by (post_copies tag t) (map (λ z. record { tick = e.tick; tag = z; fate = e.fate }) (tags_of v))
        ≡ cond (is_send tag.group tag.round tag.meter tag.kind v) (count_by (λ d. e.tick + d == t) e.fate) 0
    by_event e (Send z) = sum_by-cons (post_copies tag t) (record { tick = e.tick; tag = z; fate = e.fate }) [] ∙ omega arith
    by_event e (Take z) = refl
    by_event e (Close g r) = refl
    by_event e (End g r) = refl

no_copy : (a t : ℕ) (ds : List ℕ) → t ≤ a → All (λ d. 0 < d) ds → count_by (λ d. a + d == t) ds ≡ 0
no_copy a t [] le all = refl
no_copy a t (d ∷ ds) le all =
    let some : 0 < d = All-head (λ z. 0 < z) d ds all in
    sum_by-cons (λ z. cond {A = ℕ} (a + z == t) 1 0) d ds
    ∙ ap (λ b. cond {A = ℕ} b 1 0 + count_by (λ z. a + z == t) ds) (ne_eqb (a + d) t (λ e. omega (arith, e)))
    ∙ zero-add (count_by (λ z. a + z == t) ds)
    ∙ no_copy a t ds le (All-tail (λ z. 0 < z) d ds all)

HavePostDelays : List Post → Type 0
HavePostDelays [] = Unit {0}
HavePostDelays (p ∷ rest) = All (λ d. 0 < d) p.fate × HavePostDelays rest

have_delays : (entries : List Entry) → HaveDelays entries → HavePostDelays (posts_of entries)
unfolding HavePostDelays
have_delays [] all = tt
have_delays (e ∷ rest) all = by_event (event_of e.line) (All-head (λ x. All (λ d. 0 < d) x.fate) e rest all) (have_delays rest (All-tail (λ x. All (λ d. 0 < d) x.fate) e rest all))
  where
    by_event : (v : Event) → All (λ d. 0 < d) e.fate → HavePostDelays (posts_of rest) → HavePostDelays (map (λ z. record { tick = e.tick; tag = z; fate = e.fate }) (tags_of v) ++ posts_of rest)
    by_event (Send z) here later = (here, later)
    by_event (Take z) here later = later
    by_event (Close g r) here later = later
    by_event (End g r) here later = later

coming_before : (tag : Tag) (t : ℕ) (posts : List Post) → HavePostDelays posts → coming posts tag t ≡ coming (before t posts) tag t
unfolding HavePostDelays
coming_before tag t [] all = refl
coming_before tag t (p ∷ rest) all = step (nat_lt p.tick t) refl (coming_before tag t rest all.1)
  where
    le_of : (a : ℕ) → nat_lt a t ≡ false → t ≤ a
    le_of a h = ⊎_elim (λ lt. absurd (false≢true (sym h ∙ lt-ltb a t lt))) (λ le. le) (cases_lt a t)

    zero_of : (b : Bool) → cond {A = ℕ} b 0 0 ≡ 0
    zero_of true = refl
    zero_of false = refl

    step : (b : Bool) → nat_lt p.tick t ≡ b → coming rest tag t ≡ coming (before t rest) tag t → coming (p ∷ rest) tag t ≡ coming (cond b (p ∷ before t rest) (before t rest)) tag t
    step true is later = sum_by-cons (post_copies tag t) p rest ∙ ap (λ z. post_copies tag t p + z) later ∙ sym (sum_by-cons (post_copies tag t) p (before t rest))
    step false is later =
        let none : post_copies tag t p ≡ 0 = ap (λ n. cond (is_tag tag.group tag.round tag.meter tag.kind p.tag) n 0) (no_copy p.tick t p.fate (le_of p.tick is) all.0) ∙ zero_of (is_tag tag.group tag.round tag.meter tag.kind p.tag) in
        sum_by-cons (post_copies tag t) p rest ∙ ap (λ z. z + coming rest tag t) none ∙ zero-add (coming rest tag t) ∙ later

survivors_before : (s : Shape) (c : Clock) (posts : List Post) (g r t : ℕ) → r < t → report_survivors s c (fate_at posts) g r ≡ report_survivors s c (fate_at (before t posts)) g r
survivors_before s c posts g r t lt =
    ap (λ f. filter f (members_of s g r)) (fun_ext (λ i. ap (λ f. s.present g r i && list_any (λ d. nat_le d c.w1) f) (fate_before t r (tag_of Reading g r i) posts lt)))

-- where the round is due the two lists need to be the same
when_due : (s : Shape) (c : Clock) (entries : List Entry) (posts : List Post) (t g r : ℕ)
    → ((r + c.w1 ≡ t) → (is_announced s g r (reverse (events_of entries)) ≡ nat_le (floor_of s g) (length (report_survivors s c (fate_at (before t posts)) g r)))
    × (survivors s g r (reverse (events_of entries)) ≡ report_survivors s c (fate_at (before t posts)) g r))
    → (if (r + c.w1 == t) && is_announced s g r (reverse (events_of entries)) then tags Announcement g r (survivors s g r (reverse (events_of entries))) else [])
    ≡ (if (r + c.w1 == t) && nat_le (floor_of s g) (length (report_survivors s c (fate_at (before t posts)) g r)) then tags Announcement g r (report_survivors s c (fate_at (before t posts)) g r) else [])
when_due s c entries posts t g r same = step (r + c.w1 == t) refl
  where
    step : (b : Bool) → (r + c.w1 == t) ≡ b
        → cond (b && is_announced s g r (reverse (events_of entries))) (tags Announcement g r (survivors s g r (reverse (events_of entries)))) []
        ≡ cond (b && nat_le (floor_of s g) (length (report_survivors s c (fate_at (before t posts)) g r))) (tags Announcement g r (report_survivors s c (fate_at (before t posts)) g r)) []
    step true is =
        let both = same (eqb-true (r + c.w1) t is) in
        ap (λ b. cond b (tags Announcement g r (survivors s g r (reverse (events_of entries)))) []) both.0
        ∙ ap (λ a. cond (nat_le (floor_of s g) (length (report_survivors s c (fate_at (before t posts)) g r))) (tags Announcement g r a) []) both.1
    step false is = refl

none_earlier_0 : (posts : List Post) → NoneEarlier 0 posts
unfolding NoneEarlier
none_earlier_0 [] = tt
none_earlier_0 (p ∷ rest) = (omega arith, none_earlier_0 rest)

within_posts : (entries : List Entry) (last : ℕ) → All (λ e. e.tick ≤ last) entries → (p : Post) → Member p (posts_of entries) → p.tick < last + 1
within_posts entries last all p at =
    let from = member_from_flat_map (λ e. map (λ z. record { tick = e.tick; tag = z; fate = e.fate }) (tags_of (event_of e.line))) p entries at in
    let inner = member_from_map (λ z. record { tick = from.0.tick; tag = z; fate = from.0.fate }) p (tags_of (event_of from.0.line)) from.2 in
    let tick : from.0.tick ≡ p.tick = ap (λ q. q.tick) inner.2 in
    let le : from.0.tick ≤ last = all_member (λ e. e.tick ≤ last) entries all from.0 from.1 in
    omega arith

due_same : (s : Shape) (c : Clock) (slots : List Slot) (entries : List Entry) → IsRunPlan s c → HaveDelays entries → IsTickRun s c slots entries → (t g : ℕ) → g < length s.groups
    → due_of s c entries t g ≡ due_by s c (before t (posts_of entries)) t g
due_same s c slots entries plan delays run t g g_in =
    let posts : List Post = posts_of entries in
    let by : IsRunBy s c (fate_at posts) entries = run_by s c slots entries delays run in
    let facts : TickFacts s c (fate_at posts) (reverse entries) = run_facts s c (fate_at posts) entries plan by in
    let first : List Tag = tags Reading g t (if nat_lt t c.rounds then filter (λ i. s.present g t i) (members_of s g t) else []) in
    let rounds : List ℕ = range_with_len 0 c.rounds in
    let announced : ℕ → List Tag = λ r. if (r + c.w1 == t) && is_announced s g r (reverse (events_of entries)) then tags Announcement g r (survivors s g r (reverse (events_of entries))) else [] in
    let answers : ℕ → List Tag = λ r. tags Answer g r (filter (λ i. nat_lt 0 (takes_at entries (tag_of Announcement g r i) t)) (members_of s g r)) in
    let announced' : ℕ → List Tag = λ r. if (r + c.w1 == t) && nat_le (floor_of s g) (length (report_survivors s c (fate_at (before t posts)) g r)) then tags Announcement g r (report_survivors s c (fate_at (before t posts)) g r) else [] in
    let answers' : ℕ → List Tag = λ r. tags Answer g r (filter (λ i. nat_lt 0 (coming (before t posts) (tag_of Announcement g r i) t)) (members_of s g r)) in
    let same_announced : flat_map announced rounds ≡ flat_map announced' rounds
    = flat_map_same c.rounds 0 announced announced' (λ r _ r_in. when_due s c entries posts t g r
    (λ due.
    let some : 0 < c.w1 = plan.first_window in
    let close : Stands (is_close g r) (r + c.w1) (reverse entries)
    = once_stands (is_close g r) (in_plan s c g r) (r + c.w1) entries (run.closed g r) (and_from (nat_lt g (length s.groups)) (nat_lt r c.rounds) (lt-ltb g (length s.groups) g_in) (lt-ltb r c.rounds (omega arith))) in
    let closed : is_closed g r (reverse (events_of entries)) ≡ true
    = ap (is_closed g r) (sym (events-reverse entries)) ∙ once-from (λ f _. is_close g r f) close.entry close.older (reverse entries) close.at close.passes in
    let same_a : survivors s g r (reverse (events_of entries)) ≡ report_survivors s c (fate_at (before t posts)) g r
    = ap (survivors s g r) (sym (events-reverse entries))
    ∙ ap (λ f. filter f (members_of s g r)) (fun_ext (λ i. is_reading_taken-ticks s c (fate_at posts) (reverse entries) facts g r i))
    ∙ survivors_before s c posts g r t (omega arith) in
    (ap (λ b. b && reaches_floor s g r (reverse (events_of entries))) closed ∙ ap (λ a. nat_le (floor_of s g) (length a)) same_a, same_a))) in
    let same_answers : flat_map answers rounds ≡ flat_map answers' rounds
    = ap (λ f. flat_map f rounds) (fun_ext (λ r. ap (λ f. tags Answer g r (filter f (members_of s g r))) (fun_ext (λ i. ap (nat_lt 0)
    (run.taken (tag_of Announcement g r i) t ∙ coming_is (tag_of Announcement g r i) t entries ∙ coming_before (tag_of Announcement g r i) t posts (have_delays entries delays)))))) in
    ap (λ l. (first ++ l) ++ flat_map answers rounds) same_announced ∙ ap (λ l. (first ++ flat_map announced' rounds) ++ l) same_answers

pub posts_up_to : (s : Shape) (c : Clock) (slots : List Slot) (entries : List Entry) → IsRunPlan s c → HaveDelays entries → IsTickRun s c slots entries → (t : ℕ)
    → posts_before s c slots t ≡ before t (posts_of entries)
posts_up_to s c slots entries plan delays run zero = sym (none_before 0 0 (posts_of entries) (omega arith) (none_earlier_0 (posts_of entries)))
posts_up_to s c slots entries plan delays run (suc t) =
    let posts : List Post = posts_of entries in
    let order : InOrder posts = in_order entries run.ordered in
    let groups : List ℕ = range_with_len 0 (length s.groups) in
    let found = before_first (suc t) posts order in
    let more : before (suc t) posts ≡ before t posts ++ at_tick t posts = before_more t posts order in
    let posted : Posted slots [] ((before t posts ++ at_tick t posts) ++ found.0) = subst (Posted slots []) (found.1 ∙ ap (λ l. l ++ found.0) more) (posted_from slots [] posts run.fates) in
    let here : Posted slots (before t posts) (at_tick t posts) = posted_last slots [] (before t posts) (at_tick t posts) (posted_first slots [] (before t posts ++ at_tick t posts) found.0 posted) in
    let due : flat_map (due_by s c (before t posts) t) groups ≡ map (λ p. p.tag) (at_tick t posts)
    = sym (tags_at t entries ∙ run.sent t ∙ flat_map_same (length s.groups) 0 (due_of s c entries t) (due_by s c (before t posts) t) (λ g _ g_in. due_same s c slots entries plan delays run t g (omega arith))) in
    ap (λ p. post_all slots p t (flat_map (due_by s c p t) groups)) (posts_up_to s c slots entries plan delays run t)
    ∙ ap (post_all slots (before t posts) t) due
    ∙ post_all-is slots (before t posts) t (at_tick t posts) (all_at t posts) here
    ∙ sym more

pub posts_are : (s : Shape) (c : Clock) (slots : List Slot) (entries : List Entry) → IsRunPlan s c → HaveDelays entries → IsTickRun s c slots entries → posts_of entries ≡ posts_by_lanes s c slots
posts_are s c slots entries plan delays run =
    sym (posts_up_to s c slots entries plan delays run (last_tick c + 1) ∙ before_all (last_tick c + 1) (posts_of entries) (within_posts entries (last_tick c) run.within))
