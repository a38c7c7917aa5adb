-- What the clauses of a tick run give.
use Rattle.std.proofs.Common.{◌≡◌, ℕ, zero, suc, ◌+◌, ◌<◌, ◌≤◌, Bool, true, false, cond, ◌&&◌, List, [], ◌∷◌, ◌++◌, length, map, ◌⊎◌, refl, sym, ap, ◌∙◌, subst, ⊎_elim, inl, inr, arith}
use Rattle.std.specs.Prelude.{if◌then◌else◌, nat_lt, ◌==◌, slice_get}
use mathlib.Core.List.{reverse_aux, reverse}
use Rattle.std.specs.List.{sum_by, count_by, filter, list_any, flat_map, range_with_len, All}
use Rattle.std.proofs.lemmas.Bool.{false≢true, or_cases, or_left, or_right, and_from, and_parts, lt-ltb, ltb-true, eq-eqb, eqb-true, cases_eq, cases_lt}
use Rattle.std.proofs.lemmas.List.Sums.{sum_by-cons}
use Rattle.std.proofs.lemmas.List.Elements.{All-head, All-tail}
use Rattle.group_plan.specs.declared.Kind.{Kind}
use Rattle.group_plan.specs.declared.Kind.TheVariants.{Reading, Announcement, Answer}
use Rattle.group_plan.specs.declared.Tag.{Tag}
use Rattle.event_schedule.specs.declared.Event.{Event}
use Rattle.event_schedule.specs.declared.Event.TheVariants.{Send, Take, Close, End}
use Rattle.event_schedule.specs.Schedule.{Shape, members_of, is_announced, survivors, is_reading_taken}
use Rattle.group_plan.specs.Plans.{size_or, is_member}
use Rattle.event_schedule.specs.Events.{is_send, is_take, is_close, is_end, events_of, event_of}
use Rattle.run_rows.specs.Ticks.{last_tick, Clock, IsRunPlan, moment, tag_of, tags, tags_of, sent_at, takes_at, copies, due_of, StandsOnce, in_plan, NoneBefore, IsOrdered}
use Rattle.event_schedule.specs.declared.Entry.{Entry}
use Rattle.missing_round.specs.Words.{group}
use Rattle.run_rows.proofs.TickLemmas.{Below, CameFrom, Falling, In, Member, Stands, TickFacts}
use Rattle.event_schedule.proofs.MemberLemmas.{is_member-below}
use Rattle.event_schedule.proofs.EventLemmas.{is_send-itself, is_send-true}
use Rattle.event_schedule.proofs.ScheduleLemmas.{present-from_taken}

-- a tick run where a function gives the delays of each Send
pub record IsRunBy (s : Shape) (c : Clock) (fate : ℕ → Tag → List ℕ) (entries : List Entry) : Type 0 where
  pub ordered : IsOrdered entries
  pub within : All (λ e. e.tick ≤ last_tick c) entries
  pub taken : (tag : Tag) (t : ℕ) → takes_at entries tag t ≡ sum_by (copies tag t) entries
  pub closed : (g r : ℕ) → StandsOnce (is_close g r) (in_plan s c g r) (r + c.w1) entries
  pub ended : (g r : ℕ) → StandsOnce (is_end g r) (in_plan s c g r) (r + c.w1 + c.w2) entries
  pub sent : (t : ℕ) → sent_at entries t ≡ flat_map (due_of s c entries t) (range_with_len 0 (length s.groups))
  pub fates : (tag : Tag) → All (λ e. is_send tag.group tag.round tag.meter tag.kind (event_of e.line) ≡ true → e.fate ≡ fate e.tick tag) entries
  pub later : (t d : ℕ) (tag : Tag) → list_any (λ e. e == d) (fate t tag) ≡ true → 0 < d

-- ---- members

member_of_in : (e : Entry) (older xs : List Entry) → In e older xs → Member e xs
member_of_in e older [] at = absurd at
member_of_in e older (x ∷ xs) at = ⊎_elim (λ here. inl here.0) (λ there. inr (member_of_in e older xs there)) at

in_of_member : (e : Entry) (xs : List Entry) → Member e xs → (older : List Entry) × In e older xs
in_of_member e [] at = absurd at
in_of_member e (x ∷ xs) at =
    ⊎_elim (λ here. (xs, inl (here, refl))) (λ there. let found = in_of_member e xs there in (found.0, inr found.1)) at

member_reverse_aux : {X : Type 0} (e : X) (xs ys : List X) → Member e xs ⊎ Member e ys → Member e (reverse_aux xs ys)
member_reverse_aux e [] ys at = ⊎_elim (λ no. absurd no) (λ there. there) at
member_reverse_aux e (x ∷ xs) ys at =
    member_reverse_aux e xs (x ∷ ys) (⊎_elim (λ first. ⊎_elim (λ here. inr (inl here)) (λ there. inl there) first) (λ second. inr (inr second)) at)

member_from_reverse_aux : {X : Type 0} (e : X) (xs ys : List X) → Member e (reverse_aux xs ys) → Member e xs ⊎ Member e ys
member_from_reverse_aux e [] ys at = inr at
member_from_reverse_aux e (x ∷ xs) ys at =
    ⊎_elim (λ first. inl (inr first)) (λ second. ⊎_elim (λ here. inl (inl here)) (λ there. inr there) second) (member_from_reverse_aux e xs (x ∷ ys) at)

member_reverse : {X : Type 0} (e : X) (xs : List X) → Member e xs → Member e (reverse xs)
member_reverse e xs at = member_reverse_aux e xs [] (inl at)

member_from_reverse : {X : Type 0} (e : X) (xs : List X) → Member e (reverse xs) → Member e xs
member_from_reverse e xs at = ⊎_elim (λ first. first) (λ none. absurd none) (member_from_reverse_aux e xs [] at)

any_member : {X : Type 0} (p : X → Bool) (e : X) (xs : List X) → Member e xs → p e ≡ true → list_any p xs ≡ true
any_member p e [] at h = absurd at
any_member p e (x ∷ xs) at h =
    ⊎_elim (λ here. or_left (p x) (list_any p xs) (ap p here ∙ h)) (λ there. or_right (p x) (list_any p xs) (any_member p e xs there h)) at

pub member_any : {X : Type 0} (p : X → Bool) (xs : List X) → list_any p xs ≡ true → (e : X) × Member e xs × (p e ≡ true)
member_any p [] h = absurd (false≢true h)
member_any p (x ∷ xs) h =
    ⊎_elim (λ now. (x, inl refl, now)) (λ later. let found = member_any p xs later in (found.0, inr found.1, found.2)) (or_cases (p x) (list_any p xs) h)

member_append : {X : Type 0} (e : X) (xs ys : List X) → Member e xs ⊎ Member e ys → Member e (xs ++ ys)
member_append e [] ys at = ⊎_elim (λ none. absurd none) (λ there. there) at
member_append e (x ∷ xs) ys at =
    ⊎_elim (λ first. ⊎_elim (λ here. inl here) (λ there. inr (member_append e xs ys (inl there))) first) (λ second. inr (member_append e xs ys (inr second))) at

pub member_from_append : {X : Type 0} (e : X) (xs ys : List X) → Member e (xs ++ ys) → Member e xs ⊎ Member e ys
member_from_append e [] ys at = inr at
member_from_append e (x ∷ xs) ys at =
    ⊎_elim (λ here. inl (inl here)) (λ there. ⊎_elim (λ first. inl (inr first)) (λ second. inr second) (member_from_append e xs ys there)) at

pub member_flat_map : {X Y : Type 0} (f : X → List Y) (e : Y) (x : X) (xs : List X) → Member x xs → Member e (f x) → Member e (flat_map f xs)
member_flat_map f e x [] at inner = absurd at
member_flat_map f e x (y ∷ xs) at inner =
    ⊎_elim (λ here. member_append e (f y) (flat_map f xs) (inl (subst (λ z. Member e (f z)) (sym here) inner)))
    (λ there. member_append e (f y) (flat_map f xs) (inr (member_flat_map f e x xs there inner))) at

pub member_from_flat_map : {X Y : Type 0} (f : X → List Y) (e : Y) (xs : List X) → Member e (flat_map f xs) → (x : X) × Member x xs × Member e (f x)
member_from_flat_map f e [] at = absurd at
member_from_flat_map f e (y ∷ xs) at =
    ⊎_elim (λ first. (y, inl refl, first)) (λ second. let found = member_from_flat_map f e xs second in (found.0, inr found.1, found.2)) (member_from_append e (f y) (flat_map f xs) at)

member_filter : {X : Type 0} (p : X → Bool) (e : X) (xs : List X) → Member e xs → p e ≡ true → Member e (filter p xs)
member_filter p e [] at h = absurd at
member_filter p e (x ∷ xs) at h =
    ⊎_elim (λ here. subst (λ q. Member e (cond q (x ∷ filter p xs) (filter p xs))) (sym (ap p here ∙ h)) (inl here))
    (λ there. keep (p x) (member_filter p e xs there h)) at
  where
    keep : (q : Bool) → Member e (filter p xs) → Member e (cond q (x ∷ filter p xs) (filter p xs))
    keep true inner = inr inner
    keep false inner = inner

member_from_filter : {X : Type 0} (p : X → Bool) (e : X) (xs : List X) → Member e (filter p xs) → Member e xs × (p e ≡ true)
member_from_filter p e [] at = absurd at
member_from_filter p e (x ∷ xs) at = split (p x) refl at (member_from_filter p e xs)
  where
    split : (q : Bool) → p x ≡ q → Member e (cond q (x ∷ filter p xs) (filter p xs)) → (Member e (filter p xs) → Member e xs × (p e ≡ true)) → Member e (x ∷ xs) × (p e ≡ true)
    split true is inner later = ⊎_elim (λ here. (inl here, ap p (sym here) ∙ is)) (λ there. (inr (later there).0, (later there).1)) inner
    split false is inner later = (inr (later inner).0, (later inner).1)

pub member_map : {X Y : Type 0} (f : X → Y) (e : X) (xs : List X) → Member e xs → Member (f e) (map f xs)
member_map f e [] at = absurd at
member_map f e (x ∷ xs) at = ⊎_elim (λ here. inl (ap f here)) (λ there. inr (member_map f e xs there)) at

pub member_from_map : {X Y : Type 0} (f : X → Y) (y : Y) (xs : List X) → Member y (map f xs) → (x : X) × Member x xs × (f x ≡ y)
member_from_map f y [] at = absurd at
member_from_map f y (x ∷ xs) at =
    ⊎_elim (λ here. (x, inl refl, here)) (λ there. let found = member_from_map f y xs there in (found.0, inr found.1, found.2)) at

member_range : (a n i : ℕ) → a ≤ i → i < a + n → Member i (range_with_len a n)
member_range a zero i above below = absurd (omega arith)
member_range a (suc n) i above below = ⊎_elim (λ e. inl e) (λ ne. inr (member_range (a + 1) n i (omega arith) (omega arith))) (cases_eq a i)

member_from_range : (a n i : ℕ) → Member i (range_with_len a n) → (a ≤ i) × (i < a + n)
member_from_range a zero i at = absurd at
member_from_range a (suc n) i at =
    ⊎_elim (λ here. (omega arith, omega arith)) (λ there. let found = member_from_range (a + 1) n i there in (omega arith, omega arith)) at

pub all_member : {X : Type 0} (P : X → Type 0) (xs : List X) → All P xs → (e : X) → Member e xs → P e
all_member P [] all e at = absurd at
all_member P (x ∷ xs) all e at = ⊎_elim (λ here. subst P here (All-head P x xs all)) (λ there. all_member P xs (All-tail P x xs all) e there) at

-- ---- the order

Reaches : List Entry → List Entry → Type 0
Reaches acc [] = Unit {0}
Reaches acc (x ∷ xs) = Below (moment x) acc × Reaches acc xs

reaches_more : (x : Entry) (acc xs : List Entry) → NoneBefore (moment x) xs → Reaches acc xs → Reaches (x ∷ acc) xs
unfolding Reaches
reaches_more x acc [] none reach = tt
reaches_more x acc (y ∷ xs) none reach = ((none.0, reach.0), reaches_more x acc xs none.1 reach.1)

falling_aux : (xs acc : List Entry) → Falling acc → IsOrdered xs → Reaches acc xs → Falling (reverse_aux xs acc)
unfolding Reaches
falling_aux [] acc falling ordered reach = falling
falling_aux (x ∷ xs) acc falling ordered reach = falling_aux xs (x ∷ acc) (reach.0, falling) ordered.1 (reaches_more x acc xs ordered.0 reach.1)

reaches_none : (xs : List Entry) → Reaches [] xs
unfolding Reaches
reaches_none [] = tt
reaches_none (x ∷ xs) = (tt, reaches_none xs)

falling_reverse : (xs : List Entry) → IsOrdered xs → Falling (reverse xs)
falling_reverse xs ordered = falling_aux xs [] tt ordered (reaches_none xs)

-- ---- counts

any_from_sum : {X : Type 0} (f : X → ℕ) (xs : List X) → 0 < sum_by f xs → list_any (λ x. nat_lt 0 (f x)) xs ≡ true
any_from_sum f [] pos = absurd (omega arith)
any_from_sum f (x ∷ xs) pos =
    ⊎_elim
    (λ now. or_left (nat_lt 0 (f x)) (list_any (λ y. nat_lt 0 (f y)) xs) (lt-ltb 0 (f x) now))
    (λ none. or_right (nat_lt 0 (f x)) (list_any (λ y. nat_lt 0 (f y)) xs) (any_from_sum f xs (omega (arith, sum_by-cons f x xs))))
    (cases_lt 0 (f x))

sum_from_member : {X : Type 0} (f : X → ℕ) (e : X) (xs : List X) → Member e xs → 0 < f e → 0 < sum_by f xs
sum_from_member f e [] at pos = absurd at
sum_from_member f e (x ∷ xs) at pos =
    ⊎_elim (λ here. let same : f x ≡ f e = ap f here in omega (arith, sum_by-cons f x xs)) (λ there. let more = sum_from_member f e xs there pos in omega (arith, sum_by-cons f x xs)) at

test_pos : (q : Bool) → 0 < cond q 1 0 → q ≡ true
test_pos true h = refl
test_pos false h = absurd (omega arith)

member_from_count : {X : Type 0} (p : X → Bool) (xs : List X) → 0 < count_by p xs → (e : X) × Member e xs × (p e ≡ true)
member_from_count p xs pos =
    let found = member_any (λ x. nat_lt 0 (cond (p x) 1 0)) xs (any_from_sum (λ x. cond (p x) 1 0) xs pos) in
    (found.0, found.1, test_pos (p found.0) (ltb-true 0 (cond (p found.0) 1 0) found.2))

count_from_member : {X : Type 0} (p : X → Bool) (e : X) (xs : List X) → Member e xs → p e ≡ true → 0 < count_by p xs
count_from_member p e xs at h = sum_from_member (λ x. cond (p x) 1 0) e xs at (subst (λ q. 0 < cond q 1 0) (sym h) (omega arith))

-- ---- entries that stand

stands_of : (test : Event → Bool) (e : Entry) (xs : List Entry) (t : ℕ) → Member e xs → test (event_of e.line) ≡ true → e.tick ≡ t → Stands test t (reverse xs)
stands_of test e xs t at h when =
    let found = in_of_member e (reverse xs) (member_reverse e xs at) in
    record { entry = e; older = found.0; at = found.1; passes = h; when = when }

member_of_stands : (test : Event → Bool) (xs : List Entry) (t : ℕ) (st : Stands test t (reverse xs)) → Member st.entry xs
member_of_stands test xs t st = member_from_reverse st.entry xs (member_of_in st.entry st.older (reverse xs) st.at)

cond_pos : (q : Bool) (n : ℕ) → 0 < cond q n 0 → (q ≡ true) × (0 < n)
cond_pos true n h = (refl, h)
cond_pos false n h = absurd (omega arith)

member_cond : {X : Type 0} (e : X) (q : Bool) (xs : List X) → Member e (cond q xs []) → (q ≡ true) × Member e xs
member_cond e true xs at = (refl, at)
member_cond e false xs at = absurd at

member_from_cond : {X : Type 0} (e : X) (q : Bool) (xs : List X) → q ≡ true → Member e xs → Member e (cond q xs [])
member_from_cond e q xs h at = subst (λ p. Member e (cond p xs [])) (sym h) at

takes_pos : (g r i : ℕ) (k : Kind) (t : ℕ) (xs : List Entry) → Stands (is_take g r i k) t (reverse xs) → 0 < takes_at xs (tag_of k g r i) t
takes_pos g r i k t xs st =
    count_from_member (λ e. is_take g r i k (event_of e.line) && (e.tick == t)) st.entry xs (member_of_stands (is_take g r i k) xs t st)
    (and_from (is_take g r i k (event_of st.entry.line)) (st.entry.tick == t) st.passes (eq-eqb st.entry.tick t st.when))

takes_stand : (g r i : ℕ) (k : Kind) (t : ℕ) (xs : List Entry) → 0 < takes_at xs (tag_of k g r i) t → Stands (is_take g r i k) t (reverse xs)
takes_stand g r i k t xs pos =
    let found = member_from_count (λ e. is_take g r i k (event_of e.line) && (e.tick == t)) xs pos in
    let parts = and_parts (is_take g r i k (event_of found.0.line)) (found.0.tick == t) found.2 in
    stands_of (is_take g r i k) found.0 xs t found.1 parts.0 (eqb-true found.0.tick t parts.1)

run_take_from : (s : Shape) (c : Clock) (fate : ℕ → Tag → List ℕ) (xs : List Entry) → IsRunBy s c fate xs → (g r i : ℕ) (k : Kind) (t : ℕ)
    → Stands (is_take g r i k) t (reverse xs) → CameFrom fate g r i k t (reverse xs)
run_take_from s c fate xs run g r i k t st =
    let tag : Tag = tag_of k g r i in
    let pos : 0 < sum_by (copies tag t) xs = subst (λ n. 0 < n) (run.taken tag t) (takes_pos g r i k t xs st) in
    let found = member_any (λ e. nat_lt 0 (copies tag t e)) xs (any_from_sum (copies tag t) xs pos) in
    let y : Entry = found.0 in
    let parts = cond_pos (is_send g r i k (event_of y.line)) (count_by (λ d. y.tick + d == t) y.fate) (ltb-true 0 (copies tag t y) found.2) in
    let delay = member_from_count (λ d. y.tick + d == t) y.fate parts.1 in
    record {
      sent = y.tick;
      send = stands_of (is_send g r i k) y xs y.tick found.1 parts.0 refl;
      delay = delay.0;
      member = subst (Member delay.0) (all_member (λ e. is_send g r i k (event_of e.line) ≡ true → e.fate ≡ fate e.tick tag) xs (run.fates tag) y found.1 parts.0) delay.1;
      arrives = eqb-true (y.tick + delay.0) t delay.2;
    }

run_take_of : (s : Shape) (c : Clock) (fate : ℕ → Tag → List ℕ) (xs : List Entry) → IsRunBy s c fate xs → (g r i : ℕ) (k : Kind) (t d : ℕ)
    → Stands (is_send g r i k) t (reverse xs) → Member d (fate t (tag_of k g r i)) → Stands (is_take g r i k) (t + d) (reverse xs)
run_take_of s c fate xs run g r i k t d st at =
    let tag : Tag = tag_of k g r i in
    let y : Entry = st.entry in
    let m : Member y xs = member_of_stands (is_send g r i k) xs t st in
    let fate_is : y.fate ≡ fate y.tick tag = all_member (λ e. is_send g r i k (event_of e.line) ≡ true → e.fate ≡ fate e.tick tag) xs (run.fates tag) y m st.passes in
    let delay : Member d y.fate = subst (Member d) (sym (fate_is ∙ ap (λ u. fate u tag) st.when)) at in
    let arrives : y.tick + d ≡ t + d = ap (λ u. u + d) st.when in
    let count : 0 < count_by (λ e. y.tick + e == t + d) y.fate = count_from_member (λ e. y.tick + e == t + d) d y.fate delay (eq-eqb (y.tick + d) (t + d) arrives) in
    let some : 0 < copies tag (t + d) y = subst (λ q. 0 < cond q (count_by (λ e. y.tick + e == t + d) y.fate) 0) (sym st.passes) count in
    takes_stand g r i k (t + d) xs (subst (λ n. 0 < n) (sym (run.taken tag (t + d))) (sum_from_member (copies tag (t + d)) y xs m some))

-- what stands once
pub once_stands : (test : Event → Bool) (due : Bool) (tick : ℕ) (xs : List Entry) → StandsOnce test due tick xs → due ≡ true → Stands test tick (reverse xs)
once_stands test due tick xs once is_due =
    let there : Member tick (map (λ e. e.tick) (filter (λ e. test (event_of e.line)) xs)) = subst (Member tick) (sym (once ∙ ap (λ q. cond q (tick ∷ []) []) is_due)) (inl refl) in
    let found = member_from_map (λ e. e.tick) tick (filter (λ e. test (event_of e.line)) xs) there in
    let kept = member_from_filter (λ e. test (event_of e.line)) found.0 xs found.1 in
    stands_of test found.0 xs tick kept.0 kept.1 found.2

once_due : (test : Event → Bool) (due : Bool) (tick t : ℕ) (xs : List Entry) → StandsOnce test due tick xs → Stands test t (reverse xs) → (due ≡ true) × (t ≡ tick)
once_due test due tick t xs once st =
    let at : Member st.entry.tick (map (λ e. e.tick) (filter (λ e. test (event_of e.line)) xs))
    = member_map (λ e. e.tick) st.entry (filter (λ e. test (event_of e.line)) xs) (member_filter (λ e. test (event_of e.line)) st.entry xs (member_of_stands test xs t st) st.passes) in
    let there = member_cond st.entry.tick due (tick ∷ []) (subst (Member st.entry.tick) once at) in
    (there.0, sym st.when ∙ ⊎_elim (λ here. sym here) (λ none. absurd none) there.1)

-- ---- what is sent

tags_of_send : (g r i : ℕ) (k : Kind) (e : Event) → Member (tag_of k g r i) (tags_of e) → is_send g r i k e ≡ true
tags_of_send g r i k (Send tag) at = ⊎_elim (λ here. subst (λ z. is_send g r i k (Send z) ≡ true) (sym here) (is_send-itself g r i k)) (λ none. absurd none) at
tags_of_send g r i k (Take tag) at = absurd at
tags_of_send g r i k (Close a b) at = absurd at
tags_of_send g r i k (End a b) at = absurd at

sent_stands : (g r i : ℕ) (k : Kind) (t : ℕ) (xs : List Entry) → Member (tag_of k g r i) (sent_at xs t) → Stands (is_send g r i k) t (reverse xs)
sent_stands g r i k t xs at =
    let found = member_from_flat_map (λ e. if e.tick == t then tags_of (event_of e.line) else []) (tag_of k g r i) xs at in
    let inner = member_cond (tag_of k g r i) (found.0.tick == t) (tags_of (event_of found.0.line)) found.2 in
    stands_of (is_send g r i k) found.0 xs t found.1 (tags_of_send g r i k (event_of found.0.line) inner.1) (eqb-true found.0.tick t inner.0)

stands_sent : (g r i : ℕ) (k : Kind) (t : ℕ) (xs : List Entry) → Stands (is_send g r i k) t (reverse xs) → Member (tag_of k g r i) (sent_at xs t)
stands_sent g r i k t xs st =
    member_flat_map (λ e. if e.tick == t then tags_of (event_of e.line) else []) (tag_of k g r i) st.entry xs (member_of_stands (is_send g r i k) xs t st)
    (member_from_cond (tag_of k g r i) (st.entry.tick == t) (tags_of (event_of st.entry.line)) (eq-eqb st.entry.tick t st.when)
    (subst (λ e. Member (tag_of k g r i) (tags_of e)) (sym (is_send-true g r i k (event_of st.entry.line) st.passes)) (inl refl)))

-- a tag among the tags of a kind, a group and a round
pub record IsTagOf (k : Kind) (g r i : ℕ) (kind : Kind) (h q : ℕ) (ms : List ℕ) : Type 0 where
  pub kind_is : kind ≡ k
  pub group_is : h ≡ g
  pub round_is : q ≡ r
  pub meter_in : Member i ms

tag_of_tags : (k : Kind) (g r i : ℕ) (kind : Kind) (h q : ℕ) (ms : List ℕ) → Member (tag_of k g r i) (tags kind h q ms) → IsTagOf k g r i kind h q ms
tag_of_tags k g r i kind h q ms at =
    let found = member_from_map (λ j. record { group = h; round = q; meter = j; kind = kind }) (tag_of k g r i) ms at in
    record {
      kind_is = ap (λ z. z.kind) found.2;
      group_is = ap (λ z. z.group) found.2;
      round_is = ap (λ z. z.round) found.2;
      meter_in = subst (λ j. Member j ms) (ap (λ z. z.meter) found.2) found.1;
    }

-- what is due at a tick, by kind
readings_due : Shape → Clock → ℕ → ℕ → List ℕ
readings_due s c t g = if nat_lt t c.rounds then filter (λ i. s.present g t i) (members_of s g t) else []

pub record DueAt (s : Shape) (c : Clock) (xs : List Entry) (t : ℕ) (k : Kind) (g r i : ℕ) : Type 0 where
  pub group_in : g < length s.groups
  pub by_kind :
      ((k ≡ Reading) × (t ≡ r) × (s.present g r i ≡ true))
      ⊎ (((k ≡ Announcement) × (r + c.w1 ≡ t) × (r < c.rounds) × Member i (survivors s g r (reverse (events_of xs))) × (is_announced s g r (reverse (events_of xs)) ≡ true))
      ⊎ ((k ≡ Answer) × (0 < takes_at xs (tag_of Announcement g r i) t)))

due_cases : (s : Shape) (c : Clock) (xs : List Entry) (t : ℕ) (k : Kind) (g r i : ℕ)
    → Member (tag_of k g r i) (flat_map (due_of s c xs t) (range_with_len 0 (length s.groups))) → DueAt s c xs t k g r i
due_cases s c xs t k g r i at =
    let found = member_from_flat_map (due_of s c xs t) (tag_of k g r i) (range_with_len 0 (length s.groups)) at in
    let h : ℕ = found.0 in
    let bound = member_from_range 0 (length s.groups) h found.1 in
    let firsts : List Tag = tags Reading h t (if nat_lt t c.rounds then filter (λ j. s.present h t j) (members_of s h t) else []) in
    let second : ℕ → List Tag = λ q. if (q + c.w1 == t) && is_announced s h q (reverse (events_of xs)) then tags Announcement h q (survivors s h q (reverse (events_of xs))) else [] in
    let third : ℕ → List Tag = λ q. tags Answer h q (filter (λ j. nat_lt 0 (takes_at xs (tag_of Announcement h q j) t)) (members_of s h q)) in
    ⊎_elim
    (λ early. ⊎_elim
    (λ one.
    let is = tag_of_tags k g r i Reading h t (if nat_lt t c.rounds then filter (λ j. s.present h t j) (members_of s h t) else []) one in
    let inner = member_cond i (nat_lt t c.rounds) (filter (λ j. s.present h t j) (members_of s h t)) is.meter_in in
    let there = member_from_filter (λ j. s.present h t j) i (members_of s h t) inner.1 in
    record {
      group_in = subst (λ z. z < length s.groups) is.group_is (omega arith);
      by_kind = inl (sym is.kind_is, is.round_is, subst (λ z. s.present g z i ≡ true) is.round_is (subst (λ z. s.present z t i ≡ true) is.group_is there.1));
    })
    (λ two.
    let round = member_from_flat_map second (tag_of k g r i) (range_with_len 0 c.rounds) two in
    let q : ℕ = round.0 in
    let q_in = member_from_range 0 c.rounds q round.1 in
    let inner = member_cond (tag_of k g r i) ((q + c.w1 == t) && is_announced s h q (reverse (events_of xs))) (tags Announcement h q (survivors s h q (reverse (events_of xs)))) round.2 in
    let is = tag_of_tags k g r i Announcement h q (survivors s h q (reverse (events_of xs))) inner.1 in
    let when = and_parts (q + c.w1 == t) (is_announced s h q (reverse (events_of xs))) inner.0 in
    let same : q ≡ r = is.round_is in
    let tick : q + c.w1 ≡ t = eqb-true (q + c.w1) t when.0 in
    let below : q < c.rounds = omega arith in
    record {
      group_in = subst (λ z. z < length s.groups) is.group_is (omega arith);
      by_kind = inr (inl (
        sym is.kind_is,
        omega arith,
        omega arith,
        subst (λ z. Member i (survivors s g z (reverse (events_of xs)))) same (subst (λ z. Member i (survivors s z q (reverse (events_of xs)))) is.group_is is.meter_in),
        subst (λ z. is_announced s g z (reverse (events_of xs)) ≡ true) same (subst (λ z. is_announced s z q (reverse (events_of xs)) ≡ true) is.group_is when.1),
      ));
    })
    (member_from_append (tag_of k g r i) firsts (flat_map second (range_with_len 0 c.rounds)) early))
    (λ late.
    let round = member_from_flat_map third (tag_of k g r i) (range_with_len 0 c.rounds) late in
    let q : ℕ = round.0 in
    let is = tag_of_tags k g r i Answer h q (filter (λ j. nat_lt 0 (takes_at xs (tag_of Announcement h q j) t)) (members_of s h q)) round.2 in
    let kept = member_from_filter (λ j. nat_lt 0 (takes_at xs (tag_of Announcement h q j) t)) i (members_of s h q) is.meter_in in
    record {
      group_in = subst (λ z. z < length s.groups) is.group_is (omega arith);
      by_kind = inr (inr (sym is.kind_is, subst (λ z. 0 < takes_at xs (tag_of Announcement g z i) t) is.round_is (subst (λ z. 0 < takes_at xs (tag_of Announcement z q i) t) is.group_is (ltb-true 0 (takes_at xs (tag_of Announcement h q i) t) kept.1))));
    })
    (member_from_append (tag_of k g r i) (firsts ++ flat_map second (range_with_len 0 c.rounds)) (flat_map third (range_with_len 0 c.rounds)) found.2)

member_meters : (s : Shape) (g r i : ℕ) → is_member s.groups g r i ≡ true → Member i (members_of s g r)
member_meters s g r i is =
    member_filter (is_member s.groups g r) i (group (size_or (slice_get s.groups g)))
    (member_range 0 (size_or (slice_get s.groups g)) i (omega arith) (let below = is_member-below s.groups g r i is in omega arith)) is

due_reading : (s : Shape) (c : Clock) (xs : List Entry) (g r i : ℕ) → g < length s.groups → r < c.rounds → is_member s.groups g r i ≡ true → s.present g r i ≡ true
    → Member (tag_of Reading g r i) (flat_map (due_of s c xs r) (range_with_len 0 (length s.groups)))
due_reading s c xs g r i g_in r_in i_in present =
    let ms : List ℕ = if nat_lt r c.rounds then filter (λ j. s.present g r j) (members_of s g r) else [] in
    let firsts : List Tag = tags Reading g r ms in
    let second : List Tag = flat_map (λ q. if (q + c.w1 == r) && is_announced s g q (reverse (events_of xs)) then tags Announcement g q (survivors s g q (reverse (events_of xs))) else []) (range_with_len 0 c.rounds) in
    let third : List Tag = flat_map (λ q. tags Answer g q (filter (λ j. nat_lt 0 (takes_at xs (tag_of Announcement g q j) r)) (members_of s g q))) (range_with_len 0 c.rounds) in
    member_flat_map (due_of s c xs r) (tag_of Reading g r i) g (range_with_len 0 (length s.groups)) (member_range 0 (length s.groups) g (omega arith) (omega arith))
    (member_append (tag_of Reading g r i) (firsts ++ second) third (inl (member_append (tag_of Reading g r i) firsts second (inl
    (member_map (λ j. record { group = g; round = r; meter = j; kind = Reading }) i ms
    (member_from_cond i (nat_lt r c.rounds) (filter (λ j. s.present g r j) (members_of s g r)) (lt-ltb r c.rounds r_in)
    (member_filter (λ j. s.present g r j) i (members_of s g r) (member_meters s g r i i_in) present)))))))

due_announcement : (s : Shape) (c : Clock) (xs : List Entry) (g r i : ℕ) → g < length s.groups → r < c.rounds → is_announced s g r (reverse (events_of xs)) ≡ true
    → Member i (survivors s g r (reverse (events_of xs))) → Member (tag_of Announcement g r i) (flat_map (due_of s c xs (r + c.w1)) (range_with_len 0 (length s.groups)))
due_announcement s c xs g r i g_in r_in announced at =
    let firsts : List Tag = tags Reading g (r + c.w1) (if nat_lt (r + c.w1) c.rounds then filter (λ j. s.present g (r + c.w1) j) (members_of s g (r + c.w1)) else []) in
    let part : ℕ → List Tag = λ q. if (q + c.w1 == r + c.w1) && is_announced s g q (reverse (events_of xs)) then tags Announcement g q (survivors s g q (reverse (events_of xs))) else [] in
    let third : List Tag = flat_map (λ q. tags Answer g q (filter (λ j. nat_lt 0 (takes_at xs (tag_of Announcement g q j) (r + c.w1))) (members_of s g q))) (range_with_len 0 c.rounds) in
    member_flat_map (due_of s c xs (r + c.w1)) (tag_of Announcement g r i) g (range_with_len 0 (length s.groups)) (member_range 0 (length s.groups) g (omega arith) (omega arith))
    (member_append (tag_of Announcement g r i) (firsts ++ flat_map part (range_with_len 0 c.rounds)) third (inl (member_append (tag_of Announcement g r i) firsts (flat_map part (range_with_len 0 c.rounds)) (inr
    (member_flat_map part (tag_of Announcement g r i) r (range_with_len 0 c.rounds) (member_range 0 c.rounds r (omega arith) (omega arith))
    (member_from_cond (tag_of Announcement g r i) ((r + c.w1 == r + c.w1) && is_announced s g r (reverse (events_of xs))) (tags Announcement g r (survivors s g r (reverse (events_of xs))))
    (and_from (r + c.w1 == r + c.w1) (is_announced s g r (reverse (events_of xs))) (eq-eqb (r + c.w1) (r + c.w1) refl) announced)
    (member_map (λ j. record { group = g; round = r; meter = j; kind = Announcement }) i (survivors s g r (reverse (events_of xs))) at)))))))

due_answer : (s : Shape) (c : Clock) (xs : List Entry) (g r i t : ℕ) → g < length s.groups → r < c.rounds → is_member s.groups g r i ≡ true → 0 < takes_at xs (tag_of Announcement g r i) t
    → Member (tag_of Answer g r i) (flat_map (due_of s c xs t) (range_with_len 0 (length s.groups)))
due_answer s c xs g r i t g_in r_in i_in pos =
    let firsts : List Tag = tags Reading g t (if nat_lt t c.rounds then filter (λ j. s.present g t j) (members_of s g t) else []) in
    let second : List Tag = flat_map (λ q. if (q + c.w1 == t) && is_announced s g q (reverse (events_of xs)) then tags Announcement g q (survivors s g q (reverse (events_of xs))) else []) (range_with_len 0 c.rounds) in
    let part : ℕ → List Tag = λ q. tags Answer g q (filter (λ j. nat_lt 0 (takes_at xs (tag_of Announcement g q j) t)) (members_of s g q)) in
    member_flat_map (due_of s c xs t) (tag_of Answer g r i) g (range_with_len 0 (length s.groups)) (member_range 0 (length s.groups) g (omega arith) (omega arith))
    (member_append (tag_of Answer g r i) (firsts ++ second) (flat_map part (range_with_len 0 c.rounds)) (inr
    (member_flat_map part (tag_of Answer g r i) r (range_with_len 0 c.rounds) (member_range 0 c.rounds r (omega arith) (omega arith))
    (member_map (λ j. record { group = g; round = r; meter = j; kind = Answer }) i (filter (λ j. nat_lt 0 (takes_at xs (tag_of Announcement g r j) t)) (members_of s g r))
    (member_filter (λ j. nat_lt 0 (takes_at xs (tag_of Announcement g r j) t)) i (members_of s g r) (member_meters s g r i i_in)
    (lt-ltb 0 (takes_at xs (tag_of Announcement g r i) t) pos))))))

map_reverse_aux : (xs ys : List Entry) → events_of (reverse_aux xs ys) ≡ reverse_aux (events_of xs) (events_of ys)
map_reverse_aux [] ys = refl
map_reverse_aux (x ∷ xs) ys = map_reverse_aux xs (x ∷ ys)

pub events-reverse : (xs : List Entry) → events_of (reverse xs) ≡ reverse (events_of xs)
events-reverse xs = map_reverse_aux xs []

-- the facts that the proof by moments wants
pub run_facts : (s : Shape) (c : Clock) (fate : ℕ → Tag → List ℕ) (xs : List Entry) → IsRunPlan s c → IsRunBy s c fate xs → TickFacts s c fate (reverse xs)
run_facts s c fate xs plan run =
    let due_at = λ (g r i : ℕ) (k : Kind) (t : ℕ) (st : Stands (is_send g r i k) t (reverse xs)). due_cases s c xs t k g r i (subst (Member (tag_of k g r i)) (run.sent t) (stands_sent g r i k t xs st)) in
    record {
      falling = falling_reverse xs run.ordered;
      positive = λ t d tag at. run.later t d tag (any_member (λ e. e == d) d (fate t tag) at (eq-eqb d d refl));
      take_from = run_take_from s c fate xs run;
      take_of = run_take_of s c fate xs run;
      closes = λ g r i present. let at = plan.places g r i present in
          once_stands (is_close g r) (in_plan s c g r) (r + c.w1) xs (run.closed g r) (and_from (nat_lt g (length s.groups)) (nat_lt r c.rounds) (lt-ltb g (length s.groups) at.0) (lt-ltb r c.rounds at.1));
      close_tick = λ g r t st. (once_due (is_close g r) (in_plan s c g r) (r + c.w1) t xs (run.closed g r) st).1;
      reading_tick = λ g r i t st.
          ⊎_elim (λ one. one.1) (λ rest. ⊎_elim (λ two. let e : Reading ≡ Announcement = two.0 in absurd (cc e)) (λ three. let e : Reading ≡ Answer = three.0 in absurd (cc e)) rest) (due_at g r i Reading t st).by_kind;
      reading_of = λ g r i present. let at = plan.places g r i present in
          sent_stands g r i Reading r xs (subst (Member (tag_of Reading g r i)) (sym (run.sent r)) (due_reading s c xs g r i at.0 at.1 at.2 present));
      end_of = λ g r st.
          once_stands (is_end g r) (in_plan s c g r) (r + c.w1 + c.w2) xs (run.ended g r) (once_due (is_close g r) (in_plan s c g r) (r + c.w1) (r + c.w1) xs (run.closed g r) st).0;
      end_tick = λ g r t st. (once_due (is_end g r) (in_plan s c g r) (r + c.w1 + c.w2) t xs (run.ended g r) st).1;
      later = plan.open_window;
      announcement_tick = λ g r i t st.
          ⊎_elim (λ one. let e : Announcement ≡ Reading = one.0 in absurd (cc e)) (λ rest. ⊎_elim (λ two. sym two.1) (λ three. let e : Announcement ≡ Answer = three.0 in absurd (cc e)) rest) (due_at g r i Announcement t st).by_kind;
      announcement_of = λ g r i announced taken.
          let at = plan.places g r i (present-from_taken s g r i (events_of (reverse xs)) taken) in
          sent_stands g r i Announcement (r + c.w1) xs (subst (Member (tag_of Announcement g r i)) (sym (run.sent (r + c.w1)))
          (due_announcement s c xs g r i at.0 at.1 (subst (λ p. is_announced s g r p ≡ true) (events-reverse xs) announced)
          (subst (λ p. Member i (survivors s g r p)) (events-reverse xs)
          (member_filter (λ j. is_reading_taken s g r j (events_of (reverse xs))) i (members_of s g r) (member_meters s g r i at.2) taken))));
      reading_present = λ g r i t st.
          ⊎_elim (λ one. one.2) (λ rest. ⊎_elim (λ two. let e : Reading ≡ Announcement = two.0 in absurd (cc e)) (λ three. let e : Reading ≡ Answer = three.0 in absurd (cc e)) rest) (due_at g r i Reading t st).by_kind;
      announcement_from = λ g r i t st.
          let from = due_at g r i Announcement t st in
          ⊎_elim (λ one. let e : Announcement ≡ Reading = one.0 in absurd (cc e))
          (λ rest. ⊎_elim
          (λ two.
          let kept = member_from_filter (λ j. is_reading_taken s g r j (reverse (events_of xs))) i (members_of s g r) two.3 in (
            once_stands (is_close g r) (in_plan s c g r) (r + c.w1) xs (run.closed g r) (and_from (nat_lt g (length s.groups)) (nat_lt r c.rounds) (lt-ltb g (length s.groups) from.group_in) (lt-ltb r c.rounds two.2)),
            subst (λ p. is_announced s g r p ≡ true) (sym (events-reverse xs)) two.4,
            subst (λ p. is_reading_taken s g r i p ≡ true) (sym (events-reverse xs)) kept.1,
          ))
          (λ three. let e : Announcement ≡ Answer = three.0 in absurd (cc e)) rest)
          from.by_kind;
      answer_from = λ g r i t st.
          ⊎_elim (λ one. let e : Answer ≡ Reading = one.0 in absurd (cc e)) (λ rest. ⊎_elim (λ two. let e : Answer ≡ Announcement = two.0 in absurd (cc e)) (λ three. takes_stand g r i Announcement t xs three.1) rest) (due_at g r i Answer t st).by_kind;
      answer_of = λ g r i t st.
          let came = run_take_from s c fate xs run g r i Announcement t st in
          let from = due_at g r i Announcement came.sent came.send in
          ⊎_elim (λ one. let e : Announcement ≡ Reading = one.0 in absurd (cc e))
          (λ rest. ⊎_elim
          (λ two.
          let kept = member_from_filter (λ j. is_reading_taken s g r j (reverse (events_of xs))) i (members_of s g r) two.3 in
          let i_in = member_from_filter (is_member s.groups g r) i (group (size_or (slice_get s.groups g))) kept.0 in
          sent_stands g r i Answer t xs (subst (Member (tag_of Answer g r i)) (sym (run.sent t)) (due_answer s c xs g r i t from.group_in two.2 i_in.1 (takes_pos g r i Announcement t xs st))))
          (λ three. let e : Announcement ≡ Answer = three.0 in absurd (cc e)) rest)
          from.by_kind;
    }
