-- What delays make of a schedule by ticks.
use Rattle.std.proofs.Common.{◌≡◌, ℕ, ◌+◌, ◌<◌, ◌≤◌, Bool, true, false, not, ◌&&◌, List, [], ◌∷◌, length, ◌⊎◌, refl, sym, ap, ◌∙◌, subst, ⊎_elim, inl, inr, arith}
use Rattle.std.specs.Prelude.{nat_le}
use mathlib.Core.Path.{fun_ext}
use Rattle.std.specs.List.{filter, list_any}
use Rattle.std.proofs.lemmas.Bool.{false≢true, both_ways, or_cases, or_left, or_right, and_from, and_parts, false_from_ne_true, not_from_false, le-leb, leb-true, not-true, cases_lt}
use Rattle.group_plan.specs.declared.Kind.{Kind}
use Rattle.group_plan.specs.declared.Kind.TheVariants.{Reading, Announcement, Answer}
use Rattle.group_plan.specs.declared.Tag.{Tag}
use Rattle.event_schedule.specs.declared.Event.{Event}
use Rattle.event_schedule.specs.declared.Event.TheVariants.{Send, Take, Close, End}
use Rattle.event_schedule.specs.Schedule.{Shape, is_closed, is_ended, is_reading_sent, is_reading_taken, reaches_floor, is_announced, may_announce, is_announcement_sent, is_announcement_taken, is_answer_sent, is_answer_taken, members_of, floor_of}
use Rattle.event_schedule.specs.Events.{once, is_send, is_take, is_close, is_end, events_of, event_of}
use Rattle.run_rows.specs.Ticks.{Clock, phase, moment, tag_of}
use Rattle.event_schedule.specs.declared.Entry.{Entry}
use Rattle.run_rows.specs.Report.{comes_in_time, is_answered_in_time}
use Rattle.event_schedule.proofs.ListLemmas.{and_first, and_last}
use Rattle.event_schedule.proofs.ScheduleLemmas.{is_closed-more, is_reading_taken-closed, once-more, once-now}

-- an entry of a list, with those that are older
abbrev pub In : Entry → List Entry → List Entry → Type 0
In e older [] = ⊥
In e older (x ∷ xs) = ((x ≡ e) × (xs ≡ older)) ⊎ In e older xs

-- some entry with this property
abbrev pub Some_in : (Entry → List Entry → Type 0) → List Entry → Type 0
Some_in P xs = (e : Entry) × (older : List Entry) × In e older xs × P e older

-- what passed once passed at an entry
pub once-at : (test : Event → List Event → Bool) (xs : List Entry) → once test (events_of xs) ≡ true → Some_in (λ e older. test (event_of e.line) (events_of older) ≡ true) xs
unfolding once
once-at test [] h = absurd (false≢true h)
once-at test (x ∷ xs) h =
    ⊎_elim (λ now. (x, xs, inl (refl, refl), now))
    (λ earlier. let found = once-at test xs earlier in (found.0, found.1, inr found.2, found.3))
    (or_cases (test (event_of x.line) (events_of xs)) (once test (events_of xs)) h)

pub once-from : (test : Event → List Event → Bool) (e : Entry) (older xs : List Entry) → In e older xs → test (event_of e.line) (events_of older) ≡ true → once test (events_of xs) ≡ true
once-from test e older [] at h = absurd at
once-from test e older (x ∷ xs) at h =
    ⊎_elim
    (λ here. once-now test (event_of x.line) (events_of xs) (rw (here.0, here.1) h))
    (λ there. once-more test (event_of x.line) (events_of xs) (once-from test e older xs there h))
    at

-- moments do not rise towards older entries
abbrev pub Below : ℕ → List Entry → Type 0
Below m [] = Unit {0}
Below m (x ∷ xs) = (moment x ≤ m) × Below m xs

abbrev pub Falling : List Entry → Type 0
Falling [] = Unit {0}
Falling (x ∷ xs) = Below (moment x) xs × Falling xs

below_in : (m : ℕ) (e : Entry) (older xs : List Entry) → Below m xs → In e older xs → moment e ≤ m
below_in m e older [] below at = absurd at
below_in m e older (x ∷ xs) below at = ⊎_elim (λ here. subst (λ z. moment z ≤ m) here.0 below.0) (λ there. below_in m e older xs below.1 there) at

-- an older entry is no later, and an earlier one is older
pub older_below : (e f : Entry) (older oldest xs : List Entry) → Falling xs → In e older xs → In f oldest older → moment f ≤ moment e
older_below e f older oldest [] falling at inner = absurd at
older_below e f older oldest (x ∷ xs) falling at inner =
    ⊎_elim
    (λ here. subst (λ z. moment f ≤ moment z) here.0 (below_in (moment x) f oldest xs falling.0 (subst (In f oldest) (sym here.1) inner)))
    (λ there. older_below e f older oldest xs falling.1 there inner)
    at

pub earlier_is_older : (e f : Entry) (older oldest xs : List Entry) → Falling xs → In e older xs → In f oldest xs → moment f < moment e → In f oldest older
earlier_is_older e f older oldest [] falling at other lt = absurd at
earlier_is_older e f older oldest (x ∷ xs) falling at other lt =
    ⊎_elim
    (λ here. ⊎_elim
    (λ same. let p : moment x ≡ moment e = ap moment here.0 in let q : moment x ≡ moment f = ap moment same.0 in absurd (omega arith))
    (λ there. subst (In f oldest) here.1 there) other)
    (λ inside. ⊎_elim
    (λ same. let p : moment e ≤ moment x = below_in (moment x) e older xs falling.0 inside in let q : moment x ≡ moment f = ap moment same.0 in absurd (omega arith))
    (λ there. earlier_is_older e f older oldest xs falling.1 inside there lt) other)
    at

pub in_older : (e f : Entry) (older oldest xs : List Entry) → In e older xs → In f oldest older → In f oldest xs
in_older e f older oldest [] at inner = absurd at
in_older e f older oldest (x ∷ xs) at inner =
    ⊎_elim (λ here. inr (subst (In f oldest) (sym here.1) inner)) (λ there. inr (in_older e f older oldest xs there inner)) at

pub same_from_both : (a b : Bool) → (a ≡ true → b ≡ true) → (b ≡ true → a ≡ true) → a ≡ b
same_from_both true b to from = sym (to refl)
same_from_both false true to from = from refl
same_from_both false false to from = refl

pub phase_take : (g r i : ℕ) (k : Kind) (e : Event) → is_take g r i k e ≡ true → phase e ≡ 0
phase_take g r i k (Take tag) h = refl
phase_take g r i k (Send tag) h = absurd (false≢true h)
phase_take g r i k (Close a b) h = absurd (false≢true h)
phase_take g r i k (End a b) h = absurd (false≢true h)

pub phase_send : (g r i : ℕ) (k : Kind) (e : Event) → is_send g r i k e ≡ true → phase e ≡ 2
phase_send g r i k (Send tag) h = refl
phase_send g r i k (Take tag) h = absurd (false≢true h)
phase_send g r i k (Close a b) h = absurd (false≢true h)
phase_send g r i k (End a b) h = absurd (false≢true h)

pub phase_close : (g r : ℕ) (e : Event) → is_close g r e ≡ true → phase e ≡ 1
phase_close g r (Close a b) h = refl
phase_close g r (Take tag) h = absurd (false≢true h)
phase_close g r (Send tag) h = absurd (false≢true h)
phase_close g r (End a b) h = absurd (false≢true h)

-- a delay of a fate
abbrev pub Member : {X : Type 0} → X → List X → Type 0
Member d [] = ⊥
Member d (x ∷ xs) = (x ≡ d) ⊎ Member d xs

any_from_member : (p : ℕ → Bool) (d : ℕ) (xs : List ℕ) → Member d xs → p d ≡ true → list_any p xs ≡ true
any_from_member p d [] at h = absurd at
any_from_member p d (x ∷ xs) at h =
    ⊎_elim (λ same. or_left (p x) (list_any p xs) (rw same h)) (λ there. or_right (p x) (list_any p xs) (any_from_member p d xs there h)) at

member_from_any : (p : ℕ → Bool) (xs : List ℕ) → list_any p xs ≡ true → (d : ℕ) × Member d xs × (p d ≡ true)
member_from_any p [] h = absurd (false≢true h)
member_from_any p (x ∷ xs) h =
    ⊎_elim (λ now. (x, inl refl, now)) (λ later. let found = member_from_any p xs later in (found.0, inr found.1, found.2)) (or_cases (p x) (list_any p xs) h)

-- an entry with an event that passes a test, at a tick
pub record Stands (test : Event → Bool) (tick : ℕ) (xs : List Entry) : Type 0 where
  pub entry : Entry
  pub older : List Entry
  pub at : In entry older xs
  pub passes : test (event_of entry.line) ≡ true
  pub when : entry.tick ≡ tick

-- where a Take came from
pub record CameFrom (fate : ℕ → Tag → List ℕ) (g r i : ℕ) (k : Kind) (tick : ℕ) (xs : List Entry) : Type 0 where
  pub sent : ℕ
  pub send : Stands (is_send g r i k) sent xs
  pub delay : ℕ
  pub member : Member delay (fate sent (tag_of k g r i))
  pub arrives : sent + delay ≡ tick

-- what the clauses of a tick run give, the newest entry first
pub record TickFacts (s : Shape) (c : Clock) (fate : ℕ → Tag → List ℕ) (xs : List Entry) : Type 0 where
  pub falling : Falling xs
  pub positive : (t d : ℕ) (tag : Tag) → Member d (fate t tag) → 0 < d
  pub take_from : (g r i : ℕ) (k : Kind) (t : ℕ) → Stands (is_take g r i k) t xs → CameFrom fate g r i k t xs
  pub take_of : (g r i : ℕ) (k : Kind) (t d : ℕ) → Stands (is_send g r i k) t xs → Member d (fate t (tag_of k g r i)) → Stands (is_take g r i k) (t + d) xs
  pub closes : (g r i : ℕ) → s.present g r i ≡ true → Stands (is_close g r) (r + c.w1) xs
  pub close_tick : (g r t : ℕ) → Stands (is_close g r) t xs → t ≡ r + c.w1
  pub reading_tick : (g r i t : ℕ) → Stands (is_send g r i Reading) t xs → t ≡ r
  pub reading_of : (g r i : ℕ) → s.present g r i ≡ true → Stands (is_send g r i Reading) r xs
  pub end_of : (g r : ℕ) → Stands (is_close g r) (r + c.w1) xs → Stands (is_end g r) (r + c.w1 + c.w2) xs
  pub end_tick : (g r t : ℕ) → Stands (is_end g r) t xs → t ≡ r + c.w1 + c.w2
  pub later : 0 < c.w2
  pub announcement_tick : (g r i t : ℕ) → Stands (is_send g r i Announcement) t xs → t ≡ r + c.w1
  pub announcement_of : (g r i : ℕ) → is_announced s g r (events_of xs) ≡ true → is_reading_taken s g r i (events_of xs) ≡ true → Stands (is_send g r i Announcement) (r + c.w1) xs
  pub reading_present : (g r i t : ℕ) → Stands (is_send g r i Reading) t xs → s.present g r i ≡ true
  pub announcement_from : (g r i t : ℕ) → Stands (is_send g r i Announcement) t xs → Stands (is_close g r) (r + c.w1) xs × (is_announced s g r (events_of xs) ≡ true) × (is_reading_taken s g r i (events_of xs) ≡ true)
  pub answer_from : (g r i t : ℕ) → Stands (is_send g r i Answer) t xs → Stands (is_take g r i Announcement) t xs
  pub answer_of : (g r i t : ℕ) → Stands (is_take g r i Announcement) t xs → Stands (is_send g r i Answer) t xs

-- the reading that is taken came in time
reading_in_time : (s : Shape) (c : Clock) (fate : ℕ → Tag → List ℕ) (xs : List Entry) → TickFacts s c fate xs → (g r i : ℕ)
    → is_reading_taken s g r i (events_of xs) ≡ true → (s.present g r i && comes_in_time c fate g r i) ≡ true
reading_in_time s c fate xs facts g r i h =
    let found = once-at (λ e before. is_take g r i Reading e && is_reading_sent s g r i before && not (is_closed g r before)) xs h in
    let e : Entry = found.0 in
    let older : List Entry = found.1 in
    let parts = and_parts (is_take g r i Reading (event_of e.line) && is_reading_sent s g r i (events_of older)) (not (is_closed g r (events_of older))) found.3 in
    let takes = and_parts (is_take g r i Reading (event_of e.line)) (is_reading_sent s g r i (events_of older)) parts.0 in
    let sent = once-at (λ f _. is_send g r i Reading f && s.present g r i) older takes.1 in
    let present : s.present g r i ≡ true = (and_parts (is_send g r i Reading (event_of sent.0.line)) (s.present g r i) sent.3).1 in
    let came = facts.take_from g r i Reading e.tick (record { entry = e; older = older; at = found.2; passes = takes.0; when = refl }) in
    let started : came.sent ≡ r = facts.reading_tick g r i came.sent came.send in
    let close = facts.closes g r i present in
    let in_time : came.delay ≤ c.w1 = ⊎_elim
    (λ late.
    let p0 : phase (event_of e.line) ≡ 0 = phase_take g r i Reading (event_of e.line) takes.0 in
    let p1 : phase (event_of close.entry.line) ≡ 1 = phase_close g r (event_of close.entry.line) close.passes in
    let when : close.entry.tick ≡ r + c.w1 = close.when in
    let arrives : came.sent + came.delay ≡ e.tick = came.arrives in
    let inside : In close.entry close.older older = earlier_is_older e close.entry older close.older xs facts.falling found.2 close.at (omega arith) in
    absurd (both_ways (is_closed g r (events_of older)) (not-true (is_closed g r (events_of older)) parts.1) (once-from (λ f _. is_close g r f) close.entry close.older older inside close.passes)))
    (λ early. early)
    (cases_lt c.w1 came.delay) in
    and_from (s.present g r i) (comes_in_time c fate g r i) present
    (any_from_member (λ d. nat_le d c.w1) came.delay (fate r (tag_of Reading g r i)) (subst (λ t. Member came.delay (fate t (tag_of Reading g r i))) started came.member) (le-leb came.delay c.w1 in_time))

-- the reading that comes in time is taken
reading_taken_in_time : (s : Shape) (c : Clock) (fate : ℕ → Tag → List ℕ) (xs : List Entry) → TickFacts s c fate xs → (g r i : ℕ)
    → (s.present g r i && comes_in_time c fate g r i) ≡ true → is_reading_taken s g r i (events_of xs) ≡ true
reading_taken_in_time s c fate xs facts g r i h =
    let both = and_parts (s.present g r i) (comes_in_time c fate g r i) h in
    let delay = member_from_any (λ d. nat_le d c.w1) (fate r (tag_of Reading g r i)) both.1 in
    let soon : delay.0 ≤ c.w1 = leb-true delay.0 c.w1 delay.2 in
    let some : 0 < delay.0 = facts.positive r delay.0 (tag_of Reading g r i) delay.1 in
    let send = facts.reading_of g r i both.0 in
    let take = facts.take_of g r i Reading r delay.0 (facts.reading_of g r i both.0) delay.1 in
    let p0 : phase (event_of take.entry.line) ≡ 0 = phase_take g r i Reading (event_of take.entry.line) take.passes in
    let p2 : phase (event_of send.entry.line) ≡ 2 = phase_send g r i Reading (event_of send.entry.line) send.passes in
    let sent_when : send.entry.tick ≡ r = send.when in
    let take_when : take.entry.tick ≡ r + delay.0 = take.when in
    let inside : In send.entry send.older take.older = earlier_is_older take.entry send.entry take.older send.older xs facts.falling take.at send.at (omega arith) in
    let sent : is_reading_sent s g r i (events_of take.older) ≡ true
    = once-from (λ f _. is_send g r i Reading f && s.present g r i) send.entry send.older take.older inside (and_from (is_send g r i Reading (event_of send.entry.line)) (s.present g r i) send.passes both.0) in
    let open_still : is_closed g r (events_of take.older) ≡ false = false_from_ne_true (is_closed g r (events_of take.older)) (λ shut.
    let found = once-at (λ f _. is_close g r f) take.older shut in
    let p1 : phase (event_of found.0.line) ≡ 1 = phase_close g r (event_of found.0.line) found.3 in
    let le : moment found.0 ≤ moment take.entry = older_below take.entry found.0 take.older found.1 xs facts.falling take.at found.2 in
    let when = facts.close_tick g r found.0.tick (record { entry = found.0; older = found.1; at = in_older take.entry found.0 take.older found.1 xs take.at found.2; passes = found.3; when = refl }) in
    omega arith) in
    once-from (λ f before. is_take g r i Reading f && is_reading_sent s g r i before && not (is_closed g r before)) take.entry take.older xs take.at
    (and_from (is_take g r i Reading (event_of take.entry.line) && is_reading_sent s g r i (events_of take.older)) (not (is_closed g r (events_of take.older)))
    (and_from (is_take g r i Reading (event_of take.entry.line)) (is_reading_sent s g r i (events_of take.older)) take.passes sent)
    (not_from_false (is_closed g r (events_of take.older)) open_still))

pub is_reading_taken-ticks : (s : Shape) (c : Clock) (fate : ℕ → Tag → List ℕ) (xs : List Entry) → TickFacts s c fate xs → (g r i : ℕ)
    → is_reading_taken s g r i (events_of xs) ≡ (s.present g r i && comes_in_time c fate g r i)
is_reading_taken-ticks s c fate xs facts g r i =
    same_from_both (is_reading_taken s g r i (events_of xs)) (s.present g r i && comes_in_time c fate g r i) (reading_in_time s c fate xs facts g r i) (reading_taken_in_time s c fate xs facts g r i)

-- ---- announcements and answers

pub phase_end : (g r : ℕ) (e : Event) → is_end g r e ≡ true → phase e ≡ 1
phase_end g r (End a b) h = refl
phase_end g r (Take tag) h = absurd (false≢true h)
phase_end g r (Send tag) h = absurd (false≢true h)
phase_end g r (Close a b) h = absurd (false≢true h)

-- a fact of the past is one of what came after
closed_later : (g r : ℕ) (e : Entry) (older xs : List Entry) → In e older xs → is_closed g r (events_of older) ≡ true → is_closed g r (events_of xs) ≡ true
closed_later g r e older [] at h = absurd at
closed_later g r e older (x ∷ xs) at h =
    ⊎_elim (λ here. is_closed-more g r (event_of x.line) (events_of xs) (subst (λ l. is_closed g r (events_of l) ≡ true) (sym here.1) h))
    (λ there. is_closed-more g r (event_of x.line) (events_of xs) (closed_later g r e older xs there h)) at

pub taken_same : (s : Shape) (g r i : ℕ) (e : Entry) (older xs : List Entry) → In e older xs → is_closed g r (events_of older) ≡ true
    → is_reading_taken s g r i (events_of xs) ≡ is_reading_taken s g r i (events_of older)
taken_same s g r i e older [] at h = absurd at
taken_same s g r i e older (x ∷ xs) at h =
    ⊎_elim
    (λ here. is_reading_taken-closed s g r i (event_of x.line) (events_of xs) (subst (λ l. is_closed g r (events_of l) ≡ true) (sym here.1) h) ∙ ap (λ l. is_reading_taken s g r i (events_of l)) here.1)
    (λ there. is_reading_taken-closed s g r i (event_of x.line) (events_of xs) (closed_later g r e older xs there h) ∙ taken_same s g r i e older xs there h)
    at

pub announced_same : (s : Shape) (g r : ℕ) (e : Entry) (older xs : List Entry) → In e older xs → is_closed g r (events_of older) ≡ true
    → is_announced s g r (events_of xs) ≡ true → is_announced s g r (events_of older) ≡ true
announced_same s g r e older xs at h announced =
    and_from (is_closed g r (events_of older)) (reaches_floor s g r (events_of older)) h
    (ap (λ t. nat_le (floor_of s g) (length (filter t (members_of s g r)))) (fun_ext (λ i. sym (taken_same s g r i e older xs at h))) ∙ and_last (is_closed g r (events_of xs)) (reaches_floor s g r (events_of xs)) announced)

-- an announced round's answer that is taken was in time
answer_in_time : (s : Shape) (c : Clock) (fate : ℕ → Tag → List ℕ) (xs : List Entry) → TickFacts s c fate xs → (g r i : ℕ) → Stands (is_close g r) (r + c.w1) xs
    → is_answer_taken s g r i (events_of xs) ≡ true → is_answered_in_time c fate g r i ≡ true
answer_in_time s c fate xs facts g r i close h =
    let found = once-at (λ e before. is_take g r i Answer e && is_answer_sent s g r i before && not (is_ended g r before)) xs h in
    let e : Entry = found.0 in
    let older : List Entry = found.1 in
    let parts = and_parts (is_take g r i Answer (event_of e.line) && is_answer_sent s g r i (events_of older)) (not (is_ended g r (events_of older))) found.3 in
    let takes : is_take g r i Answer (event_of e.line) ≡ true = and_first (is_take g r i Answer (event_of e.line)) (is_answer_sent s g r i (events_of older)) parts.0 in
    let came = facts.take_from g r i Answer e.tick (record { entry = e; older = older; at = found.2; passes = takes; when = refl }) in
    let told = facts.take_from g r i Announcement came.sent (facts.answer_from g r i came.sent came.send) in
    let started : told.sent ≡ r + c.w1 = facts.announcement_tick g r i told.sent told.send in
    let told_arrives : told.sent + told.delay ≡ came.sent = told.arrives in
    let came_arrives : came.sent + came.delay ≡ e.tick = came.arrives in
    let end = facts.end_of g r close in
    let in_time : told.delay + came.delay ≤ c.w2 = ⊎_elim
    (λ late.
    let p0 : phase (event_of e.line) ≡ 0 = phase_take g r i Answer (event_of e.line) takes in
    let p1 : phase (event_of end.entry.line) ≡ 1 = phase_end g r (event_of end.entry.line) end.passes in
    let p2 : phase (event_of close.entry.line) ≡ 1 = phase_close g r (event_of close.entry.line) close.passes in
    let end_when : end.entry.tick ≡ r + c.w1 + c.w2 = end.when in
    let close_when : close.entry.tick ≡ r + c.w1 = close.when in
    let some : 0 < c.w2 = facts.later in
    let inside : In end.entry end.older older = earlier_is_older e end.entry older end.older xs facts.falling found.2 end.at (omega arith) in
    let before : In close.entry close.older end.older = earlier_is_older end.entry close.entry end.older close.older xs facts.falling end.at close.at (omega arith) in
    let closed : is_closed g r (events_of end.older) ≡ true = once-from (λ f _. is_close g r f) close.entry close.older end.older before close.passes in
    let ended : is_ended g r (events_of older) ≡ true = once-from (λ f q. is_end g r f && is_closed g r q) end.entry end.older older inside (and_from (is_end g r (event_of end.entry.line)) (is_closed g r (events_of end.older)) end.passes closed) in
    absurd (both_ways (is_ended g r (events_of older)) (not-true (is_ended g r (events_of older)) parts.1) ended))
    (λ early. early)
    (cases_lt c.w2 (told.delay + came.delay)) in
    let sent_tick : came.sent ≡ r + c.w1 + told.delay = omega arith in
    any_from_member (λ d1. list_any (λ d2. nat_le (d1 + d2) c.w2) (fate (r + c.w1 + d1) (tag_of Answer g r i))) told.delay (fate (r + c.w1) (tag_of Announcement g r i))
    (subst (λ t. Member told.delay (fate t (tag_of Announcement g r i))) started told.member)
    (any_from_member (λ d2. nat_le (told.delay + d2) c.w2) came.delay (fate (r + c.w1 + told.delay) (tag_of Answer g r i))
    (subst (λ t. Member came.delay (fate t (tag_of Answer g r i))) sent_tick came.member) (le-leb (told.delay + came.delay) c.w2 in_time))

-- an announced round's answer that is in time is taken
answer_taken_in_time : (s : Shape) (c : Clock) (fate : ℕ → Tag → List ℕ) (xs : List Entry) → TickFacts s c fate xs → (g r i : ℕ) → Stands (is_close g r) (r + c.w1) xs
    → is_announced s g r (events_of xs) ≡ true → is_reading_taken s g r i (events_of xs) ≡ true
    → is_answered_in_time c fate g r i ≡ true → is_answer_taken s g r i (events_of xs) ≡ true
answer_taken_in_time s c fate xs facts g r i close announced survives h =
    let first = member_from_any (λ d1. list_any (λ d2. nat_le (d1 + d2) c.w2) (fate (r + c.w1 + d1) (tag_of Answer g r i))) (fate (r + c.w1) (tag_of Announcement g r i)) h in
    let second = member_from_any (λ d2. nat_le (first.0 + d2) c.w2) (fate (r + c.w1 + first.0) (tag_of Answer g r i)) first.2 in
    let d1 : ℕ = first.0 in
    let d2 : ℕ = second.0 in
    let soon : d1 + d2 ≤ c.w2 = leb-true (d1 + d2) c.w2 second.2 in
    let some1 : 0 < d1 = facts.positive (r + c.w1) d1 (tag_of Announcement g r i) first.1 in
    let some2 : 0 < d2 = facts.positive (r + c.w1 + d1) d2 (tag_of Answer g r i) second.1 in
    let notice = facts.announcement_of g r i announced survives in
    let heard = facts.take_of g r i Announcement (r + c.w1) d1 notice first.1 in
    let reply = facts.answer_of g r i (r + c.w1 + d1) heard in
    let take = facts.take_of g r i Answer (r + c.w1 + d1) d2 reply second.1 in
    let n2 : phase (event_of notice.entry.line) ≡ 2 = phase_send g r i Announcement (event_of notice.entry.line) notice.passes in
    let h0 : phase (event_of heard.entry.line) ≡ 0 = phase_take g r i Announcement (event_of heard.entry.line) heard.passes in
    let r2 : phase (event_of reply.entry.line) ≡ 2 = phase_send g r i Answer (event_of reply.entry.line) reply.passes in
    let t0 : phase (event_of take.entry.line) ≡ 0 = phase_take g r i Answer (event_of take.entry.line) take.passes in
    let c1 : phase (event_of close.entry.line) ≡ 1 = phase_close g r (event_of close.entry.line) close.passes in
    let notice_when : notice.entry.tick ≡ r + c.w1 = notice.when in
    let heard_when : heard.entry.tick ≡ r + c.w1 + d1 = heard.when in
    let reply_when : reply.entry.tick ≡ r + c.w1 + d1 = reply.when in
    let take_when : take.entry.tick ≡ r + c.w1 + d1 + d2 = take.when in
    let close_when : close.entry.tick ≡ r + c.w1 = close.when in
    let in1 : In close.entry close.older notice.older = earlier_is_older notice.entry close.entry notice.older close.older xs facts.falling notice.at close.at (omega arith) in
    let in2 : In notice.entry notice.older heard.older = earlier_is_older heard.entry notice.entry heard.older notice.older xs facts.falling heard.at notice.at (omega arith) in
    let in3 : In heard.entry heard.older reply.older = earlier_is_older reply.entry heard.entry reply.older heard.older xs facts.falling reply.at heard.at (omega arith) in
    let in4 : In reply.entry reply.older take.older = earlier_is_older take.entry reply.entry take.older reply.older xs facts.falling take.at reply.at (omega arith) in
    let closed : is_closed g r (events_of notice.older) ≡ true = once-from (λ f _. is_close g r f) close.entry close.older notice.older in1 close.passes in
    let may : may_announce s g r i (events_of notice.older) ≡ true
    = and_from (is_announced s g r (events_of notice.older)) (is_reading_taken s g r i (events_of notice.older)) (announced_same s g r notice.entry notice.older xs notice.at closed announced)
    (sym (taken_same s g r i notice.entry notice.older xs notice.at closed) ∙ survives) in
    let sent1 : is_announcement_sent s g r i (events_of heard.older) ≡ true
    = once-from (λ f q. is_send g r i Announcement f && may_announce s g r i q) notice.entry notice.older heard.older in2 (and_from (is_send g r i Announcement (event_of notice.entry.line)) (may_announce s g r i (events_of notice.older)) notice.passes may) in
    let taken1 : is_announcement_taken s g r i (events_of reply.older) ≡ true
    = once-from (λ f q. is_take g r i Announcement f && is_announcement_sent s g r i q) heard.entry heard.older reply.older in3 (and_from (is_take g r i Announcement (event_of heard.entry.line)) (is_announcement_sent s g r i (events_of heard.older)) heard.passes sent1) in
    let sent2 : is_answer_sent s g r i (events_of take.older) ≡ true
    = once-from (λ f q. is_send g r i Answer f && is_announcement_taken s g r i q) reply.entry reply.older take.older in4 (and_from (is_send g r i Answer (event_of reply.entry.line)) (is_announcement_taken s g r i (events_of reply.older)) reply.passes taken1) in
    let open_still : is_ended g r (events_of take.older) ≡ false = false_from_ne_true (is_ended g r (events_of take.older)) (λ over.
    let found = once-at (λ f q. is_end g r f && is_closed g r q) take.older over in
    let ends : is_end g r (event_of found.0.line) ≡ true = and_first (is_end g r (event_of found.0.line)) (is_closed g r (events_of found.1)) found.3 in
    let e1 : phase (event_of found.0.line) ≡ 1 = phase_end g r (event_of found.0.line) ends in
    let le : moment found.0 ≤ moment take.entry = older_below take.entry found.0 take.older found.1 xs facts.falling take.at found.2 in
    let when = facts.end_tick g r found.0.tick (record { entry = found.0; older = found.1; at = in_older take.entry found.0 take.older found.1 xs take.at found.2; passes = ends; when = refl }) in
    omega arith) in
    once-from (λ f q. is_take g r i Answer f && is_answer_sent s g r i q && not (is_ended g r q)) take.entry take.older xs take.at
    (and_from (is_take g r i Answer (event_of take.entry.line) && is_answer_sent s g r i (events_of take.older)) (not (is_ended g r (events_of take.older)))
    (and_from (is_take g r i Answer (event_of take.entry.line)) (is_answer_sent s g r i (events_of take.older)) take.passes sent2)
    (not_from_false (is_ended g r (events_of take.older)) open_still))

pub is_answer_taken-ticks : (s : Shape) (c : Clock) (fate : ℕ → Tag → List ℕ) (xs : List Entry) → TickFacts s c fate xs → (g r i : ℕ) → Stands (is_close g r) (r + c.w1) xs
    → is_announced s g r (events_of xs) ≡ true → is_reading_taken s g r i (events_of xs) ≡ true → is_answer_taken s g r i (events_of xs) ≡ is_answered_in_time c fate g r i
is_answer_taken-ticks s c fate xs facts g r i close announced survives =
    same_from_both (is_answer_taken s g r i (events_of xs)) (is_answered_in_time c fate g r i) (answer_in_time s c fate xs facts g r i close) (answer_taken_in_time s c fate xs facts g r i close announced survives)
