-- What a batch of entries adds to counts and lists.
use Rattle.std.proofs.Common.{◌≡◌, ℕ, suc, ◌+◌, ◌*◌, ◌<◌, ◌≤◌, Bool, true, false, cond, ◌&&◌, List, [], ◌∷◌, ◌++◌, map, replicate, refl, sym, ap, ◌∙◌, append-nil, zero-add, arith, ⊎_elim}
use Rattle.std.specs.Prelude.{◌==◌, nat_lt, if◌then◌else◌}
use Rattle.std.specs.List.{sum_by, count_by, filter, flat_map, All}
use Rattle.std.proofs.lemmas.Bool.{lt-ltb, eqb-true, ne_eqb, cases_lt}
use Rattle.std.proofs.lemmas.Bool.Decides.{nat_tests}
use Rattle.std.proofs.lemmas.Grind.{flat_map-append}
use Rattle.std.proofs.lemmas.List.{map-append}
use Rattle.std.proofs.lemmas.List.Elements.{All-head, All-tail, All-weaker, filter-append}
use Rattle.std.proofs.lemmas.List.Sums.{sum_by-cons}
use Rattle.group_plan.specs.declared.Kind.{Kind}
use Rattle.group_plan.specs.declared.Tag.{Tag}
use Rattle.link_lanes.specs.declared.Post.{Post}
use Rattle.link_lanes.specs.Lanes.{Slot, fate_after, fates_after}
use Rattle.event_schedule.specs.declared.Event.{Event}
use Rattle.event_schedule.specs.declared.Event.TheVariants.{Send, Take, Close, End}
use Rattle.event_schedule.specs.declared.Entry.{Entry}
use Rattle.event_schedule.specs.Events.{is_take, is_send, is_close, is_end, event_of}
use Rattle.run_rows.specs.Ticks.{phase, moment, takes_at, copies, tags_of, sent_at, posts_of, StandsOnce}
use Rattle.tick_run.specs.Progress.{IsBatch}

-- no entry is a Send
abbrev pub AreSilent : List Entry → Type 0
AreSilent xs = All (λ e. phase (event_of e.line) < 2) xs

pub silent-batch : (t k : ℕ) (xs : List Entry) → k < 2 → IsBatch t k xs → AreSilent xs
silent-batch t k xs small batch = All-weaker (λ e. phase (event_of e.line) ≡ k) (λ e. phase (event_of e.line) < 2) (λ e is. omega arith) xs batch.phases

-- ---- a list of which each element gives nothing

none_from : {X Y : Type 0} (f : X → List Y) (xs : List X) → All (λ x. f x ≡ []) xs → flat_map f xs ≡ []
none_from f [] all = refl
none_from f (x ∷ xs) all = ap (λ l. l ++ flat_map f xs) (All-head (λ x. f x ≡ []) x xs all) ∙ none_from f xs (All-tail (λ x. f x ≡ []) x xs all)

pub sum_none : {X : Type 0} (f : X → ℕ) (xs : List X) → All (λ x. f x ≡ 0) xs → sum_by f xs ≡ 0
sum_none f [] all = refl
sum_none f (x ∷ xs) all = omega (arith, sum_by-cons f x xs, All-head (λ x. f x ≡ 0) x xs all, sum_none f xs (All-tail (λ x. f x ≡ 0) x xs all))

filter_none : {X : Type 0} (p : X → Bool) (xs : List X) → All (λ x. p x ≡ false) xs → filter p xs ≡ []
filter_none p [] all = refl
filter_none p (x ∷ xs) all = ap (λ b. cond b (x ∷ filter p xs) (filter p xs)) (All-head (λ x. p x ≡ false) x xs all) ∙ filter_none p xs (All-tail (λ x. p x ≡ false) x xs all)

-- ---- events by phase

pub no_tags : (v : Event) → phase v < 2 → tags_of v ≡ []
no_tags (Send tag) h = absurd (omega arith)
no_tags (Take tag) h = refl
no_tags (Close g r) h = refl
no_tags (End g r) h = refl

no_send : (v : Event) (g r i : ℕ) (k : Kind) → phase v < 2 → is_send g r i k v ≡ false
no_send (Send tag) g r i k h = absurd (omega arith)
no_send (Take tag) g r i k h = refl
no_send (Close a b) g r i k h = refl
no_send (End a b) g r i k h = refl

pub no_take : (v : Event) (g r i : ℕ) (k : Kind) → 0 < phase v → is_take g r i k v ≡ false
no_take (Send tag) g r i k h = refl
no_take (Take tag) g r i k h = absurd (omega arith)
no_take (Close a b) g r i k h = refl
no_take (End a b) g r i k h = refl

pub no_close : (v : Event) (g r : ℕ) → (phase v ≡ 1 → ⊥) → is_close g r v ≡ false
no_close (Send tag) g r h = refl
no_close (Take tag) g r h = refl
no_close (Close a b) g r h = absurd (h refl)
no_close (End a b) g r h = refl

pub no_end : (v : Event) (g r : ℕ) → (phase v ≡ 1 → ⊥) → is_end g r v ≡ false
no_end (Send tag) g r h = refl
no_end (Take tag) g r h = refl
no_end (Close a b) g r h = refl
no_end (End a b) g r h = absurd (h refl)

-- ---- silent entries

pub posts-silent : (xs : List Entry) → AreSilent xs → posts_of xs ≡ []
posts-silent xs silent =
    none_from (λ e. map (λ tag. record { tick = e.tick; tag = tag; fate = e.fate }) (tags_of (event_of e.line))) xs
    (All-weaker (λ e. phase (event_of e.line) < 2) (λ e. map (λ tag. record { tick = e.tick; tag = tag; fate = e.fate }) (tags_of (event_of e.line)) ≡ [])
    (λ e h. ap (map {B = Post} (λ tag. record { tick = e.tick; tag = tag; fate = e.fate })) (no_tags (event_of e.line) h)) xs silent)

pub sent-silent : (xs : List Entry) (u : ℕ) → AreSilent xs → sent_at xs u ≡ []
sent-silent xs u silent =
    none_from (λ e. if e.tick == u then tags_of (event_of e.line) else []) xs
    (All-weaker (λ e. phase (event_of e.line) < 2) (λ e. (if e.tick == u then tags_of (event_of e.line) else []) ≡ [])
    (λ e h. ap (λ l. cond (e.tick == u) l []) (no_tags (event_of e.line) h) ∙ both (e.tick == u)) xs silent)
  where
    both : (b : Bool) → cond {A = List Tag} b [] [] ≡ []
    both true = refl
    both false = refl

pub copies-silent : (xs : List Entry) (tag : Tag) (u : ℕ) → AreSilent xs → sum_by (copies tag u) xs ≡ 0
copies-silent xs tag u silent =
    sum_none (copies tag u) xs
    (All-weaker (λ e. phase (event_of e.line) < 2) (λ e. copies tag u e ≡ 0)
    (λ e h. ap (λ b. cond b (count_by (λ d. e.tick + d == u) e.fate) 0) (no_send (event_of e.line) tag.group tag.round tag.meter tag.kind h)) xs silent)

-- ---- entries of other ticks

off : (a b : Bool) → b ≡ false → (a && b) ≡ false
off true b h = h
off false b h = refl

pub takes-other : (xs : List Entry) (tag : Tag) (u : ℕ) → All (λ e. e.tick ≡ u → ⊥) xs → takes_at xs tag u ≡ 0
takes-other xs tag u other =
    sum_none (λ e. cond {A = ℕ} (is_take tag.group tag.round tag.meter tag.kind (event_of e.line) && (e.tick == u)) 1 0) xs
    (All-weaker (λ e. e.tick ≡ u → ⊥) (λ e. cond {A = ℕ} (is_take tag.group tag.round tag.meter tag.kind (event_of e.line) && (e.tick == u)) 1 0 ≡ 0)
    (λ e ne. ap (λ b. cond {A = ℕ} b 1 0) (off (is_take tag.group tag.round tag.meter tag.kind (event_of e.line)) (e.tick == u) (ne_eqb e.tick u ne))) xs other)

pub sent-other : (xs : List Entry) (u : ℕ) → All (λ e. e.tick ≡ u → ⊥) xs → sent_at xs u ≡ []
sent-other xs u other =
    none_from (λ e. if e.tick == u then tags_of (event_of e.line) else []) xs
    (All-weaker (λ e. e.tick ≡ u → ⊥) (λ e. (if e.tick == u then tags_of (event_of e.line) else []) ≡ [])
    (λ e ne. ap (λ b. cond b (tags_of (event_of e.line)) []) (ne_eqb e.tick u ne)) xs other)

-- no Take stands among entries of other phases
pub takes-none : (xs : List Entry) (tag : Tag) (u : ℕ) → All (λ e. 0 < phase (event_of e.line)) xs → takes_at xs tag u ≡ 0
takes-none xs tag u all =
    sum_none (λ e. cond {A = ℕ} (is_take tag.group tag.round tag.meter tag.kind (event_of e.line) && (e.tick == u)) 1 0) xs
    (All-weaker (λ e. 0 < phase (event_of e.line)) (λ e. cond {A = ℕ} (is_take tag.group tag.round tag.meter tag.kind (event_of e.line) && (e.tick == u)) 1 0 ≡ 0)
    (λ e h. ap (λ b. cond {A = ℕ} (b && (e.tick == u)) 1 0) (no_take (event_of e.line) tag.group tag.round tag.meter tag.kind h)) xs all)

-- where all stand at one tick, the Takes at it are all Takes
pub takes-all : (xs : List Entry) (tag : Tag) (t : ℕ) → All (λ e. e.tick ≡ t) xs → takes_at xs tag t ≡ count_by (λ e. is_take tag.group tag.round tag.meter tag.kind (event_of e.line)) xs
takes-all [] tag t all = refl
takes-all (x ∷ xs) tag t all =
    sum_by-cons (λ e. cond {A = ℕ} (is_take tag.group tag.round tag.meter tag.kind (event_of e.line) && (e.tick == t)) 1 0) x xs
    ∙ ap (λ n. n + takes_at xs tag t) (ap (λ b. cond {A = ℕ} b 1 0) (on (is_take tag.group tag.round tag.meter tag.kind (event_of x.line)) (x.tick == t) (same x.tick t (All-head (λ e. e.tick ≡ t) x xs all))))
    ∙ ap (λ n. cond {A = ℕ} (is_take tag.group tag.round tag.meter tag.kind (event_of x.line)) 1 0 + n) (takes-all xs tag t (All-tail (λ e. e.tick ≡ t) x xs all))
    ∙ sym (sum_by-cons (λ e. cond {A = ℕ} (is_take tag.group tag.round tag.meter tag.kind (event_of e.line)) 1 0) x xs)
  where
    on : (a b : Bool) → b ≡ true → (a && b) ≡ a
    on true b h = h
    on false b h = refl

    same : (a b : ℕ) → a ≡ b → (a == b) ≡ true
    same a b h = grind (arith, nat_tests)

-- ---- appends

pub sent-append : (xs ys : List Entry) (u : ℕ) → sent_at (xs ++ ys) u ≡ sent_at xs u ++ sent_at ys u
sent-append xs ys u = flat_map-append (λ e. if e.tick == u then tags_of (event_of e.line) else []) xs ys

pub posts-append : (xs ys : List Entry) → posts_of (xs ++ ys) ≡ posts_of xs ++ posts_of ys
posts-append xs ys = flat_map-append (λ e. map (λ tag. record { tick = e.tick; tag = tag; fate = e.fate }) (tags_of (event_of e.line))) xs ys

pub fates-push : (slots : List Slot) (done posts : List Post) (p : Post) → fates_after slots done (posts ++ p ∷ []) ≡ fates_after slots done posts ++ fate_after slots (done ++ posts) p.tick p.tag ∷ []
fates-push slots done [] p = ap (λ l. fate_after slots l p.tick p.tag ∷ []) (sym (append-nil done))
fates-push slots done (q ∷ posts) p =
    ap (λ l. fate_after slots done q.tick q.tag ∷ l) (fates-push slots (done ++ q ∷ []) posts p
    ∙ ap (λ l. fates_after slots (done ++ q ∷ []) posts ++ fate_after slots l p.tick p.tag ∷ []) (append_is done q posts))
  where
    append_is : {X : Type 0} (xs : List X) (y : X) (ys : List X) → (xs ++ y ∷ []) ++ ys ≡ xs ++ y ∷ ys
    append_is [] y ys = refl
    append_is (x ∷ xs) y ys = ap (λ l. x ∷ l) (append_is xs y ys)

-- ---- what stands once

ticks_of_all : (test : Event → Bool) (t : ℕ) (xs : List Entry) → All (λ e. e.tick ≡ t) xs
    → map (λ e. e.tick) (filter (λ e. test (event_of e.line)) xs) ≡ replicate (count_by (λ e. test (event_of e.line)) xs) t
ticks_of_all test t [] all = refl
ticks_of_all test t (x ∷ xs) all = step (test (event_of x.line)) refl (ticks_of_all test t xs (All-tail (λ e. e.tick ≡ t) x xs all))
  where
    one_more : test (event_of x.line) ≡ true → count_by (λ e. test (event_of e.line)) (x ∷ xs) ≡ suc (count_by (λ e. test (event_of e.line)) xs)
    one_more is = omega (arith, sum_by-cons (λ e. cond {A = ℕ} (test (event_of e.line)) 1 0) x xs, ap (λ b. cond {A = ℕ} b 1 0) is)

    step : (b : Bool) → test (event_of x.line) ≡ b → map (λ e. e.tick) (filter (λ e. test (event_of e.line)) xs) ≡ replicate (count_by (λ e. test (event_of e.line)) xs) t
        → map (λ e. e.tick) (cond b (x ∷ filter (λ e. test (event_of e.line)) xs) (filter (λ e. test (event_of e.line)) xs)) ≡ replicate (count_by (λ e. test (event_of e.line)) (x ∷ xs)) t
    step true is later =
        ap (λ l. x.tick ∷ l) later
        ∙ ap (λ n. n ∷ replicate (count_by (λ e. test (event_of e.line)) xs) t) (All-head (λ e. e.tick ≡ t) x xs all)
        ∙ sym (ap (λ n. replicate n t) (one_more is))
    step false is later =
        later ∙ sym (ap (λ n. replicate n t) (sum_by-cons (λ e. cond {A = ℕ} (test (event_of e.line)) 1 0) x xs ∙ ap (λ b. cond {A = ℕ} b 1 0 + count_by (λ e. test (event_of e.line)) xs) is ∙ zero-add (count_by (λ e. test (event_of e.line)) xs)))

stands_append : (test : Event → Bool) (due : Bool) (tick : ℕ) (xs ys : List Entry) (more : List ℕ) → StandsOnce test due tick xs
    → map (λ e. e.tick) (filter (λ e. test (event_of e.line)) ys) ≡ more
    → map (λ e. e.tick) (filter (λ e. test (event_of e.line)) (xs ++ ys)) ≡ (if due then tick ∷ [] else []) ++ more
stands_append test due tick xs ys more once is =
    ap (map (λ e. e.tick)) (filter-append (λ e. test (event_of e.line)) xs ys)
    ∙ map-append (λ e. e.tick) (filter (λ e. test (event_of e.line)) xs) (filter (λ e. test (event_of e.line)) ys)
    ∙ ap (λ l. l ++ map (λ e. e.tick) (filter (λ e. test (event_of e.line)) ys)) once
    ∙ ap (λ l. (if due then tick ∷ [] else []) ++ l) is

-- entries of which none passes the test add nothing
pub stands-none : (test : Event → Bool) (due : Bool) (tick : ℕ) (xs ys : List Entry) → StandsOnce test due tick xs → All (λ e. test (event_of e.line) ≡ false) ys → StandsOnce test due tick (xs ++ ys)
stands-none test due tick xs ys once none =
    stands_append test due tick xs ys [] once (ap (map (λ e. e.tick)) (filter_none (λ e. test (event_of e.line)) ys none))
    ∙ append-nil (if due then tick ∷ [] else [])

one_or_none : (b : Bool) (t : ℕ) → replicate (cond {A = ℕ} b 1 0) t ≡ cond b (t ∷ []) []
one_or_none true t = refl
one_or_none false t = refl

grows : (p : Bool) (x t : ℕ) → cond (p && nat_lt x t) (x ∷ []) [] ++ cond (p && (x == t)) (t ∷ []) [] ≡ cond (p && nat_lt x (t + 1)) (x ∷ []) []
grows false x t = refl
grows true x t = ⊎_elim (λ below. before below) (λ above. ⊎_elim (λ beyond. after beyond) (λ up. here (omega arith)) (cases_lt t x)) (cases_lt x t)
  where
    before : x < t → cond (nat_lt x t) (x ∷ []) [] ++ cond (x == t) (t ∷ []) [] ≡ cond (nat_lt x (t + 1)) (x ∷ []) []
    before lt =
        ap (λ b. cond b (x ∷ []) [] ++ cond (x == t) (t ∷ []) []) (lt-ltb x t lt)
        ∙ ap (λ b. (x ∷ []) ++ cond b (t ∷ []) []) (ne_eqb x t (λ e. omega arith))
        ∙ sym (ap (λ b. cond b (x ∷ []) []) (lt-ltb x (t + 1) (omega arith)))

    not_below : (a b : ℕ) → b ≤ a → nat_lt a b ≡ false
    not_below a b h = grind (arith, nat_tests)

    same : (a b : ℕ) → a ≡ b → (a == b) ≡ true
    same a b h = grind (arith, nat_tests)

    after : t < x → cond (nat_lt x t) (x ∷ []) [] ++ cond (x == t) (t ∷ []) [] ≡ cond (nat_lt x (t + 1)) (x ∷ []) []
    after lt =
        ap (λ b. cond b (x ∷ []) [] ++ cond (x == t) (t ∷ []) []) (not_below x t (omega arith))
        ∙ ap (λ b. [] ++ cond b (t ∷ []) []) (ne_eqb x t (λ e. omega arith))
        ∙ sym (ap (λ b. cond b (x ∷ []) []) (not_below x (t + 1) (omega arith)))

    here : x ≡ t → cond (nat_lt x t) (x ∷ []) [] ++ cond (x == t) (t ∷ []) [] ≡ cond (nat_lt x (t + 1)) (x ∷ []) []
    here e =
        ap (λ b. cond b (x ∷ []) [] ++ cond (x == t) (t ∷ []) []) (not_below x t (omega arith))
        ∙ ap (λ b. [] ++ cond b (t ∷ []) []) (same x t e)
        ∙ ap (λ n. n ∷ []) (sym e)
        ∙ sym (ap (λ b. cond b (x ∷ []) []) (lt-ltb x (t + 1) (omega arith)))

-- a batch that has what is due at its tick
pub stands-due : (test : Event → Bool) (p : Bool) (x t : ℕ) (xs ys : List Entry) → StandsOnce test (p && nat_lt x t) x xs → All (λ e. e.tick ≡ t) ys
    → count_by (λ e. test (event_of e.line)) ys ≡ cond (p && (x == t)) 1 0 → StandsOnce test (p && nat_lt x (t + 1)) x (xs ++ ys)
stands-due test p x t xs ys once ticks count =
    stands_append test (p && nat_lt x t) x xs ys (cond (p && (x == t)) (t ∷ []) []) once
    (ticks_of_all test t ys ticks ∙ ap (λ n. replicate n t) count ∙ one_or_none (p && (x == t)) t)
    ∙ grows p x t

-- before the moment of the Sends of a tick none stands
pub sent-late : (t m : ℕ) (xs : List Entry) → m ≤ 3 * t + 2 → All (λ e. moment e < m) xs → sent_at xs t ≡ []
sent-late t m xs le all =
    none_from (λ e. if e.tick == t then tags_of (event_of e.line) else []) xs
    (All-weaker (λ e. moment e < m) (λ e. (if e.tick == t then tags_of (event_of e.line) else []) ≡ []) (λ e h. step e (e.tick == t) refl h) xs all)
  where
    step : (e : Entry) (b : Bool) → (e.tick == t) ≡ b → moment e < m → cond b (tags_of (event_of e.line)) [] ≡ []
    step e false is h = refl
    step e true is h = let same : e.tick ≡ t = eqb-true e.tick t is in no_tags (event_of e.line) (omega arith)
