-- How many posts lanes give: of each meter and round at most one reading, one announcement, and an answer to each copy of the announcement.
use Rattle.std.proofs.Common.{◌≡◌, ℕ, zero, suc, ◌+◌, ◌*◌, ◌<◌, ◌≤◌, ◌==◌, nat_lt, nat_le, Bool, true, false, cond, ◌&&◌, if◌then◌else◌, List, [], ◌∷◌, ◌++◌, length, map, All, refl, sym, ap, ◌∙◌, subst, ⊎_elim, arith, length-append}
use Rattle.std.specs.List.{sum_by, count_by, filter, flat_map, range_with_len}
use Rattle.std.proofs.Math.Nat.{add-mul, mul-add}
use mathlib.Core.Path.{fun_ext}
use Rattle.std.proofs.lemmas.Bool.{cases_eq}
use Rattle.std.proofs.lemmas.Bool.Decides.{nat_tests}
use Rattle.std.proofs.lemmas.List.{length-map}
use Rattle.std.proofs.lemmas.List.Concat.{length-flat_map}
use Rattle.std.proofs.lemmas.List.Elements.{All-head, All-tail}
use Rattle.std.proofs.lemmas.List.FromFn.{length-range_with_len}
use Rattle.std.proofs.lemmas.List.Sums.{sum_by-cons, sum_by-append, length-filter, count_by-le-length}
use Rattle.std.proofs.lemmas.Nat.{mul-le}
use Rattle.group_plan.specs.declared.Kind.{Kind}
use Rattle.group_plan.specs.declared.Kind.TheVariants.{Reading, Announcement, Answer}
use Rattle.group_plan.specs.declared.Tag.{Tag}
use Rattle.group_plan.specs.Plans.{size, is_member}
use Rattle.link_lanes.specs.declared.Post.{Post}
use Rattle.link_lanes.specs.Lanes.{Slot, fate_after}
use Rattle.event_schedule.specs.Events.{same_kind, is_tag}
use Rattle.event_schedule.specs.Schedule.{Shape, members_of, floor_of}
use Rattle.event_schedule.proofs.ListLemmas.{sum_by-flat_map, sum_by-map, sum_none}
use Rattle.run_rows.specs.Posts.{coming, due_by, post_all, posts_before, posts_by_lanes}
use Rattle.run_rows.specs.Report.{fate_at, report_survivors, comes_in_time}
use Rattle.run_rows.specs.Ticks.{Clock, tag_of, tags, last_tick}

-- ---- sums

pub sum_le : {X : Type 0} (f h : X → ℕ) (xs : List X) → ((x : X) → f x ≤ h x) → sum_by f xs ≤ sum_by h xs
sum_le f h [] le = omega arith
sum_le f h (x ∷ xs) le = omega (arith, le x, sum_by-cons f x xs, sum_by-cons h x xs, sum_le f h xs le)

pub sum_both : {X : Type 0} (f h : X → ℕ) (xs : List X) → sum_by (λ x. f x + h x) xs ≡ sum_by f xs + sum_by h xs
sum_both f h [] = refl
sum_both f h (x ∷ xs) = omega (arith, sum_by-cons (λ x. f x + h x) x xs, sum_by-cons f x xs, sum_by-cons h x xs, sum_both f h xs)

pub sum_zero : {X : Type 0} (xs : List X) → sum_by (λ (_ : X). 0) xs ≡ 0
sum_zero [] = refl
sum_zero (x ∷ xs) = omega (arith, sum_by-cons (λ (_ : _). 0) x xs, sum_zero xs)

sum_below : (f : ℕ → ℕ) (i a n : ℕ) → i < a → ((j : ℕ) → (j ≡ i → ⊥) → f j ≡ 0) → sum_by f (range_with_len a n) ≡ 0
sum_below f i a zero below none = refl
sum_below f i a (suc n) below none =
    omega (arith, sum_by-cons f a (range_with_len (a + 1) n), none a (λ e. omega arith), sum_below f i (a + 1) n (omega arith) none)

-- a sum with one part at most
pub sum_one : (f : ℕ → ℕ) (k i a n : ℕ) → f i ≤ k → ((j : ℕ) → (j ≡ i → ⊥) → f j ≡ 0) → sum_by f (range_with_len a n) ≤ k
sum_one f k i a zero le none = omega arith
sum_one f k i a (suc n) le none =
    ⊎_elim
    (λ e. let here : f a ≤ k = subst (λ z. f z ≤ k) (sym e) le in omega (arith, here, sum_by-cons f a (range_with_len (a + 1) n), sum_below f i (a + 1) n (omega arith) none))
    (λ ne. omega (arith, sum_by-cons f a (range_with_len (a + 1) n), none a ne, sum_one f k i (a + 1) n le none))
    (cases_eq a i)

-- a sum has each of its parts
pub sum_part : (f : ℕ → ℕ) (i a n : ℕ) → a ≤ i → i < a + n → f i ≤ sum_by f (range_with_len a n)
sum_part f i a zero low high = absurd (omega arith)
sum_part f i a (suc n) low high =
    ⊎_elim
    (λ e. let here : f i ≤ f a = subst (λ z. f z ≤ f a) e (omega arith) in omega (arith, here, sum_by-cons f a (range_with_len (a + 1) n)))
    (λ ne. omega (arith, sum_by-cons f a (range_with_len (a + 1) n), sum_part f i (a + 1) n (omega arith) (omega arith)))
    (cases_eq a i)

pub sum_filter_le : {X : Type 0} (p : X → Bool) (f : X → ℕ) (xs : List X) → sum_by f (filter p xs) ≤ sum_by f xs
sum_filter_le p f [] = omega arith
sum_filter_le p f (x ∷ xs) = step (p x) (sum_filter_le p f xs)
  where
    step : (c : Bool) → sum_by f (filter p xs) ≤ sum_by f xs → sum_by f (cond c (x ∷ filter p xs) (filter p xs)) ≤ sum_by f (x ∷ xs)
    step true le = omega (arith, le, sum_by-cons f x (filter p xs), sum_by-cons f x xs)
    step false le = omega (arith, le, sum_by-cons f x xs)

-- how many values are below one more
one_split : (n t : ℕ) → cond {A = ℕ} (nat_lt n (suc t)) 1 0 ≡ cond (nat_lt n t) 1 0 + cond (n == t) 1 0
one_split n t = grind (arith, nat_tests)

count_split : {X : Type 0} (f : X → ℕ) (t : ℕ) (xs : List X) → count_by (λ x. nat_lt (f x) (suc t)) xs ≡ count_by (λ x. nat_lt (f x) t) xs + count_by (λ x. f x == t) xs
count_split f t [] = refl
count_split f t (x ∷ xs) =
    omega (
      arith,
      sum_by-cons (λ x. cond {A = ℕ} (nat_lt (f x) (suc t)) 1 0) x xs,
      sum_by-cons (λ x. cond {A = ℕ} (nat_lt (f x) t) 1 0) x xs,
      sum_by-cons (λ x. cond {A = ℕ} (f x == t) 1 0) x xs,
      one_split (f x) t,
      count_split f t xs,
    )

one_there : (t a n : ℕ) → a ≤ t → t < a + n → 1 ≤ count_by (λ r. r == t) (range_with_len a n)
one_there t a n low high =
    let here : cond {A = ℕ} (t == t) 1 0 ≡ 1 = grind (arith, nat_tests) in
    let part = sum_part (λ r. cond {A = ℕ} (r == t) 1 0) t a n low high in
    omega (arith, here, part)

-- ---- announcements and their copies

abbrev pub is_told : Tag → Bool
is_told tag = same_kind tag.kind Announcement

-- the copies of announcements that come at tick t, and before it
abbrev pub now : List Post → ℕ → ℕ
now ps t = sum_by (λ (p : Post). cond (is_told p.tag) (count_by (λ d. p.tick + d == t) p.fate) 0) ps

abbrev pub arrived : List Post → ℕ → ℕ
arrived ps t = sum_by (λ (p : Post). cond (is_told p.tag) (count_by (λ d. nat_lt (p.tick + d) t) p.fate) 0) ps

arrived_more : (ps : List Post) (t : ℕ) → arrived ps (suc t) ≡ arrived ps t + now ps t
arrived_more [] t = refl
arrived_more (p ∷ ps) t =
    omega (
      arith,
      sum_by-cons (λ (p : Post). cond (is_told p.tag) (count_by (λ d. nat_lt (p.tick + d) (suc t)) p.fate) 0) p ps,
      sum_by-cons (λ (p : Post). cond (is_told p.tag) (count_by (λ d. nat_lt (p.tick + d) t) p.fate) 0) p ps,
      sum_by-cons (λ (p : Post). cond (is_told p.tag) (count_by (λ d. p.tick + d == t) p.fate) 0) p ps,
      one (is_told p.tag),
      arrived_more ps t,
    )
  where
    one : (b : Bool) → cond b (count_by (λ d. nat_lt (p.tick + d) (suc t)) p.fate) 0 ≡ cond b (count_by (λ d. nat_lt (p.tick + d) t) p.fate) 0 + cond b (count_by (λ d. p.tick + d == t) p.fate) 0
    one true = count_split (λ d. p.tick + d) t p.fate
    one false = refl

-- at most three copies of each
copies_few : (t : ℕ) (ps : List Post) → All (λ (p : Post). length p.fate ≤ 3) ps → arrived ps t ≤ 3 * count_by (λ (p : Post). is_told p.tag) ps
copies_few t [] few = omega arith
copies_few t (p ∷ ps) few =
    let here = All-head (λ (p : Post). length p.fate ≤ 3) p ps few in
    let later = copies_few t ps (All-tail (λ (p : Post). length p.fate ≤ 3) p ps few) in
    omega (
      arith,
      one (is_told p.tag) here,
      later,
      sum_by-cons (λ (p : Post). cond (is_told p.tag) (count_by (λ d. nat_lt (p.tick + d) t) p.fate) 0) p ps,
      sum_by-cons (λ (p : Post). cond {A = ℕ} (is_told p.tag) 1 0) p ps,
    )
  where
    one : (b : Bool) → length p.fate ≤ 3 → cond b (count_by (λ d. nat_lt (p.tick + d) t) p.fate) 0 ≤ 3 * cond b 1 0
    one true here = omega (arith, here, count_by-le-length (λ d. nat_lt (p.tick + d) t) p.fate)
    one false here = omega arith

-- ---- tags by place

less_left : (k : ℕ) (a b : Bool) → cond (a && b) k 0 ≤ cond b k 0
less_left k true b = omega arith
less_left k false b = omega arith

off_group : (k g r i h q j : ℕ) (b : Bool) → (h ≡ g → ⊥) → cond {A = ℕ} ((g == h) && (r == q) && (i == j) && b) k 0 ≡ 0
off_group k g r i h q j b ne = grind (arith, nat_tests)

off_round : (k g r i h q j : ℕ) (b : Bool) → (q ≡ r → ⊥) → cond {A = ℕ} ((g == h) && (r == q) && (i == j) && b) k 0 ≡ 0
off_round k g r i h q j b ne = grind (arith, nat_tests)

off_meter : (k g r i h q j : ℕ) (b : Bool) → (j ≡ i → ⊥) → cond {A = ℕ} ((g == h) && (r == q) && (i == j) && b) k 0 ≡ 0
off_meter k g r i h q j b ne = grind (arith, nat_tests)

once_at : (k g r i : ℕ) (b : Bool) (m : ℕ → ℕ) (rounds groups : ℕ)
    → sum_by (λ h. sum_by (λ q. sum_by (λ j. cond {A = ℕ} ((g == h) && (r == q) && (i == j) && b) k 0) (range_with_len 0 (m h))) (range_with_len 0 rounds)) (range_with_len 0 groups) ≤ cond b k 0
once_at k g r i b m rounds groups =
    sum_one (λ h. sum_by (λ q. sum_by (λ j. cond {A = ℕ} ((g == h) && (r == q) && (i == j) && b) k 0) (range_with_len 0 (m h))) (range_with_len 0 rounds)) (cond b k 0) g 0 groups
    (sum_one (λ q. sum_by (λ j. cond {A = ℕ} ((g == g) && (r == q) && (i == j) && b) k 0) (range_with_len 0 (m g))) (cond b k 0) r 0 rounds
    (sum_one (λ j. cond {A = ℕ} ((g == g) && (r == r) && (i == j) && b) k 0) (cond b k 0) i 0 (m g) (less_left k ((g == g) && (r == r) && (i == i)) b) (λ j ne. off_meter k g r i g r j b ne))
    (λ q ne. sum_none (λ j. cond {A = ℕ} ((g == g) && (r == q) && (i == j) && b) k 0) (λ j. off_round k g r i g q j b ne) (range_with_len 0 (m g))))
    (λ h ne. sum_none (λ q. sum_by (λ j. cond {A = ℕ} ((g == h) && (r == q) && (i == j) && b) k 0) (range_with_len 0 (m h)))
    (λ q. sum_none (λ j. cond {A = ℕ} ((g == h) && (r == q) && (i == j) && b) k 0) (λ j. off_group k g r i h q j b ne) (range_with_len 0 (m h))) (range_with_len 0 rounds))

-- those that pass are no more than the sum
some_le : (f : ℕ → ℕ) (xs : List ℕ) → length (filter (λ i. nat_lt 0 (f i)) xs) ≤ sum_by f xs
some_le f [] = omega arith
some_le f (x ∷ xs) = step (nat_lt 0 (f x)) refl (some_le f xs)
  where
    step : (b : Bool) → nat_lt 0 (f x) ≡ b → length (filter (λ i. nat_lt 0 (f i)) xs) ≤ sum_by f xs
        → length (cond b (x ∷ filter (λ i. nat_lt 0 (f i)) xs) (filter (λ i. nat_lt 0 (f i)) xs)) ≤ sum_by f (x ∷ xs)
    step true is later = let some : 0 < f x = grind (arith, nat_tests, is) in omega (arith, some, later, sum_by-cons f x xs)
    step false is later = omega (arith, later, sum_by-cons f x xs)

pub sum_times : {X : Type 0} (f : X → ℕ) (k : ℕ) (xs : List X) → sum_by (λ x. f x * k) xs ≡ sum_by f xs * k
sum_times f k [] = omega arith
sum_times f k (x ∷ xs) = sum_by-cons (λ x. f x * k) x xs ∙ (ap (λ z. f x * k + z) (sum_times f k xs) ∙ (sym (add-mul (f x) (sum_by f xs) k) ∙ ap (λ z. z * k) (sym (sum_by-cons f x xs))))

-- ---- what is due at a tick

module _ (s : Shape) (c : Clock) (slots : List Slot) where
  abbrev rounds : List ℕ
  rounds = range_with_len 0 c.rounds

  abbrev groups : List ℕ
  groups = range_with_len 0 (length s.groups)

  abbrev m : ℕ → ℕ
  m g = size s.groups g

  abbrev pub meters : ℕ
  meters = sum_by m groups

  -- the tag of the announcement to each meter in each round
  abbrev told_tags : List Tag
  told_tags = flat_map (λ g. flat_map (λ r. map (tag_of Announcement g r) (range_with_len 0 (m g))) rounds) groups

  told_sum : (f : Tag → ℕ) → sum_by f told_tags ≡ sum_by (λ g. sum_by (λ r. sum_by (λ i. f (tag_of Announcement g r i)) (range_with_len 0 (m g))) rounds) groups
  told_sum f =
      sum_by-flat_map f (λ g. flat_map (λ r. map (tag_of Announcement g r) (range_with_len 0 (m g))) rounds) groups
      ∙ ap (λ h. sum_by h groups) (fun_ext (λ g. sum_by-flat_map f (λ r. map (tag_of Announcement g r) (range_with_len 0 (m g))) rounds
      ∙ ap (λ h. sum_by h rounds) (fun_ext (λ r. sum_by-map f (tag_of Announcement g r) (range_with_len 0 (m g))))))

  -- each tag stands there once at most
  told_once : (k : ℕ) (tag : Tag) → sum_by (λ (x : Tag). cond (is_tag x.group x.round x.meter x.kind tag) k 0) told_tags ≤ cond (is_told tag) k 0
  told_once k tag =
      subst (λ z. z ≤ cond (is_told tag) k 0) (sym (told_sum (λ (x : Tag). cond (is_tag x.group x.round x.meter x.kind tag) k 0))) (once_at k tag.group tag.round tag.meter (is_told tag) m c.rounds (length s.groups))

  -- the copies that come at tick t, of all tags, are those of the posts
  coming_now : (ps : List Post) (t : ℕ) → sum_by (λ (x : Tag). coming ps x t) told_tags ≤ now ps t
  coming_now [] t = let none = sum_zero told_tags in omega (arith, none)
  coming_now (p ∷ ps) t =
      let k = count_by (λ d. p.tick + d == t) p.fate in
      let hit : Tag → ℕ = λ x. cond (is_tag x.group x.round x.meter x.kind p.tag) k 0 in
      let each : sum_by (λ (x : Tag). coming (p ∷ ps) x t) told_tags ≡ sum_by (λ (x : Tag). hit x + coming ps x t) told_tags =
      ap (λ h. sum_by h told_tags) (fun_ext (λ x. sum_by-cons (λ (q : Post). cond (is_tag x.group x.round x.meter x.kind q.tag) (count_by (λ d. q.tick + d == t) q.fate) 0) p ps)) in
      omega (
        arith,
        each,
        sum_both hit (λ (x : Tag). coming ps x t) told_tags,
        told_once k p.tag,
        coming_now ps t,
        sum_by-cons (λ (q : Post). cond (is_told q.tag) (count_by (λ d. q.tick + d == t) q.fate) 0) p ps,
      )

  members_few : (g r : ℕ) (p : ℕ → Bool) → length (filter p (members_of s g r)) ≤ m g
  members_few g r p =
      let one = length-filter p (members_of s g r) in
      let two = count_by-le-length p (members_of s g r) in
      let three = length-filter (is_member s.groups g r) (range_with_len 0 (m g)) in
      let four = count_by-le-length (is_member s.groups g r) (range_with_len 0 (m g)) in
      omega (arith, one, two, three, four, length-range_with_len 0 (m g))

  -- ---- what a group is to send at a tick

  module _ (ps : List Post) (t g : ℕ) where
    abbrev some_read : Bool → List Tag
    some_read there = tags Reading g t (if there then filter (λ i. s.present g t i) (members_of s g t) else [])

    abbrev told_in : ℕ → Bool → List Tag
    told_in r due = if due then tags Announcement g r (report_survivors s c (fate_at ps) g r) else []

    abbrev is_told_in : ℕ → Bool
    is_told_in r = nat_le (floor_of s g) (length (report_survivors s c (fate_at ps) g r))

    abbrev answered_in : ℕ → List Tag
    answered_in r = tags Answer g r (filter (λ i. nat_lt 0 (coming ps (tag_of Announcement g r i) t)) (members_of s g r))

    abbrev heard : ℕ → ℕ
    heard r = sum_by (λ i. coming ps (tag_of Announcement g r i) t) (range_with_len 0 (m g))

    read_few : length (some_read (nat_lt t c.rounds)) ≤ m g * count_by (λ r. r == t) rounds
    read_few = step (nat_lt t c.rounds) refl
      where
        step : (b : Bool) → nat_lt t c.rounds ≡ b → length (some_read b) ≤ m g * count_by (λ r. r == t) rounds
        step true is =
            let lt : t < c.rounds = grind (arith, nat_tests, is) in
            let there = one_there t 0 c.rounds (omega arith) (omega (arith, lt)) in
            let more : m g * 1 ≤ m g * count_by (λ r. r == t) rounds = mul-le (m g) 1 (m g) (count_by (λ r. r == t) rounds) (omega arith) there in
            omega (arith, more, length-map (filter (λ i. s.present g t i) (members_of s g t)) (tag_of Reading g t), members_few g t (λ i. s.present g t i))
        step false is = omega arith

    told_few : (rs : List ℕ) → length (flat_map (λ r. told_in r ((r + c.w1 == t) && is_told_in r)) rs) ≤ m g * count_by (λ r. r + c.w1 == t) rs
    told_few [] = omega arith
    told_few (r ∷ rs) =
        let count = sum_by-cons (λ r. cond {A = ℕ} (r + c.w1 == t) 1 0) r rs in
        let all : m g * count_by (λ r. r + c.w1 == t) (r ∷ rs) ≡ m g * cond (r + c.w1 == t) 1 0 + m g * count_by (λ r. r + c.w1 == t) rs =
        ap (λ z. m g * z) count ∙ mul-add (m g) (cond (r + c.w1 == t) 1 0) (count_by (λ r. r + c.w1 == t) rs) in
        let here = step (r + c.w1 == t) (is_told_in r) in
        let later = told_few rs in
        omega (arith, all, here, later, length-append (told_in r ((r + c.w1 == t) && is_told_in r)) (flat_map (λ r. told_in r ((r + c.w1 == t) && is_told_in r)) rs))
      where
        step : (a b : Bool) → length (told_in r (a && b)) ≤ m g * cond a 1 0
        step true true = omega (arith, length-map (report_survivors s c (fate_at ps) g r) (tag_of Announcement g r), members_few g r (λ i. s.present g r i && comes_in_time c (fate_at ps) g r i))
        step true false = omega arith
        step false b = omega arith

    answers_few : (rs : List ℕ) → length (flat_map answered_in rs) ≤ sum_by heard rs
    answers_few [] = omega arith
    answers_few (r ∷ rs) =
        let f : ℕ → ℕ = λ i. coming ps (tag_of Announcement g r i) t in
        let later = answers_few rs in
        omega (
          arith,
          later,
          length-append (answered_in r) (flat_map answered_in rs),
          sum_by-cons heard r rs,
          length-map (filter (λ i. nat_lt 0 (f i)) (members_of s g r)) (tag_of Answer g r),
          some_le f (members_of s g r),
          sum_filter_le (is_member s.groups g r) f (range_with_len 0 (m g)),
        )

    due_few : length (due_by s c ps t g) ≤ m g * count_by (λ r. r == t) rounds + m g * count_by (λ r. r + c.w1 == t) rounds + sum_by heard rounds
    due_few =
        omega (
          arith,
          read_few,
          told_few rounds,
          answers_few rounds,
          length-append (some_read (nat_lt t c.rounds) ++ flat_map (λ r. told_in r ((r + c.w1 == t) && is_told_in r)) rounds) (flat_map answered_in rounds),
          length-append (some_read (nat_lt t c.rounds)) (flat_map (λ r. told_in r ((r + c.w1 == t) && is_told_in r)) rounds),
        )

    none_told : (kind : Kind) (r : ℕ) (xs : List ℕ) → same_kind kind Announcement ≡ false → count_by is_told (tags kind g r xs) ≡ 0
    none_told kind r xs other =
        sum_by-map (λ (x : Tag). cond {A = ℕ} (is_told x) 1 0) (tag_of kind g r) xs ∙ ap (λ b. sum_by (λ (_ : ℕ). cond {A = ℕ} b 1 0) xs) other ∙ sum_zero xs

    no_answer_told : (rs : List ℕ) → count_by is_told (flat_map answered_in rs) ≡ 0
    no_answer_told [] = refl
    no_answer_told (r ∷ rs) =
        omega (
          arith,
          sum_by-append (λ (x : Tag). cond {A = ℕ} (is_told x) 1 0) (answered_in r) (flat_map answered_in rs),
          none_told Answer r (filter (λ i. nat_lt 0 (coming ps (tag_of Announcement g r i) t)) (members_of s g r)) refl,
          no_answer_told rs,
        )

    due_told : count_by is_told (due_by s c ps t g) ≤ m g * count_by (λ r. r + c.w1 == t) rounds
    due_told =
        omega (
          arith,
          none_told Reading t (if nat_lt t c.rounds then filter (λ i. s.present g t i) (members_of s g t) else []) refl,
          no_answer_told rounds,
          told_few rounds,
          count_by-le-length is_told (flat_map (λ r. told_in r ((r + c.w1 == t) && is_told_in r)) rounds),
          sum_by-append (λ (x : Tag). cond {A = ℕ} (is_told x) 1 0) (some_read (nat_lt t c.rounds) ++ flat_map (λ r. told_in r ((r + c.w1 == t) && is_told_in r)) rounds) (flat_map answered_in rounds),
          sum_by-append (λ (x : Tag). cond {A = ℕ} (is_told x) 1 0) (some_read (nat_lt t c.rounds)) (flat_map (λ r. told_in r ((r + c.w1 == t) && is_told_in r)) rounds),
        )

  -- ---- all groups

  abbrev due : List Post → ℕ → List Tag
  due ps t = flat_map (due_by s c ps t) groups

  all_few : (ps : List Post) (t : ℕ) → length (due ps t) ≤ meters * count_by (λ r. r == t) rounds + meters * count_by (λ r. r + c.w1 == t) rounds + now ps t
  all_few ps t =
      let x = count_by (λ r. r == t) rounds in
      let y = count_by (λ r. r + c.w1 == t) rounds in
      omega (
        arith,
        length-flat_map (due_by s c ps t) groups,
        sum_le (λ g. length (due_by s c ps t g)) (λ g. m g * x + m g * y + sum_by (heard ps t g) rounds) groups (due_few ps t),
        sum_both (λ g. m g * x + m g * y) (λ g. sum_by (heard ps t g) rounds) groups,
        sum_both (λ g. m g * x) (λ g. m g * y) groups,
        sum_times m x groups,
        sum_times m y groups,
        told_sum (λ tag. coming ps tag t),
        coming_now ps t,
      )

  all_told : (ps : List Post) (t : ℕ) → count_by is_told (due ps t) ≤ meters * count_by (λ r. r + c.w1 == t) rounds
  all_told ps t =
      let y = count_by (λ r. r + c.w1 == t) rounds in
      omega (
        arith,
        sum_by-flat_map (λ (x : Tag). cond {A = ℕ} (is_told x) 1 0) (due_by s c ps t) groups,
        sum_le (λ g. count_by is_told (due_by s c ps t g)) (λ g. m g * y) groups (due_told ps t),
        sum_times m y groups,
      )

  -- ---- posted

  posted_long : (ps : List Post) (t : ℕ) (xs : List Tag) → length (post_all slots ps t xs) ≡ length ps + length xs
  posted_long ps t [] = omega arith
  posted_long ps t (x ∷ xs) =
      let p : Post = record { tick = t; tag = x; fate = fate_after slots ps t x } in
      omega (arith, posted_long (ps ++ p ∷ []) t xs, length-append ps (p ∷ []))

  abbrev told : List Post → ℕ
  told ps = count_by (λ (p : Post). is_told p.tag) ps

  posted_told : (ps : List Post) (t : ℕ) (xs : List Tag) → told (post_all slots ps t xs) ≡ told ps + count_by is_told xs
  posted_told ps t [] = omega arith
  posted_told ps t (x ∷ xs) =
      let p : Post = record { tick = t; tag = x; fate = fate_after slots ps t x } in
      omega (
        arith,
        posted_told (ps ++ p ∷ []) t xs,
        sum_by-append (λ (p : Post). cond {A = ℕ} (is_told p.tag) 1 0) ps (p ∷ []),
        sum_by-cons (λ (p : Post). cond {A = ℕ} (is_told p.tag) 1 0) p [],
        sum_by-cons (λ (x : Tag). cond {A = ℕ} (is_told x) 1 0) x xs,
      )

  posted_arrived : (ps : List Post) (t : ℕ) (xs : List Tag) (u : ℕ) → arrived ps u ≤ arrived (post_all slots ps t xs) u
  posted_arrived ps t [] u = omega arith
  posted_arrived ps t (x ∷ xs) u =
      let p : Post = record { tick = t; tag = x; fate = fate_after slots ps t x } in
      omega (
        arith,
        posted_arrived (ps ++ p ∷ []) t xs u,
        sum_by-append (λ (p : Post). cond (is_told p.tag) (count_by (λ d. nat_lt (p.tick + d) u) p.fate) 0) ps (p ∷ []),
      )

  record Few (t : ℕ) (ps : List Post) : Type 0 where
    told_are : told ps ≤ meters * count_by (λ r. nat_lt (r + c.w1) t) rounds
    all_are : length ps ≤ meters * count_by (λ r. nat_lt r t) rounds + meters * count_by (λ r. nat_lt (r + c.w1) t) rounds + arrived ps t

  few : (t : ℕ) → Few t (posts_before s c slots t)
  few zero = record { told_are = omega arith; all_are = omega arith }
  few (suc t) =
      let before = few t in
      let ps = posts_before s c slots t in
      let a = count_by (λ r. nat_lt r t) rounds in
      let b = count_by (λ r. nat_lt (r + c.w1) t) rounds in
      let x = count_by (λ r. r == t) rounds in
      let y = count_by (λ r. r + c.w1 == t) rounds in
      let read : meters * count_by (λ r. nat_lt r (suc t)) rounds ≡ meters * a + meters * x = ap (λ z. meters * z) (count_split (λ r. r) t rounds) ∙ mul-add meters a x in
      let told_more : meters * count_by (λ r. nat_lt (r + c.w1) (suc t)) rounds ≡ meters * b + meters * y = ap (λ z. meters * z) (count_split (λ r. r + c.w1) t rounds) ∙ mul-add meters b y in
      let had = before.told_are in
      let were = before.all_are in
      record {
        told_are = omega (arith, had, told_more, posted_told ps t (due ps t), all_told ps t);
        all_are = omega (arith, were, read, told_more, posted_long ps t (due ps t), all_few ps t, posted_arrived ps t (due ps t) (suc t), arrived_more ps t);
      }

  -- of each meter and round at most five, where a fate has three delays at most
  pub posts_few : All (λ (p : Post). length p.fate ≤ 3) (posts_by_lanes s c slots) → length (posts_by_lanes s c slots) ≤ 5 * (meters * c.rounds)
  posts_few three =
      let t = last_tick c + 1 in
      let ps = posts_by_lanes s c slots in
      let are = few t in
      let a = count_by (λ r. nat_lt r t) rounds in
      let b = count_by (λ r. nat_lt (r + c.w1) t) rounds in
      let long = length-range_with_len 0 c.rounds in
      let first : meters * a ≤ meters * c.rounds = mul-le meters a meters c.rounds (omega arith) (omega (arith, long, count_by-le-length (λ r. nat_lt r t) rounds)) in
      let second : meters * b ≤ meters * c.rounds = mul-le meters b meters c.rounds (omega arith) (omega (arith, long, count_by-le-length (λ r. nat_lt (r + c.w1) t) rounds)) in
      let all = are.all_are in
      let had = are.told_are in
      omega (arith, first, second, all, had, copies_few t ps three)
