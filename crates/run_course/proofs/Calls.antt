-- What a tick calls for: its Sends ascend, whoever has a reading, and besides readings they are those that are owed.
use Rattle.std.proofs.Common.{◌≡◌, ℕ, zero, suc, ◌+◌, ◌*◌, ◌<◌, ◌≤◌, Bool, true, false, cond, ◌&&◌, List, [], ◌∷◌, ◌++◌, length, ◌⊎◌, refl, sym, ap, ◌∙◌, subst, ⊎_elim, inl, inr, arith, append_assoc}
use Rattle.std.specs.Prelude.{◌==◌, nat_lt, if◌then◌else◌, reverse}
use Rattle.std.specs.List.{filter, flat_map, range_with_len}
use Rattle.std.proofs.lemmas.Bool.{and_parts, ltb-true, lt-ltb, eqb-true}
use Rattle.group_plan.specs.declared.Kind.{Kind}
use Rattle.group_plan.specs.declared.Kind.TheVariants.{Reading, Announcement, Answer}
use Rattle.group_plan.specs.declared.Tag.{Tag}
use Rattle.group_plan.specs.Plans.{PlanView, IsWithinLimits, size, is_member}
use Rattle.event_schedule.specs.declared.Event.{Event}
use Rattle.event_schedule.specs.declared.Entry.{Entry}
use Rattle.event_schedule.specs.Events.{events_of}
use Rattle.event_schedule.specs.Schedule.{Shape, members_of, survivors, is_announced, is_reading_taken}
use Rattle.run_rows.specs.Ticks.{clock_of, tag_of, tags, takes_at, due_of}
use Rattle.event_schedule.proofs.MemberLemmas.{is_member-below}
use Rattle.run_course.specs.Beginnings.{shape_where}
use Rattle.run_course.specs.Lists.{IsIn}
use Rattle.run_course.specs.Sends.{rank, kind_rank, is_reading, owed_by, owed}
use Rattle.run_course.specs.Stages.{Ascends, all_ranks}
use Rattle.run_course.proofs.Members.{in_append, in_from_append, in_flat_map, in_from_flat_map, in_map, in_from_map, in_from_filter, in_filter, in_range, in_from_range, in_cond, in_from_cond}
use Rattle.run_course.proofs.Ranks.{ascends_wider, ascends_append, ascends_flat_map}

-- ---- ranks

-- the least rank of a kind in a round of a group
abbrev pub base : Kind → ℕ → ℕ → ℕ
base kind g r = g * 3145728 + kind_rank kind * 1048576 + r * 256

kept_ascend : (kind : Kind) (g r a n : ℕ) (x y : Bool) (rest more : List ℕ) → Ascends (base kind g r + (a + 1)) (base kind g r + (a + 1) + n) (tags kind g r rest)
    → Ascends (base kind g r + a) (base kind g r + a + suc n) (tags kind g r (cond x (a ∷ rest) rest))
kept_ascend kind g r a n true y rest more later =
    let here : base kind g r + a ≤ rank (tag_of kind g r a) = omega arith in
    (here, ascends_wider (base kind g r + (a + 1)) (rank (tag_of kind g r a) + 1) (base kind g r + (a + 1) + n) (base kind g r + a + suc n) (tags kind g r rest) (omega arith) (omega arith) later)
kept_ascend kind g r a n false y rest more later =
    ascends_wider (base kind g r + (a + 1)) (base kind g r + a) (base kind g r + (a + 1) + n) (base kind g r + a + suc n) (tags kind g r rest) (omega arith) (omega arith) later

tags_ascend : (kind : Kind) (g r : ℕ) (p m : ℕ → Bool) (a n : ℕ) → Ascends (base kind g r + a) (base kind g r + a + n) (tags kind g r (filter p (filter m (range_with_len a n))))
tags_ascend kind g r p m a zero = omega arith
tags_ascend kind g r p m a (suc n) = split (m a) (tags_ascend kind g r p m (a + 1) n)
  where
    split : (x : Bool) → Ascends (base kind g r + (a + 1)) (base kind g r + (a + 1) + n) (tags kind g r (filter p (filter m (range_with_len (a + 1) n))))
        → Ascends (base kind g r + a) (base kind g r + a + suc n) (tags kind g r (filter p (cond x (a ∷ filter m (range_with_len (a + 1) n)) (filter m (range_with_len (a + 1) n)))))
    split false later = kept_ascend kind g r a n false false (filter p (filter m (range_with_len (a + 1) n))) [] later
    split true later = kept_ascend kind g r a n (p a) false (filter p (filter m (range_with_len (a + 1) n))) [] later

-- the tags of some members of a round
meters_ascend : (plan : PlanView) → IsWithinLimits plan → (kind : Kind) (g r : ℕ) (p : ℕ → Bool)
    → Ascends (base kind g r) (base kind g r + 256) (tags kind g r (filter p (filter (is_member plan.groups g r) (range_with_len 0 (size plan.groups g)))))
meters_ascend plan limits kind g r p =
    let few : size plan.groups g ≤ 256 = limits.meters g in
    ascends_wider (base kind g r + 0) (base kind g r) (base kind g r + 0 + size plan.groups g) (base kind g r + 256)
    (tags kind g r (filter p (filter (is_member plan.groups g r) (range_with_len 0 (size plan.groups g))))) (omega arith) (omega arith)
    (tags_ascend kind g r p (is_member plan.groups g r) 0 (size plan.groups g))

cond_ascend : (from to : ℕ) (q : Bool) (ys : List Tag) → from ≤ to → Ascends from to ys → Ascends from to (cond q ys [])
cond_ascend from to true ys le a = a
cond_ascend from to false ys le a = le

-- the announcements and answers of a group
pub by_rounds_ascend : (plan : PlanView) → IsWithinLimits plan → (kind : Kind) (g : ℕ) (q : ℕ → Bool) (p : ℕ → ℕ → Bool)
    → Ascends (base kind g 0) (base kind g 0 + 1048576) (flat_map (λ r. if q r then tags kind g r (filter (p r) (filter (is_member plan.groups g r) (range_with_len 0 (size plan.groups g)))) else []) (range_with_len 0 plan.rounds))
by_rounds_ascend plan limits kind g q p =
    let f : ℕ → List Tag = λ r. if q r then tags kind g r (filter (p r) (filter (is_member plan.groups g r) (range_with_len 0 (size plan.groups g)))) else [] in
    let few : plan.rounds ≤ 4096 = limits.rounds in
    ascends_wider (base kind g 0 + 0 * 256) (base kind g 0) (base kind g 0 + (0 + plan.rounds) * 256) (base kind g 0 + 1048576) (flat_map f (range_with_len 0 plan.rounds)) (omega arith) (omega arith)
    (ascends_flat_map f (base kind g 0) 256 0 plan.rounds
    (λ i above below. cond_ascend (base kind g 0 + i * 256) (base kind g 0 + (i + 1) * 256) (q i) (tags kind g i (filter (p i) (filter (is_member plan.groups g i) (range_with_len 0 (size plan.groups g))))) (omega arith)
    (ascends_wider (base kind g i) (base kind g 0 + i * 256) (base kind g i + 256) (base kind g 0 + (i + 1) * 256) (tags kind g i (filter (p i) (filter (is_member plan.groups g i) (range_with_len 0 (size plan.groups g))))) (omega arith) (omega arith)
    (meters_ascend plan limits kind g i (p i)))))

-- what a group has to send besides readings
abbrev pub rest_by : PlanView → (ℕ → ℕ → ℕ → Bool) → List Entry → ℕ → ℕ → List Tag
rest_by plan present xs t g =
    flat_map (λ r.
    if (r + plan.w1 == t) && is_announced (shape_where plan present) g r (reverse (events_of xs))
    then tags Announcement g r (survivors (shape_where plan present) g r (reverse (events_of xs)))
    else []) (range_with_len 0 plan.rounds)
    ++ flat_map (λ r.
    tags Answer g r (filter (λ i. nat_lt 0 (takes_at xs (tag_of Announcement g r i) t)) (members_of (shape_where plan present) g r))) (range_with_len 0 plan.rounds)

rest_ascends : (plan : PlanView) → IsWithinLimits plan → (present : ℕ → ℕ → ℕ → Bool) (xs : List Entry) (t g : ℕ)
    → Ascends (g * 3145728 + 1048576) (0 + (g + 1) * 3145728) (rest_by plan present xs t g)
rest_ascends plan limits present xs t g =
    let s : Shape = shape_where plan present in
    let past : List Event = reverse (events_of xs) in
    let first : List Tag = flat_map (λ r. if (r + plan.w1 == t) && is_announced s g r past then tags Announcement g r (survivors s g r past) else []) (range_with_len 0 plan.rounds) in
    let second : List Tag = flat_map (λ r. tags Answer g r (filter (λ i. nat_lt 0 (takes_at xs (tag_of Announcement g r i) t)) (members_of s g r))) (range_with_len 0 plan.rounds) in
    let a : Ascends (base Announcement g 0) (base Announcement g 0 + 1048576) first
    = by_rounds_ascend plan limits Announcement g (λ r. (r + plan.w1 == t) && is_announced s g r past) (λ r i. is_reading_taken s g r i past) in
    let b : Ascends (base Answer g 0) (base Answer g 0 + 1048576) second
    = by_rounds_ascend plan limits Answer g (λ r. true) (λ r i. nat_lt 0 (takes_at xs (tag_of Announcement g r i) t)) in
    ascends_append (g * 3145728 + 1048576) (base Answer g 0) (0 + (g + 1) * 3145728) first second
    (ascends_wider (base Announcement g 0) (g * 3145728 + 1048576) (base Announcement g 0 + 1048576) (base Answer g 0) first (omega arith) (omega arith) a)
    (ascends_wider (base Answer g 0) (base Answer g 0) (base Answer g 0 + 1048576) (0 + (g + 1) * 3145728) second (omega arith) (omega arith) b)

-- what is owed ascends
pub owed_ascends : (plan : PlanView) → IsWithinLimits plan → (xs : List Entry) (t : ℕ) → Ascends 0 (all_ranks plan) (owed plan xs t)
owed_ascends plan limits xs t =
    ascends_wider (0 + 0 * 3145728) 0 (0 + (0 + length plan.groups) * 3145728) (all_ranks plan) (owed plan xs t) (omega arith) (omega arith)
    (ascends_flat_map (owed_by plan xs t) 0 3145728 0 (length plan.groups)
    (λ g above below. ascends_wider (g * 3145728 + 1048576) (0 + g * 3145728) (0 + (g + 1) * 3145728) (0 + (g + 1) * 3145728) (owed_by plan xs t g) (omega arith) (omega arith)
    (rest_ascends plan limits (λ g r i. true) xs t g)))

readings_ascend : (plan : PlanView) → IsWithinLimits plan → (present : ℕ → ℕ → ℕ → Bool) (t g : ℕ)
    → Ascends (0 + g * 3145728) (g * 3145728 + 1048576) (tags Reading g t (if nat_lt t plan.rounds then filter (λ i. present g t i) (members_of (shape_where plan present) g t) else []))
readings_ascend plan limits present t g = split (nat_lt t plan.rounds) refl
  where
    ms : List ℕ
    ms = filter (λ i. present g t i) (members_of (shape_where plan present) g t)

    split : (q : Bool) → nat_lt t plan.rounds ≡ q → Ascends (0 + g * 3145728) (g * 3145728 + 1048576) (tags Reading g t (cond q ms []))
    split false is = omega arith
    split true is =
        let few : plan.rounds ≤ 4096 = limits.rounds in
        let below : t < plan.rounds = ltb-true t plan.rounds is in
        ascends_wider (base Reading g t) (0 + g * 3145728) (base Reading g t + 256) (g * 3145728 + 1048576) (tags Reading g t ms) (omega arith) (omega arith) (meters_ascend plan limits Reading g t (λ i. present g t i))

-- the readings of a group that are present at tick t
abbrev pub readings_by : PlanView → (ℕ → ℕ → ℕ → Bool) → ℕ → ℕ → List Tag
readings_by plan present t g = tags Reading g t (if nat_lt t plan.rounds then filter (λ i. present g t i) (members_of (shape_where plan present) g t) else [])

due_parts : (plan : PlanView) (present : ℕ → ℕ → ℕ → Bool) (xs : List Entry) (t g : ℕ)
    → due_of (shape_where plan present) (clock_of plan) xs t g ≡ readings_by plan present t g ++ rest_by plan present xs t g
due_parts plan present xs t g =
    append_assoc (readings_by plan present t g)
    (flat_map (λ r. if (r + plan.w1 == t) && is_announced (shape_where plan present) g r (reverse (events_of xs)) then tags Announcement g r (survivors (shape_where plan present) g r (reverse (events_of xs))) else []) (range_with_len 0 plan.rounds))
    (flat_map (λ r. tags Answer g r (filter (λ i. nat_lt 0 (takes_at xs (tag_of Announcement g r i) t)) (members_of (shape_where plan present) g r))) (range_with_len 0 plan.rounds))

-- what a tick calls for ascends, whoever has a reading
pub due_ascends : (plan : PlanView) → IsWithinLimits plan → (present : ℕ → ℕ → ℕ → Bool) (xs : List Entry) (t : ℕ)
    → Ascends 0 (all_ranks plan) (flat_map (due_of (shape_where plan present) (clock_of plan) xs t) (range_with_len 0 (length plan.groups)))
due_ascends plan limits present xs t =
    ascends_wider (0 + 0 * 3145728) 0 (0 + (0 + length plan.groups) * 3145728) (all_ranks plan)
    (flat_map (due_of (shape_where plan present) (clock_of plan) xs t) (range_with_len 0 (length plan.groups))) (omega arith) (omega arith)
    (ascends_flat_map (due_of (shape_where plan present) (clock_of plan) xs t) 0 3145728 0 (length plan.groups)
    (λ g above below. subst (Ascends (0 + g * 3145728) (0 + (g + 1) * 3145728)) (sym (due_parts plan present xs t g))
    (ascends_append (0 + g * 3145728) (g * 3145728 + 1048576) (0 + (g + 1) * 3145728) (readings_by plan present t g) (rest_by plan present xs t g)
    (readings_ascend plan limits present t g) (rest_ascends plan limits present xs t g))))

-- ---- members

-- a Send of this tick besides readings
pub record IsOwed (plan : PlanView) (xs : List Entry) (t : ℕ) (y : Tag) : Type 0 where
  pub group : y.group < length plan.groups
  pub round : y.round < plan.rounds
  pub other : is_reading y.kind ≡ false
  pub from : ((y.kind ≡ Announcement) × (y.round + plan.w1 ≡ t)) ⊎ ((y.kind ≡ Answer) × (0 < takes_at xs (tag_of Announcement y.group y.round y.meter) t))

pub rest_is : (plan : PlanView) (present : ℕ → ℕ → ℕ → Bool) (xs : List Entry) (t g : ℕ) (y : Tag) → g < length plan.groups → IsIn y (rest_by plan present xs t g) → IsOwed plan xs t y
rest_is plan present xs t g y g_in at =
    let s : Shape = shape_where plan present in
    let past : List Event = reverse (events_of xs) in
    let f : ℕ → List Tag = λ r. if (r + plan.w1 == t) && is_announced s g r past then tags Announcement g r (survivors s g r past) else [] in
    let h : ℕ → List Tag = λ r. tags Answer g r (filter (λ i. nat_lt 0 (takes_at xs (tag_of Announcement g r i) t)) (members_of s g r)) in
    ⊎_elim
    (λ first.
    let found = in_from_flat_map f y (range_with_len 0 plan.rounds) first in
    let r : ℕ = found.0 in
    let r_in = in_from_range 0 plan.rounds r found.1 in
    let inner = in_cond y ((r + plan.w1 == t) && is_announced s g r past) (tags Announcement g r (survivors s g r past)) found.2 in
    let made = in_from_map (tag_of Announcement g r) y (survivors s g r past) inner.1 in
    let when : r + plan.w1 ≡ t = eqb-true (r + plan.w1) t (and_parts (r + plan.w1 == t) (is_announced s g r past) inner.0).0 in
    subst (IsOwed plan xs t) made.2 (record { group = g_in; round = omega arith; other = refl; from = inl (refl, when) }))
    (λ second.
    let found = in_from_flat_map h y (range_with_len 0 plan.rounds) second in
    let r : ℕ = found.0 in
    let r_in = in_from_range 0 plan.rounds r found.1 in
    let made = in_from_map (tag_of Answer g r) y (filter (λ i. nat_lt 0 (takes_at xs (tag_of Announcement g r i) t)) (members_of s g r)) found.2 in
    let kept = in_from_filter (λ i. nat_lt 0 (takes_at xs (tag_of Announcement g r i) t)) made.0 (members_of s g r) made.1 in
    subst (IsOwed plan xs t) made.2 (record { group = g_in; round = omega arith; other = refl; from = inr (refl, ltb-true 0 (takes_at xs (tag_of Announcement g r made.0) t) kept.1) }))
    (in_from_append y (flat_map f (range_with_len 0 plan.rounds)) (flat_map h (range_with_len 0 plan.rounds)) at)

pub owed_is : (plan : PlanView) (xs : List Entry) (t : ℕ) (y : Tag) → IsIn y (owed plan xs t) → IsOwed plan xs t y
owed_is plan xs t y at =
    let found = in_from_flat_map (owed_by plan xs t) y (range_with_len 0 (length plan.groups)) at in
    let g_in = in_from_range 0 (length plan.groups) found.0 found.1 in
    rest_is plan (λ g r i. true) xs t found.0 y (omega arith) found.2

-- the reading of a member that is present at its tick
pub record IsRead (plan : PlanView) (present : ℕ → ℕ → ℕ → Bool) (t : ℕ) (y : Tag) : Type 0 where
  pub group : y.group < length plan.groups
  pub round : y.round < plan.rounds
  pub now : y.round ≡ t
  pub kind : y.kind ≡ Reading
  pub member : is_member plan.groups y.group y.round y.meter ≡ true
  pub here : present y.group y.round y.meter ≡ true

readings_are : (plan : PlanView) (present : ℕ → ℕ → ℕ → Bool) (t g : ℕ) (y : Tag) → g < length plan.groups → IsIn y (readings_by plan present t g) → IsRead plan present t y
readings_are plan present t g y g_in at =
    let ms : List ℕ = filter (λ i. present g t i) (members_of (shape_where plan present) g t) in
    let made = in_from_map (tag_of Reading g t) y (if nat_lt t plan.rounds then ms else []) at in
    let inner = in_cond made.0 (nat_lt t plan.rounds) ms made.1 in
    let kept = in_from_filter (λ i. present g t i) made.0 (members_of (shape_where plan present) g t) inner.1 in
    let member = in_from_filter (is_member plan.groups g t) made.0 (range_with_len 0 (size plan.groups g)) kept.0 in
    subst (IsRead plan present t) made.2 (record { group = g_in; round = ltb-true t plan.rounds inner.0; now = refl; kind = refl; member = member.1; here = kept.1 })

-- a tick calls for the readings that are present and for the rest
pub due_from : (plan : PlanView) (present : ℕ → ℕ → ℕ → Bool) (xs : List Entry) (t : ℕ) (y : Tag)
    → IsIn y (flat_map (due_of (shape_where plan present) (clock_of plan) xs t) (range_with_len 0 (length plan.groups)))
    → IsRead plan present t y ⊎ IsIn y (flat_map (rest_by plan present xs t) (range_with_len 0 (length plan.groups)))
due_from plan present xs t y at =
    let found = in_from_flat_map (due_of (shape_where plan present) (clock_of plan) xs t) y (range_with_len 0 (length plan.groups)) at in
    let g_in = in_from_range 0 (length plan.groups) found.0 found.1 in
    ⊎_elim (λ first. inl (readings_are plan present t found.0 y (omega arith) first))
    (λ second. inr (in_flat_map (rest_by plan present xs t) y found.0 (range_with_len 0 (length plan.groups)) found.1 second))
    (in_from_append y (readings_by plan present t found.0) (rest_by plan present xs t found.0) (subst (IsIn y) (due_parts plan present xs t found.0) found.2))

pub due_of_rest : (plan : PlanView) (present : ℕ → ℕ → ℕ → Bool) (xs : List Entry) (t : ℕ) (y : Tag)
    → IsIn y (flat_map (rest_by plan present xs t) (range_with_len 0 (length plan.groups)))
    → IsIn y (flat_map (due_of (shape_where plan present) (clock_of plan) xs t) (range_with_len 0 (length plan.groups)))
due_of_rest plan present xs t y at =
    let found = in_from_flat_map (rest_by plan present xs t) y (range_with_len 0 (length plan.groups)) at in
    in_flat_map (due_of (shape_where plan present) (clock_of plan) xs t) y found.0 (range_with_len 0 (length plan.groups)) found.1
    (subst (IsIn y) (sym (due_parts plan present xs t found.0)) (in_append y (readings_by plan present t found.0) (rest_by plan present xs t found.0) (inr found.2)))

pub due_of_reading : (plan : PlanView) (present : ℕ → ℕ → ℕ → Bool) (xs : List Entry) (t : ℕ) (y : Tag) → IsRead plan present t y
    → IsIn y (flat_map (due_of (shape_where plan present) (clock_of plan) xs t) (range_with_len 0 (length plan.groups)))
due_of_reading plan present xs t y read =
    let g : ℕ = y.group in
    let i : ℕ = y.meter in
    let ms : List ℕ = filter (λ j. present g t j) (members_of (shape_where plan present) g t) in
    let member : is_member plan.groups g t i ≡ true = subst (λ r. is_member plan.groups g r i ≡ true) read.now read.member in
    let here : present g t i ≡ true = subst (λ r. present g r i ≡ true) read.now read.here in
    let t_in : t < plan.rounds = subst (λ r. r < plan.rounds) read.now read.round in
    let below = is_member-below plan.groups g t i member in
    let inner : IsIn i ms = in_filter (λ j. present g t j) i (members_of (shape_where plan present) g t)
    (in_filter (is_member plan.groups g t) i (range_with_len 0 (size plan.groups g)) (in_range 0 (size plan.groups g) i (omega arith) (omega arith)) member) here in
    let y_is : tag_of Reading g t i ≡ y = ap (λ r. record { group = y.group; round = r; meter = y.meter; kind = Reading }) (sym read.now)
    ∙ ap (λ k. record { group = y.group; round = y.round; meter = y.meter; kind = k }) (sym read.kind) in
    let placed : IsIn y (readings_by plan present t g) = subst (λ z. IsIn z (readings_by plan present t g)) y_is
    (in_map (tag_of Reading g t) i (if nat_lt t plan.rounds then ms else []) (in_from_cond i (nat_lt t plan.rounds) ms (lt-ltb t plan.rounds t_in) inner)) in
    let g_in = read.group in
    in_flat_map (due_of (shape_where plan present) (clock_of plan) xs t) y g (range_with_len 0 (length plan.groups)) (in_range 0 (length plan.groups) g (omega arith) (omega arith))
    (subst (IsIn y) (sym (due_parts plan present xs t g)) (in_append y (readings_by plan present t g) (rest_by plan present xs t g) (inl placed)))
