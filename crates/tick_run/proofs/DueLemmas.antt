-- The frames that are to be sent at a tick: their tags, and that each is the frame of its tag.
use Rattle.std.proofs.Common.{◌≡◌, ℕ, zero, suc, ◌+◌, ◌<◌, ◌≤◌, Bool, true, false, cond, not, ◌&&◌, List, [], ◌∷◌, ◌++◌, map, refl, sym, ap, ◌∙◌, subst, arith}
use Rattle.std.specs.Prelude.{◌==◌, nat_lt, if◌then◌else◌, Some, None}
use mathlib.Core.Path.{fun_ext}
use Rattle.std.specs.List.{filter, flat_map, range_with_len, All}
use Rattle.std.proofs.lemmas.Bool.{and_from, ltb-true, eqb-true}
use Rattle.std.proofs.lemmas.List.{map-append}
use Rattle.std.proofs.lemmas.List.Elements.{All-nil, All-cons, All-append}
use Rattle.missing_round.specs.Masks.{Masks}
use Rattle.group_plan.specs.Plans.{size, is_member}
use Rattle.group_plan.specs.declared.Kind.TheVariants.{Reading, Announcement, Answer}
use Rattle.group_plan.specs.declared.Tag.{Tag}
use Rattle.meter_frames.specs.declared.Frame.{Frame}
use Rattle.event_schedule.specs.declared.Event.{Event}
use Rattle.event_schedule.specs.declared.Entry.{Entry}
use Rattle.event_schedule.specs.Tables.{Readings}
use Rattle.event_schedule.specs.Schedule.{Shape, members_of, is_announced, is_reading_taken, survivors, missing, may_send}
use Rattle.event_schedule.specs.Transcript.{Contents, contents_of_tables, set_sent, word_sent, frame}
use Rattle.run_rows.specs.Ticks.{Clock, tag_of, tags, takes_at, due_of}
use Rattle.tick_run.specs.Progress.{past_of_entries}
use Rattle.plan_meters.specs.TickFrames.{was_taken, reading_frame, answer_frame, AreHeard}
use Rattle.tick_run.specs.TickFrames.{due_after, announcement_frame, frames_due, IsDue}

-- ---- the tags

map_tags : (F : ℕ → Frame) (G : ℕ → Tag) (xs : List ℕ) → ((i : ℕ) → (F i).tag ≡ G i) → map (λ f. f.tag) (map F xs) ≡ map G xs
map_tags F G [] same = refl
map_tags F G (x ∷ xs) same = ap (λ y. y ∷ map (λ f. f.tag) (map F xs)) (same x) ∙ ap (λ l. G x ∷ l) (map_tags F G xs same)

flat_tags : (F : ℕ → List Frame) (G : ℕ → List Tag) (xs : List ℕ) → ((r : ℕ) → map (λ f. f.tag) (F r) ≡ G r) → map (λ f. f.tag) (flat_map F xs) ≡ flat_map G xs
flat_tags F G [] same = refl
flat_tags F G (x ∷ xs) same =
    map-append (λ (f : Frame). f.tag) (F x) (flat_map F xs) ∙ ap (λ l. l ++ map (λ f. f.tag) (flat_map F xs)) (same x) ∙ ap (λ l. G x ++ l) (flat_tags F G xs same)

cond_tags : (b : Bool) (F : List Frame) (G : List Tag) → map (λ f. f.tag) F ≡ G → map (λ f. f.tag) (cond b F []) ≡ cond b G []
cond_tags true F G same = same
cond_tags false F G same = refl

-- their tags are what is due
pub tags-due : (s : Shape) (c : Clock) (x : Readings) (m : Masks) (past : List Event) (taken : List Tag) (t g : ℕ)
    → map (λ f. f.tag) (frames_due s c x m past taken t g) ≡ due_after s c past taken t g
tags-due s c x m past taken t g =
    let now : List ℕ = if nat_lt t c.rounds then filter (λ i. s.present g t i) (members_of s g t) else [] in
    let rounds : List ℕ = range_with_len 0 c.rounds in
    let first : List Frame = map (reading_frame s.groups x m g t) now in
    let announced : ℕ → List Frame = λ r. if r + c.w1 == t then (if is_announced s g r past then map (announcement_frame g r (missing s g r past)) (survivors s g r past) else []) else [] in
    let announced_tags : ℕ → List Tag = λ r. if r + c.w1 == t then (if is_announced s g r past then tags Announcement g r (survivors s g r past) else []) else [] in
    let answers : ℕ → List Frame = λ r. map (answer_frame m g r (missing s g r past)) (filter (λ i. was_taken taken (tag_of Announcement g r i)) (members_of s g r)) in
    let answer_tags : ℕ → List Tag = λ r. tags Answer g r (filter (λ i. was_taken taken (tag_of Announcement g r i)) (members_of s g r)) in
    let a : map (λ f. f.tag) first ≡ tags Reading g t now = map_tags (reading_frame s.groups x m g t) (tag_of Reading g t) now (λ i. refl) in
    let b : map (λ f. f.tag) (flat_map announced rounds) ≡ flat_map announced_tags rounds
    = flat_tags announced announced_tags rounds (λ r. cond_tags (r + c.w1 == t) _ _ (cond_tags (is_announced s g r past) _ _
    (map_tags (announcement_frame g r (missing s g r past)) (tag_of Announcement g r) (survivors s g r past) (λ i. refl)))) in
    let d : map (λ f. f.tag) (flat_map answers rounds) ≡ flat_map answer_tags rounds
    = flat_tags answers answer_tags rounds (λ r. map_tags (answer_frame m g r (missing s g r past)) (tag_of Answer g r) (filter (λ i. was_taken taken (tag_of Announcement g r i)) (members_of s g r)) (λ i. refl)) in
    map-append (λ (f : Frame). f.tag) (first ++ flat_map announced rounds) (flat_map answers rounds)
    ∙ ap (λ l. l ++ map (λ f. f.tag) (flat_map answers rounds)) (map-append (λ (f : Frame). f.tag) first (flat_map announced rounds))
    ∙ ap (λ l. (l ++ map (λ f. f.tag) (flat_map announced rounds)) ++ map (λ f. f.tag) (flat_map answers rounds)) a
    ∙ ap (λ l. (tags Reading g t now ++ l) ++ map (λ f. f.tag) (flat_map answers rounds)) b
    ∙ ap (λ l. (tags Reading g t now ++ flat_map announced_tags rounds) ++ l) d

-- where the copies taken at a tick are those of its Takes, this is what is due by the entries
pub due-taken : (s : Shape) (c : Clock) (entries : List Entry) (taken : List Tag) (t g : ℕ) → ((z : Tag) → nat_lt 0 (takes_at entries z t) ≡ was_taken taken z)
    → due_of s c entries t g ≡ due_after s c (past_of_entries entries) taken t g
due-taken s c entries taken t g same =
    let now : List Tag = tags Reading g t (if nat_lt t c.rounds then filter (λ i. s.present g t i) (members_of s g t) else []) in
    let past : List Event = past_of_entries entries in
    let rounds : List ℕ = range_with_len 0 c.rounds in
    let announced : ℕ → List Tag = λ r. if (r + c.w1 == t) && is_announced s g r past then tags Announcement g r (survivors s g r past) else [] in
    let announced' : ℕ → List Tag = λ r. if r + c.w1 == t then (if is_announced s g r past then tags Announcement g r (survivors s g r past) else []) else [] in
    let answers : ℕ → List Tag = λ r. tags Answer g r (filter (λ i. nat_lt 0 (takes_at entries (tag_of Announcement g r i) t)) (members_of s g r)) in
    let answers' : ℕ → List Tag = λ r. tags Answer g r (filter (λ i. was_taken taken (tag_of Announcement g r i)) (members_of s g r)) in
    let a : flat_map announced rounds ≡ flat_map announced' rounds = ap (λ f. flat_map f rounds) (fun_ext (λ r. nested (r + c.w1 == t) (is_announced s g r past) (tags Announcement g r (survivors s g r past)))) in
    let b : flat_map answers rounds ≡ flat_map answers' rounds
    = ap (λ f. flat_map f rounds) (fun_ext (λ r. ap (λ f. tags Answer g r (filter f (members_of s g r))) (fun_ext (λ i. same (tag_of Announcement g r i))))) in
    ap (λ l. (now ++ l) ++ flat_map answers rounds) a ∙ ap (λ l. (now ++ flat_map announced' rounds) ++ l) b
  where
    nested : (p q : Bool) (l : List Tag) → cond (p && q) l [] ≡ cond p (cond q l []) []
    nested true q l = refl
    nested false q l = refl

-- ---- each is the frame of its tag

all_filtered : {X : Type 0} (P : X → Type 0) (F : ℕ → X) (p q : ℕ → Bool) (a n : ℕ) → ((i : ℕ) → i < a + n → q i ≡ true → p i ≡ true → P (F i)) → All P (map F (filter p (filter q (range_with_len a n))))
all_filtered P F p q a zero each = All-nil P
all_filtered P F p q a (suc n) each = step (q a) (p a) refl refl (all_filtered P F p q (a + 1) n (λ i below. each i (omega arith)))
  where
    step : (b d : Bool) → q a ≡ b → p a ≡ d → All P (map F (filter p (filter q (range_with_len (a + 1) n))))
        → All P (map F (filter p (cond b (a ∷ filter q (range_with_len (a + 1) n)) (filter q (range_with_len (a + 1) n)))))
    step true true kept passes later =
        subst (λ b. All P (map F (cond b (a ∷ filter p (filter q (range_with_len (a + 1) n))) (filter p (filter q (range_with_len (a + 1) n)))))) (sym passes)
        (All-cons P (F a) (map F (filter p (filter q (range_with_len (a + 1) n)))) (each a (omega arith) kept passes) later)
    step true false kept passes later =
        subst (λ b. All P (map F (cond b (a ∷ filter p (filter q (range_with_len (a + 1) n))) (filter p (filter q (range_with_len (a + 1) n)))))) (sym passes) later
    step false d kept passes later = later

-- what holds of each member that passes
all_members : {X : Type 0} (P : X → Type 0) (F : ℕ → X) (s : Shape) (g r : ℕ) (p : ℕ → Bool) → ((i : ℕ) → i < size s.groups g → is_member s.groups g r i ≡ true → p i ≡ true → P (F i)) → All P (map F (filter p (members_of s g r)))
all_members P F s g r p each = all_filtered P F p (is_member s.groups g r) 0 (size s.groups g) (λ i below. each i (omega arith))

pub all_flat : {X : Type 0} (P : X → Type 0) (F : ℕ → List X) (a n : ℕ) → ((r : ℕ) → r < a + n → All P (F r)) → All P (flat_map F (range_with_len a n))
all_flat P F a zero each = All-nil P
all_flat P F a (suc n) each = All-append P (F a) (flat_map F (range_with_len (a + 1) n)) (each a (omega arith)) (all_flat P F (a + 1) n (λ r below. each r (omega arith)))

all_cond : {X : Type 0} (P : X → Type 0) (b : Bool) (xs : List X) → (b ≡ true → All P xs) → All P (cond b xs [])
all_cond P true xs each = each refl
all_cond P false xs each = All-nil P

kept_within : (p : ℕ → Bool) (q : ℕ → Bool) (a n m : ℕ) → a + n ≤ m → All (λ i. i < m) (filter p (filter q (range_with_len a n)))
kept_within p q a zero m le = All-nil (λ i. i < m)
kept_within p q a (suc n) m le = step (q a) (kept_within p q (a + 1) n m (omega arith))
  where
    inner : (d : Bool) → All (λ i. i < m) (filter p (filter q (range_with_len (a + 1) n))) → All (λ i. i < m) (cond d (a ∷ filter p (filter q (range_with_len (a + 1) n))) (filter p (filter q (range_with_len (a + 1) n))))
    inner true later = All-cons (λ i. i < m) a (filter p (filter q (range_with_len (a + 1) n))) (omega arith) later
    inner false later = later

    step : (b : Bool) → All (λ i. i < m) (filter p (filter q (range_with_len (a + 1) n))) → All (λ i. i < m) (filter p (cond b (a ∷ filter q (range_with_len (a + 1) n)) (filter q (range_with_len (a + 1) n))))
    step true later = inner (p a) later
    step false later = later

pub missing-within : (s : Shape) (g r : ℕ) (past : List Event) → All (λ i. i < size s.groups g) (missing s g r past)
missing-within s g r past = kept_within (λ i. not (is_reading_taken s g r i past)) (is_member s.groups g r) 0 (size s.groups g) (size s.groups g) (omega arith)

pub survivors-within : (s : Shape) (g r : ℕ) (past : List Event) → All (λ i. i < size s.groups g) (survivors s g r past)
survivors-within s g r past = kept_within (λ i. is_reading_taken s g r i past) (is_member s.groups g r) 0 (size s.groups g) (size s.groups g) (omega arith)

frame_of : (s : Shape) (w : Contents) (tag : Tag) (past : List Event) → may_send s tag.kind tag.group tag.round tag.meter past ≡ true
    → frame s w tag past ≡ Some (record { tag = tag; missing = set_sent s tag.kind tag.group tag.round past; word = word_sent s w tag.kind tag.group tag.round tag.meter past })
frame_of s w tag past may =
    ap (λ b. if b then Some (record { tag = tag; missing = set_sent s tag.kind tag.group tag.round past; word = word_sent s w tag.kind tag.group tag.round tag.meter past }) else None) may

-- each is due
pub all-due_now : (s : Shape) (c : Clock) (x : Readings) (m : Masks) (past : List Event) (taken : List Tag) (t g : ℕ) → AreHeard s c past t taken
    → All (IsDue s c (contents_of_tables s.groups x m) past t) (frames_due s c x m past taken t g)
all-due_now s c x m past taken t g heard =
    let w : Contents = contents_of_tables s.groups x m in
    let P : Frame → Type 0 = IsDue s c w past t in
    All-append P _ _
    (All-append P _ _
    (readings (nat_lt t c.rounds) refl)
    (all_flat P _ 0 c.rounds (λ r r_in. all_cond P (r + c.w1 == t) _ (λ now. all_cond P (is_announced s g r past) _ (λ announced. announcements r (omega arith) (eqb-true (r + c.w1) t now) announced)))))
    (all_flat P _ 0 c.rounds (λ r r_in. answers r (omega arith)))
  where
    readings : (b : Bool) → nat_lt t c.rounds ≡ b
        → All (IsDue s c (contents_of_tables s.groups x m) past t) (map (reading_frame s.groups x m g t) (cond b (filter (λ i. s.present g t i) (members_of s g t)) []))
    readings false is = All-nil (IsDue s c (contents_of_tables s.groups x m) past t)
    readings true is =
        all_members (IsDue s c (contents_of_tables s.groups x m) past t) (reading_frame s.groups x m g t) s g t (λ i. s.present g t i) (λ i below _ present. record {
          is = frame_of s (contents_of_tables s.groups x m) (tag_of Reading g t i) past present;
          in_time = record { round = ltb-true t c.rounds is; from = omega arith; to = omega arith; meter = below };
          set = All-nil (λ j. j < size s.groups g);
          fits = refl;
        })

    announcements : (r : ℕ) → r < c.rounds → r + c.w1 ≡ t → is_announced s g r past ≡ true
        → All (IsDue s c (contents_of_tables s.groups x m) past t) (map (announcement_frame g r (missing s g r past)) (survivors s g r past))
    announcements r r_in now announced =
        all_members (IsDue s c (contents_of_tables s.groups x m) past t) (announcement_frame g r (missing s g r past)) s g r (λ i. is_reading_taken s g r i past) (λ i below _ read. record {
          is = frame_of s (contents_of_tables s.groups x m) (tag_of Announcement g r i) past (and_from (is_announced s g r past) (is_reading_taken s g r i past) announced read);
          in_time = record { round = r_in; from = omega arith; to = omega arith; meter = below };
          set = missing-within s g r past;
          fits = refl;
        })

    answers : (r : ℕ) → r < c.rounds
        → All (IsDue s c (contents_of_tables s.groups x m) past t) (map (answer_frame m g r (missing s g r past)) (filter (λ i. was_taken taken (tag_of Announcement g r i)) (members_of s g r)))
    answers r r_in =
        all_members (IsDue s c (contents_of_tables s.groups x m) past t) (answer_frame m g r (missing s g r past)) s g r (λ i. was_taken taken (tag_of Announcement g r i)) (λ i below _ told. record {
          is = frame_of s (contents_of_tables s.groups x m) (tag_of Answer g r i) past (heard.effect g r i told);
          in_time = record { round = r_in; from = let early = heard.early g r i told in omega arith; to = heard.late g r i told; meter = below };
          set = missing-within s g r past;
          fits = tt;
        })
