-- What a group sends at a tick, round by round.
use Rattle.std.proofs.Common.{◌≡◌, ℕ, zero, suc, ◌+◌, ◌-◌, ◌<◌, ◌≤◌, Bool, true, false, cond, not, ◌&&◌, ◌||◌, List, [], ◌∷◌, ◌++◌, map, refl, sym, ap, ◌∙◌, append-nil, append_assoc, zero-add, arith, ◌⊎◌, inl, inr}
use Rattle.std.specs.Prelude.{◌==◌, nat_lt, if◌then◌else◌, is_some}
use mathlib.Core.Path.{fun_ext}
use Rattle.std.specs.List.{filter, flat_map, range_with_len, list_any, list_all}
use Rattle.std.proofs.lemmas.Bool.{lt-ltb, and_parts, and_from}
use Rattle.missing_round.specs.Masks.{Masks}
use Rattle.missing_round.specs.Sets.{is_member as is_in, joined}
use Rattle.missing_round.proofs.SetLemmas.{is_member-joined, is_member-filter}
use Rattle.group_plan.specs.Plans.{size, is_place, members}
use Rattle.group_plan.specs.Tables.{ReadingsView, reading, PresenceView, IsPresenceTable}
use Rattle.group_plan.specs.declared.Kind.TheVariants.{Announcement}
use Rattle.group_plan.specs.declared.Tag.{Tag}
use Rattle.event_schedule.specs.declared.Event.{Event}
use Rattle.event_schedule.specs.Events.{is_send, same_kind}
use Rattle.event_schedule.specs.Schedule.{Shape, shape_of_presence, members_of, is_announced, is_reading_taken, missing, may_announce, is_announcement_taken}
use Rattle.event_schedule.proofs.ScheduleLemmas.{once-gives, once-more, is_announcement_sent-from_taken, present-from_taken}
use Rattle.event_schedule.proofs.MemberLemmas.{is_member-below}
use Rattle.blind_core.specs.Blind.{are_places}
use Rattle.plan_meters.proofs.RowLemmas.{members-are_places}
use Rattle.run_rows.specs.Ticks.{tag_of}
use Rattle.plan_meters.specs.Came.{same_tag}
use Rattle.plan_meters.specs.TickFrames.{run_shape, was_taken, reading_frame, IsHeardIn, is_announcement_in}
use Rattle.plan_meters.proofs.ShapeLemmas.{present_is}

-- ---- one round of a range

pub flat_none : {X : Type 0} (F : ℕ → List X) (a n : ℕ) → ((r : ℕ) → a ≤ r → r < a + n → F r ≡ []) → flat_map F (range_with_len a n) ≡ []
flat_none F a zero none = refl
flat_none F a (suc n) none = ap (λ l. l ++ flat_map F (range_with_len (a + 1) n)) (none a (omega arith) (omega arith)) ∙ flat_none F (a + 1) n (λ r above below. none r (omega arith) (omega arith))

-- ---- readings

pub readings-now : (readings : ReadingsView) (m : Masks) (g t : ℕ) → t < readings.plan.rounds
    → map (reading_frame readings.plan.groups (reading readings.table) m g t) (filter (λ i. is_some (reading readings.table g t i)) (members_of (run_shape readings) g t))
    ≡ map (reading_frame readings.plan.groups (reading readings.table) m g t)
    (if nat_lt t readings.plan.rounds then filter (λ i. (run_shape readings).present g t i) (members_of (run_shape readings) g t) else [])
readings-now readings m g t below =
    ap (λ f. map (reading_frame readings.plan.groups (reading readings.table) m g t) (filter f (members_of (run_shape readings) g t))) (fun_ext (λ i. sym (present_is readings g t i)))
    ∙ ap (λ b. map (reading_frame readings.plan.groups (reading readings.table) m g t) (cond b (filter (λ i. (run_shape readings).present g t i) (members_of (run_shape readings) g t)) [])) (sym (lt-ltb t readings.plan.rounds below))

-- ---- who heard

any_push : {X : Type 0} (p : X → Bool) (xs : List X) (x : X) → list_any p (xs ++ x ∷ []) ≡ (p x || list_any p xs)
any_push p [] x = refl
any_push p (y ∷ xs) x = ap (λ b. p y || b) (any_push p xs x) ∙ swap (p y) (p x) (list_any p xs)
  where
    swap : (a b d : Bool) → (a || (b || d)) ≡ (b || (a || d))
    swap true true d = refl
    swap true false d = refl
    swap false true d = refl
    swap false false d = refl

meet : (a b d e : Bool) → (a && b && d && e) ≡ (d && (a && b && e))
meet true true true e = refl
meet true true false e = refl
meet true false true e = refl
meet true false false e = refl
meet false b true e = refl
meet false b false e = refl

-- an announcement of the round has one meter
pub same_at : (g r i : ℕ) (tag : Tag) → same_tag (tag_of Announcement g r i) tag ≡ ((tag.meter == i) && is_announcement_in g r tag)
same_at g r i tag = meet (tag.group == g) (tag.round == r) (tag.meter == i) (same_kind tag.kind Announcement)

-- one more announcement of the round
pub heard-more : (g r : ℕ) (heard : List ℕ) (tag : Tag) → is_announcement_in g r tag ≡ true → (tags : List Tag) → IsHeardIn tags g r heard → IsHeardIn (tags ++ tag ∷ []) g r (joined tag.meter heard)
heard-more g r heard tag here tags is i =
    is_member-joined i tag.meter heard
    ∙ ap (λ b. (tag.meter == i) || b) (is i)
    ∙ ap (λ b. b || was_taken tags (tag_of Announcement g r i)) (sym (same_at g r i tag ∙ ap (λ b. (tag.meter == i) && b) here ∙ last (tag.meter == i)))
    ∙ sym (any_push (same_tag (tag_of Announcement g r i)) tags tag)
  where
    last : (q : Bool) → (q && true) ≡ q
    last true = refl
    last false = refl

-- another tag changes nothing
pub heard-same : (g r : ℕ) (heard : List ℕ) (tag : Tag) → is_announcement_in g r tag ≡ false → (tags : List Tag) → IsHeardIn tags g r heard → IsHeardIn (tags ++ tag ∷ []) g r heard
heard-same g r heard tag other tags is i =
    is i
    ∙ ap (λ b. b || was_taken tags (tag_of Announcement g r i)) (sym (same_at g r i tag ∙ ap (λ b. (tag.meter == i) && b) other ∙ last (tag.meter == i)))
    ∙ sym (any_push (same_tag (tag_of Announcement g r i)) tags tag)
  where
    last : (q : Bool) → (q && false) ≡ false
    last true = refl
    last false = refl

-- ---- answers

-- who was told of the missing set is a survivor
pub told_survives : (s : Shape) (g r i : ℕ) (past : List Event) → is_announcement_taken s g r i past ≡ true → is_reading_taken s g r i past ≡ true
told_survives s g r i past h =
    once-gives (λ e before. is_send g r i Announcement e && may_announce s g r i before) (λ q. is_reading_taken s g r i q ≡ true)
    (λ e q t. (and_parts (is_announced s g r q) (is_reading_taken s g r i q) (and_parts (is_send g r i Announcement e) (may_announce s g r i q) t).1).1)
    (λ e q u. once-more _ e q u) past (is_announcement_sent-from_taken s g r i past h)

-- so it has a place, and is not missing
pub told-place : (p : PresenceView) (g r i : ℕ) (past : List Event) → IsPresenceTable p.plan p.table → r < p.plan.rounds → is_announcement_taken (shape_of_presence p) g r i past ≡ true → is_place p.plan g r i ≡ true
told-place p g r i past table in_plan told =
    let present = present-from_taken (shape_of_presence p) g r i past (told_survives (shape_of_presence p) g r i past told) in
    and_from (nat_lt r p.plan.rounds) (nat_lt i (size p.plan.groups g)) (lt-ltb r p.plan.rounds in_plan) (lt-ltb i (size p.plan.groups g) (is_member-below p.plan.groups g r i (table.of_members g r i present)))

pub told-not_missing : (s : Shape) (g r i : ℕ) (past : List Event) → is_announcement_taken s g r i past ≡ true → is_in i (missing s g r past) ≡ false
told-not_missing s g r i past told =
    is_member-filter (λ j. not (is_reading_taken s g r j past)) i (members_of s g r)
    ∙ ap (λ b. is_in i (members_of s g r) && not b) (told_survives s g r i past told)
    ∙ last (is_in i (members_of s g r))
  where
    last : (q : Bool) → (q && false) ≡ false
    last true = refl
    last false = refl

-- the missing meters have places
pub missing-places : (p : PresenceView) (g r : ℕ) (past : List Event) → r < p.plan.rounds → are_places p.plan g r (missing (shape_of_presence p) g r past) ≡ true
missing-places p g r past in_plan =
    filtered (λ i. not (is_reading_taken (shape_of_presence p) g r i past)) (members p.plan.groups g r) (members-are_places p.plan g r in_plan)
  where
    filtered : (q : ℕ → Bool) (xs : List ℕ) → list_all (is_place p.plan g r) xs ≡ true → list_all (is_place p.plan g r) (filter q xs) ≡ true
    filtered q [] all = refl
    filtered q (x ∷ xs) all =
        let both = and_parts (is_place p.plan g r x) (list_all (is_place p.plan g r) xs) all in
        step (q x) both.0 (filtered q xs both.1)
      where
        step : (b : Bool) → is_place p.plan g r x ≡ true → list_all (is_place p.plan g r) (filter q xs) ≡ true → list_all (is_place p.plan g r) (cond b (x ∷ filter q xs) (filter q xs)) ≡ true
        step true here later = and_from (is_place p.plan g r x) (list_all (is_place p.plan g r) (filter q xs)) here later
        step false here later = later

-- ---- the rounds that may answer

flat_split : {X : Type 0} (F : ℕ → List X) (a m k : ℕ) → flat_map F (range_with_len a (m + k)) ≡ flat_map F (range_with_len a m) ++ flat_map F (range_with_len (a + m) k)
flat_split F a zero k =
    let one : a ≡ a + 0 = omega arith in
    ap (λ n. flat_map F (range_with_len a n)) (zero-add k) ∙ ap (λ n. flat_map F (range_with_len n k)) one
flat_split F a (suc m) k =
    let first : suc m + k ≡ suc (m + k) = omega arith in
    let last : a + 1 + m ≡ a + suc m = omega arith in
    ap (λ n. flat_map F (range_with_len a n)) first
    ∙ ap (λ l. F a ++ l) (flat_split F (a + 1) m k)
    ∙ sym (append_assoc (F a) (flat_map F (range_with_len (a + 1) m)) (flat_map F (range_with_len (a + 1 + m) k)))
    ∙ ap (λ n. flat_map F (range_with_len a (suc m)) ++ flat_map F (range_with_len n k)) last

-- one round more
pub flat_more : {X : Type 0} (F : ℕ → List X) (a r : ℕ) → a ≤ r → flat_map F (range_with_len a (r + 1 - a)) ≡ flat_map F (range_with_len a (r - a)) ++ F r
flat_more F a r le =
    let first : r + 1 - a ≡ (r - a) + 1 = omega arith in
    let last : a + (r - a) ≡ r = omega arith in
    ap (λ n. flat_map F (range_with_len a n)) first
    ∙ flat_split F a (r - a) 1
    ∙ ap (λ n. flat_map F (range_with_len a (r - a)) ++ flat_map F (range_with_len n 1)) last
    ∙ ap (λ l. flat_map F (range_with_len a (r - a)) ++ l) (append-nil (F r))

-- no other rounds give anything
pub flat_window : {X : Type 0} (F : ℕ → List X) (a b n : ℕ) → a ≤ b → b ≤ n → ((r : ℕ) → r < n → (b ≤ r) ⊎ (r < a) → F r ≡ []) → flat_map F (range_with_len a (b - a)) ≡ flat_map F (range_with_len 0 n)
flat_window F a b n le within none =
    let parts : n ≡ a + ((b - a) + (n - b)) = omega arith in
    sym (ap (λ k. flat_map F (range_with_len 0 k)) parts
    ∙ flat_split F 0 a ((b - a) + (n - b))
    ∙ ap (λ l. l ++ flat_map F (range_with_len (0 + a) ((b - a) + (n - b)))) (flat_none F 0 a (λ r _ below. none r (omega arith) (inr (omega arith))))
    ∙ flat_split F (0 + a) (b - a) (n - b)
    ∙ ap (λ l. flat_map F (range_with_len (0 + a) (b - a)) ++ l) (flat_none F (0 + a + (b - a)) (n - b) (λ r above below. none r (omega arith) (inl (omega arith))))
    ∙ append-nil (flat_map F (range_with_len (0 + a) (b - a)))
    ∙ ap (λ k. flat_map F (range_with_len k (b - a))) (zero-add a))

-- one round more, from the first
pub flat_next : {X : Type 0} (F : ℕ → List X) (n : ℕ) → flat_map F (range_with_len 0 (n + 1)) ≡ flat_map F (range_with_len 0 n) ++ F n
flat_next F n = flat_split F 0 n 1 ∙ ap (λ k. flat_map F (range_with_len 0 n) ++ flat_map F (range_with_len k 1)) (zero-add n) ∙ ap (λ l. flat_map F (range_with_len 0 n) ++ l) (append-nil (F n))
