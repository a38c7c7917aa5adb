-- The meters of a group, through a tick.
use Rattle.std.proofs.Common.{◌≡◌, ℕ, ◌+◌, ◌<◌, ◌≤◌, Bool, true, false, ◌&&◌, List, [], ◌∷◌, zero, suc, length, get_or, refl, sym, ap, ◌∙◌, subst, arith, zero-add, ⊎_elim, Some}
use Rattle.std.specs.Prelude.{◌==◌, nat_lt, slice_set}
use Rattle.std.specs.List.{list_any, All}
use Rattle.std.proofs.lemmas.Bool.{false≢true, and_from, and_parts, ltb-true, cases_eq, eq-eqb, or_left, or_right}
use Rattle.std.proofs.lemmas.List.{get_or-set_same, get_or-set_other, get_or-map, length-map}
use Rattle.missing_round.specs.Sets.{is_member as is_in}
use Rattle.missing_round.proofs.SetLemmas.{is_member-picked}
use Rattle.group_plan.specs.Plans.{PlanView, size, is_member, members}
use Rattle.group_plan.specs.Tables.{PresenceView}
use Rattle.group_plan.specs.declared.Kind.TheVariants.{Announcement}
use Rattle.group_plan.specs.declared.Tag.{Tag}
use Rattle.meter_core.specs.Meters.{MeterView, marked, kept_set, Hears}
use Rattle.meter_core.specs.declared.Heard.{Heard}
use Rattle.event_schedule.specs.Events.{same_kind}
use Rattle.run_rows.specs.Ticks.{clock_of, tag_of}
use Rattle.event_schedule.specs.declared.Event.{Event}
use Rattle.event_schedule.specs.Schedule.{shape_of_presence, members_of, missing, is_announcement_taken}
use Rattle.meter_frames.specs.declared.Frame.{Frame}
use Rattle.plan_meters.specs.Came.{same_tag, tags_of}
use Rattle.plan_meters.specs.TickFrames.{was_taken, AreHeard}
use Rattle.plan_meters.specs.Meters.{IsMeterOf, AreOfGroup, is_answer, is_announcement, HasSet, IsTold, AreTold}
use Rattle.plan_meters.specs.GroupMeters.{AreGroupMeters, KeepsSet}
use Rattle.plan_meters.proofs.RangeLemmas.{range_long, range_item, range_weaker, range_set, Upto, upto-at, upto-more, upto-pass}
use Rattle.plan_meters.proofs.MeterLemmas.{read-marked, read-none, heard-is, kept-now, kept-still}
use Rattle.plan_meters.proofs.GroupLemmas.{told-place}

-- ---- a round that is read

-- a member that is there is in the set of members
pub member-in : (plan : PlanView) (g r i : ℕ) → i < size plan.groups g → is_member plan.groups g r i ≡ true → is_in i (members plan.groups g r) ≡ true
member-in plan g r i below is = is_member-picked (is_member plan.groups g r) 0 (size plan.groups g) i (omega arith) (omega arith) ∙ is

-- the meters of a group, once one more is marked
pub group-marked : (p : PresenceView) (past : List Event) (t g k : ℕ) (meters : List MeterView) (meter after : MeterView) (set : List ℕ) → t < p.plan.rounds → (shape_of_presence p).present g t k ≡ true → set ≡ members_of (shape_of_presence p) g t
    → meter ≡ get_or meters k meter → k < length meters → after ≡ marked (get_or meters k meter) t set → Upto (λ u. IsMeterOf p past u g) t k (size p.plan.groups g) meters
    → Upto (λ u. IsMeterOf p past u g) t (k + 1) (size p.plan.groups g) (slice_set meters k after)
group-marked p past t g k meters meter after set in_plan present members is lt mark so_far =
    let was : IsMeterOf p past t g k meter = upto-at (λ u. IsMeterOf p past u g) t k (size p.plan.groups g) meters meter is lt so_far in
    let now : after ≡ marked meter t (members_of (shape_of_presence p) g t) = mark ∙ ap (λ m. marked m t set) (sym is) ∙ ap (marked meter t) members in
    upto-more (λ u. IsMeterOf p past u g) t k (size p.plan.groups g) meters after (subst (IsMeterOf p past (t + 1) g k) (sym now) (read-marked (shape_of_presence p) p.plan.rounds t past g k meter in_plan present was)) so_far

-- one more has nothing to read
pub group-passed : (p : PresenceView) (past : List Event) (t g k : ℕ) (meters : List MeterView) → (shape_of_presence p).present g t k ≡ false → Upto (λ u. IsMeterOf p past u g) t k (size p.plan.groups g) meters
    → Upto (λ u. IsMeterOf p past u g) t (k + 1) (size p.plan.groups g) meters
group-passed p past t g k meters absent so_far =
    upto-pass (λ u. IsMeterOf p past u g) t k (size p.plan.groups g) meters (λ m is. read-none (shape_of_presence p) p.plan.rounds t past g k m (λ _ present. false≢true (sym absent ∙ present)) is) so_far

-- in no round there is nothing to read
pub own-over : (p : PresenceView) (past : List Event) (t g : ℕ) (meters : List MeterView) → p.plan.rounds ≤ t → AreOfGroup p past t g meters → AreOfGroup p past (t + 1) g meters
own-over p past t g meters over are =
    range_weaker (IsMeterOf p past t g) (IsMeterOf p past (t + 1) g) 0 (size p.plan.groups g) meters
    (λ i meter _ _ is. read-none (shape_of_presence p) p.plan.rounds t past g i meter (λ below _. omega arith) is) are

-- ---- the announcements that came

any_at : {X : Type 0} (p : X → Bool) (xs : List X) (k : ℕ) (d : X) → k < length xs → p (get_or xs k d) ≡ true → list_any p xs ≡ true
any_at p [] k d lt passes = absurd (omega arith)
any_at p (x ∷ xs) zero d lt passes = or_left (p x) (list_any p xs) passes
any_at p (x ∷ xs) (suc k) d lt passes = or_right (p x) (list_any p xs) (any_at p xs k d (omega arith) passes)

-- an announcement is one of its round
same_own : (tag : Tag) → is_announcement tag ≡ true → same_tag (tag_of Announcement tag.group tag.round tag.meter) tag ≡ true
same_own tag is =
    and_from ((tag.group == tag.group) && (tag.round == tag.round) && (tag.meter == tag.meter)) (same_kind tag.kind Announcement)
    (and_from ((tag.group == tag.group) && (tag.round == tag.round)) (tag.meter == tag.meter)
    (and_from (tag.group == tag.group) (tag.round == tag.round) (eq-eqb tag.group tag.group refl) (eq-eqb tag.round tag.round refl)) (eq-eqb tag.meter tag.meter refl)) is

-- each was told, where its tag is heard and its set is the missing one
pub are-told : (p : PresenceView) (past : List Event) (t : ℕ) (came : List Frame) → AreHeard (shape_of_presence p) (clock_of p.plan) past t (tags_of came) → All (HasSet (shape_of_presence p) past) came → AreTold p past (t + 1) came
are-told p past t came heard sets k d lt is =
    let f : Frame = get_or came k d in
    let tag : Tag = f.tag in
    let taken : was_taken (tags_of came) (tag_of Announcement tag.group tag.round tag.meter) ≡ true
    = any_at (same_tag (tag_of Announcement tag.group tag.round tag.meter)) (tags_of came) k tag (omega (arith, lt, length-map came (λ (x : Frame). x.tag)))
    (ap (same_tag (tag_of Announcement tag.group tag.round tag.meter)) (get_or-map (λ (x : Frame). x.tag) came k d tag lt) ∙ same_own tag is) in
    record {
      taken = heard.effect tag.group tag.round tag.meter taken;
      round = heard.round tag.group tag.round tag.meter taken;
      early = let early = heard.early tag.group tag.round tag.meter taken in omega arith;
      set = sets k d lt is;
    }

-- ---- hearing

pub own-meter : (p : PresenceView) (past : List Event) (t : ℕ) (meters : List MeterView) (f : Frame) → AreGroupMeters p past t f.tag.group meters → IsTold p past t f → f.tag.meter < length meters
own-meter p past t meters f are told =
    let plan : PlanView = p.plan in
    let tag : Tag = f.tag in
    let below : tag.meter < size plan.groups tag.group
    = ltb-true tag.meter (size plan.groups tag.group) (and_parts (nat_lt tag.round plan.rounds) (nat_lt tag.meter (size plan.groups tag.group)) (told-place p tag.group tag.round tag.meter past are.table told.round told.taken)).1 in
    omega (arith, below, range_long (IsMeterOf p past t tag.group) 0 (size plan.groups tag.group) meters are.are)

pub own-meter-at : (p : PresenceView) (past : List Event) (t g i : ℕ) (meters : List MeterView) (meter : MeterView) → AreGroupMeters p past t g meters → i < length meters → meter ≡ get_or meters i meter → IsMeterOf p past t g i meter
own-meter-at p past t g i meters meter are lt here = range_item (IsMeterOf p past t g) (size p.plan.groups g) i meters meter here lt are.are

-- once one meter has heard of an announced set
pub heard-own : (p : PresenceView) (past : List Event) (t g i r : ℕ) (meters : List MeterView) (meter after : MeterView) (said : Heard) → AreGroupMeters p past t g meters → i < length meters → meter ≡ get_or meters i meter
    → is_announcement_taken (shape_of_presence p) g r i past ≡ true → Hears meter r (missing (shape_of_presence p) g r past) said after → AreGroupMeters p past t g (slice_set meters i after)
heard-own p past t g i r meters meter after said are lt here told hears =
    let new : IsMeterOf p past t g i after = heard-is (shape_of_presence p) p.plan.rounds t past g r i meter after said (own-meter-at p past t g i meters meter are lt here) told hears in
    record {
      table = are.table;
      are = range_set (IsMeterOf p past t g) (IsMeterOf p past t g) 0 (size p.plan.groups g) i meters after (λ j z _ h. h) (subst (λ j. IsMeterOf p past t g j after) (sym (zero-add i)) new) are.are;
    }

pub heard-own_now : (meters : List MeterView) (f : Frame) (meter after : MeterView) (said : Heard) → f.tag.meter < length meters → Hears meter f.tag.round f.missing said after → is_answer said ≡ true
    → KeepsSet (slice_set meters f.tag.meter after) f
heard-own_now meters f meter after said lt hears answers d =
    ap (λ x. kept_set x f.tag.round) (get_or-set_same meters f.tag.meter after d lt) ∙ kept-now meter after f.tag.round f.missing said hears answers

pub heard-own_still : (meters : List MeterView) (f o : Frame) (meter after : MeterView) (said : Heard) → f.tag.meter < length meters → meter ≡ get_or meters f.tag.meter meter
    → Hears meter f.tag.round f.missing said after → KeepsSet meters o → KeepsSet (slice_set meters f.tag.meter after) o
heard-own_still meters f o meter after said lt here hears kept d = ⊎_elim same elsewhere (cases_eq o.tag.meter f.tag.meter)
  where
    elsewhere : (o.tag.meter ≡ f.tag.meter → ⊥) → kept_set (get_or (slice_set meters f.tag.meter after) o.tag.meter d) o.tag.round ≡ Some o.missing
    elsewhere ne = ap (λ x. kept_set x o.tag.round) (get_or-set_other meters f.tag.meter o.tag.meter after d ne) ∙ kept d

    same : o.tag.meter ≡ f.tag.meter → kept_set (get_or (slice_set meters f.tag.meter after) o.tag.meter d) o.tag.round ≡ Some o.missing
    same e =
        ap (λ i. kept_set (get_or (slice_set meters f.tag.meter after) i d) o.tag.round) e
        ∙ ap (λ x. kept_set x o.tag.round) (get_or-set_same meters f.tag.meter after d lt)
        ∙ kept-still meter after f.tag.round o.tag.round f.missing o.missing said hears (ap (λ x. kept_set x o.tag.round) (here ∙ ap (λ i. get_or meters i meter) (sym e)) ∙ kept meter)
