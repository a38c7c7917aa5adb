-- The frames that came to the meters, and their answers.
use Rattle.std.proofs.Common.{◌≡◌, ℕ, ◌+◌, ◌-◌, ◌<◌, ◌≤◌, Bool, true, false, cond, ◌||◌, List, [], ◌∷◌, map, refl, sym, ap, ◌∙◌, subst, arith, min, ⊎_elim}
use mathlib.Core.Path.{fun_ext}
use Rattle.std.specs.List.{filter, flat_map, range_with_len, All}
use Rattle.std.proofs.lemmas.Bool.{false≢true, false_from_ne_true}
use Rattle.std.proofs.lemmas.List.Elements.{All-head, All-tail, All-nil, All-cons}
use Rattle.missing_round.specs.Masks.{Masks}
use Rattle.missing_round.specs.Sets.{is_member as is_in}
use Rattle.group_plan.specs.Plans.{PlanView, Group, members}
use Rattle.group_plan.specs.Tables.{PresenceView, IsPresenceTable}
use Rattle.group_plan.specs.declared.Kind.TheVariants.{Announcement}
use Rattle.group_plan.specs.declared.Tag.{Tag}
use Rattle.meter_frames.specs.declared.Frame.{Frame}
use Rattle.event_schedule.specs.declared.Event.{Event}
use Rattle.event_schedule.specs.declared.Event.TheVariants.{Send}
use Rattle.event_schedule.specs.Schedule.{Shape, shape_of_presence, missing}
use Rattle.event_schedule.proofs.EventLemmas.{is_send-true}
use Rattle.run_rows.specs.Ticks.{Clock, clock_of, tag_of}
use Rattle.plan_meters.specs.Came.{same_tag, tags_of}
use Rattle.plan_meters.specs.TickFrames.{was_taken, announced_set, answer_to, answers_to, CanAnswer, AreAnswerable, AreHeard, IsHeardIn}
use Rattle.plan_meters.specs.Meters.{is_announcement, HasSet}
use Rattle.plan_meters.proofs.GroupLemmas.{told-place, told-not_missing, missing-places, flat_window}

pub same-tag : (z x : Tag) → same_tag z x ≡ true → x ≡ z
same-tag z x is = let same : Send x ≡ Send z = is_send-true z.group z.round z.meter z.kind (Send x) is in cc same

-- ---- some of what came

differs : (q : Tag → Bool) (z x : Tag) → q z ≡ true → q x ≡ false → same_tag z x ≡ false
differs q z x holds fails = false_from_ne_true (same_tag z x) (λ is. false≢true (sym fails ∙ ap q (same-tag z x is) ∙ holds))

-- a tag that passes a test is among the frames that pass it
pub taken-filter : (q : Tag → Bool) (z : Tag) → q z ≡ true → (came : List Frame) → was_taken (tags_of (filter (λ f. q f.tag) came)) z ≡ was_taken (tags_of came) z
taken-filter q z holds [] = refl
taken-filter q z holds (f ∷ came) = step (q f.tag) refl (taken-filter q z holds came)
  where
    step : (b : Bool) → q f.tag ≡ b → was_taken (tags_of (filter (λ x. q x.tag) came)) z ≡ was_taken (tags_of came) z
        → was_taken (tags_of (cond b (f ∷ filter (λ x. q x.tag) came) (filter (λ x. q x.tag) came))) z ≡ was_taken (tags_of (f ∷ came)) z
    step true is later = ap (λ b. same_tag z f.tag || b) later
    step false is later = later ∙ sym (ap (λ b. b || was_taken (tags_of came) z) (differs q z f.tag holds is))

-- and has the same set there
pub set-filter : (q : Tag → Bool) (z : Tag) → q z ≡ true → (came : List Frame) → announced_set (filter (λ f. q f.tag) came) z ≡ announced_set came z
set-filter q z holds [] = refl
set-filter q z holds (f ∷ came) = step (q f.tag) refl (set-filter q z holds came)
  where
    step : (b : Bool) → q f.tag ≡ b → announced_set (filter (λ x. q x.tag) came) z ≡ announced_set came z
        → announced_set (cond b (f ∷ filter (λ x. q x.tag) came) (filter (λ x. q x.tag) came)) z ≡ announced_set (f ∷ came) z
    step true is later = ap (λ l. cond (same_tag z f.tag) f.missing l) later
    step false is later = later ∙ sym (ap (λ b. cond b f.missing (announced_set came z)) (differs q z f.tag holds is))

pub all-filter : {X : Type 0} (P : X → Type 0) (q : X → Bool) (xs : List X) → All P xs → All P (filter q xs)
all-filter P q [] all = All-nil P
all-filter P q (x ∷ xs) all = step (q x) (all-filter P q xs (All-tail P x xs all))
  where
    step : (b : Bool) → All P (filter q xs) → All P (cond b (x ∷ filter q xs) (filter q xs))
    step true later = All-cons P x (filter q xs) (All-head P x xs all) later
    step false later = later

-- the announcements among what came are heard
pub heard-filter : (s : Shape) (c : Clock) (past : List Event) (t : ℕ) (came : List Frame) → AreHeard s c past t (tags_of came) → AreHeard s c past t (tags_of (filter (λ f. is_announcement f.tag) came))
heard-filter s c past t came heard =
    let same : (g r i : ℕ) → was_taken (tags_of (filter (λ f. is_announcement f.tag) came)) (tag_of Announcement g r i) ≡ was_taken (tags_of came) (tag_of Announcement g r i)
    = λ g r i. taken-filter is_announcement (tag_of Announcement g r i) refl came in
    record {
      effect = λ g r i told. heard.effect g r i (sym (same g r i) ∙ told);
      round = λ g r i told. heard.round g r i (sym (same g r i) ∙ told);
      early = λ g r i told. heard.early g r i (sym (same g r i) ∙ told);
      late = λ g r i told. heard.late g r i (sym (same g r i) ∙ told);
    }

-- ---- the set that came

-- is the missing one
pub set-is : (P : Tag → List ℕ) (z : Tag) → is_announcement z ≡ true → (came : List Frame) → All (λ f. is_announcement f.tag ≡ true → f.missing ≡ P f.tag) came
    → was_taken (tags_of came) z ≡ true → announced_set came z ≡ P z
set-is P z kind [] all taken = absurd (false≢true taken)
set-is P z kind (f ∷ came) all taken =
    step (same_tag z f.tag) refl taken (set-is P z kind came (All-tail (λ f. is_announcement f.tag ≡ true → f.missing ≡ P f.tag) f came all))
  where
    step : (b : Bool) → same_tag z f.tag ≡ b → (b || was_taken (tags_of came) z) ≡ true → (was_taken (tags_of came) z ≡ true → announced_set came z ≡ P z)
        → cond b f.missing (announced_set came z) ≡ P z
    step true is here later =
        let same : f.tag ≡ z = same-tag z f.tag is in
        All-head (λ f. is_announcement f.tag ≡ true → f.missing ≡ P f.tag) f came all (ap is_announcement same ∙ kind) ∙ ap P same
    step false is here later = later here

-- so each announcement can be answered
pub answerable : (p : PresenceView) (past : List Event) (t : ℕ) (came : List Frame) → IsPresenceTable p.plan p.table → AreHeard (shape_of_presence p) (clock_of p.plan) past t (tags_of came)
    → All (HasSet (shape_of_presence p) past) came → AreAnswerable p.plan t came
answerable p past t came table heard sets =
    let s : Shape = shape_of_presence p in
    record {
      can = λ g r i told.
          let taken = heard.effect g r i told in
          let in_plan = heard.round g r i told in
          subst (CanAnswer p.plan g r i) (sym (set-is (λ z. missing s z.group z.round past) (tag_of Announcement g r i) refl came sets told)) (record {
            place = told-place p g r i past table in_plan taken;
            places = missing-places p g r past in_plan;
            other = told-not_missing s g r i past taken;
          });
      round = heard.round;
      early = heard.early;
      late = heard.late;
    }

-- ---- the answers of a group

-- the answers of those that heard
pub answers-heard : (groups : List Group) (m : Masks) (came : List Frame) (g r : ℕ) (heard ms : List ℕ) → IsHeardIn (tags_of came) g r heard → ms ≡ members groups g r
    → map (answer_to m came g r) (filter (λ i. is_in i heard) ms) ≡ answers_to groups m came g r
answers-heard groups m came g r heard ms is are =
    ap (λ l. map (answer_to m came g r) (filter (λ i. is_in i heard) l)) are
    ∙ ap (λ f. map (answer_to m came g r) (filter f (members groups g r))) (fun_ext is)

-- no one heard in these rounds
pub answers-silent : (groups : List Group) (m : Masks) (came : List Frame) (g r : ℕ) → ((i : ℕ) → was_taken (tags_of came) (tag_of Announcement g r i) ≡ true → ⊥) → answers_to groups m came g r ≡ []
answers-silent groups m came g r none =
    ap (λ f. map (answer_to m came g r) (filter f (members groups g r))) (fun_ext (λ i. false_from_ne_true (was_taken (tags_of came) (tag_of Announcement g r i)) (none i)))
    ∙ ap (map (answer_to m came g r)) (off (members groups g r))
  where
    off : (xs : List ℕ) → filter (λ x. false) xs ≡ []
    off [] = refl
    off (x ∷ xs) = off xs

-- the window of the rounds that may answer
pub answers-window : (plan : PlanView) (m : Masks) (came : List Frame) (t g first until : ℕ) → AreAnswerable plan t came → until ≡ min (t - plan.w1) plan.rounds → first ≡ min (t - plan.w1 - 16) until
    → flat_map (answers_to plan.groups m came g) (range_with_len first (until - first)) ≡ flat_map (answers_to plan.groups m came g) (range_with_len 0 plan.rounds)
answers-window plan m came t g first until can ends starts =
    flat_window (answers_to plan.groups m came g) first until plan.rounds (omega arith) (omega arith)
    (λ r r_in outside. answers-silent plan.groups m came g r (λ i told.
    let early : r + plan.w1 < t = can.early g r i told in
    let late : t ≤ r + plan.w1 + 16 = can.late g r i told in
    ⊎_elim (λ above. omega arith) (λ below. omega arith) outside))

-- no announcement of a round before all that came is among them
pub none-older : (k g r i : ℕ) (came : List Frame) → All (λ f. k ≤ f.tag.round) came → r < k → was_taken (tags_of came) (tag_of Announcement g r i) ≡ true → ⊥
none-older k g r i [] all older taken = false≢true taken
none-older k g r i (f ∷ came) all older taken =
    step (same_tag (tag_of Announcement g r i) f.tag) refl taken (none-older k g r i came (All-tail (λ f. k ≤ f.tag.round) f came all) older)
  where
    step : (b : Bool) → same_tag (tag_of Announcement g r i) f.tag ≡ b → (b || was_taken (tags_of came) (tag_of Announcement g r i)) ≡ true
        → (was_taken (tags_of came) (tag_of Announcement g r i) ≡ true → ⊥) → ⊥
    step true is here later =
        let at : f.tag.round ≡ r = ap (λ (t : Tag). t.round) (same-tag (tag_of Announcement g r i) f.tag is) in
        let le : k ≤ f.tag.round = All-head (λ f. k ≤ f.tag.round) f came all in
        absurd (omega arith)
    step false is here later = later here
