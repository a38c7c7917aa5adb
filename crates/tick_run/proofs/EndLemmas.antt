-- After the last tick: nothing is on its way, and nothing is due.
use Rattle.std.proofs.Common.{◌≡◌, ℕ, ◌+◌, ◌<◌, ◌≤◌, Bool, true, false, cond, ◌&&◌, List, [], ◌∷◌, ◌++◌, refl, ap, ◌∙◌, subst, arith, ⊎_elim}
use Rattle.std.specs.Prelude.{◌==◌, nat_lt, if◌then◌else◌}
use mathlib.Core.Path.{fun_ext}
use Rattle.std.specs.List.{sum_by, count_by, filter, flat_map, range_with_len, All}
use Rattle.std.proofs.lemmas.Bool.{ne_eqb, cases_lt}
use Rattle.std.proofs.lemmas.Bool.Decides.{nat_tests}
use Rattle.std.proofs.lemmas.List.Elements.{All-weaker}
use Rattle.group_plan.specs.declared.Kind.{Kind}
use Rattle.group_plan.specs.declared.Kind.TheVariants.{Reading, Announcement, Answer}
use Rattle.group_plan.specs.declared.Tag.{Tag}
use Rattle.event_schedule.specs.declared.Entry.{Entry}
use Rattle.event_schedule.specs.Events.{is_send, event_of}
use Rattle.event_schedule.specs.Schedule.{Shape, is_announced, survivors, members_of}
use Rattle.event_schedule.proofs.EventLemmas.{is_send-true}
use Rattle.event_schedule.proofs.ListLemmas.{flat_map_same}
use Rattle.run_rows.specs.Ticks.{Clock, last_tick, tag_of, tags, takes_at, copies, due_of, HaveDelays}
use Rattle.run_rows.proofs.TickLemmas.{Member}
use Rattle.run_rows.proofs.TickRun.{all_member}
use Rattle.run_rows.proofs.FateLemmas.{all_from_member}
use Rattle.tick_run.specs.Progress.{IsDelay, latest, IsTimely, IsInTime, past_of_entries, RunsTo}
use Rattle.tick_run.proofs.BatchLemmas.{sum_none}
use Rattle.tick_run.proofs.StepLemmas.{from_copies}
use Rattle.tick_run.proofs.SendLemmas.{count_none}

-- no copy comes later than the longest delay after the last tick of its frame
pub no_copies : (tag : Tag) (u : ℕ) (xs : List Entry) → All (λ e. All IsDelay e.fate) xs
    → ((e : Entry) → Member e xs → is_send tag.group tag.round tag.meter tag.kind (event_of e.line) ≡ true → e.tick + 16 < u)
    → sum_by (copies tag u) xs ≡ 0
no_copies tag u xs delays early =
    sum_none (copies tag u) xs (all_from_member (λ e. copies tag u e ≡ 0) xs (λ e at.
    none e (is_send tag.group tag.round tag.meter tag.kind (event_of e.line)) (early e at) (all_member (λ e. All IsDelay e.fate) xs delays e at)))
  where
    none : (e : Entry) (b : Bool) → (b ≡ true → e.tick + 16 < u) → All IsDelay e.fate → cond b (count_by (λ d. e.tick + d == u) e.fate) 0 ≡ 0
    none e false past all = refl
    none e true past all = let lt : e.tick + 16 < u = past refl in count_none e.tick u e.fate (λ d is sum. omega arith) all

-- what is known of the Sends of a tag
pub in_time_of : (s : Shape) (c : Clock) (xs : List Entry) → All (λ e. IsInTime s c e.tick (event_of e.line)) xs → (tag : Tag) (e : Entry) → Member e xs
    → is_send tag.group tag.round tag.meter tag.kind (event_of e.line) ≡ true → IsTimely s c e.tick tag
in_time_of s c xs all tag e at is =
    subst (IsInTime s c e.tick) (is_send-true tag.group tag.round tag.meter tag.kind (event_of e.line) is) (all_member (λ e. IsInTime s c e.tick (event_of e.line)) xs all e at)

latest_is : (c : Clock) (k : Kind) (r : ℕ) → latest c k r ≤ r + c.w1 + 16
latest_is c Reading r = omega arith
latest_is c Announcement r = omega arith
latest_is c Answer r = omega arith

-- an announcement that is taken at a tick is of a round of the plan, closed not more than the longest delay before
pub announcement_round : (s : Shape) (c : Clock) (these : List ℕ) (m a b d : ℕ) (xs : List Entry) → RunsTo s c these m a b d xs → (g r i t : ℕ)
    → t < a → 0 < takes_at xs (tag_of Announcement g r i) t → (r < c.rounds) × (t ≤ r + c.w1 + 16)
announcement_round s c these m a b d xs run g r i t below pos =
    let tag : Tag = tag_of Announcement g r i in
    let some : 0 < sum_by (copies tag t) xs = omega (arith, pos, run.taken tag t below) in (
      from_copies (r < c.rounds) tag t xs (λ e at is. (in_time_of s c xs run.in_time tag e at is).round) some,
      ⊎_elim
          (λ late. absurd (omega (arith, some, no_copies tag t xs run.delays (λ e at is. let le : e.tick ≤ r + c.w1 = (in_time_of s c xs run.in_time tag e at is).to in omega arith))))
          (λ le. le)
          (cases_lt (r + c.w1 + 16) t),
    )

-- nor sooner than the round is closed
pub announcement_later : (s : Shape) (c : Clock) (these : List ℕ) (m a b d : ℕ) (xs : List Entry) → RunsTo s c these m a b d xs → (g r i t : ℕ)
    → t < a → 0 < takes_at xs (tag_of Announcement g r i) t → r + c.w1 < t
announcement_later s c these m a b d xs run g r i t below pos =
    let tag : Tag = tag_of Announcement g r i in
    let some : 0 < sum_by (copies tag t) xs = omega (arith, pos, run.taken tag t below) in
    ⊎_elim
    (λ later. later)
    (λ sooner. absurd (omega (
      arith,
      some,
      sum_none (copies tag t) xs (all_from_member (λ e. copies tag t e ≡ 0) xs (λ e at.
          none e sooner (is_send g r i Announcement (event_of e.line)) (λ is. (in_time_of s c xs run.in_time tag e at is).from) (all_member (λ e. All IsDelay e.fate) xs run.delays e at))),
    )))
    (cases_lt (r + c.w1) t)
  where
    none : (e : Entry) → t ≤ r + c.w1 → (q : Bool) → (q ≡ true → r + c.w1 ≤ e.tick) → All IsDelay e.fate → cond q (count_by (λ z. e.tick + z == t) e.fate) 0 ≡ 0
    none e sooner false from all = refl
    none e sooner true from all = let ge : r + c.w1 ≤ e.tick = from refl in count_none e.tick t e.fate (λ z is sum. omega arith) all

-- nothing comes after the last tick
pub no_copies_late : (s : Shape) (c : Clock) (these : List ℕ) (m a b d : ℕ) (xs : List Entry) → RunsTo s c these m a b d xs → (tag : Tag) (u : ℕ) → last_tick c < u → sum_by (copies tag u) xs ≡ 0
no_copies_late s c these m a b d xs run tag u late =
    no_copies tag u xs run.delays (λ e at is.
    let known = in_time_of s c xs run.in_time tag e at is in
    let r_in : tag.round < c.rounds = known.round in
    let le : e.tick ≤ latest c tag.kind tag.round = known.to in
    let ge = latest_is c tag.kind tag.round in
    omega arith)

-- ---- what is due after the last tick

nothing : {X Y : Type 0} (xs : List X) → flat_map {A = Y} (λ x. []) xs ≡ []
nothing [] = refl
nothing (x ∷ xs) = nothing xs

filter_off : {X : Type 0} (xs : List X) → filter (λ x. false) xs ≡ []
filter_off [] = refl
filter_off (x ∷ xs) = filter_off xs

not_below : (a b : ℕ) → b ≤ a → nat_lt a b ≡ false
not_below a b h = grind (arith, nat_tests)

pub nothing_due : (s : Shape) (c : Clock) (xs : List Entry) (u : ℕ) → c.rounds + c.w1 ≤ u → ((tag : Tag) → takes_at xs tag u ≡ 0) → (g : ℕ) → due_of s c xs u g ≡ []
nothing_due s c xs u late none g =
    let rounds : List ℕ = range_with_len 0 c.rounds in
    let announced : ℕ → List Tag = λ r. if (r + c.w1 == u) && is_announced s g r (past_of_entries xs) then tags Announcement g r (survivors s g r (past_of_entries xs)) else [] in
    let answers : ℕ → List Tag = λ r. tags Answer g r (filter (λ i. nat_lt 0 (takes_at xs (tag_of Announcement g r i) u)) (members_of s g r)) in
    let no_announced : flat_map announced rounds ≡ []
    = flat_map_same c.rounds 0 announced (λ r. []) (λ r _ r_in. ap (λ b. cond (b && is_announced s g r (past_of_entries xs)) (tags Announcement g r (survivors s g r (past_of_entries xs))) []) (ne_eqb (r + c.w1) u (λ e. omega arith)))
    ∙ nothing rounds in
    let no_answers : flat_map answers rounds ≡ []
    = ap (λ f. flat_map f rounds) (fun_ext (λ r. ap (λ f. tags Answer g r (filter f (members_of s g r))) (fun_ext (λ i. ap (nat_lt 0) (none (tag_of Announcement g r i)))) ∙ ap (tags Answer g r) (filter_off (members_of s g r))))
    ∙ nothing rounds in
    ap (λ b. (tags Reading g u (cond b (filter (λ i. s.present g u i) (members_of s g u)) []) ++ flat_map announced rounds) ++ flat_map answers rounds) (not_below u c.rounds (omega arith))
    ∙ ap (λ l. l ++ flat_map answers rounds) no_announced
    ∙ no_answers

-- ---- the whole run

pub when_in_plan : (p q : Bool) → (p ≡ true → q ≡ true) → (p && q) ≡ p
when_in_plan true q h = h refl
when_in_plan false q h = refl

pub have_delays : (s : Shape) (c : Clock) (these : List ℕ) (m a b d : ℕ) (xs : List Entry) → RunsTo s c these m a b d xs → HaveDelays xs
have_delays s c these m a b d xs run =
    All-weaker (λ e. All IsDelay e.fate) (λ e. All (λ d. 0 < d) e.fate) (λ e all. All-weaker IsDelay (λ d. 0 < d) (λ d is. is.0) e.fate all) xs run.delays
