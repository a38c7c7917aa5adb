-- How a run goes on: the Takes of a tick, its Closes and Ends, and one Send.
use Rattle.std.proofs.Common.{◌≡◌, ℕ, ◌+◌, ◌*◌, ◌<◌, ◌≤◌, Bool, true, false, cond, ◌&&◌, List, [], ◌∷◌, ◌++◌, refl, sym, ap, ◌∙◌, subst, append-nil, zero-add, arith, ⊎_elim, inl, inr}
use Rattle.std.specs.Prelude.{◌==◌, nat_lt, if◌then◌else◌}
use Rattle.std.specs.List.{sum_by, count_by, flat_map, list_any, All}
use Rattle.std.proofs.lemmas.Bool.{and_from, lt-ltb, cases_lt, cases_eq}
use Rattle.std.proofs.lemmas.List.Elements.{All-head, All-tail, All-weaker, All-nil, All-cons, All-append}
use Rattle.std.proofs.lemmas.List.Sums.{sum_by-cons, sum_by-append}
use Rattle.group_plan.specs.declared.Kind.TheVariants.{Announcement}
use Rattle.group_plan.specs.declared.Tag.{Tag}
use Rattle.event_schedule.specs.declared.Event.{Event}
use Rattle.event_schedule.specs.declared.Event.TheVariants.{Send, Take, Close, End}
use Rattle.event_schedule.specs.declared.Entry.{Entry}
use Rattle.event_schedule.specs.Events.{is_take, is_send, is_close, is_end, event_of}
use Rattle.event_schedule.specs.Schedule.{Shape, is_closed, is_sent, is_announcement_taken}
use Rattle.event_schedule.proofs.EventLemmas.{is_send-true}
use Rattle.run_rows.specs.Ticks.{Clock, phase, moment, tag_of, takes_at, copies, tags_of, sent_at, due_of}
use Rattle.run_rows.proofs.TickLemmas.{Member, Stands, once-from}
use Rattle.run_rows.proofs.TickRun.{once_stands, events-reverse, all_member}
use Rattle.tick_run.specs.Progress.{IsDelay, IsInTime, HadEffect, past_of_entries, is_round_of, RunsTo, IsBatch}
use Rattle.tick_run.proofs.OrderLemmas.{ordered-append}
use Rattle.tick_run.proofs.PastLemmas.{had_effect-append, taken-append, heard-append, takes-append, due-stays}
use Rattle.tick_run.proofs.BatchLemmas.{AreSilent, silent-batch, no_close, no_end, sent-silent, copies-silent, takes-other, takes-none, takes-all, sent-append, stands-none, stands-due}

-- ---- what a run so far gives

-- a Send of which copies are to come
pub from_copies : (P : Type 0) (tag : Tag) (u : ℕ) (xs : List Entry) → ((e : Entry) → Member e xs → is_send tag.group tag.round tag.meter tag.kind (event_of e.line) ≡ true → P)
    → 0 < sum_by (copies tag u) xs → P
from_copies P tag u [] each pos = absurd (omega arith)
from_copies P tag u (x ∷ xs) each pos =
    step (is_send tag.group tag.round tag.meter tag.kind (event_of x.line)) refl (from_copies P tag u xs (λ e at. each e (inr at)))
  where
    step : (b : Bool) → is_send tag.group tag.round tag.meter tag.kind (event_of x.line) ≡ b → (0 < sum_by (copies tag u) xs → P) → P
    step true is later = each x (inl refl) is
    step false is later =
        later (omega (arith, pos, sum_by-cons (copies tag u) x xs, ap (λ b. cond b (count_by (λ d. x.tick + d == u) x.fate) 0) is))

-- a frame of which copies are to come was sent with effect
pub sent_of_copies : (s : Shape) (c : Clock) (these : List ℕ) (m a b d : ℕ) (xs : List Entry) → RunsTo s c these m a b d xs → (tag : Tag) (u : ℕ)
    → 0 < sum_by (copies tag u) xs → is_sent s tag.kind tag.group tag.round tag.meter (past_of_entries xs) ≡ true
sent_of_copies s c these m a b d xs run tag u pos =
    from_copies (is_sent s tag.kind tag.group tag.round tag.meter (past_of_entries xs) ≡ true) tag u xs
    (λ e at is. subst (HadEffect s (past_of_entries xs)) (is_send-true tag.group tag.round tag.meter tag.kind (event_of e.line) is)
    (all_member (λ e. HadEffect s (past_of_entries xs) (event_of e.line)) xs run.effects e at)) pos

-- each round whose Close is due below `closes` is closed
pub closed_of_run : (s : Shape) (c : Clock) (these : List ℕ) (m a b d : ℕ) (xs : List Entry) → RunsTo s c these m a b d xs → (g r : ℕ)
    → list_any (λ h. h == g) these ≡ true → r < c.rounds → r + c.w1 < b → is_closed g r (past_of_entries xs) ≡ true
closed_of_run s c these m a b d xs run g r g_in r_in below =
    let due : (is_round_of these c g r && nat_lt (r + c.w1) b) ≡ true
    = and_from (is_round_of these c g r) (nat_lt (r + c.w1) b) (and_from (list_any (λ h. h == g) these) (nat_lt r c.rounds) g_in (lt-ltb r c.rounds r_in)) (lt-ltb (r + c.w1) b below) in
    let close : Stands (is_close g r) (r + c.w1) _ = once_stands (is_close g r) (is_round_of these c g r && nat_lt (r + c.w1) b) (r + c.w1) xs (run.closed g r) due in
    ap (is_closed g r) (sym (events-reverse xs)) ∙ once-from (λ f _. is_close g r f) close.entry close.older _ close.at close.passes

-- ---- ticks and moments

pub earlier_ticks : (t : ℕ) (xs : List Entry) → All (λ e. moment e < 3 * t) xs → All (λ e. e.tick < t) xs
earlier_ticks t xs all = All-weaker (λ e. moment e < 3 * t) (λ e. e.tick < t) (λ e h. omega arith) xs all

not_at : (t u : ℕ) (xs : List Entry) → t ≤ u → All (λ e. e.tick < t) xs → All (λ e. e.tick ≡ u → ⊥) xs
not_at t u xs le all = All-weaker (λ e. e.tick < t) (λ e. e.tick ≡ u → ⊥) (λ e h is. omega arith) xs all

other_ticks : (t u : ℕ) (xs : List Entry) → (t ≡ u → ⊥) → All (λ e. e.tick ≡ t) xs → All (λ e. e.tick ≡ u → ⊥) xs
other_ticks t u xs ne all = All-weaker (λ e. e.tick ≡ t) (λ e. e.tick ≡ u → ⊥) (λ e h is. ne (sym h ∙ is)) xs all

moments_of_batch : (t k : ℕ) (xs : List Entry) → All (λ e. e.tick ≡ t) xs → All (λ e. phase (event_of e.line) ≡ k) xs → All (λ e. moment e ≡ 3 * t + k) xs
moments_of_batch t k [] ticks phases = All-nil (λ e. moment e ≡ 3 * t + k)
moments_of_batch t k (x ∷ xs) ticks phases =
    let tick : x.tick ≡ t = All-head (λ e. e.tick ≡ t) x xs ticks in
    let is : phase (event_of x.line) ≡ k = All-head (λ e. phase (event_of e.line) ≡ k) x xs phases in
    All-cons (λ e. moment e ≡ 3 * t + k) x xs (omega arith)
    (moments_of_batch t k xs (All-tail (λ e. e.tick ≡ t) x xs ticks) (All-tail (λ e. phase (event_of e.line) ≡ k) x xs phases))

-- ---- what a batch leaves alone

module _ (s : Shape) (c : Clock) (these : List ℕ) (t k : ℕ) (a b : ℕ) (xs ys : List Entry) (small : k < 2) (run : RunsTo s c these (3 * t + k) a b t xs) (batch : IsBatch t k ys) where
  silent : AreSilent ys
  silent = silent-batch t k ys small batch

  copies_same : (tag : Tag) (u : ℕ) → sum_by (copies tag u) (xs ++ ys) ≡ sum_by (copies tag u) xs
  copies_same tag u = omega (arith, sum_by-append (copies tag u) xs ys, copies-silent ys tag u silent)

  sent_same : (u : ℕ) → sent_at (xs ++ ys) u ≡ sent_at xs u
  sent_same u = sent-append xs ys u ∙ ap (λ l. sent_at xs u ++ l) (sent-silent ys u silent) ∙ append-nil (sent_at xs u)

  takes_before : (tag : Tag) (u : ℕ) → u < t → takes_at (xs ++ ys) tag u ≡ takes_at xs tag u
  takes_before tag u lt = omega (arith, takes-append xs ys tag u, takes-other ys tag u (other_ticks t u ys (λ e. omega arith) batch.ticks))

  below_now : All (λ e. moment e < 3 * t + k + 1) xs
  below_now = All-weaker (λ e. moment e < 3 * t + k) (λ e. moment e < 3 * t + k + 1) (λ e h. omega arith) xs run.before

  moments : All (λ e. moment e ≡ 3 * t + k) ys
  moments = moments_of_batch t k ys batch.ticks batch.phases

  all_below : All (λ e. moment e < 3 * t + k + 1) (xs ++ ys)
  all_below = All-append (λ e. moment e < 3 * t + k + 1) xs ys below_now (All-weaker (λ e. moment e ≡ 3 * t + k) (λ e. moment e < 3 * t + k + 1) (λ e h. omega arith) ys moments)

  still_sent : (t ≤ b) → (u : ℕ) → u < t → sent_at (xs ++ ys) u ≡ flat_map (due_of s c (xs ++ ys) u) these
  still_sent done u lt =
      sent_same u ∙ run.sent u lt
      ∙ sym (due-stays s c these xs ys u (λ tag. takes-other ys tag u (other_ticks t u ys (λ e. omega arith) batch.ticks))
      (λ g r g_in r_in at. closed_of_run s c these (3 * t + k) a b t xs run g r g_in r_in (omega arith)))

  no_fates : All (λ e. tags_of (event_of e.line) ≡ [] → e.fate ≡ []) (xs ++ ys)
  no_fates = All-append (λ e. tags_of (event_of e.line) ≡ [] → e.fate ≡ []) xs ys run.others (All-weaker (λ e. e.fate ≡ []) (λ e. tags_of (event_of e.line) ≡ [] → e.fate ≡ []) (λ e is _. is) ys batch.fates)

  all_delays : All (λ e. All IsDelay e.fate) (xs ++ ys)
  all_delays = All-append (λ e. All IsDelay e.fate) xs ys run.delays (All-weaker (λ e. e.fate ≡ []) (λ e. All IsDelay e.fate) (λ e is. subst (All IsDelay) (sym is) (All-nil IsDelay)) ys batch.fates)

  all_in_time : All (λ e. IsInTime s c e.tick (event_of e.line)) (xs ++ ys)
  all_in_time = All-append (λ e. IsInTime s c e.tick (event_of e.line)) xs ys run.in_time (All-weaker (λ e. phase (event_of e.line) < 2) (λ e. IsInTime s c e.tick (event_of e.line)) (λ e h. quiet e.tick (event_of e.line) h) ys silent)
    where
      quiet : (u : ℕ) (v : Event) → phase v < 2 → IsInTime s c u v
      quiet u (Send tag) h = absurd (omega arith)
      quiet u (Take tag) h = tt
      quiet u (Close g r) h = tt
      quiet u (End g r) h = tt

  all_effects : All (λ e. HadEffect s (past_of_entries (xs ++ ys)) (event_of e.line)) (xs ++ ys)
  all_effects =
      All-append (λ e. HadEffect s (past_of_entries (xs ++ ys)) (event_of e.line)) xs ys
      (All-weaker (λ e. HadEffect s (past_of_entries xs) (event_of e.line)) (λ e. HadEffect s (past_of_entries (xs ++ ys)) (event_of e.line)) (λ e h. had_effect-append s (event_of e.line) xs ys h) xs run.effects)
      (All-weaker (λ e. phase (event_of e.line) < 2) (λ e. HadEffect s (past_of_entries (xs ++ ys)) (event_of e.line)) (λ e h. quiet (event_of e.line) h) ys silent)
    where
      quiet : (v : Event) → phase v < 2 → HadEffect s (past_of_entries (xs ++ ys)) v
      quiet (Send tag) h = absurd (omega arith)
      quiet (Take tag) h = tt
      quiet (Close g r) h = tt
      quiet (End g r) h = tt

-- ---- the Takes of a tick

takes_now : (s : Shape) (c : Clock) (these : List ℕ) (t b : ℕ) (xs ys : List Entry) → RunsTo s c these (3 * t + 0) t b t xs → IsBatch t 0 ys
    → ((tag : Tag) → count_by (λ e. is_take tag.group tag.round tag.meter tag.kind (event_of e.line)) ys ≡ sum_by (copies tag t) xs)
    → (tag : Tag) (u : ℕ) → u < t + 1 → takes_at (xs ++ ys) tag u ≡ sum_by (copies tag u) (xs ++ ys)
takes_now s c these t b xs ys run batch count tag u lt =
    ⊎_elim
    (λ before. takes_before s c these t 0 t b xs ys (omega arith) run batch tag u before ∙ run.taken tag u before ∙ sym (copies_same s c these t 0 t b xs ys (omega arith) run batch tag u))
    (λ now.
    let is : u ≡ t = omega arith in
    subst (λ v. takes_at (xs ++ ys) tag v ≡ sum_by (copies tag v) (xs ++ ys)) (sym is)
    (takes-append xs ys tag t
    ∙ ap (λ n. n + takes_at ys tag t) (takes-other xs tag t (not_at t t xs (omega arith) (earlier_ticks t xs (All-weaker (λ e. moment e < 3 * t + 0) (λ e. moment e < 3 * t) (λ e h. omega arith) xs run.before))))
    ∙ zero-add (takes_at ys tag t)
    ∙ takes-all ys tag t batch.ticks ∙ count tag ∙ sym (copies_same s c these t 0 t b xs ys (omega arith) run batch tag t)))
    (cases_lt u t)

heard_now : (s : Shape) (c : Clock) (these : List ℕ) (t b : ℕ) (xs ys : List Entry) → RunsTo s c these (3 * t + 0) t b t xs → IsBatch t 0 ys
    → ((tag : Tag) → count_by (λ e. is_take tag.group tag.round tag.meter tag.kind (event_of e.line)) ys ≡ sum_by (copies tag t) xs)
    → (g r i u : ℕ) → 0 < takes_at (xs ++ ys) (tag_of Announcement g r i) u → is_announcement_taken s g r i (past_of_entries (xs ++ ys)) ≡ true
heard_now s c these t b xs ys run batch count g r i u pos =
    let tag : Tag = tag_of Announcement g r i in
    ⊎_elim
    (λ earlier. taken-append s g r i xs ys (run.heard g r i u earlier))
    (λ none.
    let new : 0 < takes_at ys tag u = omega (arith, pos, takes-append xs ys tag u) in
    let at : u ≡ t = ⊎_elim (λ e. e) (λ ne. absurd (omega (arith, new, takes-other ys tag u (other_ticks t u ys (λ e. ne (sym e)) batch.ticks)))) (cases_eq u t) in
    let some : 0 < count_by (λ e. is_take g r i Announcement (event_of e.line)) ys = subst (λ n. 0 < n) (ap (takes_at ys tag) at ∙ takes-all ys tag t batch.ticks) new in
    heard-append s g r i xs ys (sent_of_copies s c these (3 * t + 0) t b t xs run tag t (subst (λ n. 0 < n) (count tag) some)) some)
    (cases_lt 0 (takes_at xs tag u))

-- the Takes of a tick, in any order
pub takes_step : (s : Shape) (c : Clock) (these : List ℕ) (t : ℕ) (xs ys : List Entry) → RunsTo s c these (3 * t) t t t xs → IsBatch t 0 ys
    → ((tag : Tag) → count_by (λ e. is_take tag.group tag.round tag.meter tag.kind (event_of e.line)) ys ≡ sum_by (copies tag t) xs)
    → RunsTo s c these (3 * t + 1) (t + 1) t t (xs ++ ys)
takes_step s c these t xs ys run' batch count =
    let run : RunsTo s c these (3 * t + 0) t t t xs = subst (λ m. RunsTo s c these m t t t xs) (omega arith) run' in
    let small : 0 < 2 = omega arith in
    let not_one : All (λ e. phase (event_of e.line) ≡ 1 → ⊥) ys = All-weaker (λ e. phase (event_of e.line) ≡ 0) (λ e. phase (event_of e.line) ≡ 1 → ⊥) (λ e h g. omega arith) ys batch.phases in
    record {
      ordered = ordered-append (3 * t + 0) xs ys run.ordered (below_now s c these t 0 t t xs ys small run batch) (moments s c these t 0 t t xs ys small run batch);
      before = All-weaker (λ e. moment e < 3 * t + 0 + 1) (λ e. moment e < 3 * t + 1) (λ e h. omega arith) (xs ++ ys) (all_below s c these t 0 t t xs ys small run batch);
      taken = takes_now s c these t t xs ys run batch count;
      closed = λ g r. stands-none (is_close g r) (is_round_of these c g r && nat_lt (r + c.w1) t) (r + c.w1) xs ys (run.closed g r)
          (All-weaker (λ e. phase (event_of e.line) ≡ 1 → ⊥) (λ e. is_close g r (event_of e.line) ≡ false) (λ e h. no_close (event_of e.line) g r h) ys not_one);
      ended = λ g r. stands-none (is_end g r) (is_round_of these c g r && nat_lt (r + c.w1 + c.w2) t) (r + c.w1 + c.w2) xs ys (run.ended g r)
          (All-weaker (λ e. phase (event_of e.line) ≡ 1 → ⊥) (λ e. is_end g r (event_of e.line) ≡ false) (λ e h. no_end (event_of e.line) g r h) ys not_one);
      sent = still_sent s c these t 0 t t xs ys small run batch (omega arith);
      others = no_fates s c these t 0 t t xs ys small run batch;
      delays = all_delays s c these t 0 t t xs ys small run batch;
      in_time = all_in_time s c these t 0 t t xs ys small run batch;
      effects = all_effects s c these t 0 t t xs ys small run batch;
      heard = heard_now s c these t t xs ys run batch count;
    }

-- ---- the Closes and Ends of a tick

-- the Closes and Ends of a tick, in any order
pub closes_step : (s : Shape) (c : Clock) (these : List ℕ) (t : ℕ) (xs ys : List Entry) → RunsTo s c these (3 * t + 1) (t + 1) t t xs → IsBatch t 1 ys
    → ((g r : ℕ) → count_by (λ e. is_close g r (event_of e.line)) ys ≡ (if is_round_of these c g r && (r + c.w1 == t) then 1 else 0))
    → ((g r : ℕ) → count_by (λ e. is_end g r (event_of e.line)) ys ≡ (if is_round_of these c g r && (r + c.w1 + c.w2 == t) then 1 else 0))
    → RunsTo s c these (3 * t + 2) (t + 1) (t + 1) t (xs ++ ys)
closes_step s c these t xs ys run batch closes ends =
    let small : 1 < 2 = omega arith in
    let no_takes : (tag : Tag) (u : ℕ) → takes_at ys tag u ≡ 0 = λ tag u. takes-none ys tag u (All-weaker (λ e. phase (event_of e.line) ≡ 1) (λ e. 0 < phase (event_of e.line)) (λ e h. omega arith) ys batch.phases) in
    record {
      ordered = ordered-append (3 * t + 1) xs ys run.ordered (below_now s c these t 1 (t + 1) t xs ys small run batch) (moments s c these t 1 (t + 1) t xs ys small run batch);
      before = All-weaker (λ e. moment e < 3 * t + 1 + 1) (λ e. moment e < 3 * t + 2) (λ e h. omega arith) (xs ++ ys) (all_below s c these t 1 (t + 1) t xs ys small run batch);
      taken = λ tag u lt. takes-append xs ys tag u ∙ ap (λ n. takes_at xs tag u + n) (no_takes tag u) ∙ omega (arith, run.taken tag u lt, copies_same s c these t 1 (t + 1) t xs ys small run batch tag u);
      closed = λ g r. stands-due (is_close g r) (is_round_of these c g r) (r + c.w1) t xs ys (run.closed g r) batch.ticks (closes g r);
      ended = λ g r. stands-due (is_end g r) (is_round_of these c g r) (r + c.w1 + c.w2) t xs ys (run.ended g r) batch.ticks (ends g r);
      sent = still_sent s c these t 1 (t + 1) t xs ys small run batch (omega arith);
      others = no_fates s c these t 1 (t + 1) t xs ys small run batch;
      delays = all_delays s c these t 1 (t + 1) t xs ys small run batch;
      in_time = all_in_time s c these t 1 (t + 1) t xs ys small run batch;
      effects = all_effects s c these t 1 (t + 1) t xs ys small run batch;
      heard = λ g r i u pos. taken-append s g r i xs ys (run.heard g r i u (omega (arith, pos, takes-append xs ys (tag_of Announcement g r i) u, no_takes (tag_of Announcement g r i) u)));
    }
