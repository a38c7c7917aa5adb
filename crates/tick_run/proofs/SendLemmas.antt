-- How a run goes on by one Send, and from tick to tick.
use Rattle.std.proofs.Common.{◌≡◌, ℕ, ◌+◌, ◌*◌, ◌<◌, ◌≤◌, Bool, true, false, cond, ◌&&◌, List, [], ◌∷◌, ◌++◌, refl, sym, ap, ◌∙◌, subst, append-nil, arith, ⊎_elim}
use Rattle.std.specs.Prelude.{◌==◌, nat_lt, Option}
use Rattle.std.specs.List.{sum_by, count_by, flat_map, All}
use Rattle.std.proofs.lemmas.Bool.{and_from, ne_eqb, cases_lt}
use Rattle.std.proofs.lemmas.Bool.Decides.{nat_tests}
use Rattle.std.proofs.lemmas.List.Elements.{All-weaker, All-nil, All-cons, All-push}
use Rattle.std.proofs.lemmas.List.Sums.{sum_by_push}
use Rattle.group_plan.specs.declared.Kind.{Kind}
use Rattle.group_plan.specs.declared.Kind.TheVariants.{Reading, Announcement, Answer}
use Rattle.group_plan.specs.declared.Tag.{Tag}
use Rattle.meter_frames.specs.declared.Frame.{Frame}
use Rattle.event_schedule.specs.declared.Event.{Event}
use Rattle.event_schedule.specs.declared.Event.TheVariants.{Send}
use Rattle.event_schedule.specs.declared.Entry.{Entry}
use Rattle.event_schedule.specs.Events.{is_send, is_close, is_end, event_of}
use Rattle.event_schedule.specs.Schedule.{Shape, is_sent, may_send}
use Rattle.event_schedule.proofs.EventLemmas.{is_send-itself}
use Rattle.event_schedule.proofs.ScheduleLemmas.{after, once-now}
use Rattle.run_rows.specs.Ticks.{Clock, phase, moment, tag_of, takes_at, copies, tags_of, sent_at, due_of, posts_of}
use Rattle.tick_run.specs.Progress.{IsDelay, IsInTime, HadEffect, past_of_entries, is_round_of, RunsTo, sending}
use Rattle.tick_run.proofs.OrderLemmas.{ordered-append}
use Rattle.tick_run.proofs.PastLemmas.{past-append, had_effect-append, taken-append, takes-append, due-stays}
use Rattle.tick_run.proofs.BatchLemmas.{sum_none, takes-none, sent-append, posts-append, stands-none}
use Rattle.tick_run.proofs.StepLemmas.{closed_of_run}

-- a later moment bounds the entries too
pub run_later : (s : Shape) (c : Clock) (these : List ℕ) (m n a b d : ℕ) (xs : List Entry) → m ≤ n → RunsTo s c these m a b d xs → RunsTo s c these n a b d xs
run_later s c these m n a b d xs le run =
    record {
      ordered = run.ordered;
      before = All-weaker (λ e. moment e < m) (λ e. moment e < n) (λ e h. omega arith) xs run.before;
      taken = run.taken;
      closed = run.closed;
      ended = run.ended;
      sent = run.sent;
      others = run.others;
      delays = run.delays;
      in_time = run.in_time;
      effects = run.effects;
      heard = run.heard;
    }

-- no copy comes where no delay leads
pub count_none : (a u : ℕ) (ds : List ℕ) → ((d : ℕ) → IsDelay d → a + d ≡ u → ⊥) → All IsDelay ds → count_by (λ d. a + d == u) ds ≡ 0
count_none a u ds none all =
    sum_none (λ d. cond {A = ℕ} (a + d == u) 1 0) ds
    (All-weaker IsDelay (λ d. cond {A = ℕ} (a + d == u) 1 0 ≡ 0) (λ d is. ap (λ b. cond {A = ℕ} b 1 0) (ne_eqb (a + d) u (none d is))) ds all)

is_sent_now : (s : Shape) (k : Kind) (g r i : ℕ) (p : List Event) → may_send s k g r i p ≡ true → is_sent s k g r i (Send (tag_of k g r i) ∷ p) ≡ true
is_sent_now s Reading g r i p h = once-now _ (Send (tag_of Reading g r i)) p (and_from (is_send g r i Reading (Send (tag_of Reading g r i))) (s.present g r i) (is_send-itself g r i Reading) h)
is_sent_now s Announcement g r i p h = once-now _ (Send (tag_of Announcement g r i)) p (and_from (is_send g r i Announcement (Send (tag_of Announcement g r i))) _ (is_send-itself g r i Announcement) h)
is_sent_now s Answer g r i p h = once-now _ (Send (tag_of Answer g r i)) p (and_from (is_send g r i Answer (Send (tag_of Answer g r i))) _ (is_send-itself g r i Answer) h)

push_past : (xs : List Entry) (x : Entry) → past_of_entries (xs ++ x ∷ []) ≡ event_of x.line ∷ past_of_entries xs
unfolding after
push_past xs x = past-append xs (x ∷ [])

module _ (s : Shape) (c : Clock) (these : List ℕ) (t : ℕ) (xs : List Entry) (tag : Tag) (frame : Option Frame) (fate : List ℕ) (run : RunsTo s c these (3 * t + 3) (t + 1) (t + 1) t xs) where
  x : Entry
  x = sending t tag frame fate

  no_takes : (z : Tag) (u : ℕ) → takes_at (x ∷ []) z u ≡ 0
  unfolding x
  no_takes z u = takes-none (x ∷ []) z u (All-cons (λ e. 0 < phase (event_of e.line)) x [] (omega arith) (All-nil (λ e. 0 < phase (event_of e.line))))

  one_moment : All (λ e. moment e ≡ 3 * t + 2) (x ∷ [])
  unfolding x
  one_moment = All-cons (λ e. moment e ≡ 3 * t + 2) x [] refl (All-nil (λ e. moment e ≡ 3 * t + 2))

  no_copies_now : All IsDelay fate → (z : Tag) (u : ℕ) → u < t + 1 → sum_by (copies z u) (xs ++ x ∷ []) ≡ sum_by (copies z u) xs
  unfolding x
  no_copies_now delays z u lt =
      omega (
        arith,
        sum_by_push (copies z u) xs x,
        ap (λ n. cond (is_send z.group z.round z.meter z.kind (Send tag)) n 0) (count_none t u fate (λ d is e. omega arith) delays) ∙ zero_of (is_send z.group z.round z.meter z.kind (Send tag)),
      )
    where
      zero_of : (b : Bool) → cond {A = ℕ} b 0 0 ≡ 0
      zero_of true = refl
      zero_of false = refl

  sent_before : (u : ℕ) → u < t → sent_at (xs ++ x ∷ []) u ≡ sent_at xs u
  unfolding x
  sent_before u lt = sent-append xs (x ∷ []) u ∙ ap (λ b. sent_at xs u ++ (cond b (tag ∷ []) [] ++ [])) (ne_eqb t u (λ e. omega arith)) ∙ append-nil (sent_at xs u)

  all_effects : may_send s tag.kind tag.group tag.round tag.meter (past_of_entries xs) ≡ true → All (λ e. HadEffect s (past_of_entries (xs ++ x ∷ [])) (event_of e.line)) (xs ++ x ∷ [])
  unfolding x
  all_effects may =
      All-push (λ e. HadEffect s (past_of_entries (xs ++ x ∷ [])) (event_of e.line)) xs x
      (All-weaker (λ e. HadEffect s (past_of_entries xs) (event_of e.line)) (λ e. HadEffect s (past_of_entries (xs ++ x ∷ [])) (event_of e.line)) (λ e h. had_effect-append s (event_of e.line) xs (x ∷ []) h) xs run.effects)
      (subst (λ p. is_sent s tag.kind tag.group tag.round tag.meter p ≡ true) (sym (push_past xs x)) (is_sent_now s tag.kind tag.group tag.round tag.meter (past_of_entries xs) may))

  -- one more Send of the tick, with effect
  pub send_step : All IsDelay fate → IsInTime s c t (Send tag) → may_send s tag.kind tag.group tag.round tag.meter (past_of_entries xs) ≡ true
      → RunsTo s c these (3 * t + 3) (t + 1) (t + 1) t (xs ++ sending t tag frame fate ∷ [])
  unfolding x
  send_step delays in_time may = record {
    ordered = ordered-append (3 * t + 2) xs (x ∷ []) run.ordered (All-weaker (λ e. moment e < 3 * t + 3) (λ e. moment e < 3 * t + 2 + 1) (λ e h. omega arith) xs run.before) one_moment;
    before = All-push (λ e. moment e < 3 * t + 3) xs x run.before (omega arith);
    taken = λ z u lt. omega (arith, takes-append xs (x ∷ []) z u, no_takes z u, run.taken z u lt, no_copies_now delays z u lt);
    closed = λ g r. stands-none (is_close g r) (is_round_of these c g r && nat_lt (r + c.w1) (t + 1)) (r + c.w1) xs (x ∷ []) (run.closed g r) (All-cons (λ e. is_close g r (event_of e.line) ≡ false) x [] refl (All-nil (λ e. is_close g r (event_of e.line) ≡ false)));
    ended = λ g r. stands-none (is_end g r) (is_round_of these c g r && nat_lt (r + c.w1 + c.w2) (t + 1)) (r + c.w1 + c.w2) xs (x ∷ []) (run.ended g r) (All-cons (λ e. is_end g r (event_of e.line) ≡ false) x [] refl (All-nil (λ e. is_end g r (event_of e.line) ≡ false)));
    sent = λ u lt. sent_before u lt ∙ run.sent u lt
        ∙ sym (due-stays s c these xs (x ∷ []) u (λ z. no_takes z u) (λ g r g_in r_in at. closed_of_run s c these (3 * t + 3) (t + 1) (t + 1) t xs run g r g_in r_in (omega arith)));
    others = All-push (λ e. tags_of (event_of e.line) ≡ [] → e.fate ≡ []) xs x run.others (λ none. absurd (cc none));
    delays = All-push (λ e. All IsDelay e.fate) xs x run.delays delays;
    in_time = All-push (λ e. IsInTime s c e.tick (event_of e.line)) xs x run.in_time in_time;
    effects = all_effects may;
    heard = λ g r i u pos. taken-append s g r i xs (x ∷ []) (run.heard g r i u (omega (arith, pos, takes-append xs (x ∷ []) (tag_of Announcement g r i) u, no_takes (tag_of Announcement g r i) u)));
  }

  -- it is one more of those sent at the tick
  pub sent_step : sent_at (xs ++ sending t tag frame fate ∷ []) t ≡ sent_at xs t ++ tag ∷ []
  unfolding x
  sent_step = sent-append xs (x ∷ []) t ∙ ap (λ b. sent_at xs t ++ (cond b (tag ∷ []) [] ++ [])) (same t)
    where
      same : (a : ℕ) → (a == a) ≡ true
      same a = grind (arith, nat_tests)

  -- what is due at the tick stays
  pub due_step : flat_map (due_of s c (xs ++ sending t tag frame fate ∷ []) t) these ≡ flat_map (due_of s c xs t) these
  unfolding x
  due_step = due-stays s c these xs (x ∷ []) t (λ z. no_takes z t) (λ g r g_in r_in at. closed_of_run s c these (3 * t + 3) (t + 1) (t + 1) t xs run g r g_in r_in (omega arith))

-- a tick is over once all that was due is sent
pub tick_over : (s : Shape) (c : Clock) (these : List ℕ) (t : ℕ) (xs : List Entry) → RunsTo s c these (3 * t + 3) (t + 1) (t + 1) t xs
    → sent_at xs t ≡ flat_map (due_of s c xs t) these → RunsTo s c these (3 * (t + 1)) (t + 1) (t + 1) (t + 1) xs
tick_over s c these t xs run all =
    record {
      ordered = run.ordered;
      before = All-weaker (λ e. moment e < 3 * t + 3) (λ e. moment e < 3 * (t + 1)) (λ e h. omega arith) xs run.before;
      taken = run.taken;
      closed = run.closed;
      ended = run.ended;
      sent = λ u lt. ⊎_elim (λ before. run.sent u before) (λ now. let is : u ≡ t = omega arith in subst (λ v. sent_at xs v ≡ flat_map (due_of s c xs v) these) (sym is) all) (cases_lt u t);
      others = run.others;
      delays = run.delays;
      in_time = run.in_time;
      effects = run.effects;
      heard = run.heard;
    }

-- before the first tick
pub at_start : (s : Shape) (c : Clock) (these : List ℕ) → RunsTo s c these 0 0 0 0 []
at_start s c these = record {
  ordered = tt;
  before = All-nil (λ e. moment e < 0);
  taken = λ tag u lt. absurd (omega arith);
  closed = λ g r. ap (λ b. cond b ((r + c.w1) ∷ []) []) (sym (off (is_round_of these c g r) (nat_lt (r + c.w1) 0) (none (r + c.w1))));
  ended = λ g r. ap (λ b. cond b ((r + c.w1 + c.w2) ∷ []) []) (sym (off (is_round_of these c g r) (nat_lt (r + c.w1 + c.w2) 0) (none (r + c.w1 + c.w2))));
  sent = λ u lt. absurd (omega arith);
  others = All-nil (λ e. tags_of (event_of e.line) ≡ [] → e.fate ≡ []);
  delays = All-nil (λ e. All IsDelay e.fate);
  in_time = All-nil (λ e. IsInTime s c e.tick (event_of e.line));
  effects = All-nil (λ e. HadEffect s [] (event_of e.line));
  heard = λ g r i u pos. absurd (omega arith);
}
  where
    off : (a b : Bool) → b ≡ false → (a && b) ≡ false
    off true b h = h
    off false b h = refl

    none : (a : ℕ) → nat_lt a 0 ≡ false
    none a = grind (arith, nat_tests)

-- the posts with one more Send
pub posts-push : (xs : List Entry) (t : ℕ) (tag : Tag) (frame : Option Frame) (fate : List ℕ) → posts_of (xs ++ sending t tag frame fate ∷ []) ≡ posts_of xs ++ record { tick = t; tag = tag; fate = fate } ∷ []
posts-push xs t tag frame fate = posts-append xs (sending t tag frame fate ∷ [])
