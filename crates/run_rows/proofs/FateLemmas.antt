-- The fates of a tick run as a function.
use Rattle.std.proofs.Common.{◌≡◌, ℕ, ◌+◌, ◌<◌, ◌≤◌, Bool, true, false, cond, ◌&&◌, List, [], ◌∷◌, length, map, ◌⊎◌, refl, sym, ap, ◌∙◌, subst, ⊎_elim, inl, inr, arith}
use Rattle.std.specs.Prelude.{◌==◌, if◌then◌else◌}
use mathlib.Core.List.{reverse}
use Rattle.std.specs.List.{sum_by, flat_map, list_any, range_with_len, All}
use mathlib.Core.Path.{fun_ext}
use Rattle.std.proofs.lemmas.Bool.{false≢true, and_from, eq-eqb, eqb-true}
use Rattle.std.proofs.lemmas.List.Sums.{sum_by-cons}
use Rattle.std.proofs.lemmas.List.Elements.{All-nil, All-cons}
use Rattle.group_plan.specs.declared.Tag.{Tag}
use Rattle.event_schedule.specs.declared.Event.{Event}
use Rattle.event_schedule.specs.declared.Event.TheVariants.{Send, Take, Close, End}
use Rattle.link_lanes.specs.Lanes.{Slot}
use Rattle.link_lanes.specs.declared.Post.{Post}
use Rattle.event_schedule.specs.Schedule.{Shape}
use Rattle.event_schedule.specs.Events.{is_tag, is_send, events_of, event_of}
use Rattle.run_rows.specs.Ticks.{Clock, tags_of, sent_at, due_of, posts_of, HaveDelays, IsTickRun, IsRunPlan}
use Rattle.event_schedule.specs.declared.Entry.{Entry}
use Rattle.run_rows.specs.Report.{fate_at, row, outcome_row}
use Rattle.run_rows.proofs.TickRun.{IsRunBy, all_member, member_any, member_flat_map, member_from_flat_map, member_from_map, member_map}
use Rattle.run_rows.proofs.TickLemmas.{Member}
use Rattle.run_rows.proofs.Unique.{all_due_le, hit}
use Rattle.run_rows.proofs.ReportLemmas.{rows_are}
use Rattle.event_schedule.proofs.ListLemmas.{sum_by-flat_map}

abbrev pub is_post : ℕ → Tag → Post → Bool
is_post t tag p = (p.tick == t) && is_tag tag.group tag.round tag.meter tag.kind p.tag

post_hit : ℕ → Tag → Post → ℕ
post_hit t tag p = cond (is_post t tag p) 1 0

-- ---- one post alone is of a tag and a tick

member_le_sum : {X : Type 0} (f : X → ℕ) (x : X) (xs : List X) → Member x xs → f x ≤ sum_by f xs
member_le_sum f x [] at = absurd at
member_le_sum f x (y ∷ ys) at =
    ⊎_elim (λ here. let e : f y ≡ f x = ap f here in omega (arith, e, sum_by-cons f y ys)) (λ there. omega (arith, sum_by-cons f y ys, member_le_sum f x ys there)) at

the_post : (posts : List Post) (t : ℕ) (tag : Tag) (p : Post) → sum_by (post_hit t tag) posts ≤ 1 → Member p posts → is_post t tag p ≡ true → p.fate ≡ fate_at posts t tag
unfolding post_hit
the_post [] t tag p few at is = absurd at
the_post (q ∷ rest) t tag p few at is = by_case (is_post t tag q) refl (λ less there. the_post rest t tag p less there is)
  where
    by_case : (c : Bool) → is_post t tag q ≡ c → (sum_by (post_hit t tag) rest ≤ 1 → Member p rest → p.fate ≡ fate_at rest t tag) → p.fate ≡ cond c q.fate (fate_at rest t tag)
    by_case true now later =
        ⊎_elim (λ here. ap (λ z. z.fate) (sym here))
        (λ there. absurd (omega (arith, few, sum_by-cons (post_hit t tag) q rest, ap (λ b. cond {A = ℕ} b 1 0) now, member_le_sum (post_hit t tag) p rest there, ap (λ b. cond {A = ℕ} b 1 0) is))) at
    by_case false now later =
        ⊎_elim (λ here. absurd (false≢true (sym now ∙ ap (is_post t tag) here ∙ is)))
        (λ there. later (omega (arith, few, sum_by-cons (post_hit t tag) q rest)) there) at

-- the posts of a tick are what is sent at it
hits_same : (t : ℕ) (tag : Tag) (e : Entry) →
    sum_by (post_hit t tag) (map (λ z. record { tick = e.tick; tag = z; fate = e.fate }) (tags_of (event_of e.line))) ≡ sum_by (hit tag.group tag.round tag.meter tag.kind) (if e.tick == t then tags_of (event_of e.line) else [])
unfolding post_hit
hits_same t tag e = by_event (event_of e.line) (e.tick == t) refl
  where
    none : (b : Bool) → 0 ≡ sum_by (hit tag.group tag.round tag.meter tag.kind) (if b then [] else [])
    none true = refl
    none false = refl

    by_event : (v : Event) (b : Bool) → (e.tick == t) ≡ b → sum_by (post_hit t tag) (map (λ z. record { tick = e.tick; tag = z; fate = e.fate }) (tags_of v)) ≡ sum_by (hit tag.group tag.round tag.meter tag.kind) (if b then tags_of v else [])
    by_event (Send z) true is =
        sum_by-cons (post_hit t tag) (record { tick = e.tick; tag = z; fate = e.fate }) []
        ∙ ap (λ b. cond {A = ℕ} (b && is_tag tag.group tag.round tag.meter tag.kind z) 1 0 + 0) is
        ∙ sym (sum_by-cons (hit tag.group tag.round tag.meter tag.kind) z [])
    by_event (Send z) false is =
        sum_by-cons (post_hit t tag) (record { tick = e.tick; tag = z; fate = e.fate }) []
        ∙ ap (λ b. cond {A = ℕ} (b && is_tag tag.group tag.round tag.meter tag.kind z) 1 0 + 0) is
    by_event (Take z) b is = none b
    by_event (Close g r) b is = none b
    by_event (End g r) b is = none b

posts_hit : (t : ℕ) (tag : Tag) (entries : List Entry) → sum_by (post_hit t tag) (posts_of entries) ≡ sum_by (hit tag.group tag.round tag.meter tag.kind) (sent_at entries t)
posts_hit t tag entries =
    sum_by-flat_map (post_hit t tag) (λ e. map (λ z. record { tick = e.tick; tag = z; fate = e.fate }) (tags_of (event_of e.line))) entries
    ∙ ap (λ f. sum_by f entries) (fun_ext (λ e. hits_same t tag e))
    ∙ sym (sum_by-flat_map (hit tag.group tag.round tag.meter tag.kind) (λ e. if e.tick == t then tags_of (event_of e.line) else []) entries)

-- ---- the function

pub all_from_member : (P : Entry → Type 0) (xs : List Entry) → ((e : Entry) → Member e xs → P e) → All P xs
all_from_member P [] each = All-nil P
all_from_member P (x ∷ xs) each = All-cons P x xs (each x (inl refl)) (all_from_member P xs (λ e at. each e (inr at)))

send_tags : (tag : Tag) (v : Event) → is_send tag.group tag.round tag.meter tag.kind v ≡ true → (z : Tag) × Member z (tags_of v) × (is_tag tag.group tag.round tag.meter tag.kind z ≡ true)
send_tags tag (Send z) is = (z, inl refl, is)
send_tags tag (Take z) is = absurd (false≢true is)
send_tags tag (Close g r) is = absurd (false≢true is)
send_tags tag (End g r) is = absurd (false≢true is)

fates_are : (s : Shape) (c : Clock) (entries : List Entry) → ((t : ℕ) → sent_at entries t ≡ flat_map (due_of s c entries t) (range_with_len 0 (length s.groups)))
    → (tag : Tag) (e : Entry) → Member e entries → is_send tag.group tag.round tag.meter tag.kind (event_of e.line) ≡ true → e.fate ≡ fate_at (posts_of entries) e.tick tag
fates_are s c entries sent tag e at is =
    let found = send_tags tag (event_of e.line) is in
    let p : Post = record { tick = e.tick; tag = found.0; fate = e.fate } in
    let few : sum_by (post_hit e.tick tag) (posts_of entries) ≤ 1
    = omega (arith, posts_hit e.tick tag entries, ap (sum_by (hit tag.group tag.round tag.meter tag.kind)) (sent e.tick), all_due_le s c entries e.tick tag.group tag.round tag.meter tag.kind) in
    the_post (posts_of entries) e.tick tag p few
    (member_flat_map (λ f. map (λ z. record { tick = f.tick; tag = z; fate = f.fate }) (tags_of (event_of f.line))) p e entries at
    (member_map (λ z. record { tick = e.tick; tag = z; fate = e.fate }) found.0 (tags_of (event_of e.line)) found.1))
    (and_from (e.tick == e.tick) (is_tag tag.group tag.round tag.meter tag.kind found.0) (eq-eqb e.tick e.tick refl) found.2)

-- a fate is that of a post, or empty
fate_from : (posts : List Post) (t : ℕ) (tag : Tag) → (fate_at posts t tag ≡ []) ⊎ ((p : Post) × Member p posts × (fate_at posts t tag ≡ p.fate))
fate_from [] t tag = inl refl
fate_from (q ∷ rest) t tag = by_case (is_post t tag q) (fate_from rest t tag)
  where
    by_case : (c : Bool) → (fate_at rest t tag ≡ []) ⊎ ((p : Post) × Member p rest × (fate_at rest t tag ≡ p.fate))
        → (cond c q.fate (fate_at rest t tag) ≡ []) ⊎ ((p : Post) × Member p (q ∷ rest) × (cond c q.fate (fate_at rest t tag) ≡ p.fate))
    by_case true later = inr (q, inl refl, refl)
    by_case false later = ⊎_elim (λ none. inl none) (λ some. inr (some.0, inr some.1, some.2)) later

later_are : (entries : List Entry) → HaveDelays entries → (t d : ℕ) (tag : Tag) → list_any (λ e. e == d) (fate_at (posts_of entries) t tag) ≡ true → 0 < d
later_are entries delays t d tag any =
    ⊎_elim
    (λ none. absurd (false≢true (ap (list_any (λ e. e == d)) (sym none) ∙ any)))
    (λ some.
    let from = member_from_flat_map (λ f. map (λ z. record { tick = f.tick; tag = z; fate = f.fate }) (tags_of (event_of f.line))) some.0 entries some.1 in
    let made = member_from_map (λ z. record { tick = from.0.tick; tag = z; fate = from.0.fate }) some.0 (tags_of (event_of from.0.line)) from.2 in
    let fate_is : from.0.fate ≡ some.0.fate = ap (λ p. p.fate) made.2 in
    let one = member_any (λ e. e == d) from.0.fate (ap (list_any (λ e. e == d)) (fate_is ∙ sym some.2) ∙ any) in
    let is : one.0 ≡ d = eqb-true one.0 d one.2 in
    subst (λ z. 0 < z) is (all_member (λ z. 0 < z) from.0.fate (all_member (λ e. All (λ z. 0 < z) e.fate) entries delays from.0 from.1) one.0 one.1))
    (fate_from (posts_of entries) t tag)

pub run_by : (s : Shape) (c : Clock) (slots : List Slot) (entries : List Entry) → HaveDelays entries → IsTickRun s c slots entries → IsRunBy s c (fate_at (posts_of entries)) entries
run_by s c slots entries delays run = record {
  ordered = run.ordered;
  within = run.within;
  taken = run.taken;
  closed = run.closed;
  ended = run.ended;
  sent = run.sent;
  fates = λ tag. all_from_member (λ e. is_send tag.group tag.round tag.meter tag.kind (event_of e.line) ≡ true → e.fate ≡ fate_at (posts_of entries) e.tick tag) entries (fates_are s c entries run.sent tag);
  later = later_are entries delays;
}

pub rows_by_posts : (s : Shape) (c : Clock) (slots : List Slot) (entries : List Entry) → IsRunPlan s c → HaveDelays entries → IsTickRun s c slots entries
    → (total : ℕ → ℕ → List ℕ → ℕ) (g r : ℕ) → g < length s.groups → r < c.rounds → outcome_row s total g r (events_of (reverse entries)) ≡ row s c (fate_at (posts_of entries)) total g r
rows_by_posts s c slots entries plan delays run = rows_are s c (fate_at (posts_of entries)) entries plan (run_by s c slots entries delays run)
