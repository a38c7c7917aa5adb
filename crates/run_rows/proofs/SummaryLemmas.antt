-- The summary of a tick run is that of its posts.
use Rattle.std.proofs.Common.{◌≡◌, ℕ, suc, ◌+◌, ◌<◌, Bool, true, false, cond, ◌&&◌, List, [], ◌∷◌, ◌++◌, length, map, refl, sym, ap, ◌∙◌, arith, inr, inl}
use Rattle.std.specs.Prelude.{◌==◌}
use mathlib.Core.List.{reverse_aux, reverse}
use mathlib.Core.Path.{fun_ext}
use Rattle.std.specs.List.{sum_by, count_by, flat_map}
use Rattle.std.proofs.lemmas.Bool.{and_parts, and_from, eq-eqb, eqb-true}
use Rattle.std.proofs.lemmas.List.Sums.{sum_by-cons}
use Rattle.std.proofs.lemmas.List.Concat.{length-flat_map}
use Rattle.group_plan.specs.declared.Tag.{Tag}
use Rattle.event_schedule.specs.declared.Event.{Event}
use Rattle.event_schedule.specs.declared.Event.TheVariants.{Send, Take, Close, End}
use Rattle.event_schedule.specs.declared.Line.{Line}
use Rattle.link_lanes.specs.Lanes.{Slot}
use Rattle.link_lanes.specs.declared.Post.{Post}
use Rattle.event_schedule.specs.Schedule.{Shape, may_send}
use Rattle.event_schedule.specs.Events.{is_tag, is_send, is_take, event_of, events_of}
use Rattle.event_schedule.specs.Transcript.{Contents, line, lines_after}
use Rattle.run_rows.specs.Ticks.{Clock, tags_of, takes_at, copies, posts_of, HaveDelays, IsTickRun, IsRunPlan}
use Rattle.run_rows.specs.Report.{Row, fate_at, row, outcome_row}
use Rattle.event_schedule.specs.declared.Entry.{Entry}
use Rattle.run_rows.proofs.TickRun.{IsRunBy, events-reverse, run_facts}
use Rattle.run_rows.specs.Summary.{summary, all_rows, is_sending, is_taking, summary_of_lines, summary_of_posts}
use Rattle.run_rows.proofs.TickLemmas.{In, TickFacts}
use Rattle.run_rows.proofs.Effective.{effective}
use Rattle.event_schedule.proofs.EventLemmas.{events-lines, is_send-itself, is_send-true}
use Rattle.event_schedule.proofs.ListLemmas.{flat_map_same, sum_by-flat_map, sum_by-map, tabulate_same}
use Rattle.run_rows.proofs.ReportLemmas.{rows_are}
use Rattle.run_rows.proofs.FateLemmas.{run_by}
use Rattle.run_rows.proofs.SameCounts.{same_length}

rows_same : (s : Shape) (c : Clock) (p q : ℕ → ℕ → Row) → ((g r : ℕ) → g < length s.groups → r < c.rounds → p g r ≡ q g r) → all_rows s c p ≡ all_rows s c q
rows_same s c p q same =
    flat_map_same (length s.groups) 0 _ _ (λ g _ g_in. tabulate_same c.rounds 0 (p g) (q g) (λ r _ r_in. same g r (omega arith) (omega arith)))

-- ---- the sends

in_reverse_aux : (e : Entry) (before rest ys : List Entry) → In e before ys → In e before (reverse_aux rest ys)
in_reverse_aux e before [] ys at = at
in_reverse_aux e before (x ∷ rest) ys at = in_reverse_aux e before rest (x ∷ ys) (inr at)

sending_line : (s : Shape) (c : Contents) (p : List Event) (tag : Tag) → may_send s tag.kind tag.group tag.round tag.meter p ≡ true → is_sending (line s c p (Send tag)) ≡ true
sending_line s c p tag may = rw may

sends_are : (s : Shape) (c : Contents) (older rest : List Entry)
    → ((e : Entry) (before : List Entry) → In e before (reverse_aux rest older) → (tag : Tag) → is_send tag.group tag.round tag.meter tag.kind (event_of e.line) ≡ true → may_send s tag.kind tag.group tag.round tag.meter (events_of before) ≡ true)
    → count_by is_sending (lines_after s c (events_of older) (events_of rest)) ≡ length (posts_of rest)
unfolding lines_after
sends_are s c older [] all = refl
sends_are s c older (e ∷ rest) all =
    sum_by-cons (λ l. cond (is_sending l) 1 0) (line s c (events_of older) (event_of e.line)) (lines_after s c ((event_of e.line) ∷ events_of older) (events_of rest))
    ∙ by_event (event_of e.line) (λ tag is. all e older (in_reverse_aux e older rest (e ∷ older) (inl (refl, refl))) tag is) (sends_are s c (e ∷ older) rest all)
  where
    by_event : (v : Event) → ((tag : Tag) → is_send tag.group tag.round tag.meter tag.kind v ≡ true → may_send s tag.kind tag.group tag.round tag.meter (events_of older) ≡ true)
        → count_by is_sending (lines_after s c ((event_of e.line) ∷ events_of older) (events_of rest)) ≡ length (posts_of rest)
        → cond (is_sending (line s c (events_of older) v)) 1 0 + count_by is_sending (lines_after s c ((event_of e.line) ∷ events_of older) (events_of rest))
        ≡ length (map (λ tag. record { tick = e.tick; tag = tag; fate = e.fate }) (tags_of v) ++ posts_of rest)
    by_event (Send tag) may later =
        let one : ◌≡◌ {A = ℕ} (cond (is_sending (line s c (events_of older) (Send tag))) 1 0) 1
        = ap (λ b. cond {A = ℕ} b 1 0) (sending_line s c (events_of older) tag (may tag (is_send-itself tag.group tag.round tag.meter tag.kind))) in
        omega (arith, one, later)
    by_event (Take tag) may later = omega (arith, later)
    by_event (Close g r) may later = omega (arith, later)
    by_event (End g r) may later = omega (arith, later)

-- ---- the takes

-- a tag that comes at a tick
pub record Arrival : Type 0 where
  pub tick : ℕ
  pub tag : Tag

abbrev pub same_arrival : Arrival → Arrival → Bool
same_arrival a b = is_tag a.tag.group a.tag.round a.tag.meter a.tag.kind b.tag && (b.tick == a.tick)

is_same_arrival : (a b : Arrival) → same_arrival a b ≡ true → a ≡ b
is_same_arrival a b h =
    let both = and_parts (is_tag a.tag.group a.tag.round a.tag.meter a.tag.kind b.tag) (b.tick == a.tick) h in
    let send : Send b.tag ≡ Send a.tag = is_send-true a.tag.group a.tag.round a.tag.meter a.tag.kind (Send b.tag) both.0 in
    let tags : b.tag ≡ a.tag = cc send in
    let ticks : b.tick ≡ a.tick = eqb-true b.tick a.tick both.1 in
    sym (λ j. record { tick = ticks j; tag = tags j })

arrival_itself : (a : Arrival) → same_arrival a a ≡ true
arrival_itself a = and_from (is_tag a.tag.group a.tag.round a.tag.meter a.tag.kind a.tag) (a.tick == a.tick) (is_send-itself a.tag.group a.tag.round a.tag.meter a.tag.kind) (eq-eqb a.tick a.tick refl)

abbrev pub taken_tags : Event → List Tag
taken_tags (Take tag) = tag ∷ []
taken_tags _ = []

abbrev pub arrivals : List Entry → List Arrival
arrivals entries = flat_map (λ e. map (λ tag. record { tick = e.tick; tag = tag }) (taken_tags (event_of e.line))) entries

abbrev pub arrivals_of : Post → List Arrival
arrivals_of p = map (λ d. record { tick = p.tick + d; tag = p.tag }) p.fate

abbrev pub due_arrivals : List Entry → List Arrival
due_arrivals entries = flat_map arrivals_of (posts_of entries)

abbrev pub once_more : Arrival → Arrival → ℕ
once_more z a = cond (same_arrival z a) 1 0

taken_times : (entries : List Entry) (z : Arrival) → sum_by (once_more z) (arrivals entries) ≡ takes_at entries z.tag z.tick
taken_times entries z =
    sum_by-flat_map (once_more z) (λ e. map (λ tag. record { tick = e.tick; tag = tag }) (taken_tags (event_of e.line))) entries
    ∙ ap (λ f. sum_by f entries) (fun_ext (λ e. by_event e (event_of e.line)))
  where
    by_event : (e : Entry) (v : Event) → sum_by (once_more z) (map (λ tag. record { tick = e.tick; tag = tag }) (taken_tags v)) ≡ cond (is_take z.tag.group z.tag.round z.tag.meter z.tag.kind v && (e.tick == z.tick)) 1 0
    by_event e (Take tag) = sum_by-cons (once_more z) (record { tick = e.tick; tag = tag }) [] ∙ omega arith
    by_event e (Send tag) = refl
    by_event e (Close g r) = refl
    by_event e (End g r) = refl

due_times : (entries : List Entry) (z : Arrival) → sum_by (once_more z) (due_arrivals entries) ≡ sum_by (copies z.tag z.tick) entries
due_times entries z =
    sum_by-flat_map (once_more z) arrivals_of (posts_of entries)
    ∙ sum_by-flat_map (λ p. sum_by (once_more z) (arrivals_of p)) (λ e. map (λ tag. record { tick = e.tick; tag = tag; fate = e.fate }) (tags_of (event_of e.line))) entries
    ∙ ap (λ f. sum_by f entries) (fun_ext (λ e. by_event e (event_of e.line)))
  where
    sum_zero : (ds : List ℕ) → sum_by (λ (_ : ℕ). 0) ds ≡ 0
    sum_zero [] = refl
    sum_zero (d ∷ ds) = omega (arith, sum_by-cons (λ (_ : ℕ). 0) d ds, sum_zero ds)

    by_place : (b : Bool) (e : Entry) → sum_by (λ d. cond (b && (e.tick + d == z.tick)) 1 0) e.fate ≡ cond b (count_by (λ d. e.tick + d == z.tick) e.fate) 0
    by_place true e = refl
    by_place false e = sum_zero e.fate

    by_event : (e : Entry) (v : Event) → sum_by (λ p. sum_by (once_more z) (arrivals_of p)) (map (λ tag. record { tick = e.tick; tag = tag; fate = e.fate }) (tags_of v))
        ≡ cond (is_send z.tag.group z.tag.round z.tag.meter z.tag.kind v) (count_by (λ d. e.tick + d == z.tick) e.fate) 0
    by_event e (Send tag) =
        let p : Post = record { tick = e.tick; tag = tag; fate = e.fate } in
        sum_by-cons (λ q. sum_by (once_more z) (arrivals_of q)) p []
        ∙ omega (arith, sum_by-map (once_more z) (λ d. record { tick = p.tick + d; tag = p.tag }) p.fate, by_place (is_tag z.tag.group z.tag.round z.tag.meter z.tag.kind tag) e)
    by_event e (Take tag) = refl
    by_event e (Close g r) = refl
    by_event e (End g r) = refl

length-map_of : {X Y : Type 0} (f : X → Y) (xs : List X) → length (map f xs) ≡ length xs
length-map_of f [] = refl
length-map_of f (x ∷ xs) = ap suc (length-map_of f xs)

takes_are : (s : Shape) (c : Contents) (p : List Event) (rest : List Entry) → count_by is_taking (lines_after s c p (events_of rest)) ≡ length (arrivals rest)
unfolding lines_after
takes_are s c p [] = refl
takes_are s c p (e ∷ rest) =
    sum_by-cons (λ l. cond (is_taking l) 1 0) (line s c p (event_of e.line)) (lines_after s c ((event_of e.line) ∷ p) (events_of rest))
    ∙ by_event (event_of e.line) (takes_are s c ((event_of e.line) ∷ p) rest)
  where
    by_event : (v : Event) → count_by is_taking (lines_after s c ((event_of e.line) ∷ p) (events_of rest)) ≡ length (arrivals rest)
        → cond (is_taking (line s c p v)) 1 0 + count_by is_taking (lines_after s c ((event_of e.line) ∷ p) (events_of rest)) ≡ length (map (λ tag. record { tick = e.tick; tag = tag }) (taken_tags v) ++ arrivals rest)
    by_event (Take tag) later = omega (arith, later)
    by_event (Send tag) later = omega (arith, later)
    by_event (Close g r) later = omega (arith, later)
    by_event (End g r) later = omega (arith, later)

pub summaries : (s : Shape) (c : Clock) (slots : List Slot) (entries : List Entry) (words : Contents) → IsRunPlan s c → HaveDelays entries → IsTickRun s c slots entries
    → summary_of_lines s c words.total (lines_after s words [] (events_of entries)) ≡ summary_of_posts s c words.total (posts_of entries)
summaries s c slots entries words plan delays run =
    let fate : ℕ → Tag → List ℕ = fate_at (posts_of entries) in
    let by : IsRunBy s c fate entries = run_by s c slots entries delays run in
    let facts : TickFacts s c fate (reverse entries) = run_facts s c fate entries plan by in
    let ls : List Line = lines_after s words [] (events_of entries) in
    let past : reverse (map event_of ls) ≡ events_of (reverse entries) = ap reverse (events-lines s words [] (events_of entries)) ∙ sym (events-reverse entries) in
    let rows : all_rows s c (λ g r. outcome_row s words.total g r (reverse (map event_of ls))) ≡ all_rows s c (row s c fate words.total)
    = rows_same s c _ _ (λ g r g_in r_in. ap (outcome_row s words.total g r) past ∙ rows_are s c fate entries plan by words.total g r g_in r_in) in
    let sends : count_by is_sending ls ≡ length (posts_of entries)
    = sends_are s words [] entries (λ e before at tag is. effective s c fate (reverse entries) facts tag.kind tag.group tag.round tag.meter e.tick (record { entry = e; older = before; at = at; passes = is; when = refl })) in
    let takes : count_by is_taking ls ≡ sum_by (λ p. length p.fate) (posts_of entries)
    = takes_are s words [] entries
    ∙ same_length same_arrival is_same_arrival arrival_itself (arrivals entries) (due_arrivals entries) (λ z. taken_times entries z ∙ run.taken z.tag z.tick ∙ sym (due_times entries z))
    ∙ length-flat_map arrivals_of (posts_of entries)
    ∙ ap (λ f. sum_by f (posts_of entries)) (fun_ext (λ p. length-map_of (λ d. record { tick = p.tick + d; tag = p.tag }) p.fate)) in
    ap (λ z. summary s c z (count_by is_sending ls) (count_by is_taking ls)) rows
    ∙ ap (λ z. summary s c (all_rows s c (row s c fate words.total)) z (count_by is_taking ls)) sends
    ∙ ap (λ z. summary s c (all_rows s c (row s c fate words.total)) (length (posts_of entries)) z) takes
