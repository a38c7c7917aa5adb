-- The texts of a run of a plan within the limits are short.
use Rattle.std.proofs.Common.{◌≡◌, ℕ, zero, suc, ◌+◌, ◌*◌, ◌<◌, ◌≤◌, ◌==◌, nat_le, Bool, true, false, cond, ◌&&◌, IsTrue, if◌then◌else◌, List, [], ◌∷◌, ◌++◌, length, map, All, refl, sym, ap, ◌∙◌, subst, arith, get_or, length-append, codes, decimal}
use Rattle.std.specs.List.{sum_by, count_by, filter, flat_map, range_with_len, list_all}
use Rattle.std.proofs.Math.Nat.{mul_comm, mul_right_comm}
use mathlib.Core.Path.{fun_ext}
use Rattle.std.proofs.lemmas.Bool.{and_parts}
use Rattle.std.proofs.lemmas.Bool.Decides.{nat_tests}
use Rattle.std.proofs.lemmas.List.{length-map}
use Rattle.std.proofs.lemmas.List.Concat.{length-flat_map}
use Rattle.std.proofs.lemmas.List.Elements.{All-nil, All-cons, All-head, All-tail, All-append}
use Rattle.std.proofs.lemmas.List.FromFn.{length-range_with_len, length-map-range_with_len}
use Rattle.std.proofs.lemmas.List.Sums.{sum_by-cons, sum_by-le}
use Rattle.std.proofs.lemmas.Nat.{mul-le}
use Rattle.std.proofs.lemmas.Option.{slice_get-get_or}
use Rattle.group_plan.specs.Names.{is_name, is_name_byte}
use Rattle.group_plan.specs.NewPlans.{stated}
use Rattle.group_plan.specs.Plans.{Group, PlanView, IsWithinLimits, size, size_or, floor_or, name_or, all_meters}
use Rattle.group_plan.specs.declared.plan.GroupPlan.{GroupPlan}
use Rattle.group_plan.specs.declared.plan.members.Span.{Span}
use Rattle.link_lanes.specs.declared.Post.{Post}
use Rattle.link_lanes.specs.Lanes.{Slot}
use Rattle.event_schedule.specs.declared.Entry.{Entry}
use Rattle.event_schedule.specs.declared.Event.{Event}
use Rattle.event_schedule.specs.declared.Event.TheVariants as event
use Rattle.event_schedule.specs.declared.Line.{Line}
use Rattle.event_schedule.specs.declared.Line.TheVariants.{Send, Take, Close, End}
use Rattle.event_schedule.specs.Events.{event_of, lines_of, is_close, is_end}
use Rattle.transcript_log.specs.Kinds.{is_taking}
use Rattle.event_schedule.specs.Schedule.{Shape}
use Rattle.event_schedule.specs.Transcript.{Contents}
use Rattle.event_schedule.specs.Transcripts.{Fits, IsEntry}
use Rattle.event_schedule.proofs.ListLemmas.{sum_by-flat_map, sum_by-map}
use Rattle.transcript_text.specs.declared.version.Version.TheVariants.{Two}
use Rattle.transcript_text.specs.Spelling.{joined, ended, entry_text, entries_text, rounds_fields, windows_fields, group_fields, member_fields, groups_text, members_text, is_partial, span_at, spans_below, stated_spans, head_text, text_of}
use Rattle.run_rows.specs.Report.{Row}
use Rattle.run_rows.specs.Runs.{IsRun}
use Rattle.run_rows.specs.Ticks.{Clock, clock_of, tags_of, posts_of, StandsOnce, IsRunPlan}
use Rattle.run_rows.proofs.PostLemmas.{posts_are}
use Rattle.run_rows.proofs.SummaryLemmas.{summaries}
use Rattle.totals_report.specs.declared.row.ReportRow.{ReportRow}
use Rattle.totals_report.specs.declared.row.RowOutcome.{RowOutcome}
use Rattle.totals_report.specs.declared.row.RowOutcome.TheVariants.{Total, Lacking, Thin, Running}
use Rattle.totals_report.specs.Reports.{group_rows, report_row, report_rows}
use Rattle.totals_report.specs.Rows.{IsRow, IsSmallTotal}
use Rattle.totals_report.specs.Texts.{outcome_word, total_text, fields_of, row_line, heading, lines_text}
use Rattle.audit_check.specs.Lengths.{shape_with, TranscriptsAreShort, ReportsAreShort}
use Rattle.audit_check.proofs.PostCounts.{sum_le, sum_both, sum_zero, sum_part, sum_filter_le, sum_times, posts_few}
use Rattle.audit_check.proofs.TextLengths.{most, line_le, join_le, three, four, ten, twenty, set_le}

-- ---- sums

sum_le_all : {X : Type 0} (P : X → Type 0) (f h : X → ℕ) (xs : List X) → All P xs → ((x : X) → P x → f x ≤ h x) → sum_by f xs ≤ sum_by h xs
sum_le_all P f h [] all le = omega arith
sum_le_all P f h (x ∷ xs) all le =
    omega (arith, le x (All-head P x xs all), sum_by-cons f x xs, sum_by-cons h x xs, sum_le_all P f h xs (All-tail P x xs all) le)

sum_range_le : (f h : ℕ → ℕ) (a n : ℕ) → ((i : ℕ) → a ≤ i → i < a + n → f i ≤ h i) → sum_by f (range_with_len a n) ≤ sum_by h (range_with_len a n)
sum_range_le f h a zero le = omega arith
sum_range_le f h a (suc n) le =
    omega (
      arith,
      le a (omega arith) (omega arith),
      sum_by-cons f a (range_with_len (a + 1) n),
      sum_by-cons h a (range_with_len (a + 1) n),
      sum_range_le f h (a + 1) n (λ i low high. le i (omega (arith, low)) (omega (arith, high))),
    )

sum_swap : {X Y : Type 0} (f : X → Y → ℕ) (xs : List X) (ys : List Y) → sum_by (λ x. sum_by (f x) ys) xs ≡ sum_by (λ y. sum_by (λ x. f x y) xs) ys
sum_swap f [] ys = sym (sum_zero ys)
sum_swap f (x ∷ xs) ys =
    sum_by-cons (λ x. sum_by (f x) ys) x xs ∙ ap (λ z. sum_by (f x) ys + z) (sum_swap f xs ys)
    ∙ sym (sum_both (f x) (λ y. sum_by (λ x. f x y) xs) ys) ∙ ap (λ h. sum_by h ys) (fun_ext (λ y. sym (sum_by-cons (λ x. f x y) x xs)))

sum_same : {X : Type 0} (k : ℕ) (xs : List X) → sum_by (λ (_ : X). k) xs ≡ length xs * k
sum_same k [] = omega arith
sum_same k (x ∷ xs) = sum_by-cons (λ (_ : _). k) x xs ∙ (ap (λ z. k + z) (sum_same k xs) ∙ omega arith)

-- the meters of all groups, group by group
meters_again : (groups : List Group) → sum_by (λ g. size groups g) (range_with_len 0 (length groups)) ≡ all_meters groups
meters_again [] = refl
meters_again (x ∷ xs) =
    sum_by-cons (λ g. size (x ∷ xs) g) 0 (range_with_len 1 (length xs))
    ∙ (ap (λ z. length x.spans + z) (shifted (λ g. size (x ∷ xs) g) 0 (length xs) ∙ meters_again xs) ∙ sym (sum_by-cons (λ (g : Group). length g.spans) x xs))
  where
    shifted : (f : ℕ → ℕ) (a n : ℕ) → sum_by f (range_with_len (suc a) n) ≡ sum_by (λ g. f (suc g)) (range_with_len a n)
    shifted f a zero = refl
    shifted f a (suc n) =
        sum_by-cons f (suc a) (range_with_len (suc a + 1) n) ∙ (ap (λ z. f (suc a) + z) (ap (λ b. sum_by f (range_with_len b n)) (omega arith) ∙ shifted f (a + 1) n)
        ∙ sym (sum_by-cons (λ g. f (suc g)) a (range_with_len (a + 1) n)))

-- ---- events that stand once

none_sum : (p : Entry → Bool) (k : ℕ) (es : List Entry) → length (filter p es) ≤ 0 → sum_by (λ (e : Entry). cond (p e) k 0) es ≡ 0
none_sum p k [] few = refl
none_sum p k (e ∷ es) few = sum_by-cons (λ (e : Entry). cond (p e) k 0) e es ∙ step (p e) few (none_sum p k es)
  where
    step : (b : Bool) → length (cond b (e ∷ filter p es) (filter p es)) ≤ 0 → (length (filter p es) ≤ 0 → sum_by (λ (e : Entry). cond (p e) k 0) es ≡ 0)
        → cond b k 0 + sum_by (λ (e : Entry). cond (p e) k 0) es ≡ 0
    step true few later = absurd (omega (arith, few))
    step false few later = let none = later few in omega (arith, none)

once_sum : (p : Entry → Bool) (k : ℕ) (es : List Entry) → length (filter p es) ≤ 1 → sum_by (λ (e : Entry). cond (p e) k 0) es ≤ k
once_sum p k [] few = omega arith
once_sum p k (e ∷ es) few = let cons = sum_by-cons (λ (e : Entry). cond (p e) k 0) e es in omega (arith, cons, step (p e) few (once_sum p k es))
  where
    step : (b : Bool) → length (cond b (e ∷ filter p es) (filter p es)) ≤ 1 → (length (filter p es) ≤ 1 → sum_by (λ (e : Entry). cond (p e) k 0) es ≤ k)
        → cond b k 0 + sum_by (λ (e : Entry). cond (p e) k 0) es ≤ k
    step true few later = let none = none_sum p k es (omega (arith, few)) in omega (arith, none)
    step false few later = let le = later few in omega (arith, le)

stands_le : (test : Event → Bool) (due : Bool) (tick k : ℕ) (es : List Entry) → StandsOnce test due tick es → sum_by (λ (e : Entry). cond (test (event_of e.line)) k 0) es ≤ k
stands_le test due tick k es once =
    let p : Entry → Bool = λ e. test (event_of e.line) in
    let long = length-map (filter p es) (λ (e : Entry). e.tick) in
    let same = ap length once in
    once_sum p k es (omega (arith, long, same, one due))
  where
    one : (b : Bool) → length (if b then tick ∷ [] else []) ≤ 1
    one true = omega arith
    one false = omega arith

-- a name is short
name_few : (name : List ℕ) → IsTrue (is_name name) → length name ≤ 16
name_few name is =
    let both = and_parts (nat_le 1 (length name) && nat_le (length name) 16) (list_all is_name_byte name) is in
    let few = and_parts (nat_le 1 (length name)) (nat_le (length name) 16) both.0 in
    grind (arith, nat_tests, few.1)

-- ---- the entries of a plan

module _ (plan : PlanView) (limits : IsWithinLimits plan) where
  abbrev groups : List ℕ
  groups = range_with_len 0 (length plan.groups)

  abbrev rounds : List ℕ
  rounds = range_with_len 0 plan.rounds

  abbrev k : ℕ → ℕ
  k g = size plan.groups g * 25

  abbrev meters : ℕ
  meters = sum_by (λ g. size plan.groups g) groups

  -- the places of the plan
  places : meters * plan.rounds ≤ 131072
  places = let few = limits.readings in omega (arith, ap (λ z. z * plan.rounds) (meters_again plan.groups), mul_comm (all_meters plan.groups) plan.rounds, few)

  few_meters : meters ≤ 131072
  few_meters = let some = limits.some_round in let more = mul-le meters 1 meters plan.rounds (omega arith) some in omega (arith, more, places)

  -- a part for each group and round
  abbrev cells : ℕ
  cells = sum_by (λ g. sum_by (λ (_ : ℕ). k g) rounds) groups

  cells_few : cells ≤ 25 * 131072
  cells_few =
      let each : cells ≡ sum_by (λ g. k g * length rounds) groups = ap (λ h. sum_by h groups) (fun_ext (λ g. sum_same (k g) rounds ∙ mul_comm (length rounds) (k g))) in
      let all : sum_by (λ g. k g * length rounds) groups ≡ meters * 25 * length rounds =
      sum_times k (length rounds) groups ∙ ap (λ z. z * length rounds) (sum_times (λ g. size plan.groups g) 25 groups)
      in
      let turned : meters * 25 * length rounds ≡ meters * length rounds * 25 = mul_right_comm meters 25 (length rounds) in
      let long : meters * length rounds ≡ meters * plan.rounds = ap (λ z. meters * z) (length-range_with_len 0 plan.rounds) in
      omega (arith, each, all, turned, long, places)

  spread : (test : ℕ → ℕ → Event → Bool) (w : Event → ℕ) (es : List Entry)
      → ((e : Entry) → Fits plan e → w (event_of e.line) ≤ sum_by (λ g. sum_by (λ r. cond (test g r (event_of e.line)) (k g) 0) rounds) groups)
      → All (Fits plan) es → ((g r : ℕ) → sum_by (λ (e : Entry). cond (test g r (event_of e.line)) (k g) 0) es ≤ k g) → sum_by (λ (e : Entry). w (event_of e.line)) es ≤ cells
  spread test w es here fit once =
      let cell : ℕ → ℕ → Entry → ℕ = λ g r e. cond (test g r (event_of e.line)) (k g) 0 in
      let over = sum_le_all (Fits plan) (λ (e : Entry). w (event_of e.line)) (λ e. sum_by (λ g. sum_by (λ r. cell g r e) rounds) groups) es fit here in
      let by_group = sum_swap (λ e g. sum_by (λ r. cell g r e) rounds) es groups in
      let by_round : (g : ℕ) → sum_by (λ e. sum_by (λ r. cell g r e) rounds) es ≤ sum_by (λ (_ : ℕ). k g) rounds =
      λ g. let turned = sum_swap (λ e r. cell g r e) es rounds in let le = sum_le (λ r. sum_by (cell g r) es) (λ (_ : ℕ). k g) rounds (λ r. once g r) in omega (arith, turned, le)
      in
      let all = sum_le (λ g. sum_by (λ e. sum_by (λ r. cell g r e) rounds) es) (λ g. sum_by (λ (_ : ℕ). k g) rounds) groups by_round in
      omega (arith, over, by_group, all)

  -- the part of a group and a round is one of all
  in_cells : (f : ℕ → ℕ → ℕ) (g r : ℕ) → g < length plan.groups → r < plan.rounds → f g r ≤ sum_by (λ g. sum_by (f g) rounds) groups
  in_cells f g r group round =
      omega (
        arith,
        sum_part (f g) r 0 plan.rounds (omega arith) (omega (arith, round)),
        sum_part (λ g. sum_by (f g) rounds) g 0 (length plan.groups) (omega arith) (omega (arith, group)),
      )

  same_place : (g r n : ℕ) → cond {A = ℕ} ((g == g) && (r == r)) n 0 ≡ n
  same_place g r n = grind (arith, nat_tests)

  abbrev closing_most : Event → ℕ
  closing_most (event.Close g r) = k g
  closing_most _ = 0

  abbrev ending_most : Event → ℕ
  ending_most (event.End g r) = k g
  ending_most _ = 0

  closing_here : (e : Entry) → Fits plan e → closing_most (event_of e.line) ≤ sum_by (λ g. sum_by (λ r. cond (is_close g r (event_of e.line)) (k g) 0) rounds) groups
  closing_here e fits = by_line e.line fits
    where
      by_line : (l : Line) → Fits plan (record e { line = l }) → closing_most (event_of l) ≤ sum_by (λ g. sum_by (λ r. cond (is_close g r (event_of l)) (k g) 0) rounds) groups
      by_line (Close g r c) fits = omega (arith, in_cells (λ h q. cond (is_close h q (event.Close g r)) (k h) 0) g r fits.0.group fits.0.round, same_place g r (k g))
      by_line (Send tag f) fits = omega arith
      by_line (Take tag v) fits = omega arith
      by_line (End g r c) fits = omega arith

  ending_here : (e : Entry) → Fits plan e → ending_most (event_of e.line) ≤ sum_by (λ g. sum_by (λ r. cond (is_end g r (event_of e.line)) (k g) 0) rounds) groups
  ending_here e fits = by_line e.line fits
    where
      by_line : (l : Line) → Fits plan (record e { line = l }) → ending_most (event_of l) ≤ sum_by (λ g. sum_by (λ r. cond (is_end g r (event_of l)) (k g) 0) rounds) groups
      by_line (End g r c) fits = omega (arith, in_cells (λ h q. cond (is_end h q (event.End g r)) (k h) 0) g r fits.0.group fits.0.round, same_place g r (k g))
      by_line (Send tag f) fits = omega arith
      by_line (Take tag v) fits = omega arith
      by_line (Close g r c) fits = omega arith

  -- ---- the entries of a run

  abbrev post_most : Line → ℕ
  post_most l = length (tags_of (event_of l)) * 150

  abbrev take_most : Line → ℕ
  take_most l = cond {A = ℕ} (is_taking l) 1 0 * 40

  most_is : (l : Line) → most plan l ≤ post_most l + take_most l + closing_most (event_of l) + ending_most (event_of l)
  most_is (Send tag f) = omega arith
  most_is (Take tag v) = omega arith
  most_is (Close g r c) = omega arith
  most_is (End g r e) = omega arith

  -- each entry's line, with its newline
  lines_most : (es : List Entry) → All (Fits plan) es → All IsEntry es → sum_by (λ (e : Entry). length (ended (entry_text Two e))) es ≤ sum_by (λ (e : Entry). most plan e.line) es
  unfolding entry_text
  lines_most [] fit are = omega arith
  lines_most (e ∷ es) fit are =
      let fits = All-head (Fits plan) e es fit in
      let is = All-head IsEntry e es are in
      let text = entry_text Two e in
      omega (
        arith,
        line_le plan limits e.tick e.fate is.tick is.fate e.line fits is.line,
        length-append text (10 ∷ []),
        sum_by-cons (λ (e : Entry). length (ended (entry_text Two e))) e es,
        sum_by-cons (λ (e : Entry). most plan e.line) e es,
        lines_most es (All-tail (Fits plan) e es fit) (All-tail IsEntry e es are),
      )

  few_copies : (es : List Entry) → All IsEntry es → All (λ (p : Post). length p.fate ≤ 3) (posts_of es)
  few_copies [] are = All-nil (λ (p : Post). length p.fate ≤ 3)
  few_copies (e ∷ es) are =
      let is = All-head IsEntry e es are in
      All-append (λ (p : Post). length p.fate ≤ 3) (map (λ tag. record { tick = e.tick; tag = tag; fate = e.fate }) (tags_of (event_of e.line))) (posts_of es)
      (by_event (event_of e.line) is.fate.few) (few_copies es (All-tail IsEntry e es are))
    where
      by_event : (v : Event) → length e.fate ≤ 3 → All (λ (p : Post). length p.fate ≤ 3) (map (λ tag. record { tick = e.tick; tag = tag; fate = e.fate }) (tags_of v))
      by_event (event.Send tag) few = All-cons (λ (p : Post). length p.fate ≤ 3) (record { tick = e.tick; tag = tag; fate = e.fate }) [] few (All-nil (λ (p : Post). length p.fate ≤ 3))
      by_event (event.Take tag) few = All-nil (λ (p : Post). length p.fate ≤ 3)
      by_event (event.Close g r) few = All-nil (λ (p : Post). length p.fate ≤ 3)
      by_event (event.End g r) few = All-nil (λ (p : Post). length p.fate ≤ 3)

  posts_counted : (es : List Entry) → sum_by (λ (e : Entry). length (tags_of (event_of e.line))) es ≡ length (posts_of es)
  posts_counted es =
      ap (λ h. sum_by h es) (fun_ext (λ (e : Entry). sym (length-map (tags_of (event_of e.line)) (λ tag. record { tick = e.tick; tag = tag; fate = e.fate }))))
      ∙ sym (length-flat_map (λ (e : Entry). map (λ tag. record { tick = e.tick; tag = tag; fate = e.fate }) (tags_of (event_of e.line))) es)

  takes_counted : (es : List Entry) → sum_by (λ (e : Entry). cond {A = ℕ} (is_taking e.line) 1 0) es ≡ count_by is_taking (lines_of es)
  takes_counted es = sym (sum_by-map (λ l. cond {A = ℕ} (is_taking l) 1 0) (λ (e : Entry). e.line) es)

  module _ (present : ℕ → ℕ → ℕ → Bool) (slots : List Slot) (words : Contents) (es : List Entry) (run_plan : IsRunPlan (shape_with plan present) (clock_of plan))
      (is : IsRun (shape_with plan present) (clock_of plan) slots words es) (fit : All (Fits plan) es) (are : All IsEntry es) where
    abbrev s : Shape
    s = shape_with plan present

    abbrev c : Clock
    c = clock_of plan

    posts_le : length (posts_of es) ≤ 5 * 131072
    posts_le =
        let same = posts_are s c slots es run_plan is.delays is.run in
        let few = posts_few s c slots (subst (λ ps. All (λ (p : Post). length p.fate ≤ 3) ps) same (few_copies es are)) in
        omega (arith, ap length same, few, places)

    takes_le : count_by is_taking (lines_of es) ≤ 15 * 131072
    takes_le =
        let counted = ap (λ (x : _). x.takes) (summaries s c slots es words run_plan is.delays is.run) in
        let lines = ap (count_by is_taking) is.lines in
        let copies = sum_by-le (λ (p : Post). length p.fate) 3 (posts_of es) (few_copies es are) in
        omega (arith, counted, lines, copies, posts_le)

    pub entries_le : sum_by (λ (e : Entry). length (ended (entry_text Two e))) es ≤ 1400 * 131072
    entries_le =
        let closes = spread is_close closing_most es closing_here fit (λ g r. stands_le (is_close g r) _ _ (k g) es (is.run.closed g r)) in
        let ends = spread is_end ending_most es ending_here fit (λ g r. stands_le (is_end g r) _ _ (k g) es (is.run.ended g r)) in
        omega (
          arith,
          lines_most es fit are,
          sum_le (λ (e : Entry). most plan e.line) (λ (e : Entry). post_most e.line + take_most e.line + closing_most (event_of e.line) + ending_most (event_of e.line)) es (λ e. most_is e.line),
          sum_both (λ (e : Entry). post_most e.line + take_most e.line + closing_most (event_of e.line)) (λ (e : Entry). ending_most (event_of e.line)) es,
          sum_both (λ (e : Entry). post_most e.line + take_most e.line) (λ (e : Entry). closing_most (event_of e.line)) es,
          sum_both (λ (e : Entry). post_most e.line) (λ (e : Entry). take_most e.line) es,
          sum_times (λ (e : Entry). length (tags_of (event_of e.line))) 150 es,
          sum_times (λ (e : Entry). cond {A = ℕ} (is_taking e.line) 1 0) 40 es,
          posts_counted es,
          takes_counted es,
          posts_le,
          takes_le,
          closes,
          ends,
          cells_few,
        )

  -- ---- the head

  group_few : All (λ (g : Group). length (ended (joined (group_fields (stated g)))) ≤ 40) plan.groups
  group_few n d lt =
      let group : Group = get_or plan.groups n d in
      let here = slice_get-get_or plan.groups n d lt in
      let named = name_few group.name (subst (λ o. IsTrue (is_name (name_or o))) here (limits.names n lt)) in
      let size_is = ap size_or here in
      let floor_is = ap floor_or here in
      let meters = limits.meters n in
      let floor = limits.floor_to n in
      omega (
        arith,
        length-append (joined (group_fields (stated group))) (10 ∷ []),
        join_le 44 (group_fields (stated group)),
        named,
        four (length group.spans) (omega (arith, size_is, meters)),
        four group.floor (omega (arith, floor_is, floor, meters)),
      )

  span_few : (g i : ℕ) → g < length plan.groups → i < size plan.groups g → length (ended (joined (member_fields (span_at plan g i)))) ≤ 30
  span_few g i group meter =
      let span = span_at plan g i in
      let groups = limits.groups in
      let meters = limits.meters g in
      let from = limits.span_from g i meter in
      let until = limits.span_to g i meter in
      let rounds = limits.rounds in
      omega (
        arith,
        length-append (joined (member_fields span)) (10 ∷ []),
        join_le 44 (member_fields span),
        three g (omega (arith, group, groups)),
        three i (omega (arith, meter, meters)),
        four span.from (omega (arith, from, until, rounds)),
        four span.until (omega (arith, until, rounds)),
      )

  groups_few : length (groups_text (map stated plan.groups)) ≤ 256 * 40
  groups_few =
      let line : GroupPlan → ℕ = λ g. length (ended (joined (group_fields g))) in
      let few = limits.groups in
      omega (
        arith,
        length-flat_map (λ (g : GroupPlan). ended (joined (group_fields g))) (map stated plan.groups),
        sum_by-map line stated plan.groups,
        sum_by-le (λ (g : Group). line (stated g)) 40 plan.groups group_few,
        few,
      )

  members_few : length (members_text (stated_spans plan)) ≤ 30 * 131072
  unfolding stated_spans
  members_few =
      let line : Span → ℕ = λ span. length (ended (joined (member_fields span))) in
      let of_group : ℕ → ℕ = λ g. sum_by line (spans_below plan g (size plan.groups g)) in
      let in_group : (g : ℕ) → 0 ≤ g → g < 0 + length plan.groups → of_group g ≤ size plan.groups g * 30 =
      λ g _ group.
      let kept = sum_filter_le (is_partial plan.rounds) line (map (span_at plan g) (range_with_len 0 (size plan.groups g))) in
      let mapped = sum_by-map line (span_at plan g) (range_with_len 0 (size plan.groups g)) in
      let each = sum_range_le (λ i. line (span_at plan g i)) (λ _. 30) 0 (size plan.groups g) (λ i _ meter. span_few g i (omega (arith, group)) (omega (arith, meter))) in
      let same = sum_same 30 (range_with_len 0 (size plan.groups g)) in
      omega (arith, kept, mapped, each, same, length-range_with_len 0 (size plan.groups g))
      in
      omega (
        arith,
        length-flat_map (λ (span : Span). ended (joined (member_fields span))) (stated_spans plan),
        sum_by-flat_map line (λ g. spans_below plan g (size plan.groups g)) groups,
        sum_range_le of_group (λ g. size plan.groups g * 30) 0 (length plan.groups) in_group,
        sum_times (λ g. size plan.groups g) 30 groups,
        few_meters,
      )

  windows_few : length (ended (joined (windows_fields plan.w1 plan.w2))) ≤ 30
  windows_few =
      let w1 = limits.w1_to in
      let w2 = limits.w2_to in
      omega (
        arith,
        length-append (joined (windows_fields plan.w1 plan.w2)) (10 ∷ []),
        join_le 44 (windows_fields plan.w1 plan.w2),
        four plan.w1 (omega (arith, w1)),
        four plan.w2 (omega (arith, w2)),
      )

  rounds_few : length (ended (joined (rounds_fields plan.rounds))) ≤ 30
  rounds_few =
      omega (arith, length-append (joined (rounds_fields plan.rounds)) (10 ∷ []), join_le 44 (rounds_fields plan.rounds), four plan.rounds limits.rounds)

  pub head_few : length (head_text Two plan) ≤ 31 * 131072
  unfolding head_text
  head_few =
      let title : List ℕ = ended (codes "meteragg transcript 2") in
      let R = ended (joined (rounds_fields plan.rounds)) in
      let W = ended (joined (windows_fields plan.w1 plan.w2)) in
      let G = groups_text (map stated plan.groups) in
      let M = members_text (stated_spans plan) in
      let B : List ℕ = ended (codes "begin") in
      omega (
        arith,
        length-append (title ++ R ++ W ++ G ++ M) B,
        length-append (title ++ R ++ W ++ G) M,
        length-append (title ++ R ++ W) G,
        length-append (title ++ R) W,
        length-append title R,
        rounds_few,
        windows_few,
        groups_few,
        members_few,
      )

-- ---- the whole texts

entries_long : (es : List Entry) → length es ≤ sum_by (λ (e : Entry). length (ended (entry_text Two e))) es
entries_long [] = omega arith
entries_long (e ∷ es) =
    omega (arith, length-append (entry_text Two e) (10 ∷ []), sum_by-cons (λ (e : Entry). length (ended (entry_text Two e))) e es, entries_long es)

pub transcripts_short : TranscriptsAreShort
unfolding text_of entries_text
transcripts_short t present slots words is run_plan run =
    let limits = is.plan.limits in
    let few = entries_le t.plan limits present slots words t.entries run_plan run is.fit is.entries in
    let lines = flat_map (λ (e : Entry). ended (entry_text Two e)) t.entries in
    let last : List ℕ = ended (codes "end," ++ decimal (0 + length t.entries)) in
    let count = entries_long t.entries in
    let number = ten (0 + length t.entries) (omega (arith, count, few)) in
    omega (
      arith,
      length-append (head_text Two t.plan) (lines ++ last),
      length-append lines last,
      length-append (codes "end," ++ decimal (0 + length t.entries)) (10 ∷ []),
      length-append (codes "end,") (decimal (0 + length t.entries)),
      length-flat_map (λ (e : Entry). ended (entry_text Two e)) t.entries,
      head_few t.plan limits,
      few,
      number,
    )

-- ---- the report

outcome_few : (outcome : RowOutcome) → IsSmallTotal outcome → length (outcome_word outcome) + length (total_text outcome) ≤ 25
outcome_few (Total total) small = omega (arith, twenty total small)
outcome_few Lacking small = omega arith
outcome_few Thin small = omega arith
outcome_few Running small = omega arith

row_few : (row : ReportRow) → IsRow row → length (ended (row_line row)) ≤ 1200
unfolding row_line
row_few row is =
    let round = is.round in
    let survivors = is.survivors in
    omega (
      arith,
      length-append (row_line row) (10 ∷ []),
      join_le 44 (fields_of row),
      name_few row.name is.named,
      four row.round (omega (arith, round)),
      four row.survivors (omega (arith, survivors)),
      set_le 256 row.missing (omega arith) is.missing is.missing.small,
      outcome_few row.outcome is.total,
    )

rows_long : (plan : PlanView) (row_at : ℕ → ℕ → Row) → length (report_rows plan row_at) ≡ length plan.groups * plan.rounds
unfolding report_rows
rows_long plan row_at =
    length-flat_map (group_rows plan row_at) (range_with_len 0 (length plan.groups))
    ∙ ap (λ h. sum_by h (range_with_len 0 (length plan.groups))) (fun_ext (λ g. length-map-range_with_len (λ r. report_row plan g r (row_at g r)) 0 plan.rounds))
    ∙ sum_same plan.rounds (range_with_len 0 (length plan.groups)) ∙ ap (λ n. n * plan.rounds) (length-range_with_len 0 (length plan.groups))

-- there are two meters or more in each group
rounds_few_enough : (plan : PlanView) → IsWithinLimits plan → length plan.groups * plan.rounds ≤ 65536
rounds_few_enough plan limits =
    let two : sum_by (λ (_ : ℕ). 2) (range_with_len 0 (length plan.groups)) ≤ sum_by (λ g. size plan.groups g) (range_with_len 0 (length plan.groups)) =
    sum_range_le (λ _. 2) (λ g. size plan.groups g) 0 (length plan.groups) (λ g _ group. limits.two_meters g (omega (arith, group))) in
    let twice = sum_same 2 (range_with_len 0 (length plan.groups)) in
    let long = length-range_with_len 0 (length plan.groups) in
    let meters = sum_by (λ g. size plan.groups g) (range_with_len 0 (length plan.groups)) in
    let all : length plan.groups * 2 * plan.rounds ≤ meters * plan.rounds = mul-le (length plan.groups * 2) plan.rounds meters plan.rounds (omega (arith, two, twice, ap (λ n. n * 2) long)) (omega arith) in
    omega (arith, all, mul_right_comm (length plan.groups) 2 plan.rounds, places plan limits)

pub reports_short : ReportsAreShort
unfolding lines_text
reports_short plan row_at limits are =
    let rows = report_rows plan row_at in
    let top : List ℕ = ended heading in
    let each : All (λ (row : ReportRow). length (ended (row_line row)) ≤ 1200) rows = λ n d lt. row_few (get_or rows n d) (are n d lt) in
    omega (
      arith,
      length-append top (lines_text rows),
      length-flat_map (λ (row : ReportRow). ended (row_line row)) rows,
      sum_by-le (λ (row : ReportRow). length (ended (row_line row))) 1200 rows each,
      rows_long plan row_at,
      rounds_few_enough plan limits,
    )
