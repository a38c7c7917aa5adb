-- The report of the head end is the one by the fates of the run.
use Rattle.std.proofs.Common.{◌≡◌, ℕ, ◌+◌, ◌<◌, ◌≤◌, Bool, true, false, cond, not, ◌&&◌, ◌||◌, List, [], ◌∷◌, length, refl, sym, ap, ◌∙◌, subst, arith}
use Rattle.std.specs.Prelude.{◌==◌, nat_lt, nat_le, if◌then◌else◌, filter, All}
use mathlib.Core.List.{reverse}
use mathlib.Core.Path.{fun_ext}
use Rattle.std.specs.List.{list_any, list_all}
use Rattle.std.proofs.lemmas.Bool.{false≢true, and_from, lt-ltb}
use Rattle.std.proofs.lemmas.Bool.Decides.{nat_tests}
use Rattle.std.proofs.lemmas.List.Elements.{All-head, All-tail}
use Rattle.group_plan.specs.declared.Kind.{Kind}
use Rattle.group_plan.specs.declared.Kind.TheVariants.{Reading, Answer}
use Rattle.group_plan.specs.declared.Tag.{Tag}
use Rattle.group_plan.specs.Plans.{PlanView, members, floor_of}
use Rattle.meter_frames.specs.declared.Frame.{Frame}
use Rattle.round_machine.specs.declared.Ending.TheVariants as endings
use Rattle.event_schedule.specs.declared.Entry.{Entry}
use Rattle.event_schedule.specs.Events.{is_tag, events_of, lines_of}
use Rattle.event_schedule.specs.Tables.{Readings, Masks, IsBounded, plain_sum}
use Rattle.event_schedule.specs.Schedule.{is_announced as is_announced_there}
use Rattle.event_schedule.specs.Transcript.{shape_of_readings, contents_of_tables, lines_after}
use Rattle.event_schedule.proofs.ListLemmas.{flat_map_same, tabulate_same}
use Rattle.run_rows.specs.Ticks.{clock_of, IsRunPlan, tag_of}
use Rattle.run_rows.specs.Report.{Row, ThinRow, TotalRow, NoneRow, OpenRow, report_survivors, is_answered_in_time, row}
use Rattle.run_rows.proofs.TickLemmas.{is_reading_taken-ticks}
use Rattle.run_rows.proofs.TickRun.{IsRunBy}
use Rattle.totals_report.specs.Reports.{report_row, report_rows, group_rows}
use Rattle.head_end.specs.declared.answers.Logged.{Logged}
use Rattle.head_end.specs.declared.answers.Logged.TheVariants.{Took, Passed}
use Rattle.head_end.specs.Journal.{passed, all_ticks, is_frame, is_taken, word_taken, is_closed, survivors, lacking, total}
use Rattle.head_end.specs.Lines.{ending, row_in, rows}
use Rattle.head_end.specs.Lines.{row_of as row_by}
use Rattle.head_end.specs.Statements.{HasWordsOf}
use Rattle.head_end.proofs.TotalLemmas.{exact}
use Rattle.apart_runs.proofs.CameLemmas.{answer_came}
use Rattle.apart_runs.proofs.HeadLemmas.{s, whole, past, facts, tag_is, IsOwn, IsAt, is_in_at, at_tick, takers_in, missing_in, announced_in}
use Rattle.apart_runs.specs.HeadRuns.{journal_after}

-- ---- lists

all_alike : (t p q : ℕ → Bool) → ((i : ℕ) → t i ≡ true → p i ≡ q i) → (xs : List ℕ) → list_all p (filter t xs) ≡ list_all q (filter t xs)
all_alike t p q same [] = refl
all_alike t p q same (x ∷ xs) = step (t x) refl (all_alike t p q same xs)
  where
    step : (c : Bool) → t x ≡ c → list_all p (filter t xs) ≡ list_all q (filter t xs) → list_all p (cond c (x ∷ filter t xs) (filter t xs)) ≡ list_all q (cond c (x ∷ filter t xs) (filter t xs))
    step true is later = ap (λ z. z && list_all p (filter t xs)) (same x is) ∙ ap (λ z. q x && z) later
    step false is later = later

-- none is left where all pass
none_left : (b : ℕ → Bool) (xs : List ℕ) → list_all b xs ≡ true → filter (λ i. not (b i)) xs ≡ []
none_left b [] all = refl
none_left b (x ∷ xs) all = by (b x) refl all (none_left b xs)
  where
    by : (c : Bool) → b x ≡ c → (b x && list_all b xs) ≡ true → (list_all b xs ≡ true → filter (λ i. not (b i)) xs ≡ []) → cond (not (b x)) (x ∷ filter (λ i. not (b i)) xs) (filter (λ i. not (b i)) xs) ≡ []
    by true is all later = ap (λ c. cond (not c) (x ∷ filter (λ i. not (b i)) xs) (filter (λ i. not (b i)) xs)) is ∙ later (sym (ap (λ c. c && list_all b xs) is) ∙ all)
    by false is all later = absurd (false≢true (sym (ap (λ c. c && list_all b xs) is) ∙ all))

some_left : (b : ℕ → Bool) (xs : List ℕ) → list_all b xs ≡ false → (length (filter (λ i. not (b i)) xs) == 0) ≡ false
some_left b [] all = absurd (false≢true (sym all))
some_left b (x ∷ xs) all = by (b x) refl all (some_left b xs)
  where
    positive : (n : ℕ) → (n + 1 == 0) ≡ false
    positive n = grind (arith, nat_tests)

    by : (c : Bool) → b x ≡ c → (b x && list_all b xs) ≡ false → (list_all b xs ≡ false → (length (filter (λ i. not (b i)) xs) == 0) ≡ false)
        → (length (cond (not (b x)) (x ∷ filter (λ i. not (b i)) xs) (filter (λ i. not (b i)) xs)) == 0) ≡ false
    by true is all later = ap (λ c. length (cond (not c) (x ∷ filter (λ i. not (b i)) xs) (filter (λ i. not (b i)) xs)) == 0) is ∙ later (sym (ap (λ c. c && list_all b xs) is) ∙ all)
    by false is all later =
        ap (λ c. length (cond (not c) (x ∷ filter (λ i. not (b i)) xs) (filter (λ i. not (b i)) xs)) == 0) is
        ∙ (let e : length (x ∷ filter (λ i. not (b i)) xs) ≡ length (filter (λ i. not (b i)) xs) + 1 = omega arith in ap (λ n. n == 0) e)
        ∙ positive (length (filter (λ i. not (b i)) xs))

lt_not : (n f : ℕ) → nat_lt n f ≡ not (nat_le f n)
lt_not n f = grind (arith, nat_tests)

-- ---- rows

-- the row of a round with these survivors, by whether they are enough, and whether all have answered
abbrev row_where : Readings → ℕ → ℕ → Bool → Bool → List ℕ → Row
row_where x g r enough all a = if enough then (if all then TotalRow a (plain_sum x g r a) else NoneRow a) else ThinRow a

alike_where : (x : Readings) (g r : ℕ) (enough all every : Bool) (a : List ℕ) → (enough ≡ true → all ≡ every) → row_where x g r enough all a ≡ row_where x g r enough every a
alike_where x g r true all every a same = ap (λ b. row_where x g r true b a) (same refl)
alike_where x g r false all every a same = refl

module _ (plan : PlanView) (x : Readings) (m : Masks) (fate : ℕ → Tag → List ℕ) (xs : List Entry)
    (can : IsRunPlan (shape_of_readings plan.groups x) (clock_of plan)) (run : IsRunBy (shape_of_readings plan.groups x) (clock_of plan) fate xs)
    (same : lines_of xs ≡ lines_after (shape_of_readings plan.groups x) (contents_of_tables plan.groups x m) [] (events_of xs)) where
  -- ---- words

  pub record HasWord (g r : ℕ) (k : Kind) (j : List Logged) (i : ℕ) : Type 0 where
    pub word_is : word_taken g r k j i ≡ (whole plan x m fate xs can run same (tag_of k g r i)).word
    pub round : r < plan.rounds

  pub own_word : (g r : ℕ) (k : Kind) (i : ℕ) (j : List Logged) → All (IsOwn plan x m fate xs can run same) j → is_taken g r k j i ≡ true → HasWord g r k j i
  unfolding is_taken word_taken
  own_word g r k i [] all is = absurd (false≢true is)
  own_word g r k i (Passed ∷ j) all is =
      let later = own_word g r k i j (All-tail (IsOwn plan x m fate xs can run same) Passed j all) is in
      record { word_is = later.word_is; round = later.round }
  own_word g r k i (Took f ∷ j) all is =
      by (is_tag g r i k f.tag) refl is (All-head (IsOwn plan x m fate xs can run same) (Took f) j all) (own_word g r k i j (All-tail (IsOwn plan x m fate xs can run same) (Took f) j all))
    where
      by : (b : Bool) → is_tag g r i k f.tag ≡ b → (is_tag g r i k f.tag || list_any (is_frame g r k i) j) ≡ true → IsOwn plan x m fate xs can run same (Took f)
          → (list_any (is_frame g r k i) j ≡ true → HasWord g r k j i) → HasWord g r k (Took f ∷ j) i
      by true here is own later =
          let at = tag_is g r i k f.tag here in
          record {
            word_is = ap (λ b. if b then f.word else word_taken g r k j i) here ∙ ap (λ (h : Frame). h.word) own.0 ∙ ap (λ (z : Tag). (whole plan x m fate xs can run same z).word) at;
            round = subst (λ n. n < plan.rounds) (ap (λ (z : Tag). z.round) at) own.1;
          }
      by false other is own later =
          let old = later (sym (ap (λ b. b || list_any (is_frame g r k i) j) other) ∙ is) in
          record { word_is = ap (λ b. if b then f.word else word_taken g r k j i) other ∙ old.word_is; round = old.round }

  words_so : (t : ℕ) (j : List Logged) → IsAt plan x m fate xs can run same t j → all_ticks plan ≤ t → HasWordsOf plan x m j
  words_so t j is over = record {
    readings = λ g r i taken. (own_word g r Reading i j is.frames taken).word_is;
    answers = λ g r i taken.
        let word = own_word g r Answer i j is.frames taken in
        let round : r < plan.rounds = word.round in
        let some : 0 < plan.w2 = can.open_window in
        word.word_is
        ∙ ap ((contents_of_tables plan.groups x m).answer g r i) (sym (missing_in plan x m fate xs can run same t g r j (is_in_at plan x m fate xs can run same t j is) (omega (arith, over, round, some))));
  }

  -- ---- the row of a round

  head_row : (t g r : ℕ) (j : List Logged) → IsAt plan x m fate xs can run same t j → IsBounded plan.groups x → all_ticks plan ≤ t → r < plan.rounds
      → row_in plan j g r ≡ row_where x g r (nat_le (floor_of plan.groups g) (length (survivors plan j g r))) (list_all (is_taken g r Answer j) (survivors plan j g r)) (survivors plan j g r)
  head_row t g r j is bounded over round =
      let p : passed j ≡ all_ticks plan = is.stops over in
      let some : 0 < plan.w2 = can.open_window in
      ap (λ b. if b then row_by a (ending plan j g r) else OpenRow a) (lt-ltb (r + plan.w1 + plan.w2) (passed j) (omega (arith, p, round)))
      ∙ ap (λ b. row_by a (if not b then endings.NotClosed else if not (b && enough) then endings.Thin else if length (lacking plan j g r) == 0 then endings.Total (total j g r a) else endings.Lacking (lacking plan j g r)))
      (lt-ltb (r + plan.w1) (passed j) (omega (arith, p, round, some)))
      ∙ by enough (list_all (is_taken g r Answer j) a) refl
    where
      a : List ℕ
      a = survivors plan j g r

      enough : Bool
      enough = nat_le (floor_of plan.groups g) (length (survivors plan j g r))

      by : (b c : Bool) → list_all (is_taken g r Answer j) (survivors plan j g r) ≡ c
          → row_by (survivors plan j g r) (if not b then endings.Thin else if length (lacking plan j g r) == 0 then endings.Total (total j g r (survivors plan j g r)) else endings.Lacking (lacking plan j g r))
          ≡ row_where x g r b c (survivors plan j g r)
      by false c every = refl
      by true true every =
          let none : lacking plan j g r ≡ [] = none_left (is_taken g r Answer j) (survivors plan j g r) every in
          ap (λ (l : List ℕ). row_by (survivors plan j g r) (if length l == 0 then endings.Total (total j g r (survivors plan j g r)) else endings.Lacking l)) none
          ∙ ap (TotalRow (survivors plan j g r)) (exact plan x m j bounded (words_so t j is over) g r none)
      by true false every =
          ap (λ b. row_by (survivors plan j g r) (if b then endings.Total (total j g r (survivors plan j g r)) else endings.Lacking (lacking plan j g r))) (some_left (is_taken g r Answer j) (survivors plan j g r) every)

  fate_row : (g r : ℕ) (a : List ℕ) → report_survivors (s plan x m fate xs can run same) (clock_of plan) fate g r ≡ a
      → row (s plan x m fate xs can run same) (clock_of plan) fate (plain_sum x) g r ≡ row_where x g r (nat_le (floor_of plan.groups g) (length a)) (list_all (λ i. is_answered_in_time (clock_of plan) fate g r i) a) a
  fate_row g r a is =
      ap (λ l. if nat_lt (length l) (floor_of plan.groups g) then ThinRow l else if list_all (λ i. is_answered_in_time (clock_of plan) fate g r i) l then TotalRow l (plain_sum x g r l) else NoneRow l) is
      ∙ ap (λ b. if b then ThinRow a else if list_all (λ i. is_answered_in_time (clock_of plan) fate g r i) a then TotalRow a (plain_sum x g r a) else NoneRow a) (lt_not (length a) (floor_of plan.groups g))
      ∙ by (nat_le (floor_of plan.groups g) (length a))
    where
      by : (b : Bool) → (if not b then ThinRow a else if list_all (λ i. is_answered_in_time (clock_of plan) fate g r i) a then TotalRow a (plain_sum x g r a) else NoneRow a) ≡ row_where x g r b (list_all (λ i. is_answered_in_time (clock_of plan) fate g r i) a) a
      by true = refl
      by false = refl

  row_so : (t g r : ℕ) (j : List Logged) → IsAt plan x m fate xs can run same t j → IsBounded plan.groups x → all_ticks plan ≤ t → g < length plan.groups → r < plan.rounds
      → row_in plan j g r ≡ row (s plan x m fate xs can run same) (clock_of plan) fate (plain_sum x) g r
  row_so t g r j is bounded late group round =
      let inside = is_in_at plan x m fate xs can run same t j is in
      let some : 0 < plan.w2 = can.open_window in
      let p : passed j ≡ all_ticks plan = is.stops late in
      let over : r + plan.w1 < t = omega (arith, late, round, some) in
      let takers = takers_in plan x m fate xs can run same t g r j inside over in
      let survivors_are : report_survivors (s plan x m fate xs can run same) (clock_of plan) fate g r ≡ survivors plan j g r
      = ap (λ (q : ℕ → Bool). filter q (members plan.groups g r)) (fun_ext (λ i. sym (is_reading_taken-ticks (s plan x m fate xs can run same) (clock_of plan) fate (reverse xs) (facts plan x m fate xs can run same) g r i)) ∙ sym takers) in
      head_row t g r j is bounded late round
      ∙ alike_where x g r (nat_le (floor_of plan.groups g) (length (survivors plan j g r))) (list_all (is_taken g r Answer j) (survivors plan j g r))
      (list_all (λ i. is_answered_in_time (clock_of plan) fate g r i) (survivors plan j g r)) (survivors plan j g r)
      (λ enough.
      let announced : is_announced_there (s plan x m fate xs can run same) g r (past plan x m fate xs can run same) ≡ true
      = sym (announced_in plan x m fate xs can run same t g r j inside over group round)
      ∙ and_from (is_closed plan j r) (nat_le (floor_of plan.groups g) (length (survivors plan j g r))) (lt-ltb (r + plan.w1) (passed j) (omega (arith, p, round, some))) enough in
      all_alike (is_taken g r Reading j) (is_taken g r Answer j) (λ i. is_answered_in_time (clock_of plan) fate g r i)
      (λ i taken.
      is.taken g r i Answer refl
      ∙ answer_came (s plan x m fate xs can run same) (clock_of plan) fate xs (facts plan x m fate xs can run same) g r i t (omega (arith, late, round)) announced (sym (ap (λ (q : ℕ → Bool). q i) takers) ∙ taken))
      (members plan.groups g r))
      ∙ sym (fate_row g r (survivors plan j g r) survivors_are)

  -- ---- the report

  all_rows : (t : ℕ) (j : List Logged) → IsAt plan x m fate xs can run same t j → IsBounded plan.groups x → all_ticks plan ≤ t
      → rows plan j ≡ report_rows plan (row (shape_of_readings plan.groups x) (clock_of plan) fate (plain_sum x))
  unfolding report_rows
  all_rows t j is bounded late =
      flat_map_same (length plan.groups) 0 (group_rows plan (row_in plan j)) (group_rows plan (row (shape_of_readings plan.groups x) (clock_of plan) fate (plain_sum x)))
      (λ g above group. tabulate_same plan.rounds 0 (λ r. report_row plan g r (row_in plan j g r)) (λ r. report_row plan g r (row (shape_of_readings plan.groups x) (clock_of plan) fate (plain_sum x) g r))
      (λ r from round. ap (report_row plan g r) (row_so t g r j is bounded late (omega (arith, group)) (omega (arith, round)))))

  pub reports_so : IsBounded plan.groups x → (t : ℕ) → all_ticks plan ≤ t → rows plan (journal_after plan xs t) ≡ report_rows plan (row (shape_of_readings plan.groups x) (clock_of plan) fate (plain_sum x))
  reports_so bounded t late = all_rows t (journal_after plan xs t) (at_tick plan x m fate xs can run same t) bounded late
