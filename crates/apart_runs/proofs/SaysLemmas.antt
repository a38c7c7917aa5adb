-- What the head end says for a tick.
use Rattle.std.proofs.Common.{◌≡◌, ℕ, suc, ◌+◌, ◌-◌, ◌<◌, ◌≤◌, Bool, true, false, ◌&&◌, List, [], ◌∷◌, ◌++◌, length, map, refl, sym, ap, ◌∙◌, arith}
use Rattle.std.specs.Prelude.{nat_lt, nat_le, if◌then◌else◌, filter, Option, Some, None}
use Rattle.std.specs.List.{flat_map, range_with_len}
use Rattle.std.proofs.lemmas.Bool.{false≢true, and_from, and_parts, lt-ltb, ltb-true, le-leb, leb-true}
use Rattle.std.proofs.lemmas.Grind.{flat_map-append}
use Rattle.group_plan.specs.declared.Kind.TheVariants.{Announcement}
use Rattle.group_plan.specs.declared.Tag.{Tag}
use Rattle.group_plan.specs.Plans.{PlanView, members}
use Rattle.meter_frames.specs.declared.Frame.{Frame}
use Rattle.event_schedule.specs.declared.Entry.{Entry}
use Rattle.event_schedule.specs.Events.{events_of, lines_of}
use Rattle.event_schedule.specs.Tables.{Readings, Masks}
use Rattle.event_schedule.specs.Schedule.{is_announced as is_announced_there, survivors as survivors_there}
use Rattle.event_schedule.specs.Transcript.{shape_of_readings, contents_of_tables, lines_after}
use Rattle.event_schedule.proofs.ListLemmas.{flat_map_same}
use Rattle.run_rows.specs.Ticks.{clock_of, IsRunPlan, tag_of}
use Rattle.run_rows.proofs.TickRun.{IsRunBy}
use Rattle.head_end.specs.declared.answers.Logged.{Logged}
use Rattle.head_end.specs.declared.answers.TickLine.{TickLine}
use Rattle.head_end.specs.declared.answers.TickLine.TheVariants as said
use Rattle.head_end.specs.Journal.{survivors, missing, is_announced}
use Rattle.head_end.specs.Lines.{announcement, lacking_in, lacking_lines, row_in, end_lines, close_lines, by_groups, round_before, ended_in, closed_in, tick_lines}
use Rattle.totals_report.specs.Reports.{report_row}
use Rattle.apart_runs.specs.Carried.{announced_at}
use Rattle.apart_runs.specs.HeadRuns.{journal_after, announcement_in, says_at}
use Rattle.apart_runs.proofs.AnnouncedLemmas.{flat_flat, flat_none, announced_then, announced_never}
use Rattle.apart_runs.proofs.HeadLemmas.{s, whole, past, IsIn, is_in_at, at_tick, takers_in, missing_in, announced_in}

-- ---- lines

-- an end announces nothing
row_silent : (g r : ℕ) (set : List ℕ) (row : TickLine) → announcement_in row ≡ [] → flat_map announcement_in (lacking_lines g r set ++ row ∷ []) ≡ []
row_silent g r [] row none = ap (λ l. l ++ []) none
row_silent g r (i ∷ set) row none = ap (λ l. l ++ []) none

ends_silent : (plan : PlanView) (j : List Logged) (r g : ℕ) → flat_map announcement_in (end_lines plan j r g) ≡ []
ends_silent plan j r g = row_silent g r (lacking_in plan j g r) (said.Row (report_row plan g r (row_in plan j g r))) refl

ended_silent : (plan : PlanView) (j : List Logged) (o : Option ℕ) → flat_map announcement_in (by_groups plan (end_lines plan j) o) ≡ []
ended_silent plan j None = refl
ended_silent plan j (Some r) =
    flat_flat announcement_in (end_lines plan j r) (range_with_len 0 (length plan.groups))
    ∙ flat_none (λ g. flat_map announcement_in (end_lines plan j r g)) (range_with_len 0 (length plan.groups)) (ends_silent plan j r)

all_announced : (g r : ℕ) (set ms : List ℕ) → flat_map announcement_in (map (announcement g r set) ms) ≡ map (λ i. record { tag = tag_of Announcement g r i; missing = set; word = 0 }) ms
all_announced g r set [] = refl
all_announced g r set (i ∷ ms) = ap (λ l. record { tag = tag_of Announcement g r i; missing = set; word = 0 } ∷ l) (all_announced g r set ms)

where_announced : (b : Bool) (g r : ℕ) (set ms : List ℕ)
    → flat_map announcement_in (if b then map (announcement g r set) ms else []) ≡ (if b then map (λ i. record { tag = tag_of Announcement g r i; missing = set; word = 0 }) ms else [])
where_announced true g r set ms = all_announced g r set ms
where_announced false g r set ms = refl

module _ (plan : PlanView) (x : Readings) (m : Masks) (fate : ℕ → Tag → List ℕ) (xs : List Entry)
    (can : IsRunPlan (shape_of_readings plan.groups x) (clock_of plan)) (run : IsRunBy (shape_of_readings plan.groups x) (clock_of plan) fate xs)
    (same : lines_of xs ≡ lines_after (shape_of_readings plan.groups x) (contents_of_tables plan.groups x m) [] (events_of xs)) where
  -- the announcements of a round, with the run's survivors and missing set
  abbrev of_round : ℕ → ℕ → List Frame
  of_round r g =
      if is_announced_there (s plan x m fate xs can run same) g r (past plan x m fate xs can run same)
      then map (λ i. whole plan x m fate xs can run same (tag_of Announcement g r i)) (survivors_there (s plan x m fate xs can run same) g r (past plan x m fate xs can run same))
      else []

  closes_so : (t r g : ℕ) (j : List Logged) → IsIn plan x m fate xs can run same t j → r + plan.w1 < t → g < length plan.groups → r < plan.rounds → flat_map announcement_in (close_lines plan j r g) ≡ of_round r g
  closes_so t r g j is over group round =
      where_announced (is_announced plan j g r) g r (missing plan j g r) (survivors plan j g r)
      ∙ ap (λ b. if b then map (λ i. record { tag = tag_of Announcement g r i; missing = missing plan j g r; word = 0 }) (survivors plan j g r) else []) (announced_in plan x m fate xs can run same t g r j is over group round)
      ∙ ap (λ set. if is_announced_there (s plan x m fate xs can run same) g r (past plan x m fate xs can run same)
      then map (λ i. record { tag = tag_of Announcement g r i; missing = set; word = 0 }) (survivors plan j g r) else []) (missing_in plan x m fate xs can run same t g r j is over)
      ∙ ap (λ (q : ℕ → Bool). if is_announced_there (s plan x m fate xs can run same) g r (past plan x m fate xs can run same)
      then map (λ i. whole plan x m fate xs can run same (tag_of Announcement g r i)) (filter q (members plan.groups g r)) else []) (takers_in plan x m fate xs can run same t g r j is over)

  closed_so : (t r : ℕ) (j : List Logged) → IsIn plan x m fate xs can run same t j → r + plan.w1 < t → r < plan.rounds
      → flat_map announcement_in (by_groups plan (close_lines plan j) (Some r)) ≡ flat_map (of_round r) (range_with_len 0 (length plan.groups))
  closed_so t r j is over round =
      flat_flat announcement_in (close_lines plan j r) (range_with_len 0 (length plan.groups))
      ∙ flat_map_same (length plan.groups) 0 (λ g. flat_map announcement_in (close_lines plan j r g)) (of_round r) (λ g above below. closes_so t r g j is over (omega (arith, below)) round)

  tick_so : (t : ℕ) (j : List Logged) → IsIn plan x m fate xs can run same (suc t) j → flat_map announcement_in (tick_lines plan j t) ≡ announced_at xs t
  tick_so t j is =
      flat_map-append announcement_in (ended_in plan j t) (closed_in plan j t)
      ∙ ap (λ l. l ++ flat_map announcement_in (closed_in plan j t)) (ended_silent plan j (round_before plan.rounds (plan.w1 + plan.w2) t))
      ∙ by (nat_le plan.w1 t && nat_lt (t - plan.w1) plan.rounds) refl
    where
      by : (b : Bool) → (nat_le plan.w1 t && nat_lt (t - plan.w1) plan.rounds) ≡ b → flat_map announcement_in (by_groups plan (close_lines plan j) (if b then Some (t - plan.w1) else None)) ≡ announced_at xs t
      by true now =
          let both = and_parts (nat_le plan.w1 t) (nat_lt (t - plan.w1) plan.rounds) now in
          let le : plan.w1 ≤ t = leb-true plan.w1 t both.0 in
          let round : t - plan.w1 < plan.rounds = ltb-true (t - plan.w1) plan.rounds both.1 in
          closed_so (suc t) (t - plan.w1) j is (omega (arith, le)) round
          ∙ sym (announced_then (shape_of_readings plan.groups x) (clock_of plan) fate (contents_of_tables plan.groups x m) xs can run same t (t - plan.w1) (omega (arith, le)) round)
      by false never =
          sym (announced_never (shape_of_readings plan.groups x) (clock_of plan) fate (contents_of_tables plan.groups x m) xs can run same t
          (λ r lt at. false≢true (sym never
          ∙ and_from (nat_le plan.w1 t) (nat_lt (t - plan.w1) plan.rounds) (le-leb plan.w1 t (omega (arith, at))) (lt-ltb (t - plan.w1) plan.rounds (omega (arith, at, lt))))))

  pub says_so : (t : ℕ) → says_at plan xs t ≡ announced_at xs t
  says_so t = tick_so t (journal_after plan xs (suc t)) (is_in_at plan x m fate xs can run same (suc t) (journal_after plan xs (suc t)) (at_tick plan x m fate xs can run same (suc t)))
