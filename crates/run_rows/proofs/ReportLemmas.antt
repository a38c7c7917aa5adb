-- The outcomes of a tick run are the rows by its fates.
use Rattle.std.proofs.Common.{◌≡◌, ℕ, ◌+◌, ◌<◌, Bool, true, false, cond, not, ◌&&◌, List, [], ◌∷◌, length, refl, sym, ap, ◌∙◌, arith}
use Rattle.std.specs.Prelude.{if◌then◌else◌, nat_lt, nat_le}
use mathlib.Core.Path.{fun_ext}
use mathlib.Core.List.{reverse}
use Rattle.std.specs.List.{filter, list_all}
use Rattle.std.proofs.lemmas.Bool.{false≢true, and_from, lt-ltb}
use Rattle.std.proofs.lemmas.Bool.Decides.{nat_tests}
use Rattle.group_plan.specs.declared.Tag.{Tag}
use Rattle.event_schedule.specs.declared.Event.{Event}
use Rattle.event_schedule.specs.Schedule.{Shape, is_closed, is_ended, reaches_floor, is_announced, all_taken, is_opened, is_published, lacking, Running, EndedThin, Published, Unpublished, is_reading_taken, is_answer_taken, survivors, members_of, floor_of}
use Rattle.event_schedule.specs.Events.{is_close, is_end, events_of, event_of}
use Rattle.run_rows.specs.Ticks.{Clock, in_plan, IsRunPlan}
use Rattle.event_schedule.specs.declared.Entry.{Entry}
use Rattle.run_rows.specs.Report.{is_answered_in_time, report_survivors, ThinRow, TotalRow, NoneRow, row, row_of, outcome_row}
use Rattle.run_rows.proofs.TickRun.{IsRunBy, once_stands, run_facts}
use Rattle.run_rows.proofs.TickLemmas.{In, Stands, TickFacts, earlier_is_older, is_answer_taken-ticks, is_reading_taken-ticks, once-from, phase_close, phase_end}
use Rattle.event_schedule.proofs.ScheduleLemmas.{is_opened-from_taken}

list_all-filter_same : (t p q : ℕ → Bool) → ((i : ℕ) → t i ≡ true → p i ≡ q i) → (xs : List ℕ) → list_all p (filter t xs) ≡ list_all q (filter t xs)
list_all-filter_same t p q same [] = refl
list_all-filter_same t p q same (x ∷ xs) = step (t x) refl (list_all-filter_same t p q same xs)
  where
    step : (c : Bool) → t x ≡ c → list_all p (filter t xs) ≡ list_all q (filter t xs) → list_all p (cond c (x ∷ filter t xs) (filter t xs)) ≡ list_all q (cond c (x ∷ filter t xs) (filter t xs))
    step true is later = ap (λ z. z && list_all p (filter t xs)) (same x is) ∙ ap (λ z. q x && z) later
    step false is later = later

lt_not_le : (m n : ℕ) → nat_lt m n ≡ not (nat_le n m)
lt_not_le m n = grind (arith, nat_tests)

row_cases : (announced published answered : Bool) (a lacks : List ℕ) (t : ℕ) → (announced ≡ true → published ≡ answered) →
    row_of a (if not announced then EndedThin else if published then Published a t else Unpublished lacks) ≡ (if not announced then ThinRow a else if answered then TotalRow a t else NoneRow a)
row_cases false published answered a lacks t same = refl
row_cases true published answered a lacks t same = ap (λ q. row_of a (cond q (Published a t) (Unpublished lacks))) (same refl) ∙ step answered
  where
    step : (q : Bool) → row_of a (cond q (Published a t) (Unpublished lacks)) ≡ cond q (TotalRow a t) (NoneRow a)
    step true = refl
    step false = refl

published_cases : (opened ended taken : Bool) → ended ≡ true → (taken ≡ true → opened ≡ true) → (opened && ended && taken) ≡ taken
published_cases true true taken e opens = refl
published_cases false true true e opens = opens refl
published_cases false true false e opens = refl
published_cases opened false taken e opens = absurd (false≢true e)

and_true : (a b : Bool) → a ≡ true → (a && b) ≡ b
and_true true b h = refl
and_true false b h = absurd (false≢true h)

pub rows_are : (s : Shape) (c : Clock) (fate : ℕ → Tag → List ℕ) (xs : List Entry) → IsRunPlan s c → IsRunBy s c fate xs → (total : ℕ → ℕ → List ℕ → ℕ) (g r : ℕ) → g < length s.groups → r < c.rounds
    → outcome_row s total g r (events_of (reverse xs)) ≡ row s c fate total g r
rows_are s c fate xs plan run total g r g_in r_in =
    let facts : TickFacts s c fate (reverse xs) = run_facts s c fate xs plan run in
    let past : List Event = events_of (reverse xs) in
    let due : in_plan s c g r ≡ true = and_from (nat_lt g (length s.groups)) (nat_lt r c.rounds) (lt-ltb g (length s.groups) g_in) (lt-ltb r c.rounds r_in) in
    let close : Stands (is_close g r) (r + c.w1) (reverse xs) = once_stands (is_close g r) (in_plan s c g r) (r + c.w1) xs (run.closed g r) due in
    let end : Stands (is_end g r) (r + c.w1 + c.w2) (reverse xs) = once_stands (is_end g r) (in_plan s c g r) (r + c.w1 + c.w2) xs (run.ended g r) due in
    let closed : is_closed g r past ≡ true = once-from (λ f _. is_close g r f) close.entry close.older (reverse xs) close.at close.passes in
    let c1 = phase_close g r (event_of close.entry.line) close.passes in
    let e1 = phase_end g r (event_of end.entry.line) end.passes in
    let close_when : close.entry.tick ≡ r + c.w1 = close.when in
    let end_when : end.entry.tick ≡ r + c.w1 + c.w2 = end.when in
    let some : 0 < c.w2 = plan.open_window in
    let inside : In close.entry close.older end.older = earlier_is_older end.entry close.entry end.older close.older (reverse xs) facts.falling end.at close.at (omega arith) in
    let ended : is_ended g r past ≡ true
    = once-from (λ f q. is_end g r f && is_closed g r q) end.entry end.older (reverse xs) end.at
    (and_from (is_end g r (event_of end.entry.line)) (is_closed g r (events_of end.older)) end.passes (once-from (λ f _. is_close g r f) close.entry close.older end.older inside close.passes)) in
    let same_a : survivors s g r past ≡ report_survivors s c fate g r
    = ap (λ t. filter t (members_of s g r)) (fun_ext (λ i. is_reading_taken-ticks s c fate (reverse xs) facts g r i)) in
    let answers : is_announced s g r past ≡ true → is_published s g r past ≡ list_all (λ i. is_answered_in_time c fate g r i) (survivors s g r past)
    = λ announced.
    published_cases (is_opened s g r past) (is_ended g r past) (all_taken s g r past) ended (is_opened-from_taken s g r past announced)
    ∙ list_all-filter_same (λ i. is_reading_taken s g r i past) (λ i. is_answer_taken s g r i past) (λ i. is_answered_in_time c fate g r i)
    (λ i survives. is_answer_taken-ticks s c fate (reverse xs) facts g r i close announced survives) (members_of s g r) in
    ap (λ q. row_of (survivors s g r past) (if not q then Running else if not (is_announced s g r past) then EndedThin else if is_published s g r past then Published (survivors s g r past) (total g r (survivors s g r past)) else Unpublished (lacking s g r past))) ended
    ∙ row_cases (is_announced s g r past) (is_published s g r past) (list_all (λ i. is_answered_in_time c fate g r i) (survivors s g r past)) (survivors s g r past) (lacking s g r past) (total g r (survivors s g r past)) answers
    ∙ ap (λ q. cond (not q) (ThinRow (survivors s g r past)) (cond (list_all (λ i. is_answered_in_time c fate g r i) (survivors s g r past)) (TotalRow (survivors s g r past) (total g r (survivors s g r past))) (NoneRow (survivors s g r past))))
    (and_true (is_closed g r past) (reaches_floor s g r past) closed)
    ∙ ap (λ a. cond (not (nat_le (floor_of s g) (length a))) (ThinRow a) (cond (list_all (λ i. is_answered_in_time c fate g r i) a) (TotalRow a (total g r a)) (NoneRow a))) same_a
    ∙ ap (λ q. cond q (ThinRow (report_survivors s c fate g r)) (cond (list_all (λ i. is_answered_in_time c fate g r i) (report_survivors s c fate g r)) (TotalRow (report_survivors s c fate g r) (total g r (report_survivors s c fate g r))) (NoneRow (report_survivors s c fate g r))))
    (sym (lt_not_le (length (report_survivors s c fate g r)) (floor_of s g)))
