-- The rows of a book, and what is counted of them.
use Rattle.std.proofs.Common.{◌≡◌, ◌<◌, ◌+◌, ◌*◌, ℕ, zero, suc, List, [], ◌∷◌, ◌++◌, length, map, refl, sym, ap, ◌∙◌, arith, append_assoc, append-nil}
use Rattle.std.specs.Prelude.{slice_index_or}
use Rattle.std.specs.List.{count_by, flat_map, range_with_len}
use Rattle.std.proofs.lemmas.Grind.{flat_map-append}
use Rattle.std.proofs.lemmas.List.FromFn.{map-range_with_len_more}
use Rattle.group_plan.specs.Plans.{Group, name_of}
use Rattle.group_plan.specs.NewPlans.{stated}
use Rattle.group_plan.specs.declared.plan.GroupPlan.{GroupPlan}
use Rattle.event_schedule.specs.Schedule.{Outcome, Running, EndedThin, Published, Unpublished}
use Rattle.group_book.specs.Books.{BookView, outcome_of, state_of}
use Rattle.run_rows.specs.Report.{row_of}
use Rattle.run_rows.specs.Summary.{Summary, is_sending, is_taking}
use Rattle.totals_report.specs.declared.row.ReportRow.{ReportRow}
use Rattle.totals_report.specs.Books.{outcome_of_state, row_in, summary_in}
use Rattle.totals_report.specs.Counts.{is_lacking, is_thin, is_total}
use Rattle.totals_report.specs.Reports.{report_rows, row_outcome, survivors_of}
use Rattle.totals_report.proofs.CountLemmas.{count_nones, count_thins, count_totals}

-- ---- one row

survivors_kept : (survivors : List ℕ) (outcome : Outcome) → survivors_of (row_of survivors outcome) ≡ survivors
survivors_kept survivors Running = refl
survivors_kept survivors EndedThin = refl
survivors_kept survivors (Published others total) = refl
survivors_kept survivors (Unpublished lacking) = refl

outcome_kept : (survivors : List ℕ) (outcome : Outcome) → row_outcome (row_of survivors outcome) ≡ outcome_of_state (state_of outcome)
outcome_kept survivors Running = refl
outcome_kept survivors EndedThin = refl
outcome_kept survivors (Published others total) = refl
outcome_kept survivors (Unpublished lacking) = refl

-- the survivors and the outcome of a round's row are those of the book
pub row_survivors : (b : BookView) (g r : ℕ) → survivors_of (row_in b g r) ≡ (outcome_of b g r).survivors
unfolding row_in
row_survivors b g r = survivors_kept _ _

pub row_outcome_is : (b : BookView) (g r : ℕ) → row_outcome (row_in b g r) ≡ outcome_of_state (outcome_of b g r).state
unfolding row_in
row_outcome_is b g r = outcome_kept _ _

pub name_stated : (groups : List Group) (g : ℕ) (d : GroupPlan) → g < length groups → (slice_index_or (map stated groups) g d).name ≡ name_of groups g
name_stated [] g d h = absurd (omega arith)
name_stated (group ∷ groups) zero d h = refl
name_stated (group ∷ groups) (suc g) d h = name_stated groups g d (omega arith)

-- ---- rows one after another

-- the row of one round more
pub round_more : (f : ℕ → ReportRow) (n : ℕ) (out old new : List ReportRow) (row : ReportRow) → out ≡ old ++ map f (range_with_len 0 n) → new ≡ out ++ row ∷ [] → row ≡ f n → new ≡ old ++ map f (range_with_len 0 (n + 1))
round_more f n out old new row so pushed is =
    pushed ∙ ap (λ q. q ++ row ∷ []) so ∙ append_assoc old (map f (range_with_len 0 n)) (row ∷ []) ∙ ap (λ q. old ++ (map f (range_with_len 0 n) ++ q ∷ [])) is
    ∙ ap (λ q. old ++ q) (sym (map-range_with_len_more f 0 n n (omega arith)))

range_more : (a n : ℕ) → range_with_len a (suc n) ≡ range_with_len a n ++ (a + n) ∷ []
range_more a zero = ap (λ i. i ∷ []) (let e : a ≡ a + 0 = omega arith in e)
range_more a (suc n) =
    let e : a + 1 + n ≡ a + suc n = omega arith in
    ap (λ l. a ∷ l) (range_more (a + 1) n ∙ ap (λ z. range_with_len (a + 1) n ++ z ∷ []) e)

-- the rows of one group more
pub group_more : (f : ℕ → List ReportRow) (n : ℕ) (out new : List ReportRow) → out ≡ flat_map f (range_with_len 0 n) → new ≡ out ++ f n → new ≡ flat_map f (range_with_len 0 (n + 1))
group_more f n out new so pushed =
    let e : n + 1 ≡ suc n = omega arith in
    let z : 0 + n ≡ n = omega arith in
    pushed ∙ ap (λ q. q ++ f n) so
    ∙ sym (ap (λ k. flat_map f (range_with_len 0 k)) e ∙ ap (flat_map f) (range_more 0 n) ∙ flat_map-append f (range_with_len 0 n) ((0 + n) ∷ []) ∙ ap (λ k. flat_map f (range_with_len 0 n) ++ (f k ++ [])) z ∙ ap (λ q. flat_map f (range_with_len 0 n) ++ q) (append-nil (f n)))

-- ---- the summary

-- these counts are those of the book's summary
pub summary_counted : (b : BookView) (rows : List ReportRow) (rounds totals nones thins sends takes : ℕ) → rows ≡ report_rows b.presence.plan (row_in b) → rounds ≡ length b.presence.plan.groups * b.presence.plan.rounds
    → totals ≡ count_by (λ row. is_total row.outcome) rows → nones ≡ count_by (λ row. is_lacking row.outcome) rows → thins ≡ count_by (λ row. is_thin row.outcome) rows
    → sends ≡ count_by is_sending b.journal → takes ≡ count_by is_taking b.journal
    → record { rounds = rounds; totals = totals; nones = nones; thins = thins; sends = sends; takes = takes } ≡ summary_in b
unfolding summary_in row_in report_rows
summary_counted b rows rounds totals nones thins sends takes are all a n t s k =
    let plan = b.presence.plan in
    let ranged = range_with_len 0 plan.rounds in
    let groups = range_with_len 0 (length plan.groups) in
    let totalled = a ∙ ap (count_by (λ (row : ReportRow). is_total row.outcome)) are ∙ count_totals plan (row_in b) ranged groups in
    let lacking = n ∙ ap (count_by (λ (row : ReportRow). is_lacking row.outcome)) are ∙ count_nones plan (row_in b) ranged groups in
    let thinned = t ∙ ap (count_by (λ (row : ReportRow). is_thin row.outcome)) are ∙ count_thins plan (row_in b) ranged groups in
    six all totalled lacking thinned s k
  where
    six : {a b c d e f p q r s t u : ℕ} → a ≡ p → b ≡ q → c ≡ r → d ≡ s → e ≡ t → f ≡ u
        → ◌≡◌ {A = Summary} (record { rounds = a; totals = b; nones = c; thins = d; sends = e; takes = f }) (record { rounds = p; totals = q; nones = r; thins = s; sends = t; takes = u })
    six h i j k l m = cc
