-- The rows of a book have the form of a report's rows.
use Rattle.std.proofs.Common.{◌≡◌, ◌<◌, ◌≤◌, ◌+◌, ◌^◌, ◌&&◌, not, ℕ, zero, suc, Bool, true, false, if◌then◌else◌, List, length, map, filter, sym, ap, ◌∙◌, arith, subst}
use Rattle.std.specs.List.{All, flat_map, range_with_len}
use Rattle.std.proofs.Math.Nat.{mod-lt}
use Rattle.std.proofs.lemmas.List.Elements.{All-append, All-cons, All-nil}
use Rattle.std.proofs.lemmas.List.FromFn.{length-range_with_len}
use Rattle.std.proofs.lemmas.List.Sums.{count_by-le-length, length-filter}
use Rattle.missing_round.specs.Sets.{IsSet, less}
use Rattle.missing_round.proofs.SetLemmas.{filter-picked, less-filter, set-picked}
use Rattle.group_plan.specs.Plans.{IsWithinLimits, is_member, members, size}
use Rattle.event_schedule.specs.Schedule.{Running, EndedThin, Published, Unpublished, is_reading_taken}
use Rattle.group_book.specs.Books.{BookView, past, shape_of}
use Rattle.run_rows.specs.Report.{row_of}
use Rattle.totals_report.specs.declared.row.ReportRow.{ReportRow}
use Rattle.totals_report.specs.Rows.{AreRows, IsRow, IsSmallTotal}
use Rattle.totals_report.specs.Books.{row_in}
use Rattle.totals_report.specs.Reports.{group_rows, report_row, report_rows, row_outcome, survivors_of}
use Rattle.totals_report.proofs.BookLemmas.{row_survivors}

-- ---- one row

small_total : (running thin published : Bool) (survivors others lacking : List ℕ) (total : ℕ) → total < 2 ^ 64
    → IsSmallTotal (row_outcome (row_of survivors (if running then Running else if thin then EndedThin else if published then Published others total else Unpublished lacking)))
small_total true thin published survivors others lacking total small = tt
small_total false true published survivors others lacking total small = tt
small_total false false true survivors others lacking total small = small
small_total false false false survivors others lacking total small = tt

row_small : (b : BookView) (g r : ℕ) → IsSmallTotal (row_outcome (row_in b g r))
unfolding row_in
row_small b g r = small_total _ _ _ _ _ _ _ (mod-lt _ (omega arith))

few : (p q : ℕ → Bool) (n : ℕ) → length (filter q (filter p (range_with_len 0 n))) ≤ n
few p q n =
    let a = length-filter q (filter p (range_with_len 0 n)) in
    let b = count_by-le-length q (filter p (range_with_len 0 n)) in
    let c = length-filter p (range_with_len 0 n) in
    let d = count_by-le-length p (range_with_len 0 n) in
    let e = length-range_with_len 0 n in
    omega (arith, a, b, c, d, e)

others_are_set : (p q : ℕ → Bool) (n : ℕ) → n ≤ 256 → IsSet (less (filter p (range_with_len 0 n)) (filter q (filter p (range_with_len 0 n))))
others_are_set p q n h =
    let others = less-filter q (filter p (range_with_len 0 n)) ∙ filter-picked p (λ i. not (q i)) 0 n in
    let P : List ℕ → Type 0 = IsSet in
    subst P (sym others) (set-picked (λ i. p i && not (q i)) 0 n (omega arith))

row_is : (b : BookView) (g r : ℕ) → IsWithinLimits b.presence.plan → g < length b.presence.plan.groups → r < b.presence.plan.rounds → IsRow (report_row b.presence.plan g r (row_in b g r))
row_is b g r limits known during =
    let plan = b.presence.plan in
    let taken : ℕ → Bool = λ i. is_reading_taken (shape_of b) g r i (past b) in
    let survivors : survivors_of (row_in b g r) ≡ filter taken (members plan.groups g r) = row_survivors b g r in
    let most : size plan.groups g ≤ 256 = limits.meters g in
    let counted = ap length survivors in
    let all = few (is_member plan.groups g r) taken (size plan.groups g) in
    let P : List ℕ → Type 0 = λ s. IsSet (less (members plan.groups g r) s) in
    record {
      named = limits.names g known;
      round = (let end : plan.rounds ≤ 4096 = limits.rounds in omega arith);
      survivors = omega (arith, counted, all, most);
      missing = subst P (sym survivors) (others_are_set (is_member plan.groups g r) taken (size plan.groups g) most);
      total = row_small b g r;
    }

-- ---- all rows

rows_in : (f : ℕ → ReportRow) (a n : ℕ) → ((r : ℕ) → r < a + n → IsRow (f r)) → All IsRow (map f (range_with_len a n))
rows_in f a zero h = All-nil IsRow
rows_in f a (suc n) h = All-cons IsRow (f a) (map f (range_with_len (a + 1) n)) (h a (omega arith)) (rows_in f (a + 1) n (λ r lt. h r (omega arith)))

all_in : (f : ℕ → List ReportRow) (a n : ℕ) → ((g : ℕ) → g < a + n → All IsRow (f g)) → All IsRow (flat_map f (range_with_len a n))
all_in f a zero h = All-nil IsRow
all_in f a (suc n) h = All-append IsRow (f a) (flat_map f (range_with_len (a + 1) n)) (h a (omega arith)) (all_in f (a + 1) n (λ g lt. h g (omega arith)))

pub rows_are : (b : BookView) → IsWithinLimits b.presence.plan → AreRows (report_rows b.presence.plan (row_in b))
unfolding report_rows
rows_are b limits =
    all_in (group_rows b.presence.plan (row_in b)) 0 (length b.presence.plan.groups)
    (λ g known. rows_in (λ r. report_row b.presence.plan g r (row_in b g r)) 0 b.presence.plan.rounds (λ r during. row_is b g r limits (omega arith) (omega arith)))
