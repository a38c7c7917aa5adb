-- Lines and rows one after another, and what an end of a round says of its row.
use Rattle.std.proofs.Common.{◌≡◌, ℕ, zero, suc, ◌+◌, ◌<◌, Bool, true, false, List, [], ◌∷◌, ◌++◌, length, map, refl, sym, ap, ◌∙◌, arith, append_assoc, append-nil}
use Rattle.std.specs.Prelude.{◌==◌, nat_lt, not, if◌then◌else◌, Some, None, is_some}
use Rattle.std.specs.List.{flat_map, range_with_len}
use Rattle.std.proofs.lemmas.Bool.{and_from, lt-ltb}
use Rattle.std.proofs.lemmas.Grind.{flat_map-append}
use Rattle.std.proofs.lemmas.List.FromFn.{map-range_with_len_more}
use Rattle.group_plan.specs.Plans.{PlanView}
use Rattle.round_machine.specs.declared.Ending.{Ending}
use Rattle.round_machine.specs.declared.Ending.TheVariants as endings
use Rattle.group_book.specs.Places.{is_round}
use Rattle.run_rows.specs.Report.{OpenRow}
use Rattle.totals_report.specs.declared.row.RowOutcome.TheVariants as outcomes
use Rattle.totals_report.specs.Reports.{survivors_of, row_outcome}
use Rattle.head_end.specs.declared.answers.Logged.{Logged}
use Rattle.head_end.specs.Journal.{is_closed, is_ended, survivors, missing, is_announced, lacking, total}
use Rattle.head_end.specs.Replies.{announced_set}
use Rattle.head_end.specs.Lines.{ending, row_of, outcome_of, row_in, lacking_by}

-- ---- one after another

-- what one more adds to a list
pub one_more : {X : Type 0} (f : ℕ → X) (n : ℕ) (before out new : List X) (x : X) → out ≡ before ++ map f (range_with_len 0 n) → new ≡ out ++ x ∷ [] → x ≡ f n → new ≡ before ++ map f (range_with_len 0 (n + 1))
one_more f n before out new x so pushed is =
    pushed ∙ ap (λ q. q ++ x ∷ []) so ∙ append_assoc before (map f (range_with_len 0 n)) (x ∷ []) ∙ ap (λ q. before ++ (map f (range_with_len 0 n) ++ q ∷ [])) is
    ∙ ap (λ q. before ++ q) (sym (map-range_with_len_more f 0 n n (omega arith)))

range_more : (a n : ℕ) → range_with_len a (suc n) ≡ range_with_len a n ++ (a + n) ∷ []
range_more a zero = ap (λ i. i ∷ []) (let e : a ≡ a + 0 = omega arith in e)
range_more a (suc n) =
    let e : a + 1 + n ≡ a + suc n = omega arith in
    ap (λ l. a ∷ l) (range_more (a + 1) n ∙ ap (λ z. range_with_len (a + 1) n ++ z ∷ []) e)

flat_more : {X : Type 0} (f : ℕ → List X) (n : ℕ) → flat_map f (range_with_len 0 (n + 1)) ≡ flat_map f (range_with_len 0 n) ++ f n
flat_more f n =
    let e : n + 1 ≡ suc n = omega arith in
    let z : 0 + n ≡ n = omega arith in
    ap (λ k. flat_map f (range_with_len 0 k)) e ∙ ap (flat_map f) (range_more 0 n) ∙ flat_map-append f (range_with_len 0 n) ((0 + n) ∷ [])
    ∙ ap (λ k. flat_map f (range_with_len 0 n) ++ (f k ++ [])) z ∙ ap (λ q. flat_map f (range_with_len 0 n) ++ q) (append-nil (f n))

-- what the lists of one more add
pub lists_more : {X : Type 0} (f : ℕ → List X) (n : ℕ) (before out new : List X) → out ≡ before ++ flat_map f (range_with_len 0 n) → new ≡ out ++ f n → new ≡ before ++ flat_map f (range_with_len 0 (n + 1))
lists_more f n before out new so pushed =
    pushed ∙ ap (λ q. q ++ f n) so ∙ append_assoc before (flat_map f (range_with_len 0 n)) (f n) ∙ ap (λ q. before ++ q) (sym (flat_more f n))

-- one list and then another
pub both_added : {X : Type 0} (before first second middle new : List X) → middle ≡ before ++ first → new ≡ middle ++ second → new ≡ before ++ (first ++ second)
both_added before first second middle new one two = two ∙ ap (λ q. q ++ second) one ∙ append_assoc before first second

pub is_round-from : (plan : PlanView) (g r : ℕ) → g < length plan.groups → r < plan.rounds → is_round plan g r ≡ true
is_round-from plan g r hg hr = and_from (nat_lt g (length plan.groups)) (nat_lt r plan.rounds) (lt-ltb g (length plan.groups) hg) (lt-ltb r plan.rounds hr)

-- ---- rows

survivors_kept : (xs : List ℕ) (e : Ending) → survivors_of (row_of xs e) ≡ xs
survivors_kept xs (endings.Total sum) = refl
survivors_kept xs (endings.Lacking set) = refl
survivors_kept xs endings.Thin = refl
survivors_kept xs endings.Already = refl
survivors_kept xs endings.NotClosed = refl

pub outcome_kept : (xs : List ℕ) (e : Ending) → row_outcome (row_of xs e) ≡ outcome_of e
outcome_kept xs (endings.Total sum) = refl
outcome_kept xs (endings.Lacking set) = refl
outcome_kept xs endings.Thin = refl
outcome_kept xs endings.Already = refl
outcome_kept xs endings.NotClosed = refl

pub row_survivors : (plan : PlanView) (j : List Logged) (g r : ℕ) → survivors_of (row_in plan j g r) ≡ survivors plan j g r
row_survivors plan j g r = by_end (is_ended plan j r)
  where
    by_end : (b : Bool) → survivors_of (if b then row_of (survivors plan j g r) (ending plan j g r) else OpenRow (survivors plan j g r)) ≡ survivors plan j g r
    by_end true = survivors_kept (survivors plan j g r) (ending plan j g r)
    by_end false = refl

pub row_ended : (plan : PlanView) (j : List Logged) (g r : ℕ) → is_ended plan j r ≡ true → outcome_of (ending plan j g r) ≡ row_outcome (row_in plan j g r)
row_ended plan j g r ended =
    sym (ap (λ b. row_outcome (if b then row_of (survivors plan j g r) (ending plan j g r) else OpenRow (survivors plan j g r))) ended ∙ outcome_kept (survivors plan j g r) (ending plan j g r))

pub row_unended : (plan : PlanView) (j : List Logged) (g r : ℕ) → is_ended plan j r ≡ false → row_outcome (row_in plan j g r) ≡ outcomes.Running
row_unended plan j g r unended =
    ap (λ b. row_outcome (if b then row_of (survivors plan j g r) (ending plan j g r) else OpenRow (survivors plan j g r))) unended

-- ---- announcements

-- a round that isn't announced has no lacking answer
pub none_lacking : (plan : PlanView) (j : List Logged) (g r : ℕ) → is_announced plan j g r ≡ false → lacking_by (ending plan j g r) ≡ []
none_lacking plan j g r none =
    ap (λ b. lacking_by (says (is_closed plan j r) b)) none ∙ by_close (is_closed plan j r)
  where
    says : Bool → Bool → Ending
    says c a =
        if not c then endings.NotClosed else if not a then endings.Thin else
        if length (lacking plan j g r) == 0 then endings.Total (total j g r (survivors plan j g r)) else endings.Lacking (lacking plan j g r)

    by_close : (c : Bool) → lacking_by (says c false) ≡ []
    by_close true = refl
    by_close false = refl

-- what the announced set says of the round
pub announced_yes : (plan : PlanView) (j : List Logged) (g r : ℕ) (set : List ℕ) → Some set ≡ announced_set plan j g r → (is_announced plan j g r ≡ true) × (set ≡ missing plan j g r)
announced_yes plan j g r set is = by_test (is_announced plan j g r) refl is
  where
    by_test : (b : Bool) → is_announced plan j g r ≡ b → Some set ≡ (if b then Some (missing plan j g r) else None) → (is_announced plan j g r ≡ true) × (set ≡ missing plan j g r)
    by_test true some h = (some, cc)
    by_test false none h = absurd (cc h)

pub announced_none : (plan : PlanView) (j : List Logged) (g r : ℕ) → None ≡ announced_set plan j g r → is_announced plan j g r ≡ false
announced_none plan j g r is = by_test (is_announced plan j g r) refl is
  where
    by_test : (b : Bool) → is_announced plan j g r ≡ b → None ≡ (if b then Some (missing plan j g r) else None) → is_announced plan j g r ≡ false
    by_test true some h = absurd (cc h)
    by_test false none h = none

pub announced_is_some : (plan : PlanView) (j : List Logged) (g r : ℕ) → is_some (announced_set plan j g r) ≡ is_announced plan j g r
announced_is_some plan j g r = by_test (is_announced plan j g r)
  where
    by_test : (b : Bool) → is_some (if b then Some (missing plan j g r) else None) ≡ b
    by_test true = refl
    by_test false = refl
