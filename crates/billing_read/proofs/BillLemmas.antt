-- What is told of tables that agree and have the same bills.
use Rattle.std.proofs.Common.{◌≡◌, ℕ, zero, suc, ◌+◌, ◌-◌, ◌*◌, ◌^◌, ◌<◌, ◌≤◌, cond, List, [], ◌∷◌, ◌++◌, map, refl, sym, ap, ◌∙◌, subst, add-zero, zero-add, append_assoc, ⊎_elim, arith}
use Rattle.std.specs.Prelude.{reverse, min, Option, Some, None, IfSome, is_some, unwrap_or, codes, decimal, length}
use Rattle.std.specs.List.{All, flat_map, range_with_len, sum_by, count_by}
use Rattle.std.proofs.lemmas.Bool.{cases_lt}
use Rattle.std.proofs.lemmas.Grind.{flat_map-append}
use Rattle.std.proofs.lemmas.List.{append-nil}
use Rattle.std.proofs.lemmas.List.Elements.{All-append, All-map, All-nil}
use Rattle.std.proofs.lemmas.List.Sums.{sum_by_push}
use Rattle.std.proofs.lemmas.List.FromFn.{map-range_with_len_more}
use Rattle.group_plan.specs.Plans.{PlanView, size, name_of}
use Rattle.event_schedule.specs.declared.Line.{Line}
use Rattle.event_schedule.specs.Tables.{Readings, reading_at}
use Rattle.event_schedule.specs.Transcript.{transcript}
use Rattle.event_schedule.proofs.ScheduleLemmas.{after-reverse}
use Rattle.ideal_masks.specs.Offsets.{offsets, shift, Agree}
use Rattle.ideal_masks.proofs.RowLists.{range-push}
use Rattle.ideal_masks.proofs.TwoWorlds.{two_worlds}
use Rattle.ideal_masks.proofs.Converse.{converse as totals_agree}
use Rattle.billing_read.specs.declared.bills.Bill.{Bill}
use Rattle.billing_read.specs.Bills.{bill_over, bill, bills, with_reading}
use Rattle.billing_read.specs.BillsText.{bill_line}
use Rattle.billing_read.specs.Statements.{Told, BillsIsolated, BillsConverse}

both : List Line → List Bill → Told
both lines list = record { lines = lines; bills = list }

pub isolated : BillsIsolated
unfolding both
isolated plan from until x y m events of_plan agree =
    let moved : transcript plan.groups y (shift (offsets plan.groups x y (reverse events)) m) events ≡ transcript plan.groups x m events
    = subst (λ whole. transcript plan.groups y (shift (offsets plan.groups x y whole) m) events ≡ transcript plan.groups x m events) (after-reverse events)
    (two_worlds plan.groups x y m events of_plan (subst (Agree plan.groups x y) (sym (after-reverse events)) agree.agree)) in
    ap (λ lines. both lines (bills plan from until y)) moved ∙ ap (both (transcript plan.groups x m events)) (sym agree.bills)

pub converse : BillsConverse
converse plan from until x y m k events present x_bounded y_bounded same = record {
  agree = subst (Agree plan.groups x y) (after-reverse events) (totals_agree plan.groups x y m k events present x_bounded y_bounded (ap (λ t. t.lines) same));
  bills = ap (λ t. t.bills) same;
}

-- ---- the text

-- the line of a bill, field by field
pub line_is : (plan : PlanView) (from until : ℕ) (b : Bill) (old : List ℕ)
    → old ++ name_of plan.groups b.group ++ codes "," ++ decimal b.meter ++ codes "," ++ decimal from ++ codes "," ++ decimal until ++ codes "," ++ decimal b.readings ++ codes "," ++ decimal b.sum ++ codes "\n"
    ≡ old ++ bill_line plan from until b
unfolding bill_line
line_is plan from until b old = simp append_assoc refl

-- ---- one bill

pub bill_none : (x : Readings) (g i from : ℕ) → ◌≡◌ {A = Bill} (record { group = g; meter = i; readings = 0; sum = 0 }) (bill_over (range_with_len from (from - from)) x g i)
bill_none x g i from = ap (λ n. bill_over (range_with_len from n) x g i) (let none : 0 ≡ from - from = omega arith in none)

-- a range with one number more
range_more : (from round : ℕ) → from ≤ round → range_with_len from (round + 1 - from) ≡ range_with_len from (round - from) ++ round ∷ []
range_more from round le =
    ap (range_with_len from) (let long : round + 1 - from ≡ (round - from) + 1 = omega arith in long)
    ∙ push from (round - from) round (omega arith)
  where
    push : (a n k : ℕ) → a + n ≡ k → range_with_len a (n + 1) ≡ range_with_len a n ++ k ∷ []
    push a n k at = sym (mapped a (n + 1)) ∙ map-range_with_len_more (λ z. z) a n k at ∙ ap (λ l. l ++ k ∷ []) (mapped a n)
      where
        mapped : (a n : ℕ) → map (λ z. z) (range_with_len a n) ≡ range_with_len a n
        mapped a zero = refl
        mapped a (suc n) = ap (λ l. a ∷ l) (mapped (a + 1) n)

bill_by : (g i readings sum : ℕ) → Bill
bill_by g i readings sum = record { group = g; meter = i; readings = readings; sum = sum }

-- the bill over some rounds and one more
over_more : (x : Readings) (g i round : ℕ) (rounds : List ℕ) (o : Option ℕ) → x g round i ≡ o → bill_over (rounds ++ round ∷ []) x g i ≡ with_reading (bill_over rounds x g i) o
unfolding bill_by
over_more x g i round rounds None is =
    ap (λ n. bill_by g i n (sum_by (λ r. reading_at x g r i) (rounds ++ round ∷ [])))
    (sum_by_push (λ r. cond (is_some (x g r i)) 1 0) rounds round ∙ ap (λ o. count_by (λ r. is_some (x g r i)) rounds + cond {A = ℕ} (is_some o) 1 0) is ∙ add-zero _)
    ∙ ap (bill_by g i (count_by (λ r. is_some (x g r i)) rounds)) (sum_by_push (λ r. reading_at x g r i) rounds round ∙ ap (λ o. sum_by (λ r. reading_at x g r i) rounds + unwrap_or o 0) is ∙ add-zero _)
over_more x g i round rounds (Some v) is =
    ap (λ n. bill_by g i n (sum_by (λ r. reading_at x g r i) (rounds ++ round ∷ [])))
    (sum_by_push (λ r. cond (is_some (x g r i)) 1 0) rounds round ∙ ap (λ o. count_by (λ r. is_some (x g r i)) rounds + cond {A = ℕ} (is_some o) 1 0) is)
    ∙ ap (bill_by g i (count_by (λ r. is_some (x g r i)) rounds + 1)) (sum_by_push (λ r. reading_at x g r i) rounds round ∙ ap (λ o. sum_by (λ r. reading_at x g r i) rounds + unwrap_or o 0) is)

pub bill_more : (x : Readings) (g i from round : ℕ) (old new : Bill) (o : Option ℕ) → from ≤ round → o ≡ x g round i → old ≡ bill_over (range_with_len from (round - from)) x g i
    → new ≡ with_reading old o → new ≡ bill_over (range_with_len from (round + 1 - from)) x g i
bill_more x g i from round old new o le is before added =
    added ∙ ap (λ b. with_reading b o) before ∙ sym (over_more x g i round (range_with_len from (round - from)) o (sym is))
    ∙ ap (λ l. bill_over l x g i) (sym (range_more from round le))

pub bill_few : (old new : Bill) (o : Option ℕ) (round : ℕ) → old.readings ≤ round → new ≡ with_reading old o → new.readings ≤ round + 1
bill_few old new None round le added = let same = ap (λ b. b.readings) added in omega (arith, le, same)
bill_few old new (Some v) round le added = let more = ap (λ b. b.readings) added in omega (arith, le, more)

pub bill_small : (old new : Bill) (o : Option ℕ) (round : ℕ) → old.sum ≤ round * 2 ^ 40 → IfSome o (λ v. v < 2 ^ 40) → new ≡ with_reading old o → new.sum ≤ (round + 1) * 2 ^ 40
bill_small old new None round le small added = let same = ap (λ b. b.sum) added in omega (arith, le, same)
bill_small old new (Some v) round le small added = let more = ap (λ b. b.sum) added in omega (arith, le, small, more)

-- a loop over the rounds of a period ends at the last of them, or stays where it began
pub rounds_done : (from round end : ℕ) → end ≤ round → (from ≤ end → round ≤ end) → (end < from → round ≡ from) → round - from ≡ end - from
rounds_done from round end past within none = ⊎_elim (λ lt. let same = none lt in omega (arith, lt, same)) (λ le. let at = within le in omega (arith, past, at)) (cases_lt end from)

-- the rounds are those of the period
pub bill_whole : (plan : PlanView) (from until : ℕ) (x : Readings) (g i round rounds : ℕ) → from ≤ round → rounds ≡ plan.rounds → round - from ≡ min until rounds - from
    → bill_over (range_with_len from (round - from)) x g i ≡ bill plan from until x g i
bill_whole plan from until x g i round rounds le is end = ap (λ n. bill_over (range_with_len from n) x g i) (end ∙ ap (λ n. min until n - from) is)

-- ---- all bills

pub bills_more : (f : ℕ → Bill) (n : ℕ) (old now next : List Bill) (b : Bill) → now ≡ old ++ map f (range_with_len 0 n) → next ≡ now ++ b ∷ [] → b ≡ f n
    → next ≡ old ++ map f (range_with_len 0 (n + 1))
bills_more f n old now next b before pushed is =
    pushed ∙ ap (λ l. l ++ b ∷ []) before ∙ append_assoc old (map f (range_with_len 0 n)) (b ∷ [])
    ∙ ap (λ l. old ++ l) (ap (λ z. map f (range_with_len 0 n) ++ z ∷ []) is ∙ sym (map-range_with_len_more f 0 n n (zero-add n)))

pub groups_more : (f : ℕ → List Bill) (n : ℕ) (now next more : List Bill) → now ≡ flat_map f (range_with_len 0 n) → next ≡ now ++ more → more ≡ f n
    → next ≡ flat_map f (range_with_len 0 (n + 1))
groups_more f n now next more before added is =
    added ∙ ap (λ l. l ++ more) before ∙ ap (λ l. flat_map f (range_with_len 0 n) ++ l) (is ∙ sym (append-nil (f n)))
    ∙ sym (flat_map-append f (range_with_len 0 n) (n ∷ [])) ∙ ap (flat_map f) (sym (range-push n))

all_flat : {X : Type 0} (P : X → Type 0) (f : ℕ → List X) (a n : ℕ) → ((g : ℕ) → a ≤ g → g < a + n → All P (f g)) → All P (flat_map f (range_with_len a n))
all_flat P f a zero each = All-nil P
all_flat P f a (suc n) each =
    All-append P (f a) (flat_map f (range_with_len (a + 1) n)) (each a (omega arith) (omega arith)) (all_flat P f (a + 1) n (λ g from to. each g (omega arith) (omega arith)))

-- each bill is of a group of the plan
pub bills_within : (plan : PlanView) (from until : ℕ) (x : Readings) (n : ℕ) (list : List Bill) → n ≤ length plan.groups
    → list ≡ flat_map (λ g. map (bill plan from until x g) (range_with_len 0 (size plan.groups g))) (range_with_len 0 n) → All (λ (b : Bill). b.group < length plan.groups) list
bills_within plan from until x n list le is =
    subst (All (λ (b : Bill). b.group < length plan.groups)) (sym is)
    (all_flat (λ (b : Bill). b.group < length plan.groups) (λ g. map (bill plan from until x g) (range_with_len 0 (size plan.groups g))) 0 n
    (λ g above below. All-map (λ (b : Bill). b.group < length plan.groups) (bill plan from until x g) (range_with_len 0 (size plan.groups g)) (λ k d within. omega (arith, le, below))))
