-- The changed table agrees with the first, has its bills, and differs from it by 1.
use Rattle.std.proofs.Common.{◌≡◌, ℕ, ◌-◌, ◌<◌, ◌≤◌, Bool, true, false, cond, List, map, refl, sym, ap, ◌∙◌, subst, inl, inr, arith}
use Rattle.std.specs.Prelude.{◌==◌, Option, None, is_some, reverse, length, min}
use Rattle.std.specs.List.{flat_map, range_with_len, sum_by, count_by}
use mathlib.Core.Path.{fun_ext}
use Rattle.std.proofs.lemmas.Bool.{false≢true, eqb-true, eqb-false, and_parts, ltb-true}
use Rattle.missing_round.specs.Sets.{is_member}
use Rattle.group_plan.specs.Plans.{PlanView, size, is_place, members, is_member as is_of}
use Rattle.group_plan.specs.Tables.{Table, ReadingsView, reading, IsReadingTable}
use Rattle.group_plan.proofs.TableLemmas.{entry_outside}
use Rattle.event_schedule.specs.declared.Event.{Event}
use Rattle.event_schedule.specs.Tables.{Readings, reading_at, plain_sum}
use Rattle.event_schedule.specs.Schedule.{Shape, is_opened, survivors, is_reading_taken}
use Rattle.event_schedule.specs.Transcript.{shape_of_readings}
use Rattle.billing_read.specs.declared.bills.Bill.{Bill}
use Rattle.billing_read.specs.declared.partners.Partner.{Partner}
use Rattle.billing_read.specs.Bills.{rounds_in, bill, bills}
use Rattle.billing_read.specs.Partners.{CanMove, IsPartner, changed}
use Rattle.billing_read.specs.PartnerEnds.{DifferByOne, IsHiddenBy}
use Rattle.billing_read.proofs.CountLemmas.{count_of, AtMostOnce, Steps, sum_stays, count-range, once-range, once-filter}
use Rattle.billing_read.proofs.ChangeLemmas.{present-changed, are_moved, exchange-here, exchange-there, exchange-meter, exchange-partner, stays-group, stays-round, stays-meter}

-- ---- totals

survivors-once : (s : Shape) (g r : ℕ) (p : List Event) (k : ℕ) → AtMostOnce k (survivors s g r p)
survivors-once s g r p k =
    once-filter (λ i. is_reading_taken s g r i p) k (members s.groups g r) (once-filter (is_of s.groups g r) k (range_with_len 0 (size s.groups g)) (once-range k 0 (size s.groups g)))

-- two meters of which both are survivors, or neither is, stand among them as often
as_often : (s : Shape) (g r : ℕ) (p : List Event) (u d : ℕ) → is_member u (survivors s g r p) ≡ is_member d (survivors s g r p) → count_of u (survivors s g r p) ≡ count_of d (survivors s g r p)
as_often s g r p u d same = survivors-once s g r p u ∙ ap (λ c. cond c 1 0) same ∙ sym (survivors-once s g r p d)

-- each total of the group stays
group_totals : (s : Shape) (x : Readings) (whole : List Event) (from until g r i : ℕ) (p : Partner) → IsPartner s x whole from until g r i p → (b : ℕ) → is_opened s g b whole ≡ true
    → plain_sum x g b (survivors s g b whole) ≡ plain_sum (changed x g r i p) g b (survivors s g b whole)
group_totals s x whole from until g r i p is b opened = step (b == r) (b == p.round) refl refl
  where
    here : is_opened s g r whole ≡ true → plain_sum x g r (survivors s g r whole) ≡ plain_sum (changed x g r i p) g r (survivors s g r whole)
    here o = sym (sum_stays p.plus (reading_at x g r) (reading_at (changed x g r i p) g r) i p.meter (exchange-here x g r i p is.exchange) (survivors s g r whole) (as_often s g r whole i p.meter (is.total_here o)))

    there : is_opened s g p.round whole ≡ true → plain_sum x g p.round (survivors s g p.round whole) ≡ plain_sum (changed x g r i p) g p.round (survivors s g p.round whole)
    there o =
        sym (sum_stays p.plus (reading_at x g p.round) (reading_at (changed x g r i p) g p.round) p.meter i (exchange-there x g r i p is.exchange) (survivors s g p.round whole)
        (as_often s g p.round whole p.meter i (sym (is.total_there o))))

    step : (c d : Bool) → (b == r) ≡ c → (b == p.round) ≡ d → plain_sum x g b (survivors s g b whole) ≡ plain_sum (changed x g r i p) g b (survivors s g b whole)
    step true d at _ = let same : b ≡ r = eqb-true b r at in rw same (here (rw same at opened))
    step false true _ at = let same : b ≡ p.round = eqb-true b p.round at in rw same (there (rw same at opened))
    step false false off on = ap (λ f. sum_by f (survivors s g b whole)) (fun_ext (λ c. sym (stays-round x g r i p g b c (eqb-false b r off) (eqb-false b p.round on))))

totals : (s : Shape) (x : Readings) (whole : List Event) (from until g r i : ℕ) (p : Partner) → IsPartner s x whole from until g r i p → (a b : ℕ) → is_opened s a b whole ≡ true
    → plain_sum x a b (survivors s a b whole) ≡ plain_sum (changed x g r i p) a b (survivors s a b whole)
totals s x whole from until g r i p is a b opened = step (a == g) refl
  where
    step : (c : Bool) → (a == g) ≡ c → plain_sum x a b (survivors s a b whole) ≡ plain_sum (changed x g r i p) a b (survivors s a b whole)
    step true at = let same : a ≡ g = eqb-true a g at in rw same (group_totals s x whole from until g r i p is b (rw same at opened))
    step false off = ap (λ f. sum_by f (survivors s a b whole)) (fun_ext (λ c. sym (stays-group x g r i p a b c (eqb-false a g off))))

-- ---- bills

-- a reading that can move is of a round of the plan
pub round-within : (plan : PlanView) (t : Table (Option ℕ)) → IsReadingTable plan t → (g r i : ℕ) (plus : Bool) → CanMove plus (reading t g r i) → is_place plan g r i ≡ true
round-within plan t fits g r i plus can = step (is_place plan g r i) refl
  where
    step : (c : Bool) → is_place plan g r i ≡ c → is_place plan g r i ≡ true
    step true at = at
    step false off = absurd (subst (CanMove plus) (entry_outside plan t fits.shape None g r i off) can)

in_period : (plan : PlanView) (from until g r i : ℕ) → is_place plan g r i ≡ true → from ≤ r → r < until → count_of r (rounds_in plan from until) ≡ 1
in_period plan from until g r i place above below =
    let lt : r < plan.rounds = ltb-true r plan.rounds (and_parts _ _ place).0 in
    count-range r from (min until plan.rounds - from) above (omega arith)

-- the sum of each meter stays
meter_sum : (plan : PlanView) (x : Table (Option ℕ)) (s : Shape) (whole : List Event) (from until g r i : ℕ) (p : Partner) → IsReadingTable plan x → IsPartner s (reading x) whole from until g r i p
    → (a c : ℕ) → sum_by (λ b. reading_at (changed (reading x) g r i p) a b c) (rounds_in plan from until) ≡ sum_by (λ b. reading_at (reading x) a b c) (rounds_in plan from until)
meter_sum plan x s whole from until g r i p fits is a c = step (a == g) (c == i) (c == p.meter) refl refl refl
  where
    rounds : List ℕ
    rounds = rounds_in plan from until

    once_here : count_of r (rounds_in plan from until) ≡ 1
    once_here = in_period plan from until g r i (round-within plan x fits g r i p.plus is.exchange.here) is.period.0 is.period.1

    once_there : count_of p.round (rounds_in plan from until) ≡ 1
    once_there = in_period plan from until g p.round p.meter (round-within plan x fits g p.round p.meter p.plus is.exchange.there) is.partner_period.0 is.partner_period.1

    step : (d e f : Bool) → (a == g) ≡ d → (c == i) ≡ e → (c == p.meter) ≡ f
        → sum_by (λ b. reading_at (changed (reading x) g r i p) a b c) (rounds_in plan from until) ≡ sum_by (λ b. reading_at (reading x) a b c) (rounds_in plan from until)
    step false e f off _ _ = ap (λ h. sum_by h (rounds_in plan from until)) (fun_ext (λ b. stays-group (reading x) g r i p a b c (eqb-false a g off)))
    step true true f at here _ =
        let group : a ≡ g = eqb-true a g at in
        let meter : c ≡ i = eqb-true c i here in
        rw (group, meter) (sum_stays p.plus (λ b. reading_at (reading x) g b i) (λ b. reading_at (changed (reading x) g r i p) g b i) r p.round (exchange-meter (reading x) g r i p is.exchange)
        (rounds_in plan from until) (once_here ∙ sym once_there))
    step true false true at _ there =
        let group : a ≡ g = eqb-true a g at in
        let meter : c ≡ p.meter = eqb-true c p.meter there in
        rw (group, meter) (sum_stays p.plus (λ b. reading_at (reading x) g b p.meter) (λ b. reading_at (changed (reading x) g r i p) g b p.meter) p.round r (exchange-partner (reading x) g r i p is.exchange)
        (rounds_in plan from until) (once_there ∙ sym once_here))
    step true false false _ off on = ap (λ h. sum_by h (rounds_in plan from until)) (fun_ext (λ b. stays-meter (reading x) g r i p a b c (eqb-false c i off) (eqb-false c p.meter on)))

bill_of : (g i readings sum : ℕ) → Bill
bill_of g i readings sum = record { group = g; meter = i; readings = readings; sum = sum }

same_bill : (plan : PlanView) (from until : ℕ) (x y : Readings) → ((a b c : ℕ) → is_some (y a b c) ≡ is_some (x a b c))
    → ((a c : ℕ) → sum_by (λ b. reading_at y a b c) (rounds_in plan from until) ≡ sum_by (λ b. reading_at x a b c) (rounds_in plan from until))
    → (a c : ℕ) → bill plan from until y a c ≡ bill plan from until x a c
unfolding bill_of
same_bill plan from until x y present sums a c =
    ap (λ f. bill_of a c (count_by f (rounds_in plan from until)) (sum_by (λ b. reading_at y a b c) (rounds_in plan from until))) (fun_ext (λ b. present a b c))
    ∙ ap (bill_of a c (count_by (λ b. is_some (x a b c)) (rounds_in plan from until))) (sums a c)

same_bills : (plan : PlanView) (from until : ℕ) (x y : Readings) → ((a c : ℕ) → bill plan from until y a c ≡ bill plan from until x a c) → bills plan from until y ≡ bills plan from until x
same_bills plan from until x y same =
    ap (λ (f : ℕ → ℕ → Bill). flat_map (λ g. map (f g) (range_with_len 0 (size plan.groups g))) (range_with_len 0 (length plan.groups))) (fun_ext (λ a. fun_ext (λ c. same a c)))

-- ---- the other world

differs : (plus : Bool) (v w : ℕ) → Steps plus v w → DifferByOne v w
differs true v w up = inr up
differs false v w down = inl down

-- a partner hides the reading
pub hidden : (x : ReadingsView) (events : List Event) (from until g r i : ℕ) (p : Partner) → IsReadingTable x.plan x.table
    → IsPartner (shape_of_readings x.plan.groups (reading x.table)) (reading x.table) (reverse events) from until g r i p → IsHiddenBy x events from until g r i p
hidden x events from until g r i p fits is = record {
  agrees = record {
    presence = λ a b c. sym (present-changed (reading x.table) g r i p a b c);
    readings = λ a b c inside. absurd (false≢true inside);
    totals = totals (shape_of_readings x.plan.groups (reading x.table)) (reading x.table) (reverse events) from until g r i p is;
  };
  bills = same_bills x.plan from until (reading x.table) (changed (reading x.table) g r i p)
      (same_bill x.plan from until (reading x.table) (changed (reading x.table) g r i p) (present-changed (reading x.table) g r i p)
      (meter_sum x.plan x.table (shape_of_readings x.plan.groups (reading x.table)) (reverse events) from until g r i p fits is));
  differs = differs p.plus (reading_at (reading x.table) g r i) (reading_at (changed (reading x.table) g r i p) g r i) (are_moved (reading x.table) g r i p is.exchange).here;
}
